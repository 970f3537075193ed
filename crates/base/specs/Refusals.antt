-- Read this.
-- The number of each refusal, and of a call's answer: 0 where the call is done.
-- Renders document 01, "Numbers a call gives", and the numbers that document 02 adds.
use Rattle.std.specs.Prelude.{ℕ, Result, Ok, Err}
use Rattle.base.specs.declared.refusal.Refusal.{Refusal}
use Rattle.base.specs.declared.refusal.Refusal.TheVariants as refusal

abbrev pub code : Refusal → ℕ
code refusal.Ragged = 1
code refusal.StrayRecord = 2
code refusal.Length = 3
code refusal.TooLarge = 4
code refusal.Distance = 5
code refusal.Tile = 6
code refusal.Boards = 7
code refusal.Tiles = 8
code refusal.Area = 9
code refusal.Unfit = 10
code refusal.NoSuch = 11
code refusal.Waiting = 12
code refusal.Finished = 13
code refusal.NoMail = 14
code refusal.Early = 15
code refusal.SpreadOrder = 16
code refusal.LastSpread = 17
code refusal.TooWide = 18
code refusal.Engaged = 19
code refusal.Empty = 20
code refusal.DirectOnly = 21
code refusal.OffTheBox = 22
code refusal.NoChart = 23
code refusal.Closed = 24
code refusal.Hours = 25
code refusal.Damaged = 26
code refusal.Stale = 27

abbrev pub number_of : {A : Type 0} → Result A Refusal → ℕ
number_of (Ok _) = 0
number_of (Err r) = code r
