-- Read this.
-- What two inputs with one text share.
-- Renders document 02, W-211: grids of one recipe that differ in a cell of the shape, in a corner or in the cell size never share a text.
use Rattle.std.specs.Prelude.{ℕ, ◌*◌, ◌<◌, ◌≡◌, Bool, true, List, get_or, take, ℤ}
use Rattle.nest.specs.Nest.{cells}
use Rattle.nest.specs.Reader.{nest_of}
use Rattle.nest.specs.Shape.{in_shape}
use Rattle.text.specs.Grid.{Frame}
use Rattle.chart.specs.Call.{Written, write_call}

-- of two frames f and g, the grids a and b, the shapes o and p, whatever the recipes
pub record Same (f g : Frame) (a b : List ℕ) (o p : ℕ → Bool) : Type 0 where
  pub rows : f.rows ≡ g.rows
  pub columns : f.columns ≡ g.columns
  pub x : f.x ≡ g.x
  pub y : f.y ≡ g.y
  pub size : f.size ≡ g.size
  pub shape : (c : ℕ) → c < f.rows * f.columns → o c ≡ p c
  pub values : (c : ℕ) → c < f.rows * f.columns → o c ≡ true → get_or a c 0 ≡ get_or b c 0

-- the bytes that a call tells of
abbrev pub text_of : Written → List ℕ
text_of w = take w.told.length w.space

-- of two calls with one recipe that both gave 0 and wrote the same text
pub record SameInputs (bytes a b : List ℕ) (x y u v : ℤ) (size other : ℕ) : Type 0 where
  pub corner_x : x ≡ u
  pub corner_y : y ≡ v
  pub sizes : size ≡ other
  pub values : (c : ℕ) → c < cells (nest_of bytes) → in_shape (nest_of bytes) c ≡ true → get_or a c 0 ≡ get_or b c 0

-- no two inputs share a text
pub record TextsApart : Type 0 where
  pub apart : (bytes a b : List ℕ) (x y u v : ℤ) (size other : ℕ) (s t : List ℕ)
      → (write_call bytes a x y size s).told.number ≡ 0
      → (write_call bytes b u v other t).told.number ≡ 0
      → text_of (write_call bytes a x y size s) ≡ text_of (write_call bytes b u v other t)
      → SameInputs bytes a b x y u v size other
