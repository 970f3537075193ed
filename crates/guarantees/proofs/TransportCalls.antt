-- Each call for a transport gives its first true line; a message's row is its line and its place.
use Prim.Native.Nat.{ℕ}
use mathlib.Core.Path.{refl}
use mathlib.Core.List.{List}
use Rattle.engine.specs.Calls.{recipe}
use Rattle.engine.proofs.Demands as engine
use Rattle.network.specs.Apart.{received}
use Rattle.transport.specs.Calls.{row_of, messages_call, owners_call, waits_of, awaited_call, take_in_lines, take_in_call}
use Rattle.calls.specs.Gave.{in_words}
use Rattle.guarantees.specs.TransportCalls.{FixedTransport, RowsAreLines}
use Rattle.guarantees.proofs.OverRecords.{fixed_as, as_before, areas_fixed}

pub fixed_transport : (bytes : List ℕ) (route : ℕ) (source : List ℕ) → FixedTransport bytes route source
unfolding messages_call owners_call awaited_call take_in_call
fixed_transport bytes route source =
    record {
      messages = λ old out n e. fixed_as e (engine.fixed _ _ old);
      owners = λ old out n e. fixed_as e (engine.fixed _ _ old);
      awaited = λ records status p old marks w e. fixed_as e (engine.fixed _ _ (waits_of old 0));
      take_in = λ a b p m words n e.
          let f = engine.fixed (take_in_lines bytes route source (in_words a) p m words) (received (recipe bytes route) (in_words a) m words) (in_words a) in
          record { fixed = fixed_as e f; as_before = as_before in_words areas_fixed a b n e f };
    }

pub rows_are_lines : RowsAreLines
unfolding row_of
rows_are_lines p m = refl
