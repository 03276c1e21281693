-- Bytes stored one after the other from a place on.
use Prim.Native.Nat.{ℕ, ◌+◌, ◌≤◌}
use mathlib.Core.Path.{refl, ◌∙◌}
use mathlib.Core.List.{List, append_assoc}
use lib.ListN.{length, take, drop}
use lib.Seq.{sets, sets-eq}
use Rattle.bytes_out.specs.Filled.{Put}

pub put_stores : (bytes before : List ℕ) (at : ℕ) → at + length bytes ≤ length before
    → Put bytes before at (sets before at bytes) (at + length bytes)
put_stores bytes before at room =
    record {
      place = refl;
      holds = sets-eq bytes before at room ∙ append_assoc (take at before) bytes (drop (at + length bytes) before);
    }
