use Prim.Native.Nat.{ℕ}
use mathlib.Core.Path.{sym, ◌∙◌}
use lib.ListN.{length-replicate}
use Rattle.call_text.specs.Rooms.{long-numbers}
use Rattle.call_fault.proofs.of_listed.Goals as goal

pub slice_bounds-read_long-end : goal.slice_bounds-read_long-end
slice_bounds-read_long-end c = sym (length-replicate {A = ℕ} 524290 0)

pub read_long-read-requires : goal.read_long-read-requires
read_long-read-requires c = long-numbers _ c.requires

pub slice_bounds-after_reading-end : goal.slice_bounds-after_reading-end
slice_bounds-after_reading-end c = sym (c.read_long-read.auto.numbers ∙ length-replicate {A = ℕ} 524290 0)
