-- `counting::file` meets its contract: the count of modules and the modules, put one behind the other, are the file's numbers, which
-- are its bytes. Assumes nothing.
use Prim.Native.Nat.{ℕ, ◌-◌, ◌≤◌}
use native.Mathlib.Omega.{arith}
use mathlib.Core.List.{List, ◌∷◌, ◌++◌}
use lib.ListN.{length}
use Rattle.meaning.specs.Layout.{each, module_numbers}
use Rattle.meaning.specs.Counter.{blocks, counter_module}
use Rattle.laws.specs.Counter.File.{counter-numbers-few, bytes-of-counter}
use Rattle.write_pieces.specs.Rooms.{Room}
use Rattle.bytes_out.specs.Puts.{put_front}
use Rattle.write_counter.proofs.Digits.{some-digit, few-digits}
use Rattle.write_pieces.specs.Laying.{laying-start, laying-left, laying-put, laying-last, room-first}
use Rattle.write_counter.proofs.CounterFile.{file-of-counter}
use Rattle.write_counter.specs.declared.Shape.{Shape}
use Rattle.write_counter.specs.Shapes.{Shaped}
use Rattle.write_counter.proofs.file.Goals as goal

room : (n : ℕ) (shape : Shape) (bytes : List ℕ)
    → (1 ≤ n) × (n ≤ 64) × (773 ≤ length bytes)
    → Shaped n shape
    → Room (shape.digits ∷ (module_numbers (counter_module n) ++ each module_numbers (blocks (shape.digits - 1)))) bytes 0
room n shape bytes asked shaped =
    rw (← file-of-counter n shape shaped asked.0) (omega (arith, counter-numbers-few n asked.0 asked.1))

pub counter_module-second-requires : goal.counter_module-second-requires
counter_module-second-requires c =
    let one = laying-put c.copy-first.ensures (laying-start (room _ _ _ c.requires c.shape_of-shape.ensures)) in
    (c.requires.1, c.shape_of-shape.ensures, room-first _ (laying-left one))

pub overflow_sub-shape : goal.overflow_sub-shape
overflow_sub-shape c =
    omega (arith, some-digit c.args.width c.requires.0, c.shape_of-shape.ensures)

pub blocks-requires : goal.blocks-requires
blocks-requires c =
    let one = laying-put c.copy-first.ensures (laying-start (room _ _ _ c.requires c.shape_of-shape.ensures)) in (
      omega (arith, few-digits c.args.width c.requires.1, c.shape_of-shape.ensures),
      laying-left (laying-put c.counter_module-second.ensures one),
    )

pub returns : goal.returns
returns c =
    let one = laying-put c.copy-first.ensures (laying-start (room _ _ _ c.requires c.shape_of-shape.ensures)) in
    let n = c.args.width in
    rw (
      bytes-of-counter n c.requires.0 c.requires.1,
      file-of-counter n c.shape_of-shape.result c.shape_of-shape.ensures c.requires.0,
    )
    (put_front (laying-last c.blocks-2.ensures (laying-put c.counter_module-second.ensures one)))
