-- `counting::counter_module` meets its contract: the head and the parts behind it are the module's numbers. Assumes nothing.
use native.Mathlib.Omega.{arith}
use Prim.Native.Nat.{ℕ}
use mathlib.Core.List.{List, ◌++◌}
use Rattle.meaning.specs.Layout.{each, occurrence_numbers, module_numbers}
use Rattle.meaning.specs.Adder.{up_from}
use Rattle.meaning.specs.Counter.{counter_module}
use Rattle.write_pieces.specs.Heads.{head_numbers}
use Rattle.write_pieces.specs.Rooms.{Room}
use Rattle.write_counter.proofs.Digits.{few-digits}
use Rattle.write_pieces.specs.Laying.{laying-start, laying-left, laying-put, laying-last, room-first}
use Rattle.write_counter.proofs.CounterFile.{module_of-parts}
use Rattle.write_counter.specs.declared.Shape.{Shape}
use Rattle.write_counter.specs.Shapes.{Shaped}
use Rattle.write_counter.proofs.counter_module.Goals as goal

room : (n : ℕ) (shape : Shape) (bytes : List ℕ) (at : ℕ)
    → Shaped n shape
    → Room (module_numbers (counter_module n)) bytes at
    → Room
    (head_numbers 32 (up_from 0 n) (up_from shape.last shape.digits) shape.occurrences
    ++ each occurrence_numbers (counter_module n).occurrences)
    bytes
    at
room n shape bytes at shaped asked = rw (module_of-parts n shape shaped) at asked

pub head-first_part-requires : goal.head-first_part-requires
head-first_part-requires c =
    (omega (arith, few-digits c.args.width c.requires.0), room-first _ (room _ _ _ _ c.requires.1 c.requires.2))

pub parts-requires : goal.parts-requires
parts-requires c =
    (c.requires.0, c.requires.1.digits, laying-left (laying-put c.head-first_part.ensures (laying-start (room _ _ _ _ c.requires.1 c.requires.2))))

pub returns : goal.returns
returns c =
    rw (module_of-parts c.args.width c.args.shape c.requires.1)
    (laying-last c.parts.ensures (laying-put c.head-first_part.ensures (laying-start (room _ _ _ _ c.requires.1 c.requires.2))))
