-- The file of the written counter module by module, and module 32 as its head and its parts, where the shape of module 32 is known.
use Prim.Native.Nat.{ℕ, suc, ◌-◌, ◌≤◌}
use native.Mathlib.Omega.{arith}
use mathlib.Core.Path.{◌≡◌}
use mathlib.Core.List.{◌∷◌, ◌++◌}
use lib.ListN.{length}
use Rattle.meaning.specs.Layout.{each, occurrence_numbers, module_numbers, file_numbers}
use Rattle.meaning.specs.Adder.{up_from}
use Rattle.meaning.specs.Counter.{digits, blocks, counter_module, counter}
use Rattle.write_counter.specs.declared.Shape.{Shape}
use Rattle.write_pieces.specs.Heads.{head_numbers}
use Rattle.write_counter.specs.Shapes.{Shaped}
use Rattle.write_counter.proofs.Digits.{some-digit}
use Rattle.write_pieces.specs.HeadNumbers.{numbers-of_module}
use Rattle.write_blocks.specs.BlockNumbers.{length-of-blocks}

module _ (n : ℕ) (shape : Shape) (shaped : Shaped n shape) where
  pub module_of-parts : module_numbers (counter_module n)
      ≡ head_numbers 32 (up_from 0 n) (up_from shape.last shape.digits) shape.occurrences
      ++ each occurrence_numbers (counter_module n).occurrences
  unfolding counter_module
  module_of-parts = rw (shaped.last, shaped.digits, shaped.occurrences) (numbers-of_module (counter_module n))

  pub file-of-counter : 1 ≤ n → file_numbers (counter n)
      ≡ shape.digits ∷ (module_numbers (counter_module n) ++ each module_numbers (blocks (shape.digits - 1)))
  unfolding file_numbers counter each
  file-of-counter some =
      let modules : suc (length (blocks (length (digits n) - 1))) ≡ length (digits n) =
      omega (arith, length-of-blocks (length (digits n) - 1), some-digit n some) in
      rw (shaped.digits, modules)
