-- How many numbers the file of the ALU has, and at most how many bytes.
use Rattle.std.specs.Prelude.{ℕ, suc, ◌+◌, ◌*◌, ◌≤◌, ◌≡◌, refl, List, ◌∷◌}
use native.Mathlib.Omega.{arith}
use Rattle.std.proofs.Math.ListN.{length, length-append}
use Rattle.meaning.specs.Layout.{each, occurrence_numbers, module_numbers, file_numbers, encode}
use Rattle.meaning.specs.Adder.{up_from}
use Rattle.meaning.specs.FastAdder.{Step, lookahead, steps}
use Rattle.meaning.specs.Alu.{b_net, carry_net, p_net, out_net, control, cell, carries_ahead, copy_count, alu_module, alu_over, alu}
use Rattle.laws.specs.Adder.Nets.{length-up_from}
use Rattle.laws.specs.FastAdder.Signals.{width}
use Rattle.laws.specs.FastAdder.Passing.{carriers}
use Rattle.laws.specs.FastAdder.Shape.{steps-width}
use Rattle.laws.specs.FastAdder.Counting.{numbers-total, ones, twos}
use Rattle.laws.specs.FastAdder.Numbers.{bytes_most, module-numbers, carriers-numbers, lookahead-numbers}
use Rattle.laws.specs.Alu.Figures.{alu-total, copies-most}

control-numbers : length (module_numbers control) ≡ 165
unfolding each module_numbers occurrence_numbers
control-numbers = refl

cell-numbers : length (module_numbers cell) ≡ 67
unfolding each module_numbers occurrence_numbers
cell-numbers = refl

module _ (n copied : ℕ) (steps : List Step) (whole : width steps ≡ n) where
  ahead-numbers : length (occurrence_numbers (carries_ahead n)) ≡ 3 * n + 4
  unfolding occurrence_numbers
  ahead-numbers =
      let row = up_from (p_net n) (2 * n) in
      omega (
        arith,
        length-append (up_from (suc (carry_net n)) n) (41 ∷ length (carry_net n ∷ row) ∷ carry_net n ∷ row),
        length-up_from (suc (carry_net n)) n,
        length-up_from (p_net n) (2 * n),
      )

  first-numbers : length (module_numbers (alu_module n copied)) ≡ 27 * n + 46 + 30 * copied
  unfolding alu_module occurrence_numbers up_from
  first-numbers =
      omega (
        arith,
        module-numbers (alu_module n copied),
        length-append (up_from 0 (n + 1)) (up_from (b_net n) (n + 4)),
        length-up_from 0 (n + 1),
        length-up_from (b_net n) (n + 4),
        length-up_from (out_net n) (n + 2),
        numbers-total (alu_module n copied).occurrences,
        alu-total (λ o. length (occurrence_numbers o)) n copied 5 6 15 (λ net a. refl) (λ net a b. refl) (λ i. refl),
        ahead-numbers,
      )

  numbers-over :
      length (file_numbers (alu_over n copied steps)) + 9 * ones steps + 16 * twos steps ≡ 46 * n + 334 + 30 * copied
  unfolding file_numbers alu_over each
  numbers-over =
      omega (
        arith,
        length-append (module_numbers (alu_module n copied)) (each module_numbers (control ∷ cell ∷ lookahead n steps ∷ carriers)),
        length-append (module_numbers control) (each module_numbers (cell ∷ lookahead n steps ∷ carriers)),
        length-append (module_numbers cell) (each module_numbers (lookahead n steps ∷ carriers)),
        length-append (module_numbers (lookahead n steps)) (each module_numbers carriers),
        first-numbers,
        control-numbers,
        cell-numbers,
        lookahead-numbers n steps whole,
        carriers-numbers,
      )

pub alu-numbers :
    (n : ℕ) → length (file_numbers (alu n)) + 9 * ones (steps n) + 16 * twos (steps n) ≡ 46 * n + 334 + 30 * copy_count n
unfolding alu
alu-numbers n = numbers-over n (copy_count n) (steps n) (steps-width n)

pub alu-bytes : (n : ℕ) → length (encode (alu n)) ≤ 100 * n + 720
unfolding encode
alu-bytes n = omega (arith, bytes_most (file_numbers (alu n)), alu-numbers n, copies-most n)
