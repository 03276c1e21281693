-- How many numbers the file of the propagate-generate adder has, and at most how many bytes.
use Rattle.std.specs.Prelude.{ℕ, ◌+◌, ◌*◌, ◌≤◌, ◌≡◌, refl, List, [], ◌∷◌}
use native.Mathlib.Omega.{arith}
use Rattle.std.proofs.Math.ListN.{length, length-append}
use Rattle.meaning.specs.Syntax.{Module}
use Rattle.meaning.specs.Layout.{each, number_bytes, occurrence_numbers, module_numbers, file_numbers, encode}
use Rattle.meaning.specs.Adder.{up_from}
use Rattle.meaning.specs.FastAdder.{Step, chain, lookahead, carries_ahead, fast_module, fast_adder_over, steps, fast_adder}
use Rattle.laws.specs.Adder.Nets.{length-up_from}
use Rattle.laws.specs.Adder.Bytes.{most-count}
use Rattle.laws.specs.FastAdder.Signals.{width}
use Rattle.laws.specs.FastAdder.Passing.{carriers}
use Rattle.laws.specs.FastAdder.Shape.{steps-width}
use Rattle.laws.specs.FastAdder.Counting.{numbers-total, ones, twos, width-counted, total-chain}
use Rattle.laws.specs.FastAdder.Figures.{rows-total}

-- A number has at most two bytes.
pub bytes_most : (xs : List ℕ) → length (each number_bytes xs) ≤ 2 * length xs
unfolding each
bytes_most [] = omega arith
bytes_most (x ∷ xs) = omega (arith, length-append (number_bytes x) (each number_bytes xs), most-count x, bytes_most xs)

pub module-numbers :
    (m : Module)
    → length (module_numbers m) ≡ 4 + length m.inputs + length m.outputs + length (each occurrence_numbers m.occurrences)
unfolding module_numbers
module-numbers m = simp length-append (omega arith)

pub carriers-numbers : length (each module_numbers carriers) ≡ 50
unfolding each module_numbers occurrence_numbers
carriers-numbers = refl

module _ (n : ℕ) (steps : List Step) (whole : width steps ≡ n) where
  pub lookahead-numbers : length (module_numbers (lookahead n steps)) + 9 * ones steps + 16 * twos steps ≡ 19 * n + 5
  unfolding lookahead occurrence_numbers
  lookahead-numbers =
      omega (
        arith,
        module-numbers (lookahead n steps),
        length-up_from (n + 1) (2 * n),
        length-up_from 1 n,
        numbers-total (chain n steps 0),
        total-chain n (λ o. length (occurrence_numbers o)) 7 9 7 (λ x s. refl) (λ x y s. refl) (λ x y z s. refl) (λ x y z s. refl) steps 0,
        width-counted steps,
      )

  refer_numbers :
      length (occurrence_numbers (carries_ahead n)) ≡ 3 * n + 4
  unfolding occurrence_numbers
  refer_numbers =
      let row = up_from (3 * n + 1) (2 * n) in
      omega (
        arith,
        length-append (up_from 1 n) (41 ∷ length (0 ∷ row) ∷ 0 ∷ row),
        length-up_from 1 n,
        length-up_from (3 * n + 1) (2 * n),
      )

  fast_numbers : length (module_numbers (fast_module n)) ≡ 24 * n + 10
  unfolding fast_module occurrence_numbers
  fast_numbers =
      omega (
        arith,
        module-numbers (fast_module n),
        length-up_from (n + 1) (2 * n),
        length-append (up_from (5 * n + 1) n) (n ∷ []),
        length-up_from (5 * n + 1) n,
        numbers-total (fast_module n).occurrences,
        rows-total n steps whole (λ o. length (occurrence_numbers o)) 6 (3 * n + 4) (λ kind net a b is. refl) refer_numbers,
      )

  numbers-over : length (file_numbers (fast_adder_over n steps)) + 9 * ones steps + 16 * twos steps ≡ 43 * n + 66
  unfolding file_numbers fast_adder_over each
  numbers-over =
      omega (
        arith,
        length-append (module_numbers (fast_module n)) (each module_numbers (lookahead n steps ∷ carriers)),
        length-append (module_numbers (lookahead n steps)) (each module_numbers carriers),
        fast_numbers,
        lookahead-numbers,
        carriers-numbers,
      )

pub fast_adder-numbers : (n : ℕ) → length (file_numbers (fast_adder n)) + 9 * ones (steps n) + 16 * twos (steps n) ≡ 43 * n + 66
unfolding fast_adder
fast_adder-numbers n = numbers-over n (steps n) (steps-width n)

pub fast_adder-bytes : (n : ℕ) → length (encode (fast_adder n)) ≤ 86 * n + 132
unfolding encode
fast_adder-bytes n = omega (arith, bytes_most (file_numbers (fast_adder n)), fast_adder-numbers n)
