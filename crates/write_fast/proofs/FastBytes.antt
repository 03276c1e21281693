-- The bytes of the fast adder in the order in which they are written: its file module by module, and module 40 piece by piece.
use Prim.Native.Nat.{ℕ, ◌+◌, ◌*◌}
use native.Mathlib.Omega.{arith}
use mathlib.Core.Path.{◌≡◌, refl}
use mathlib.Core.List.{List, [], ◌∷◌, ◌++◌, append_assoc, append-nil}
use lib.ListN.{length, length-append}
use Rattle.meaning.specs.Layout.{each, list_numbers, occurrence_numbers, module_numbers, file_numbers, number_bytes, encode}
use Rattle.meaning.specs.Adder.{up_from}
use Rattle.meaning.specs.Counter.{XOR, AND}
use Rattle.meaning.specs.FastAdder.{gate_row, carry_one, carry_two, carries_ahead, fast_module, lookahead, fast_adder_over, steps, fast_adder}
use Rattle.laws.specs.Lists.{each_append}
use Rattle.laws.specs.Adder.Nets.{length-up_from}
use Rattle.laws.specs.FastAdder.Shape.{steps-width}
use Rattle.laws.specs.FastAdder.Figures.{fast_length}
use Rattle.write_pieces.specs.Heads.{head_numbers}
use Rattle.write_pieces.specs.HeadNumbers.{numbers-of_module}
use Rattle.write_fast.specs.Heads.{head_bytes}

-- The head of module 40.
abbrev pub head_pieces : ℕ → List ℕ
head_pieces n =
    each number_bytes (40 ∷ list_numbers (0 ∷ up_from (n + 1) (2 * n)))
    ++ (each number_bytes ((n + 1) ∷ [])
    ++ (each number_bytes (up_from (5 * n + 1) n) ++ each number_bytes (n ∷ (3 * n + 1) ∷ [])))

bytes-of-pieces : (count last occurrences : ℕ) (ins outs : List ℕ)
    → each number_bytes (40 ∷ (ins ++ (count ∷ ((outs ++ (last ∷ [])) ++ (occurrences ∷ [])))))
    ≡ each number_bytes (40 ∷ ins)
    ++ (each number_bytes (count ∷ []) ++ (each number_bytes outs ++ each number_bytes (last ∷ occurrences ∷ [])))
unfolding each
bytes-of-pieces count last occurrences ins outs = simp (each_append, append_assoc, append-nil)

pub bytes-of-head : (n : ℕ) → head_bytes n ≡ head_pieces n
unfolding head_numbers
bytes-of-head n =
    let outs : length (up_from (5 * n + 1) n ++ (n ∷ [])) ≡ n + 1 =
    omega (arith, length-append (up_from (5 * n + 1) n) (n ∷ []), length-up_from (5 * n + 1) n) in
    rw (outs, ← bytes-of-pieces (n + 1) n (3 * n + 1) (list_numbers (0 ∷ up_from (n + 1) (2 * n))) (up_from (5 * n + 1) n))

-- Module 40: its head, p and g, the carries, and the sums.
abbrev pub row_bytes : (kind net a b count : ℕ) → List ℕ
row_bytes kind net a b count = each number_bytes (each occurrence_numbers (gate_row kind net a b count))

abbrev pub fast_bytes : ℕ → List ℕ
fast_bytes n =
    head_bytes n
    ++ (row_bytes XOR (3 * n + 1) (n + 1) (2 * n + 1) n
    ++ (row_bytes AND (4 * n + 1) (n + 1) (2 * n + 1) n
    ++ (each number_bytes (occurrence_numbers (carries_ahead n)) ++ row_bytes XOR (5 * n + 1) (3 * n + 1) 0 n)))

pub bytes-of_fast : (n : ℕ) → each number_bytes (module_numbers (fast_module n)) ≡ fast_bytes n
unfolding fast_module each
bytes-of_fast n =
    rw (numbers-of_module (fast_module n), fast_length n (steps n) (steps-width n))
    (simp each_append)

-- No number of modules 43 and 42 passes 127: their numbers are their bytes.
bytes-of-two : each number_bytes (module_numbers carry_two) ≡ module_numbers carry_two
unfolding each module_numbers occurrence_numbers number_bytes
bytes-of-two = refl

bytes-of-one : each number_bytes (module_numbers carry_one) ≡ module_numbers carry_one
unfolding each module_numbers occurrence_numbers number_bytes
bytes-of-one = refl

bytes-of-modules : (xs ys zs us : List ℕ)
    → each number_bytes (4 ∷ (xs ++ (ys ++ (zs ++ (us ++ [])))))
    ≡ 4 ∷ (each number_bytes xs ++ (each number_bytes ys ++ (each number_bytes zs ++ each number_bytes us)))
unfolding each number_bytes
bytes-of-modules xs ys zs us = simp (each_append, append-nil)

abbrev pub file_pieces : ℕ → List ℕ
file_pieces n =
    4
    ∷ (each number_bytes (module_numbers (fast_module n))
    ++ (each number_bytes (module_numbers (lookahead n (steps n))) ++ (module_numbers carry_two ++ module_numbers carry_one)))

pub bytes-of-file : (n : ℕ) → encode (fast_adder n) ≡ file_pieces n
unfolding encode file_numbers fast_adder fast_adder_over each
bytes-of-file n =
    rw (
      bytes-of-modules (module_numbers (fast_module n)) (module_numbers (lookahead n (steps n))) (module_numbers carry_two) (module_numbers carry_one),
      bytes-of-two,
      bytes-of-one,
    )
