-- The numbers of the control, and of carry and overflow, in the pieces in which they are put.
use Prim.Native.Nat.{ℕ, ◌+◌, ◌*◌, ◌-◌}
use native.Mathlib.Numerals.{add-one}
use native.Mathlib.Omega.{arith}
use mathlib.Core.Path.{◌≡◌}
use mathlib.Core.List.{List, [], ◌∷◌, ◌++◌, append_assoc, append-nil}
use Rattle.meaning.specs.Layout.{each, occurrence_numbers, number_bytes}
use Rattle.meaning.specs.Adder.{up_from}
use Rattle.meaning.specs.Alu.{carry_net, shifted_in, flip_net, op_net, out_net, lines_net, controlled, carry_out, overflows}
use Rattle.laws.specs.Lists.{each_append}

-- The control.
abbrev pub control_pieces : (n : ℕ) → List ℕ
control_pieces n =
    each number_bytes (9 ∷ [])
    ++ (each number_bytes (up_from (lines_net n) 6)
    ++ (each number_bytes (carry_net n ∷ shifted_in n ∷ flip_net n ∷ 49 ∷ 7 ∷ 0 ∷ 1 ∷ n ∷ [])
    ++ each number_bytes (up_from (op_net n) 4)))

pub bytes-of-control : (n : ℕ) → each number_bytes (occurrence_numbers (controlled n)) ≡ control_pieces n
unfolding occurrence_numbers up_from each
bytes-of-control n = simp (append_assoc, append-nil)

-- Carry and overflow.
abbrev pub flag_pieces : (n : ℕ) → List ℕ
flag_pieces n =
    each number_bytes (1 ∷ out_net n ∷ 9 ∷ 2 ∷ (3 * n + 6) ∷ flip_net n ∷ [])
    ++ each number_bytes (1 ∷ (out_net n + 1) ∷ 9 ∷ 2 ∷ (3 * n + 6) ∷ (3 * n + 6 - 1) ∷ [])

pub bytes-of-flags : (n : ℕ)
    → each number_bytes (occurrence_numbers (carry_out n) ++ occurrence_numbers (overflows n)) ≡ flag_pieces n
unfolding occurrence_numbers
bytes-of-flags n =
    let before : 3 * n + 6 - 1 ≡ 3 * n + 5 = omega arith in
    rw (add-one (out_net n), before)
    (each_append number_bytes (occurrence_numbers (carry_out n)) (occurrence_numbers (overflows n)))
