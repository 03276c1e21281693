-- The bytes of the ALU in the order in which they are written: its file module by module, and module 48 piece by piece.
use Prim.Native.Nat.{ℕ, ◌+◌, ◌*◌}
use native.Mathlib.Omega.{arith}
use mathlib.Core.Path.{◌≡◌, refl, ap, ◌∙◌}
use mathlib.Core.List.{List, [], ◌∷◌, ◌++◌, append_assoc, append-nil}
use lib.ListN.{length, length-append}
use Rattle.meaning.specs.Layout.{each, occurrence_numbers, module_numbers, file_numbers, number_bytes, encode}
use Rattle.meaning.specs.Adder.{up_from}
use Rattle.meaning.specs.Counter.{XOR}
use Rattle.meaning.specs.FastAdder.{gate_row, carry_one, carry_two, lookahead, steps}
use Rattle.meaning.specs.Alu.{b_net, carry_net, q_net, out_net, result_net, lines_net, control, cell, copies, copy_count, carries_ahead, carry_out, overflows, controlled, cells, alu_module, alu_over, alu}
use Rattle.laws.specs.Lists.{each_append}
use Rattle.laws.specs.Adder.Nets.{length-up_from}
use Rattle.laws.specs.FastAdder.Shape.{steps-width}
use Rattle.laws.specs.Alu.Figures.{alu-length}
use Rattle.write_pieces.specs.Heads.{head_numbers}
use Rattle.write_pieces.specs.HeadNumbers.{numbers-of_module}
use Rattle.write_alu.specs.Heads.{head_bytes}

-- The head of module 48.
abbrev pub head_pieces : (n copied : ℕ) → List ℕ
head_pieces n copied =
    each number_bytes (48 ∷ (2 * n + 5) ∷ [])
    ++ (each number_bytes (up_from 0 (n + 1))
    ++ (each number_bytes (up_from (b_net n) (n + 4))
    ++ (each number_bytes ((n + 2) ∷ [])
    ++ (each number_bytes (up_from (out_net n) (n + 2)) ++ each number_bytes ((2 * n + 4 + 6 * copied) ∷ [])))))

bytes-of-pieces : (ins outs occurrences : ℕ) (xs ys zs : List ℕ)
    → each number_bytes (48 ∷ ((ins ∷ (xs ++ ys)) ++ ((outs ∷ zs) ++ (occurrences ∷ []))))
    ≡ each number_bytes (48 ∷ ins ∷ [])
    ++ (each number_bytes xs
    ++ (each number_bytes ys ++ (each number_bytes (outs ∷ []) ++ (each number_bytes zs ++ each number_bytes (occurrences ∷ [])))))
unfolding each
bytes-of-pieces ins outs occurrences xs ys zs = simp (each_append, append_assoc, append-nil)

pub bytes-of-head : (n copied : ℕ) → head_bytes n copied ≡ head_pieces n copied
unfolding head_numbers
bytes-of-head n copied =
    let ins : length (up_from 0 (n + 1) ++ up_from (b_net n) (n + 4)) ≡ 2 * n + 5 =
    omega (
      arith,
      length-append (up_from 0 (n + 1)) (up_from (b_net n) (n + 4)),
      length-up_from 0 (n + 1),
      length-up_from (b_net n) (n + 4),
    ) in
    rw (
      ins,
      length-up_from (out_net n) (n + 2),
      ← bytes-of-pieces (2 * n + 5) (n + 2) (2 * n + 4 + 6 * copied) (up_from 0 (n + 1)) (up_from (b_net n) (n + 4)) (up_from (out_net n) (n + 2)),
    )

-- Module 48: its head, the control, the copies, the cells, the carries, carry and overflow, and the result.
abbrev pub copies_bytes : (n copied : ℕ) → List ℕ
copies_bytes n copied = each number_bytes (each occurrence_numbers (copies (lines_net n) (lines_net n + 6) copied))

abbrev pub cells_bytes : (n copied : ℕ) → List ℕ
cells_bytes n copied = each number_bytes (each occurrence_numbers (cells n copied 0 n))

abbrev pub row_bytes : ℕ → List ℕ
row_bytes n = each number_bytes (each occurrence_numbers (gate_row XOR (result_net n) (q_net n) (carry_net n) n))

abbrev pub alu_bytes : (n copied : ℕ) → List ℕ
alu_bytes n copied =
    head_bytes n copied
    ++ (each number_bytes (occurrence_numbers (controlled n))
    ++ (copies_bytes n copied
    ++ (cells_bytes n copied
    ++ (each number_bytes (occurrence_numbers (carries_ahead n)) ++ (each number_bytes (occurrence_numbers (carry_out n) ++ occurrence_numbers (overflows n)) ++ row_bytes n)))))

bytes-of-occurrences : (n copied : ℕ)
    → each number_bytes (each occurrence_numbers (alu_module n copied).occurrences)
    ≡ each number_bytes (occurrence_numbers (controlled n))
    ++ (copies_bytes n copied
    ++ (cells_bytes n copied
    ++ (each number_bytes (occurrence_numbers (carries_ahead n))
    ++ (each number_bytes (occurrence_numbers (carry_out n) ++ occurrence_numbers (overflows n)) ++ row_bytes n))))
unfolding alu_module each
bytes-of-occurrences n copied = simp (each_append, append_assoc)

head-and-rest : (n copied : ℕ)
    → each number_bytes (module_numbers (alu_module n copied))
    ≡ head_bytes n copied ++ each number_bytes (each occurrence_numbers (alu_module n copied).occurrences)
unfolding alu_module
head-and-rest n copied =
    rw (
      numbers-of_module (alu_module n copied),
      alu-length n copied (steps n) (steps-width n),
      ← each_append number_bytes
          (head_numbers 48 (up_from 0 (n + 1) ++ up_from (b_net n) (n + 4)) (up_from (out_net n) (n + 2)) (2 * n + 4 + 6 * copied))
          (each occurrence_numbers (alu_module n copied).occurrences),
    )

pub bytes-of-alu : (n copied : ℕ) → each number_bytes (module_numbers (alu_module n copied)) ≡ alu_bytes n copied
bytes-of-alu n copied =
    head-and-rest n copied
    ∙ ap (λ (bytes : List ℕ). head_bytes n copied ++ bytes)
    (bytes-of-occurrences n copied)

-- No number of modules 49, 50, 43 and 42 passes 127: their numbers are their bytes.
bytes-of-control : each number_bytes (module_numbers control) ≡ module_numbers control
unfolding each module_numbers occurrence_numbers number_bytes
bytes-of-control = refl

bytes-of-cell : each number_bytes (module_numbers cell) ≡ module_numbers cell
unfolding each module_numbers occurrence_numbers number_bytes
bytes-of-cell = refl

bytes-of-two : each number_bytes (module_numbers carry_two) ≡ module_numbers carry_two
unfolding each module_numbers occurrence_numbers number_bytes
bytes-of-two = refl

bytes-of-one : each number_bytes (module_numbers carry_one) ≡ module_numbers carry_one
unfolding each module_numbers occurrence_numbers number_bytes
bytes-of-one = refl

bytes-of-modules : (xs ys zs us vs ws : List ℕ)
    → each number_bytes (6 ∷ (xs ++ (ys ++ (zs ++ (us ++ (vs ++ (ws ++ [])))))))
    ≡ 6
    ∷ (each number_bytes xs
    ++ (each number_bytes ys
    ++ (each number_bytes zs ++ (each number_bytes us ++ (each number_bytes vs ++ each number_bytes ws)))))
unfolding each number_bytes
bytes-of-modules xs ys zs us vs ws = simp (each_append, append-nil)

-- The file, where so many copies are as many as the width has.
abbrev pub file_pieces : (n copied : ℕ) → List ℕ
file_pieces n copied =
    6
    ∷ (each number_bytes (module_numbers (alu_module n copied))
    ++ (module_numbers control
    ++ (module_numbers cell
    ++ (each number_bytes (module_numbers (lookahead n (steps n))) ++ (module_numbers carry_two ++ module_numbers carry_one)))))

pub bytes-of-file : (n copied : ℕ) → copied ≡ copy_count n → encode (alu n) ≡ file_pieces n copied
unfolding encode file_numbers alu alu_over each
bytes-of-file n copied same =
    rw (
      same,
      bytes-of-modules (module_numbers (alu_module n (copy_count n))) (module_numbers control) (module_numbers cell)
          (module_numbers (lookahead n (steps n))) (module_numbers carry_two) (module_numbers carry_one),
      bytes-of-control,
      bytes-of-cell,
      bytes-of-two,
      bytes-of-one,
    )
