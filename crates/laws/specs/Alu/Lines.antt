-- What modules 49 and 50 give, as functions of their inputs, whatever gates make of values: the control lines of an operation, and p, g
-- and q of a bit.
use Rattle.std.specs.Prelude.{ℕ, ◌≤◌, ◌≡◌, List, [], ◌∷◌}
use Rattle.std.proofs.Math.Path.{refl}
use Rattle.meaning.specs.Syntax.{Module}
use Rattle.meaning.specs.Evaluation.{look, look_all, pairs, walk, run_module, run}
use Rattle.meaning.specs.Counter.{NOT, OR, XOR, AND, NOR}
use Rattle.meaning.specs.FastAdder.{AND3}
use Rattle.meaning.specs.Alu.{BUF, NAND, NAND3, EQV, control, cell}
use Rattle.laws.specs.Adder.Outputs.{one_output}

module _ {A : Type 0} (gate_result : ℕ → List A → A) where
  abbrev on2 : (kind : ℕ) → A → A → A
  on2 kind x y = gate_result kind (x ∷ y ∷ [])

  abbrev on3 : (kind : ℕ) → A → A → A → A
  on3 kind x y z = gate_result kind (x ∷ y ∷ z ∷ [])

  -- The control, of the carry, the lowest and the highest bit of a, and the operation bits.
  module _ (c lowest highest o0 o1 o2 o3 : A) where
    abbrev pub negate_line : A
    negate_line = on2 EQV o1 o2

    abbrev pub ones_line : A
    ones_line = on2 EQV o1 (on2 AND o2 o3)

    abbrev pub generate_line : A
    generate_line = on2 NOR o3 (on2 NOR o1 (on2 AND o0 o2))

    abbrev pub pass_pline : A
    pass_pline = on3 NAND3 o3 (on2 NAND o0 o1) (on2 NAND o2 (on2 NOR o0 o1))

    abbrev pub pass_and_line : A
    pass_and_line = on2 AND (on2 AND o2 o3) (on2 NAND o0 o1)

    abbrev pub shift_line : A
    shift_line = on3 AND3 o3 (gate_result NOT (o2 ∷ [])) (on2 NAND o0 o1)

    abbrev pub carry_line : A
    carry_line = on2 NOR o3 (on2 EQV o2 (on2 AND (on2 XOR o0 o1) (on2 OR o0 c)))

    abbrev pub shifted_line : A
    shifted_line = on2 OR (on2 AND c (on2 NOR o0 o1)) (on2 AND highest o0)

    abbrev pub flip_line : A
    flip_line = on2 OR (on2 NOR o3 (gate_result NOT (o2 ∷ []))) (on2 AND lowest shift_line)

    pub control-gives :
        (unset : A) (later : List Module)
        → run unset (one_output gate_result) (control ∷ later) 49 (c ∷ lowest ∷ highest ∷ o0 ∷ o1 ∷ o2 ∷ o3 ∷ [])
        ≡ negate_line ∷ ones_line ∷ generate_line ∷ pass_pline ∷ pass_and_line ∷ shift_line ∷ carry_line ∷ shifted_line ∷ flip_line ∷ []
    unfolding run run_module walk pairs look look_all
    control-gives unset later = refl

  -- A cell, of a's bit, the one above it, b's bit and the lines.
  module _ (a next b negate ones generate pass_p pass_and shift : A) where
    abbrev cell_x : A
    cell_x = on2 XOR a negate

    abbrev cell_y : A
    cell_y = on2 OR b ones

    abbrev pub cell_p : A
    cell_p = on2 XOR cell_x cell_y

    abbrev pub cell_g : A
    cell_g = on3 AND3 cell_x cell_y generate

    abbrev pub cell_q : A
    cell_q = on3 NAND3 (on2 NAND cell_p pass_p) (on3 NAND3 cell_x cell_y pass_and) (on2 NAND next shift)

    pub cell-gives :
        (unset : A) (later : List Module)
        → run unset (one_output gate_result) (control ∷ cell ∷ later) 50
        (a ∷ next ∷ b ∷ negate ∷ ones ∷ generate ∷ pass_p ∷ pass_and ∷ shift ∷ [])
        ≡ cell_p ∷ cell_g ∷ cell_q ∷ []
    unfolding run run_module walk pairs look look_all
    cell-gives unset later = refl

  -- A line as it comes to a cell: itself, or, where there are copies, through a buffer.
  pub data Comes (copied : ℕ) (line : A) : A → Type 0 where
    as_it-is : Comes copied line line
    buffered : 1 ≤ copied → Comes copied line (gate_result BUF (line ∷ []))
