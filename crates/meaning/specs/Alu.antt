-- The ALU of width n (request M-110; docs/ALU.md draws it): modules 48, 49, 50, and the carry network 41, 43, 42 of the
-- propagate-generate adder. Module 49 makes control lines of the operation; module 50 stands at each bit and makes of a's bit, b's
-- bit and the lines the p and g of the carry network, and q, to which the carry is added.
use Rattle.std.specs.Prelude.{ℕ, zero, suc, ◌+◌, ◌*◌, ◌/◌, min, cond, List, [], ◌∷◌, ◌++◌, leb}
use Rattle.meaning.specs.Syntax.{Occurrence, Module}
use Rattle.meaning.specs.Adder.{up_from}
use Rattle.meaning.specs.Counter.{gate_on, NOT, OR, XOR, AND, NOR}
use Rattle.meaning.specs.FastAdder.{gate_on3, AND3, gate_row, carry_one, carry_two, Step, lookahead, steps}

-- A gate of one argument, and the kinds in use.
abbrev pub gate_on1 : (net kind a : ℕ) → Occurrence
gate_on1 net kind a = record { drives = net ∷ []; refers = kind; takes = a ∷ [] }

abbrev pub BUF : ℕ
BUF = 0

abbrev pub NAND : ℕ
NAND = 2

abbrev pub NAND3 : ℕ
NAND3 = 3

abbrev pub EQV : ℕ
EQV = 8

-- Module 49, the control. Inputs: carry, lowest and highest bit of a, the four operation bits. Outputs: six lines for the cells, negate,
-- ones, generate, pass p, pass and, shift; then the carry into the network, the bit shifted in at the top, and whether the carry out is
-- flipped.
abbrev pub control : Module
control =
    record {
      number = 49;
      inputs = 0 ∷ 1 ∷ 2 ∷ 3 ∷ 4 ∷ 5 ∷ 6 ∷ [];
      outputs = 22 ∷ 23 ∷ 24 ∷ 25 ∷ 26 ∷ 27 ∷ 28 ∷ 29 ∷ 30 ∷ [];
      occurrences =
          gate_on 22 EQV 4 5
          ∷ gate_on 7 AND 5 6
          ∷ gate_on 23 EQV 4 7
          ∷ gate_on 8 AND 3 5
          ∷ gate_on 9 NOR 4 8
          ∷ gate_on 24 NOR 6 9
          ∷ gate_on 10 NAND 3 4
          ∷ gate_on 11 NOR 3 4
          ∷ gate_on 12 NAND 5 11
          ∷ gate_on3 25 NAND3 6 10 12
          ∷ gate_on 26 AND 7 10
          ∷ gate_on1 13 NOT 5
          ∷ gate_on3 27 AND3 6 13 10
          ∷ gate_on 14 XOR 3 4
          ∷ gate_on 15 OR 3 0
          ∷ gate_on 16 AND 14 15
          ∷ gate_on 17 EQV 5 16
          ∷ gate_on 28 NOR 6 17
          ∷ gate_on 18 AND 0 11
          ∷ gate_on 19 AND 2 3
          ∷ gate_on 29 OR 18 19
          ∷ gate_on 20 NOR 6 13
          ∷ gate_on 21 AND 1 27
          ∷ gate_on 30 OR 20 21
          ∷ [];
    }

-- Module 50, the cell of a bit. Inputs: a's bit, the next higher one, b's bit, the six lines. Outputs: p, g and q.
abbrev pub cell : Module
cell =
    record {
      number = 50;
      inputs = 0 ∷ 1 ∷ 2 ∷ 3 ∷ 4 ∷ 5 ∷ 6 ∷ 7 ∷ 8 ∷ [];
      outputs = 9 ∷ 10 ∷ 11 ∷ [];
      occurrences =
          gate_on 12 XOR 0 3
          ∷ gate_on 13 OR 2 4
          ∷ gate_on 9 XOR 12 13
          ∷ gate_on3 10 AND3 12 13 5
          ∷ gate_on 14 NAND 9 6
          ∷ gate_on3 15 NAND3 12 13 7
          ∷ gate_on 16 NAND 1 8
          ∷ gate_on3 11 NAND3 14 15 16
          ∷ [];
    }

-- Nets again, through buffers: so many, and the six lines so many times.
unfoldable pub copy_row : (net take count : ℕ) → List Occurrence
copy_row net take zero = []
copy_row net take (suc n) = gate_on1 net BUF take ∷ copy_row (suc net) (suc take) n

unfoldable pub copies : (lines net count : ℕ) → List Occurrence
copies lines net zero = []
copies lines net (suc n) = copy_row net lines 6 ++ copies lines (net + 6) n

-- The lines drive at most eight cells: above width 8 there is a copy of them for each eight bits.
unfoldable pub copy_count : ℕ → ℕ
copy_count n = cond (leb n 8) 0 ((n + 7) / 8)

-- The nets of module 48 at width n: 0 is the carry, 1 to n are a, n+1 is the bit shifted in, so that the bit above bit i of a is always
-- net i+2; then n of b, four operation bits, n+1 carries, n each of p, g and q, carry out, overflow, n of the result, the flip, the six
-- lines and their copies. All low bit first.
module _ (n : ℕ) where
  abbrev pub shifted_in : ℕ
  shifted_in = n + 1

  abbrev pub b_net : ℕ
  b_net = n + 2

  abbrev pub op_net : ℕ
  op_net = 2 * n + 2

  abbrev pub carry_net : ℕ
  carry_net = 2 * n + 6

  abbrev pub p_net : ℕ
  p_net = 3 * n + 7

  abbrev pub g_net : ℕ
  g_net = 4 * n + 7

  abbrev pub q_net : ℕ
  q_net = 5 * n + 7

  abbrev pub out_net : ℕ
  out_net = 6 * n + 7

  abbrev pub result_net : ℕ
  result_net = 6 * n + 9

  abbrev pub flip_net : ℕ
  flip_net = 7 * n + 9

  abbrev pub lines_net : ℕ
  lines_net = 7 * n + 10

  -- The control, the network's carries, carry out and overflow.
  abbrev pub controlled : Occurrence
  controlled =
      record {
        drives = up_from lines_net 6 ++ (carry_net ∷ shifted_in ∷ flip_net ∷ []);
        refers = 49;
        takes = 0 ∷ 1 ∷ n ∷ up_from op_net 4;
      }

  abbrev pub carries_ahead : Occurrence
  carries_ahead = record { drives = up_from (suc carry_net) n; refers = 41; takes = carry_net ∷ up_from p_net (2 * n) }

  abbrev pub carry_out : Occurrence
  carry_out = gate_on out_net XOR (3 * n + 6) flip_net

  abbrev pub overflows : Occurrence
  overflows = gate_on (suc out_net) XOR (3 * n + 6) (3 * n + 5)

  -- With so many copies of the lines; the lines of the cell of bit i, and the cells from bit i on.
  module _ (copied : ℕ) where
    abbrev pub lines_of : (i : ℕ) → ℕ
    lines_of i = lines_net + 6 * min copied (i / 8 + 1)

    abbrev pub cell_at : (i : ℕ) → Occurrence
    cell_at i =
        record {
          drives = (p_net + i) ∷ (g_net + i) ∷ (q_net + i) ∷ [];
          refers = 50;
          takes = (1 + i) ∷ (2 + i) ∷ (b_net + i) ∷ up_from (lines_of i) 6;
        }

    unfoldable pub cells : (i count : ℕ) → List Occurrence
    cells i zero = []
    cells i (suc count) = cell_at i ∷ cells (suc i) count

    -- Module 48: inputs carry, a, b and the operation bits; outputs carry, overflow and the result.
    unfoldable pub alu_module : Module
    alu_module =
        record {
          number = 48;
          inputs = up_from 0 (n + 1) ++ up_from b_net (n + 4);
          outputs = up_from out_net (n + 2);
          occurrences =
              controlled
              ∷ (copies lines_net (lines_net + 6) copied
              ++ (cells 0 n ++ (carries_ahead ∷ carry_out ∷ overflows ∷ gate_row XOR result_net q_net carry_net n)));
        }

    -- The ALU over any steps that have as many leaves as the width.
    unfoldable pub alu_over : List Step → List Module
    alu_over steps = alu_module ∷ control ∷ cell ∷ lookahead n steps ∷ carry_two ∷ carry_one ∷ []

unfoldable pub alu : ℕ → List Module
alu n = alu_over n (copy_count n) (steps n)
