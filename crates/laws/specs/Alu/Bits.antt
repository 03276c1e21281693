-- The nets of module 48 on bits: what the cells make of the operation's lines, and that the first eight operations are a chain of full
-- adders over two numbers made of a and b.
use Rattle.std.specs.Prelude.{ℕ, suc, ◌+◌, ◌*◌, ◌<◌, ◌≡◌, refl, Bool, true, false, List, [], ◌∷◌}
use Rattle.std.proofs.Common.{◌∙◌, add-zero}
use native.Mathlib.Omega.{arith}
use Rattle.meaning.specs.Gates.{gate, gates, B-XOR}
use Rattle.meaning.specs.Counter.{XOR, AND}
use Rattle.meaning.specs.FastAdder.{Step}
use Rattle.meaning.specs.Alu.{b_net, op_net, carry_net, p_net, g_net, q_net, out_net, result_net, flip_net}
use Rattle.laws.specs.Adder.Sum.{gate_bit}
use Rattle.laws.specs.FastAdder.Signals.{width}
use Rattle.laws.specs.FastAdder.Lattice.{over}
use Rattle.laws.specs.FastAdder.BitCarries.{bit-carry-by-carry}
use Rattle.laws.specs.Alu.Lines.{cell_p, cell_g, cell_q, Comes, as_it-is, buffered}
use Rattle.laws.specs.Alu.Nets.{Nets}
use Rattle.laws.specs.Alu.Cells as N
use Rattle.laws.specs.Alu.Table.{under, first_of, second_of, start_of, adding-p, adding-g, adding-q, adding-start, adding-flip}
use Rattle.laws.specs.Alu.Sums.{Chain}

-- A buffer passes a bit on.
comes_same : {copied : ℕ} {line v : Bool} → Comes gate_bit copied line v → v ≡ line
unfolding gate gates
comes_same as_it-is = refl
comes_same {line = line} (buffered some) = go line
  where
    go : (b : Bool) → gate_bit 0 (b ∷ []) ≡ b
    go true = refl
    go false = refl

module _ {n copied : ℕ} {steps : List Step} {vs : List Bool} (whole : width steps ≡ n) (ns : Nets false gate_bit n copied steps vs) where
  abbrev pub at : ℕ → Bool
  at = N.at false gate_bit n copied steps ns.env

  -- Carry by carry.
  pub carry-next : (i : ℕ) → i < n → at (carry_net n + suc i) ≡ over gate_bit (at (carry_net n + i)) (at (p_net n + i)) (at (g_net n + i))
  carry-next i low =
      let ahead = ns.carries in
      let place : p_net n + n + i ≡ g_net n + i = omega arith in
      rw (
        ← ahead.inner_carry (suc i) low,
        ← ahead.inner_carry i (omega arith),
        ← ahead.inner_p i low,
        ← place,
        ← ahead.inner_g i low,
      )
      (bit-carry-by-carry n ahead.inner whole ahead.chained i low)

  -- The operation bits.
  pub record Op (o0 o1 o2 o3 : Bool) : Type 0 where
    pub at0 : at (op_net n) ≡ o0
    pub at1 : at (suc (op_net n)) ≡ o1
    pub at2 : at (suc (suc (op_net n))) ≡ o2
    pub at3 : at (suc (suc (suc (op_net n)))) ≡ o3

  -- The cell of a bit under the operation's lines.
  module _ {o0 o1 o2 o3 : Bool} (op : Op o0 o1 o2 o3) (i : ℕ) (low : i < n) where
    abbrev cell : N.Cell false gate_bit n copied steps ns.env i
    cell = ns.cells_hold i low

    abbrev lines : N.Control false gate_bit n copied steps ns.env
    lines = ns.control

    p-is : at (p_net n + i) ≡ under o0 o1 o2 o3 (cell_p gate_bit) (at (1 + i)) (at (2 + i)) (at (b_net n + i))
    p-is =
        cell.p
        ∙ rw (
          comes_same cell.comes_negate,
          comes_same cell.comes_ones,
          lines.negate,
          lines.ones,
          op.at1,
          op.at2,
          op.at3,
        )

    pub g-is : at (g_net n + i) ≡ under o0 o1 o2 o3 (cell_g gate_bit) (at (1 + i)) (at (2 + i)) (at (b_net n + i))
    g-is =
        cell.g
        ∙ rw (
          comes_same cell.comes_negate,
          comes_same cell.comes_ones,
          comes_same cell.comes_generate,
          lines.negate,
          lines.ones,
          lines.generate,
          op.at0,
          op.at1,
          op.at2,
          op.at3,
        )

    pub q-is : at (q_net n + i) ≡ under o0 o1 o2 o3 (cell_q gate_bit) (at (1 + i)) (at (2 + i)) (at (b_net n + i))
    q-is =
        cell.q
        ∙ rw (
          comes_same cell.comes_negate,
          comes_same cell.comes_ones,
          comes_same cell.comes_pass_p,
          comes_same cell.comes_pass_and,
          comes_same cell.comes_shift,
          lines.negate,
          lines.ones,
          lines.pass_p,
          lines.pass_and,
          lines.shift,
          op.at0,
          op.at1,
          op.at2,
          op.at3,
        )

  abbrev pub carries : ℕ → Bool
  carries i = at (carry_net n + i)

  abbrev pub results : ℕ → Bool
  results i = at (result_net n + i)

  -- Operations 0 to 7.
  module _ {o0 o1 o2 : Bool} (op : Op o0 o1 o2 false) where
    abbrev pub first : ℕ → Bool
    first i = first_of o0 o1 o2 (at (1 + i))

    abbrev pub second : ℕ → Bool
    second i = second_of o0 o1 o2 (at (b_net n + i))

    adding-sum : (i : ℕ) → i < n → results i ≡ gate_bit XOR (gate_bit XOR (first i ∷ second i ∷ []) ∷ carries i ∷ [])
    adding-sum i low =
        ns.result i low ∙ rw (q-is op i low, adding-q o0 o1 o2 (at (1 + i)) (at (2 + i)) (at (b_net n + i)))

    adding-carry :
        (i : ℕ) → i < n
        → carries (suc i)
        ≡ over gate_bit (carries i) (gate_bit XOR (first i ∷ second i ∷ [])) (gate_bit AND (first i ∷ second i ∷ []))
    adding-carry i low =
        carry-next i low
        ∙ rw (
          p-is op i low,
          g-is op i low,
          adding-p o0 o1 o2 (at (1 + i)) (at (2 + i)) (at (b_net n + i)),
          adding-g o0 o1 o2 (at (1 + i)) (at (2 + i)) (at (b_net n + i)),
        )

    pub adding-chain : Chain n first second carries results
    adding-chain = record { sums = adding-sum; carries = adding-carry }

    pub adding-begins : carries 0 ≡ start_of o0 o1 o2 (at 0)
    adding-begins =
        rw (add-zero (carry_net n), ns.control.carry, op.at0, op.at1, op.at2, op.at3)
        (adding-start o0 o1 o2 (at 0) (at 1) (at n))

    pub adding_flips : at (flip_net n) ≡ o2
    adding_flips =
        rw (ns.control.flip, op.at0, op.at1, op.at2, op.at3) (adding-flip o0 o1 o2 (at 0) (at 1) (at n))

    pub adding-out : at (out_net n) ≡ B-XOR (carries n) o2
    unfolding gate gates
    adding-out =
        let last : 3 * n + 6 ≡ carry_net n + n = omega arith in
        ns.carry ∙ rw (adding_flips, last)

  pub adding-over : (k : ℕ) → n ≡ suc k → at (suc (out_net n)) ≡ B-XOR (carries n) (carries k)
  unfolding gate gates
  adding-over k one_more =
      let last : 3 * n + 6 ≡ carry_net n + n = omega arith in
      let before : 3 * n + 5 ≡ carry_net n + k = omega arith in
      ns.overflow ∙ rw (last, before)
