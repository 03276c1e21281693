-- Operations that make no carry, on bits: 0 and 8 to 15. Their result is q, bit by bit.
use Prim.Native.Nat.{ℕ, zero, suc, ◌+◌, ◌*◌, ◌<◌, ◌≤◌}
use Rattle.std.specs.Prelude.{◌≡◌, Bool, List, [], ◌∷◌}
use Rattle.std.proofs.Math.Path.{refl}
use Rattle.std.proofs.Common.{◌∙◌, add-zero}
use Rattle.std.proofs.Math.Bool.{true, false}
use native.Mathlib.Omega.{arith}
use Rattle.meaning.specs.Gates.{gate, gates}
use Rattle.meaning.specs.Counter.{XOR, AND}
use Rattle.meaning.specs.FastAdder.{Step}
use Rattle.meaning.specs.Alu.{b_net, carry_net, p_net, g_net, q_net, out_net, flip_net, shifted_in}
use Rattle.laws.specs.Adder.Sum.{gate_bit}
use Rattle.laws.specs.FastAdder.Signals.{width}
use Rattle.laws.specs.Alu.Lines.{shifted_line}
use Rattle.laws.specs.Alu.Nets.{Nets}
use Rattle.laws.specs.Alu.Nets as N
use Rattle.laws.specs.Alu.Table.{first_of, second_of, start_of, adding-g, adding-q, other_of, flip_of, other-g, other-q, other-start, other-flip}
use Rattle.laws.specs.Alu.Bits.{Op, carry-next, g-is, q-is, adding-begins, adding_flips, adding-over}
use Rattle.laws.specs.Alu.Bits as B

and-false : (b : Bool) → gate_bit AND (b ∷ false ∷ []) ≡ false
unfolding gate gates
and-false true = refl
and-false false = refl

xor_false : (b : Bool) → gate_bit XOR (b ∷ false ∷ []) ≡ b
unfolding gate gates
xor_false true = refl
xor_false false = refl

module _ {n copied : ℕ} {steps : List Step} {vs : List Bool} (whole : width steps ≡ n) (ns : Nets false gate_bit n copied steps vs) where
  abbrev at : ℕ → Bool
  at = B.at whole ns

  abbrev carries : ℕ → Bool
  carries = B.carries whole ns

  abbrev results : ℕ → Bool
  results = B.results whole ns

  -- Where no bit makes a carry and none comes in there is none, and the result is q.
  module _ (begins : carries 0 ≡ false) (makes_none : (i : ℕ) → i < n → at (g_net n + i) ≡ false) where
    no_carry : (i : ℕ) → i ≤ n → carries i ≡ false
    unfolding gate gates
    no_carry zero low = begins
    no_carry (suc i) low =
        carry-next whole ns i low ∙ rw (makes_none i low, no_carry i (omega arith)) (and-false (at (p_net n + i)))

    result-is-q : (i : ℕ) → i < n → results i ≡ at (q_net n + i)
    unfolding gate gates
    result-is-q i low = ns.result i low ∙ rw (no_carry i (omega arith)) (xor_false (at (q_net n + i)))

    carry-is-flip : at (out_net n) ≡ at (flip_net n)
    unfolding gate gates
    carry-is-flip =
        let last : 3 * n + 6 ≡ carry_net n + n = omega arith in
        ns.carry ∙ rw (last, no_carry n (omega arith)) (same (at (flip_net n)))
      where
        same : (b : Bool) → gate_bit XOR (false ∷ b ∷ []) ≡ b
        same true = refl
        same false = refl

    never-over : (k : ℕ) → n ≡ suc k → at (suc (out_net n)) ≡ false
    never-over k one_more = adding-over whole ns k one_more ∙ rw (no_carry n (omega arith), no_carry k (omega arith))

  -- Operations 8 to 15.
  module _ {o0 o1 o2 : Bool} (op : Op whole ns o0 o1 o2 true) where
    other-begins : carries 0 ≡ false
    other-begins =
        rw (add-zero (carry_net n), ns.control.carry, op.at0, op.at1, op.at2, op.at3)
        (other-start o0 o1 o2 (at 0) (at 1) (at n))

    other-makes-none : (i : ℕ) → i < n → at (g_net n + i) ≡ false
    other-makes-none i low = g-is whole ns op i low ∙ other-g o0 o1 o2 (at (1 + i)) (at (2 + i)) (at (b_net n + i))

    pub other_result : (i : ℕ) → i < n → results i ≡ other_of o0 o1 o2 (at (1 + i)) (at (2 + i)) (at (b_net n + i))
    other_result i low =
        result-is-q other-begins other-makes-none i low
        ∙ q-is whole ns op i low
        ∙ other-q o0 o1 o2 (at (1 + i)) (at (2 + i)) (at (b_net n + i))

    pub other-out : at (out_net n) ≡ flip_of o0 o1 o2 (at 1)
    other-out =
        carry-is-flip other-begins other-makes-none
        ∙ rw (ns.control.flip, op.at0, op.at1, op.at2, op.at3) (other-flip o0 o1 o2 (at 0) (at 1) (at n))

    pub other-over : (k : ℕ) → n ≡ suc k → at (suc (out_net n)) ≡ false
    other-over = never-over other-begins other-makes-none

    -- What is shifted in at the top.
    pub other-shifted : at (shifted_in n) ≡ shifted_line gate_bit (at 0) (at 1) (at n) o0 o1 o2 true
    other-shifted = rw (ns.control.shifted, op.at0, op.at1)

  -- Operation 0 makes no carry either.
  module _ (op : Op whole ns false false false false) where
    moving_begins : carries 0 ≡ false
    unfolding start_of
    moving_begins = adding-begins whole ns op

    moving_makes-none : (i : ℕ) → i < n → at (g_net n + i) ≡ false
    unfolding first_of second_of gate gates
    moving_makes-none i low = g-is whole ns op i low ∙ adding-g false false false (at (1 + i)) (at (2 + i)) (at (b_net n + i)) ∙ and-false (at (1 + i))

    pub moving_result : (i : ℕ) → i < n → results i ≡ at (1 + i)
    unfolding first_of second_of gate gates
    moving_result i low =
        result-is-q moving_begins moving_makes-none i low
        ∙ q-is whole ns op i low
        ∙ adding-q false false false (at (1 + i)) (at (2 + i)) (at (b_net n + i))
        ∙ xor_false (at (1 + i))

    pub moving_out : at (out_net n) ≡ false
    moving_out = carry-is-flip moving_begins moving_makes-none ∙ adding_flips whole ns op

    pub moving_over : (k : ℕ) → n ≡ suc k → at (suc (out_net n)) ≡ false
    moving_over = never-over moving_begins moving_makes-none
