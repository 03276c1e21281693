-- Each entry that was passed is masked.
use Prim.Native.Nat.{ℕ, ◌+◌, ◌-◌, ◌≤◌, ◌<◌}
use mathlib.Core.Path.{◌≡◌, refl, ◌∙◌}
use mathlib.Core.List.{List}
use native.Mathlib.Omega.{arith}
use borrow.Author.Count.{below_none, below_more}
use lib.Bits.{bit_and}
use lib.ListN.{length, get_or, set, length-set}
use lib.Seq.{get_or-set_same, get_or-set_other}
use Rattle.filing.proofs.rows.masked.Statement.{statement}
use Rattle.filing.proofs.rows.masked.Tie as tie

abbrev masked_at : (bits : List ℕ) (from : ℕ) (mask row : List ℕ) → ℕ → Type 0
masked_at bits from mask row k = get_or row k 0 ≡ bit_and (get_or bits (from + k) 0) (get_or mask k 0)

abbrev invariant-loop : tie.invariant-loop-j
invariant-loop bits from mask row₀ j₀ row j =
    (j ≤ 32) × (length row ≡ 32) × ((k : ℕ) → k < j → masked_at bits from mask row k)

abbrev decreases-loop : tie.decreases-loop-j
decreases-loop bits from mask row₀ j₀ row j = 32 - j

again :
    (bits : List ℕ) (from : ℕ) (mask row : List ℕ) (j : ℕ) → j < length row
    → ((k : ℕ) → k < j → masked_at bits from mask row k)
    → (k : ℕ) → k < j + 1
    → masked_at bits from mask (set row j (bit_and (get_or bits (from + j) 0) (get_or mask j 0))) k
again bits from mask row j inside all =
    let here = bit_and (get_or bits (from + j) 0) (get_or mask j 0) in
    below_more (λ k. masked_at bits from mask (set row j here) k) j
    (λ k l. get_or-set_other row j k here 0 (λ e. omega arith) ∙ all k l)
    (get_or-set_same row j here 0 inside)

loop-again : tie.Need-loop-j-preserved invariant-loop decreases-loop
loop-again c =
    let l = c.loop-j in
    let a = c.args in (
      omega arith,
      simp length-set (omega arith),
      again a.bits.now a.from a.mask.now l.row l.j (omega arith) l.invariant.2,
    )

returns : tie.Need-returns invariant-loop decreases-loop
returns c =
    let l = c.loop-j in
    record { whole = l.invariant.1; at = λ k h. l.invariant.2 k (omega arith) }

pub masked_spec : {M : Type 1} → statement M
masked_spec =
    tie.close
    (tie.spec
    invariant-loop
    decreases-loop
    (λ c. (omega arith, refl, below_none _))
    (λ c. omega arith)
    (λ c. omega arith)
    (λ c. omega arith)
    (λ c. omega arith)
    (λ c. omega arith)
    (λ c. omega arith)
    loop-again
    returns)
