-- `is_same` meets its contract. The loop's invariant: what is left of both decides. Assumes nothing.
use Prim.Native.Nat.{ℕ, ◌+◌, ◌-◌, ◌<◌}
use mathlib.Core.Path.{◌≡◌, refl, sym, ap, ◌∙◌}
use mathlib.Core.Bool.{Bool, false, ◌&&◌}
use mathlib.Core.List.{List}
use native.Mathlib.Omega.{arith}
use lib.ListN.{length, get_or, drop}
use borrow.Author.Tests.{eq-eqb, ne_eqb}
use Rattle.meaning.specs.Ndl.{same_name}
use Rattle.ndl_names.proofs.Names.{same_none, same_next}
use Rattle.ndl_names.proofs.is_same.Statement.{statement}
use Rattle.ndl_names.proofs.is_same.Tie as tie

abbrev invariant-loop : tie.invariant-loop-i
invariant-loop one other i₀ i-end i = same_name one other ≡ same_name (drop i one) (drop i other)

abbrev decreases-loop : tie.decreases-loop-i
decreases-loop one other i₀ i-end i = i-end - i

-- The next two bytes and those behind them decide.
module _ (one other : List ℕ) (i : ℕ) (same : length one ≡ length other) (inv : same_name one other ≡ same_name (drop i one) (drop i other))
    (h : i < length one) where
  differ : (get_or one i 0 ≡ get_or other i 0 → ⊥) → false ≡ same_name one other
  differ apart =
      sym
      (inv
      ∙ same_next one other i same h
      ∙ ap (λ (b : Bool). b && same_name (drop (i + 1) one) (drop (i + 1) other)) (ne_eqb (get_or one i 0) (get_or other i 0) apart))

  agree : get_or one i 0 ≡ get_or other i 0 → same_name one other ≡ same_name (drop (i + 1) one) (drop (i + 1) other)
  agree like =
      inv
      ∙ same_next one other i same h
      ∙ ap (λ (b : Bool). b && same_name (drop (i + 1) one) (drop (i + 1) other)) (eq-eqb (get_or one i 0) (get_or other i 0) like)

returns : tie.Need-returns-then-one-i invariant-loop decreases-loop
returns c =
    differ c.args.one.now c.args.other.now c.loop-i.i c.requires c.loop-i.invariant
    c.loop-i-test.true c.if-one-i.true

loop-again : tie.Need-loop-i-preserved invariant-loop decreases-loop
loop-again c =
    agree c.args.one.now c.args.other.now c.loop-i.i c.requires c.loop-i.invariant
    c.loop-i-test.true c.if-one-i.false

returns-2 : tie.Need-returns invariant-loop decreases-loop
returns-2 c =
    sym (c.loop-i.invariant ∙ same_none c.args.one.now c.args.other.now c.loop-i.i c.requires c.loop-i-test.false)

pub is_same_spec : {M : Type 1} → statement M
is_same_spec =
    tie.close
    (tie.spec
    invariant-loop
    decreases-loop
    (λ c. refl)
    (λ c. omega arith)
    (λ c. omega arith)
    returns
    (λ c. omega arith)
    (λ c. omega arith)
    loop-again
    returns-2)
