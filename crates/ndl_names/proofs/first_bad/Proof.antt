-- `first_bad` meets its contract. The loop's invariant: the first bad name is the first from here on. Assumes nothing.
use Prim.Native.Nat.{ℕ, ◌+◌, ◌*◌, ◌-◌, ◌≤◌, ◌<◌}
use mathlib.Core.Path.{◌≡◌, refl, sym, ap, ◌∙◌}
use mathlib.Core.Bool.{Bool, true, false}
use mathlib.Core.List.{List}
use native.Mathlib.Omega.{arith}
use borrow.Author.Rules.{rules}
use lib.ListN.{take, drop}
use Rattle.meaning.specs.Ndl.{name_at, good_name, used_in, first_bad_from, first_bad}
use Rattle.ndl_names.proofs.Names.{part-of-names, bad-next}
use Rattle.ndl_names.proofs.first_bad.Statement.{statement}
use Rattle.ndl_names.proofs.first_bad.Tie as tie

abbrev invariant-loop : tie.invariant-loop-k
invariant-loop names k₀ k = (k ≤ 16) × (first_bad names ≡ first_bad_from names k (16 - k))

abbrev decreases-loop : tie.decreases-loop-k
decreases-loop names k₀ k = 16 - k

-- The name at a position is bad, or used before, or neither.
module _ (names : List ℕ) (k : ℕ) (r : Bool) (more : k < 16) (inv : first_bad names ≡ first_bad_from names k (16 - k))
    (e : r ≡ good_name (take (8 * k + 8 - 8 * k) (drop (8 * k) names))) where
  good : r ≡ good_name (name_at names k)
  good = e ∙ ap good_name (part-of-names names k)

  bad : r ≡ false → k ≡ first_bad names
  bad h =
      let here : good_name (name_at names k) ≡ false = sym good ∙ h in
      sym (inv ∙ bad-next names k more ∙ rw here)

  module _ (u : Bool) (h : r ≡ true) (f : u ≡ used_in names k (name_at names k)) where
    fine : good_name (name_at names k) ≡ true
    fine = sym good ∙ h

    used : u ≡ true → k ≡ first_bad names
    used t =
        let here : used_in names k (name_at names k) ≡ true = sym f ∙ t in
        sym (inv ∙ bad-next names k more ∙ rw (fine, here))

    goes_on : u ≡ false → first_bad names ≡ first_bad_from names (k + 1) (16 - (k + 1))
    goes_on t =
        let here : used_in names k (name_at names k) ≡ false = sym f ∙ t in
        inv ∙ bad-next names k more ∙ rw (fine, here)

none_left : (names : List ℕ) (k : ℕ) → k ≤ 16 → 16 ≤ k → first_bad_from names k (16 - k) ≡ 16
unfolding first_bad_from
none_left names k few many =
    let end : k ≡ 16 = omega arith in
    rw end

-- The start, seen from a turn; and the turn, seen from the test of a name.
abbrev start : tie.In-loop-k invariant-loop decreases-loop → tie.Start invariant-loop decreases-loop
start c = c.before.before.before

loop-holds : tie.Need-loop-k-init invariant-loop decreases-loop
unfolding first_bad
loop-holds c = (omega arith, refl)

returns : tie.Need-returns-then-not-is_good invariant-loop decreases-loop
returns c =
    bad c.args.names.now c.loop-k.k c.is_good.result c.loop-k-test.true
    c.loop-k.invariant.1 c.is_good.ensures c.if-not-is_good.true

returns-2 : tie.Need-returns-then-is_used invariant-loop decreases-loop
returns-2 c =
    used c.args.names.now c.loop-k.k c.is_good.result c.loop-k-test.true
    c.loop-k.invariant.1 c.is_good.ensures c.is_used.result c.if-not-is_good.false c.is_used.ensures c.if-is_used.true

loop-again : tie.Need-loop-k-preserved invariant-loop decreases-loop
loop-again c = (
  omega (arith, c.loop-k-test.true),
  goes_on c.args.names.now c.loop-k.k c.is_good.result c.loop-k-test.true
      c.loop-k.invariant.1 c.is_good.ensures c.is_used.result c.if-not-is_good.false c.is_used.ensures c.if-is_used.false,
)

returns-3 : tie.Need-returns invariant-loop decreases-loop
returns-3 c =
    let l = c.loop-k in
    sym (l.invariant.1 ∙ none_left c.args.names.now l.k l.invariant.0 c.loop-k-test.false)

pub first_bad_spec : {M : Type 1} → statement M
first_bad_spec =
    tie.close
    (tie.spec
    invariant-loop
    decreases-loop
    loop-holds
    (λ c. omega (arith, c.loop-k-test.true))
    (λ c. omega (arith, c.loop-k-test.true))
    (λ c. omega (arith, c.loop-k-test.true))
    (λ c. omega (arith, c.loop-k-test.true))
    (λ c. omega (arith, c.loop-k-test.true))
    (λ c. omega (arith, c.requires, c.loop-k-test.true))
    (λ c κs. search rules)
    returns
    (λ c κs. (c.requires, c.loop-k-test.true))
    returns-2
    (λ c. omega (arith, c.loop-k-test.true))
    (λ c. omega (arith, c.loop-k-test.true))
    loop-again
    returns-3)
