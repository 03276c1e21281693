-- `is_used` meets its contract. Assumes nothing.
use Rattle.std.proofs.Common.{ℕ, zero, suc, ◌+◌, ◌*◌, ◌-◌, ◌≤◌, ◌<◌, ◌≡◌, refl, sym, ap, ◌∙◌, Bool, true, false, ◌||◌, List, length, take, drop, arith}
use Rattle.std.proofs.Common.{length-take, length-drop}
use mathlib.Core.Path.{ap₂}
use Rattle.meaning.specs.Ndl.{name_at, same_name, used_in}
use Rattle.ndl_names.proofs.Names.{part-of-names, used-next}
use Rattle.ndl_names.proofs.is_used.Goals as goal

-- A part of the names has eight bytes.
eight : (names : List ℕ) (j : ℕ) → 8 * j + 8 ≤ length names → length (take (8 * j + 8 - 8 * j) (drop (8 * j) names)) ≡ 8
eight names j h = omega (arith, length-take (8 * j + 8 - 8 * j) (drop (8 * j) names), length-drop (8 * j) names)

or_true : (b : Bool) → (b || true) ≡ true
or_true true = refl
or_true false = refl

-- One more name.
used_more : (names name : List ℕ) (j : ℕ) → used_in names (j + 1) name ≡ (same_name (name_at names j) name || used_in names j name)
used_more names name j =
    let less : j + 1 - 1 ≡ j = omega arith in
    rw less at (used-next names name (j + 1) (omega arith))

-- A name that is among some is among more.
used-on : (names name : List ℕ) (j d : ℕ) → used_in names j name ≡ true → used_in names (j + d) name ≡ true
used-on names name j zero h =
    let same : j + 0 ≡ j = omega arith in
    rw same h
used-on names name j (suc d) h =
    let next : j + suc d ≡ (j + d) + 1 = omega arith in
    rw (next, used_more names name (j + d), used-on names name j d h)
    (or_true (same_name (name_at names (j + d)) name))

module _ (names : List ℕ) (k j : ℕ) (r : Bool) (l : j < k)
    (e : r ≡ same_name (take (8 * j + 8 - 8 * j) (drop (8 * j) names)) (take (8 * k + 8 - 8 * k) (drop (8 * k) names))) where
  by_this : used_in names (j + 1) (name_at names k) ≡ (r || used_in names j (name_at names k))
  by_this =
      used_more names (name_at names k) j
      ∙ ap (λ (b : Bool). b || used_in names j (name_at names k))
      (sym (e ∙ ap₂ same_name (part-of-names names j) (part-of-names names k)))

  met : r ≡ true → true ≡ used_in names k (name_at names k)
  met h =
      let here : used_in names (j + 1) (name_at names k) ≡ true = by_this ∙ ap (λ (b : Bool). b || used_in names j (name_at names k)) h in
      let there : (j + 1) + (k - (j + 1)) ≡ k = omega arith in
      sym (rw there at (used-on names (name_at names k) (j + 1) (k - (j + 1)) here))

  goes_on : r ≡ false → used_in names j (name_at names k) ≡ false → used_in names (j + 1) (name_at names k) ≡ false
  goes_on h none = by_this ∙ ap (λ (b : Bool). b || used_in names j (name_at names k)) h ∙ none

none_yet : (names name : List ℕ) → used_in names 0 name ≡ false
unfolding used_in
none_yet names name = refl

pub loop-j-init : goal.loop-j-init
loop-j-init c = none_yet c.args.names.now _

pub is_same-requires : goal.is_same-requires
is_same-requires c =
    eight c.args.names.now c.loop-j.j (omega (arith, c.requires, c.loop-j-test.true))
    ∙ sym (eight c.args.names.now c.args.k (omega (arith, c.requires)))

pub returns-then-is_same : goal.returns-then-is_same
returns-then-is_same c = met c.args.names.now c.args.k c.loop-j.j c.is_same.result c.loop-j-test.true c.is_same.ensures c.if-is_same.true

pub loop-j-preserved : goal.loop-j-preserved
loop-j-preserved c =
    goes_on c.args.names.now c.args.k c.loop-j.j c.is_same.result c.loop-j-test.true c.is_same.ensures c.if-is_same.false c.loop-j.invariant

pub returns : goal.returns
returns c =
    let end : c.loop-j.j ≡ c.args.k = omega arith in
    rw end at (sym c.loop-j.invariant)
