-- BODY-OKP and BOXLIST-OKP of document 000 say what `Body` and the fields of `ModuleOk` say. They differ in one place: BODY-OKP
-- asks that an output be a signal at the end, an input or a driven net, and document 01 that it be driven. A module with no net
-- that is both input and output keeps the one exactly where it keeps the other.
use Rattle.std.specs.Prelude.{ℕ, ◌≤◌, ◌⊎◌, ◌≡◌, refl, true, List, [], ◌∷◌, ◌++◌}
use Rattle.std.proofs.Math.Logic.{inl, inr}
use Rattle.std.proofs.lemmas.Bool.{not-true}
use Rattle.meaning.specs.Syntax.{Occurrence, Module}
use Rattle.meaning.specs.Members.{◌∈◌}
use Rattle.meaning.specs.Boxlist.{disjoint, subset, body_okp, boxlist_okp}
use Rattle.meaning.specs.Limits.{driven, net_count, body_size, expanded_size, most_module_nets, most_size}
use Rattle.laws.specs.Tests.{if_true, is_true, and_both}
use Rattle.laws.specs.Members.{in-none, in_left, in_right, in_either, subset-tells, subset_in, disjoint-out}
use Rattle.laws.specs.Finding.{reference-tells, reference-fits, not_box}
use Rattle.laws.specs.WellFormed.{Body, done, step, ModuleOk, Accepted, none, some}

-- A net that an output may be where BODY-OKP starts on a list of occurrences: a signal already, or driven by them.
abbrev Reached : (signals : List ℕ) → List Occurrence → ℕ → Type 0
Reached signals os x = (x ∈ signals) ⊎ (x ∈ driven os)

reached-none : {signals : List ℕ} {x : ℕ} → Reached signals [] x → x ∈ signals
unfolding driven
reached-none (inl i) = i
reached-none (inr i) = absurd (in-none i)

-- It is the same net after the first of the occurrences.
module _ (o : Occurrence) (os : List Occurrence) (signals : List ℕ) (x : ℕ) where
  reached-before : Reached (o.drives ++ signals) os x → Reached signals (o ∷ os) x
  unfolding driven
  reached-before (inr i) = inr (in_right o.drives i)
  reached-before (inl i) = split (in_either o.drives i)
    where
      split : (x ∈ o.drives) ⊎ (x ∈ signals) → (x ∈ signals) ⊎ (x ∈ (o.drives ++ driven os))
      split (inl k) = inr (in_left (driven os) k)
      split (inr k) = inl k

  reached-after : Reached signals (o ∷ os) x → Reached (o.drives ++ signals) os x
  unfolding driven
  reached-after (inl i) = inl (in_right o.drives i)
  reached-after (inr i) = split (in_either o.drives i)
    where
      split : (x ∈ o.drives) ⊎ (x ∈ driven os) → (x ∈ (o.drives ++ signals)) ⊎ (x ∈ driven os)
      split (inl k) = inl (in_left signals k)
      split (inr k) = inr k

okp_body :
    (os : List Occurrence) (signals outputs : List ℕ) (later : List Module)
    → body_okp os signals outputs later ≡ true
    → Body later signals os × ((x : ℕ) → x ∈ outputs → Reached signals os x)
unfolding body_okp
okp_body [] signals outputs later e = (done, λ x i. inl (subset_in outputs signals e i))
okp_body (o ∷ os) signals outputs later e =
    let e5 = and_both _ _ e in
    let e4 = and_both _ _ e5.0 in
    let e3 = and_both _ _ e4.0 in
    let e2 = and_both _ _ e3.0 in
    let rest = okp_body os (o.drives ++ signals) outputs later e5.1 in
    let here = if_true (reference-tells o later) e4.1 in (
      step (record { distinct = not-true _ e2.0; fresh = e2.1; bound = e3.1; reference = here }) rest.0,
      λ x i. reached-before o os signals x (rest.1 x i),
    )

body-okp :
    {later : List Module} {signals : List ℕ} {os : List Occurrence} (outputs : List ℕ)
    → Body later signals os
    → ((x : ℕ) → x ∈ outputs → Reached signals os x)
    → body_okp os signals outputs later ≡ true
unfolding body_okp
body-okp {later} {signals} outputs done reached =
    is_true (subset-tells outputs signals) (λ l. l.missing (reached-none (reached l.net l.listed)))
body-okp {later} {signals} outputs (step {o = o} {os = os} ok rest) reached =
    rw (
      ok.distinct,
      ok.fresh,
      ok.bound,
      is_true (reference-tells o later) (reference-fits ok.reference),
      body-okp outputs rest (λ x i. reached-after o os signals x (reached x i)),
    )

-- An output that is a signal at the end and no input is driven.
outputs-driven :
    (m : Module)
    → disjoint m.inputs m.outputs ≡ true
    → ((x : ℕ) → x ∈ m.outputs → Reached m.inputs m.occurrences x)
    → subset m.outputs (driven m.occurrences) ≡ true
outputs-driven m apart reached =
    is_true (subset-tells m.outputs (driven m.occurrences))
    (λ l. at l.net l.listed l.missing (reached l.net l.listed))
  where
    at : (x : ℕ) → x ∈ m.outputs → ¬ (x ∈ driven m.occurrences) → Reached m.inputs m.occurrences x → ⊥
    at x output undriven (inl i) = disjoint-out m.inputs m.outputs apart i output
    at x output undriven (inr i) = undriven i

-- BOXLIST-OKP and our limits give a module that is accepted, and BOXLIST-OKP of the rest.
pub okp_module :
    (m : Module) (later : List Module)
    → boxlist_okp (m ∷ later) ≡ true
    → 16 ≤ m.number
    → net_count m ≤ most_module_nets
    → body_size (expanded_size later) m.occurrences ≤ most_size
    → ModuleOk m later × (boxlist_okp later ≡ true)
unfolding boxlist_okp
okp_module m later e above nets size =
    let e6 = and_both _ _ e in
    let e5 = and_both _ _ e6.0 in
    let e4 = and_both _ _ e5.0 in
    let e3 = and_both _ _ e4.0 in
    let e2 = and_both _ _ e3.0 in
    let body = okp_body m.occurrences m.inputs m.outputs later e5.1 in (
      record {
        above = above;
        unique = not_box _ (not-true _ e2.0);
        inputs_distinct = not-true _ e2.1;
        outputs_distinct = not-true _ e3.1;
        apart = e4.1;
        body = body.0;
        outputs_driven = outputs-driven m e4.1 body.1;
        nets = nets;
        size = size;
      },
      e6.1,
    )

pub accepted_okp : {ms : List Module} → Accepted ms → boxlist_okp ms ≡ true
unfolding boxlist_okp
accepted_okp none = refl
accepted_okp (some {m} {later} ok rest) =
    rw (
      ok.unique,
      ok.inputs_distinct,
      ok.outputs_distinct,
      ok.apart,
      body-okp m.outputs ok.body (λ x i. inr (subset_in m.outputs (driven m.occurrences) ok.outputs_driven i)),
      accepted_okp rest,
    )
