-- Refusals 6 to 17 each mean what their row says: the verdict on a list of modules is what comes of the rules in their order, the
-- first that is broken, or good where none is.
use Rattle.std.specs.Prelude.{ℕ, suc, ◌<◌, ◌⊎◌, ◌↔◌, ◌≡◌, not, ◌&&◌, List, [], ◌∷◌, ◌++◌, leb}
use Rattle.std.proofs.Common.{inl, inr, subst}
use Rattle.meaning.specs.Syntax.{Occurrence, Module}
use Rattle.meaning.specs.Members.{Twice, Common}
use Rattle.meaning.specs.Boxlist.{duplicates, disjoint, arity_okp}
use Rattle.meaning.specs.Limits.{driven, net_count, body_size, expanded_size, most_module_nets, most_size}
use Rattle.meaning.specs.Verdict.{Verdict, occurrence_verdict, body_verdict, module_verdict}
use Rattle.meaning.specs.Verdict.{modules_verdict, sizes_verdict, file_verdict}
use Rattle.meaning.specs.Rules.{occurrence_rules, module_rules, modules_rules, size_rules, file_rules}
use Rattle.meaning.specs.Rules.{Unresolved, Mismatch, Outcome, all_kept}
use Rattle.laws.specs.Tests.{Tells, tells, tells_not, tells-and, leb_tells, ltb_tells, neither, not_below}
use Rattle.laws.specs.Members.{duplicates-tells, disjoint-tells, subset-tells}
use Rattle.laws.specs.Finding.{found-tells, resolved_tells, reference-tells, reference-matches}
use Rattle.laws.specs.Outcomes.{keep-outcome, and_then-outcome, outcome-unique}

-- Rule 11's test is made of two.
drives-tells :
    (xs ys : List ℕ) → Tells (¬ (Twice xs ⊎ Common xs ys)) (Twice xs ⊎ Common xs ys) (not (duplicates xs) && disjoint xs ys)
drives-tells xs ys =
    tells (λ h. neither h.0 h.1) (λ h. h) (tells-and (tells_not (duplicates-tells xs)) (disjoint-tells xs ys))

-- The tests of our limits.
pub within-tells : (a most : ℕ) → Tells (¬ (most < a)) (most < a) (leb a most)
within-tells a most = tells not_below (λ h. h) (leb_tells a most)

-- Rule 14's test, where rule 13 is kept.
matches-tells :
    (o : Occurrence) (later : List Module)
    → ¬ (Unresolved o later)
    → Tells (¬ (Mismatch o later)) (Mismatch o later) (arity_okp o.refers o.takes o.drives later)
matches-tells o later resolved = tells reference-matches mismatch (reference-tells o later)
  where
    mismatch : Unresolved o later ⊎ Mismatch o later → Mismatch o later
    mismatch (inl u) = absurd (resolved u)
    mismatch (inr h) = h

-- The verdict on occurrences, a module, the modules and their sizes, each beside its rules.
body-outcome :
    (p : ℕ) (os : List Occurrence) (signals : List ℕ) (later : List Module)
    → Outcome (occurrence_rules p os signals later) (body_verdict p os signals later)
unfolding occurrence_rules body_verdict occurrence_verdict
body-outcome p [] signals later = all_kept
body-outcome p (o ∷ os) signals later =
    and_then-outcome
    (keep-outcome (drives-tells o.drives signals) λ _.
    keep-outcome (subset-tells o.takes signals) λ _.
    keep-outcome (resolved_tells o later) λ resolved.
    keep-outcome (matches-tells o later resolved) λ _.
    all_kept)
    (body-outcome p os (o.drives ++ signals) later)

module_outcome : (p : ℕ) (m : Module) (later : List Module) → Outcome (module_rules p m later) (module_verdict p m later)
unfolding module_rules module_verdict
module_outcome p m later =
    keep-outcome (tells_not (tells (λ l. l) not_below (ltb_tells m.number 16))) λ _.
    keep-outcome (tells_not (found-tells m.number later)) λ _.
    keep-outcome (tells_not (duplicates-tells m.inputs)) λ _.
    keep-outcome (tells_not (duplicates-tells m.outputs)) λ _.
    keep-outcome (disjoint-tells m.inputs m.outputs) λ _.
    and_then-outcome (body-outcome p m.occurrences m.inputs later)
    (keep-outcome (subset-tells m.outputs (driven m.occurrences)) λ _.
    keep-outcome (within-tells (net_count m) most_module_nets) λ _.
    all_kept)

modules-outcome : (p : ℕ) (ms : List Module) → Outcome (modules_rules p ms) (modules_verdict p ms)
unfolding modules_rules modules_verdict
modules-outcome p [] = all_kept
modules-outcome p (m ∷ later) = and_then-outcome (module_outcome p m later) (modules-outcome (suc p) later)

pub sizes-outcome : (p : ℕ) (ms : List Module) → Outcome (size_rules p ms) (sizes_verdict p ms)
unfolding size_rules sizes_verdict
sizes-outcome p [] = all_kept
sizes-outcome p (m ∷ later) =
    and_then-outcome (sizes-outcome (suc p) later)
    (keep-outcome (within-tells (body_size (expanded_size later) m.occurrences) most_size) λ _. all_kept)

pub file-outcome : (ms : List Module) → Outcome (file_rules ms) (file_verdict ms)
unfolding file_rules file_verdict
file-outcome ms = and_then-outcome (modules-outcome 0 ms) (sizes-outcome 0 ms)

-- The verdict is the outcome of the rules, and there is no other.
pub verdict-outcome : (ms : List Module) (v : Verdict) → file_verdict ms ≡ v ↔ Outcome (file_rules ms) v
verdict-outcome ms v = ((λ e. subst (λ v. Outcome (file_rules ms) v) e (file-outcome ms)), outcome-unique (file-outcome ms))
