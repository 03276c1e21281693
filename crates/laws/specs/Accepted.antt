-- The verdict on a list of modules is good exactly where the list is `Accepted`.
use Rattle.std.specs.Prelude.{ℕ, suc, ◌<◌, ◌≡◌, List, [], ◌∷◌, ◌++◌}
use Rattle.std.proofs.Common.{inl, inr, ap, arith}
use Rattle.meaning.specs.Syntax.{Occurrence, Module}
use Rattle.meaning.specs.Boxlist.{F, assoc, is_box}
use Rattle.meaning.specs.Limits.{driven, body_size, expanded_size, most_size}
use Rattle.meaning.specs.Verdict.{Verdict, good, and_then, file_verdict}
use Rattle.meaning.specs.Rules.{occurrence_rules, module_rules, modules_rules, size_rules, file_rules, Outcome, all_kept, kept}
use Rattle.laws.specs.WellFormed.{Body, done, step, ModuleOk, Accepted, none, some}
use Rattle.laws.specs.Tests.{if_true, if_false, is_true, is_false, otherwise, neither, not_below}
use Rattle.laws.specs.Members.{duplicates-tells, disjoint-tells, subset-tells}
use Rattle.laws.specs.Finding.{found-tells, reference-tells, reference-resolved, reference-matches, not_found}
use Rattle.laws.specs.Outcomes.{and_then-outcome, good-cons, good-both}
use Rattle.laws.specs.Refusals.{verdict-outcome}

-- Where no rule is broken the list is accepted.
body-accepted :
    (p : ℕ) (os : List Occurrence) (signals : List ℕ) (later : List Module)
    → Outcome (occurrence_rules p os signals later) good
    → Body later signals os
unfolding occurrence_rules
body-accepted p [] signals later all_kept = done
body-accepted p (o ∷ os) signals later (kept k11 (kept k12 (kept k13 (kept k14 rest)))) =
    step
    (record {
      distinct = is_false (duplicates-tells o.drives) (λ t. k11 (inl t));
      fresh = is_true (disjoint-tells o.drives signals) (λ c. k11 (inr c));
      bound = is_true (subset-tells o.takes signals) k12;
      reference = otherwise (reference-tells o later) (neither k13 k14);
    })
    (body-accepted p os (o.drives ++ signals) later rest)

module_accepted :
    (p : ℕ) (m : Module) (later : List Module)
    → Outcome (module_rules p m later) good
    → ¬ (most_size < body_size (expanded_size later) m.occurrences)
    → ModuleOk m later
unfolding module_rules
module_accepted p m later (kept k6 (kept k7 (kept k8 (kept k9 (kept k10 rest))))) k17 =
    let both = good-both (occurrence_rules p m.occurrences m.inputs later) _ rest in
    let last = good-cons both.1 in
    let k16 = (good-cons last.1).0 in
    record {
      above = omega arith;
      unique = not_found m.number later k7;
      inputs_distinct = is_false (duplicates-tells m.inputs) k8;
      outputs_distinct = is_false (duplicates-tells m.outputs) k9;
      apart = is_true (disjoint-tells m.inputs m.outputs) k10;
      body = body-accepted p m.occurrences m.inputs later both.0;
      outputs_driven = is_true (subset-tells m.outputs (driven m.occurrences)) last.0;
      nets = omega arith;
      size = omega arith;
    }

modules-accepted :
    (p q : ℕ) (ms : List Module) → Outcome (modules_rules p ms) good → Outcome (size_rules q ms) good → Accepted ms
unfolding modules_rules size_rules
modules-accepted p q [] o s = none
modules-accepted p q (m ∷ later) o s =
    let modules = good-both (module_rules p m later) _ o in
    let sizes = good-both (size_rules (suc q) later) _ s in
    some (module_accepted p m later modules.0 (good-cons sizes.1).0)
    (modules-accepted (suc p) (suc q) later modules.1 sizes.0)

pub good-accepted : (ms : List Module) → file_verdict ms ≡ good → Accepted ms
unfolding file_rules
good-accepted ms e =
    let both = good-both (modules_rules 0 ms) (size_rules 0 ms) ((verdict-outcome ms good).0 e) in
    modules-accepted 0 0 ms both.0 both.1

-- Where the list is accepted no rule is broken.
pub body_kept :
    (p : ℕ) {later : List Module} {signals : List ℕ} {os : List Occurrence}
    → Body later signals os
    → Outcome (occurrence_rules p os signals later) good
unfolding occurrence_rules
body_kept p done = all_kept
body_kept p {later} {signals} (step {o = o} ok rest) =
    kept
    (neither (if_false (duplicates-tells o.drives) ok.distinct) (if_true (disjoint-tells o.drives signals) ok.fresh))
    (kept (if_true (subset-tells o.takes signals) ok.bound)
    (kept (reference-resolved ok.reference)
    (kept (reference-matches ok.reference)
    (body_kept p rest))))

-- All but what its occurrences refer to, and who else has its number, is the module's own: it comes to what its occurrences come to in front
-- of other modules too.
pub module_comes :
    (p : ℕ) {m : Module} {later : List Module} (others : List Module) {v : Verdict}
    → ModuleOk m later
    → assoc m.number others ≡ F
    → Outcome (occurrence_rules p m.occurrences m.inputs others) v
    → Outcome (module_rules p m others) (and_then v good)
unfolding module_rules
module_comes p {m} others ok unique body =
    kept (not_below ok.above)
    (kept (if_false (found-tells m.number others) (ap is_box unique))
    (kept (if_false (duplicates-tells m.inputs) ok.inputs_distinct)
    (kept (if_false (duplicates-tells m.outputs) ok.outputs_distinct)
    (kept (if_true (disjoint-tells m.inputs m.outputs) ok.apart)
    (and_then-outcome body
    (kept (if_true (subset-tells m.outputs (driven m.occurrences)) ok.outputs_driven)
    (kept (not_below ok.nets)
    all_kept)))))))

module_kept : (p : ℕ) {m : Module} {later : List Module} → ModuleOk m later → Outcome (module_rules p m later) good
module_kept p {later = later} ok = module_comes p later ok ok.unique (body_kept p ok.body)

modules-kept : (p : ℕ) {ms : List Module} → Accepted ms → Outcome (modules_rules p ms) good
unfolding modules_rules
modules-kept p none = all_kept
modules-kept p (some ok rest) = and_then-outcome (module_kept p ok) (modules-kept (suc p) rest)

sizes-kept : (p : ℕ) {ms : List Module} → Accepted ms → Outcome (size_rules p ms) good
unfolding size_rules
sizes-kept p none = all_kept
sizes-kept p (some ok rest) = and_then-outcome (sizes-kept (suc p) rest) (kept (not_below ok.size) all_kept)

pub accepted-good : {ms : List Module} → Accepted ms → file_verdict ms ≡ good
unfolding file_rules
accepted-good {ms} a = (verdict-outcome ms good).1 (and_then-outcome (modules-kept 0 a) (sizes-kept 0 a))
