-- What rules 6 to 16 give to the resolution of a file. The limit on expanded size, rule 17, is not among them: sizes can be computed
-- from the image, so a file is resolved before that rule is decided.
use Rattle.std.specs.Prelude.{ℕ, suc, ◌≤◌, ◌≡◌, refl, Bool, true, false, not, ◌&&◌, ◌||◌, List, [], ◌∷◌, ◌++◌}
use Rattle.std.proofs.Common.{arith, ltb-false, leb-true}
use Rattle.std.proofs.lemmas.Bool.{not-true}
use Rattle.meaning.specs.Syntax.{Occurrence, Module}
use Rattle.meaning.specs.Gates.{is_gate}
use Rattle.meaning.specs.Boxlist.{duplicates, disjoint, subset, F, assoc, is_box, arity_okp}
use Rattle.meaning.specs.Limits.{driven, net_count, most_module_nets, number_ok, nets_ok}
use Rattle.meaning.specs.Verdict.{Verdict, good, refused, keep, and_then, occurrence_verdict, body_verdict, module_verdict, modules_verdict}
use Rattle.laws.specs.Tests.{if_true, if_false, is_true, is_false, tells_not, tells-and}
use Rattle.laws.specs.Members.{duplicates-tells, disjoint-tells}
use Rattle.laws.specs.Finding.{found-tells, not_found, reference-tells}
use Rattle.laws.specs.WellFormed.{OccurrenceOk, Body, done, step, Accepted}

-- A module in front of the later ones.
pub record ModuleFits (m : Module) (later : List Module) : Type 0 where
  pub above : 16 ≤ m.number
  pub unique : assoc m.number later ≡ F
  pub inputs_distinct : duplicates m.inputs ≡ false
  pub body : Body later m.inputs m.occurrences
  pub outputs_driven : subset m.outputs (driven m.occurrences) ≡ true
  pub nets : net_count m ≤ most_module_nets

-- A file, as its list of modules.
pub data Fits : List Module → Type 0 where
  none : Fits []
  some : {m : Module} {later : List Module} → ModuleFits m later → Fits later → Fits (m ∷ later)

-- An accepted file fits.
pub accepted-fits : {ms : List Module} → Accepted ms → Fits ms
accepted-fits Accepted.none = none
accepted-fits (Accepted.some ok rest) =
    some
    (record {
      above = ok.above;
      unique = ok.unique;
      inputs_distinct = ok.inputs_distinct;
      body = ok.body;
      outputs_driven = ok.outputs_driven;
      nets = ok.nets;
    })
    (accepted-fits rest)

-- So does a file where no module is refused.
keep-good : (number place : ℕ) (b : Bool) (next : Verdict) → keep number place b next ≡ good → (b ≡ true) × (next ≡ good)
keep-good number place true next e = (refl, e)
keep-good number place false next e = absurd (let z : ◌≡◌ {A = ℕ} 0 1 = cc in omega arith)

and_then-good : (first next : Verdict) → and_then first next ≡ good → (first ≡ good) × (next ≡ good)
and_then-good good next e = (refl, e)
and_then-good (refused number place) next e = absurd (let z : ◌≡◌ {A = ℕ} 0 1 = cc in omega arith)

occurrence-good :
    (place : ℕ) (o : Occurrence) (signals : List ℕ) (later : List Module)
    → occurrence_verdict place o signals later ≡ good
    → OccurrenceOk later signals o
unfolding occurrence_verdict
occurrence-good place o signals later e =
    let k11 = keep-good 11 place (not (duplicates o.drives) && disjoint o.drives signals) _ e in
    let drives = if_true (tells-and (tells_not (duplicates-tells o.drives)) (disjoint-tells o.drives signals)) k11.0 in
    let k12 = keep-good 12 place (subset o.takes signals) _ k11.1 in
    let k13 = keep-good 13 place (is_gate o.refers || is_box (assoc o.refers later)) _ k12.1 in
    let k14 = keep-good 14 place (arity_okp o.refers o.takes o.drives later) good k13.1 in
    record {
      distinct = is_false (duplicates-tells o.drives) drives.0;
      fresh = is_true (disjoint-tells o.drives signals) drives.1;
      bound = k12.0;
      reference = if_true (reference-tells o later) k14.0;
    }

body-good :
    (place : ℕ) (os : List Occurrence) (signals : List ℕ) (later : List Module)
    → body_verdict place os signals later ≡ good
    → Body later signals os
unfolding body_verdict
body-good place [] signals later e = done
body-good place (o ∷ os) signals later e =
    let both = and_then-good (occurrence_verdict place o signals later) (body_verdict place os (o.drives ++ signals) later) e in
    step (occurrence-good place o signals later both.0) (body-good place os (o.drives ++ signals) later both.1)

pub module_good : (place : ℕ) (m : Module) (later : List Module) → module_verdict place m later ≡ good → ModuleFits m later
unfolding module_verdict
module_good place m later e =
    let k6 = keep-good 6 place (number_ok m) _ e in
    let k7 = keep-good 7 place (not (is_box (assoc m.number later))) _ k6.1 in
    let k8 = keep-good 8 place (not (duplicates m.inputs)) _ k7.1 in
    let k9 = keep-good 9 place (not (duplicates m.outputs)) _ k8.1 in
    let k10 = keep-good 10 place (disjoint m.inputs m.outputs) _ k9.1 in
    let body = and_then-good (body_verdict place m.occurrences m.inputs later) _ k10.1 in
    let k15 = keep-good 15 place (subset m.outputs (driven m.occurrences)) _ body.1 in
    let k16 = keep-good 16 place (nets_ok m) good k15.1 in
    record {
      above = ltb-false m.number 16 (not-true (is_gate m.number) k6.0);
      unique = not_found m.number later (if_false (found-tells m.number later) (not-true (is_box (assoc m.number later)) k7.0));
      inputs_distinct = not-true (duplicates m.inputs) k8.0;
      body = body-good place m.occurrences m.inputs later body.0;
      outputs_driven = k15.0;
      nets = leb-true (net_count m) most_module_nets k16.0;
    }

pub good-fits : (place : ℕ) (ms : List Module) → modules_verdict place ms ≡ good → Fits ms
unfolding modules_verdict
good-fits place [] e = none
good-fits place (m ∷ later) e =
    let both = and_then-good (module_verdict place m later) (modules_verdict (suc place) later) e in
    some (module_good place m later both.0) (good-fits (suc place) later both.1)
