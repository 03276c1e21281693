-- Outcomes of rules in their order: an outcome is determined, and the combinators `keep` and `and_then` of a verdict are the next
-- rule and the next list of rules.
use Rattle.std.specs.Prelude.{ℕ, ◌≡◌, refl, Bool, List, [], ◌∷◌, ◌++◌}
use Rattle.meaning.specs.Verdict.{Verdict, good, refused, keep, and_then}
use Rattle.meaning.specs.Rules.{Rule, rule, Outcome, all_kept, broken, kept}
use Rattle.laws.specs.Tests.{Tells, tells_true, tells_false}

pub outcome-unique : {rs : List Rule} {v w : Verdict} → Outcome rs v → Outcome rs w → v ≡ w
outcome-unique all_kept all_kept = refl
outcome-unique (broken b) (broken b') = refl
outcome-unique (broken b) (kept h o) = absurd (h b)
outcome-unique (kept h o) (broken b) = absurd (h b)
outcome-unique (kept h o) (kept h' o') = outcome-unique o o'

-- A test that tells whether a rule is broken, in front of the rules after it, which come only where it is kept.
pub keep-outcome :
    {n p : ℕ} {B : Type 0} {b : Bool} {rs : List Rule} {v : Verdict}
    → Tells (¬ B) B b
    → (¬ B → Outcome rs v)
    → Outcome (rule n p B ∷ rs) (keep n p b v)
keep-outcome (tells_true h) o = kept h (o h)
keep-outcome (tells_false h) o = broken h

pub and_then-outcome : {rs qs : List Rule} {v w : Verdict} → Outcome rs v → Outcome qs w → Outcome (rs ++ qs) (and_then v w)
and_then-outcome all_kept q = q
and_then-outcome (broken b) q = broken b
and_then-outcome (kept h o) q = kept h (and_then-outcome o q)

-- Where nothing is broken the first rule is kept, and nothing of the others is broken.
pub good-cons : {r : Rule} {rs : List Rule} → Outcome (r ∷ rs) good → (¬ r.Broken) × Outcome rs good
good-cons (kept h o) = (h, o)

-- Where nothing of two lists is broken, nothing of either is.
pub good-both : (rs qs : List Rule) → Outcome (rs ++ qs) good → Outcome rs good × Outcome qs good
good-both [] qs o = (all_kept, o)
good-both (r ∷ rs) qs (kept h o) = let both = good-both rs qs o in (kept h both.0, both.1)

-- What two lists refuse, the first refuses or the second.
pub refused-either :
    {n p : ℕ} {C : Type 0} (rs qs : List Rule)
    → (Outcome rs (refused n p) → C)
    → (Outcome qs (refused n p) → C)
    → Outcome (rs ++ qs) (refused n p)
    → C
refused-either [] qs f g o = g o
refused-either (r ∷ rs) qs f g (broken b) = f (broken b)
refused-either (r ∷ rs) qs f g (kept h o) = refused-either rs qs (λ c. f (kept h c)) g o
