-- Demand 1, a theorem for each sentence. `RulesName` of the definitions says which refusal the rules name for a call, or that they name
-- none; that calls end, and take any bytes, is what the check of the code proves of functions that ask for nothing.
use Rattle.std.specs.Prelude.{ℕ, ◌↔◌, ◌≡◌, refl, List, length}
use Rattle.std.proofs.Common.{subst}
use Rattle.meaning.specs.Syntax.{Module}
use Rattle.meaning.specs.Ceilings.{Bytes}
use Rattle.meaning.specs.Verdict.{Verdict, refused, verdict}
use Rattle.meaning.specs.Rules.{Outcome}
use Rattle.meaning.specs.Calls.{out_after, evaluation, counting, flattening, writing}
use Rattle.meaning.specs.Rows.{rows_evaluation}
use Rattle.meaning.specs.CallRules.{Call, to_check, to_evaluate, to_count, to_flatten, to_rows, Lent, came, comes_to, leaves, RulesName, writer_rules}
use Rattle.laws.specs.Outcomes.{outcome-unique}
use Rattle.laws.specs.CallOutcomes.{writing-outcome}
use Rattle.laws.specs.Demands.Naming.{comes_to-named, named-once, refused-came, refused-first}

module _ (file : List ℕ) (bytes : Bytes file) (c : Call) (lent : Lent) where
  -- "Every byte sequence and every value list is taken, and every call ends.": whatever the bytes, the call and the buffers, the rules
  -- name one outcome,
  pub one-outcome-named : (v : Verdict) × RulesName file c lent v × ((w : Verdict) → RulesName file c lent w → w ≡ v)
  one-outcome-named =
      let named = comes_to-named file bytes c lent in
      (comes_to file c lent, named, λ w other. named-once bytes other named)

  -- and "Each bad file or call gets the one refusal the rules name, with its place; everything else is answered."
  pub as_the_rules-name : (v : Verdict) → comes_to file c lent ≡ v ↔ RulesName file c lent v
  as_the_rules-name v =
      let named = comes_to-named file bytes c lent in
      ((λ e. subst (RulesName file c lent) e named), named-once bytes named)

-- The same of the writers, which take no file.
pub writers_as_the_rules-name :
    (modules : ℕ → List Module) (width : ℕ) (out : List ℕ) (v : Verdict)
    → came (writing modules width (length out)) ≡ v ↔ Outcome (writer_rules modules width out) v
writers_as_the_rules-name modules width out v =
    let outcome = writing-outcome modules width out in
    ((λ e. subst (Outcome (writer_rules modules width out)) e outcome), outcome-unique outcome)

-- "A refusal changes nothing in any lent buffer."
pub refusal_changes_nothing :
    (file : List ℕ) (c : Call) (lent : Lent) (number place : ℕ) → comes_to file c lent ≡ refused number place → leaves file c lent ≡ lent
unfolding comes_to leaves
refusal_changes_nothing file to_check lent number place h = refl
refusal_changes_nothing file (to_evaluate number values) lent n p h =
    rw (refused-came (evaluation file number values (length lent.scratch) (length lent.out)) h)
refusal_changes_nothing file (to_count number) lent n p h = rw (refused-came (counting file number (length lent.scratch)) h)
refusal_changes_nothing file (to_flatten number) lent n p h =
    rw (refused-came (flattening file number (length lent.scratch) (length lent.out)) h)
refusal_changes_nothing file (to_rows number rows values) lent n p h =
    rw (refused-came (rows_evaluation file number rows values (length lent.scratch) (length lent.out)) h)

pub writers_refusal_changes_nothing :
    (modules : ℕ → List Module) (width : ℕ) (out : List ℕ) (number place : ℕ)
    → came (writing modules width (length out)) ≡ refused number place
    → out_after (writing modules width (length out)) out ≡ out
writers_refusal_changes_nothing modules width out number place h = rw (refused-came (writing modules width (length out)) h)

-- "No caller has to check first." Every call gives the check's refusal of the file.
pub no_check_first :
    (file : List ℕ) (number place : ℕ)
    → verdict file ≡ refused number place
    → (c : Call) (lent : Lent)
    → comes_to file c lent ≡ refused number place
unfolding comes_to evaluation counting flattening rows_evaluation
no_check_first file number place h to_check lent = h
no_check_first file number place h (to_evaluate n values) lent = refused-first file h _
no_check_first file number place h (to_count n) lent = refused-first file h _
no_check_first file number place h (to_flatten n) lent = refused-first file h _
no_check_first file number place h (to_rows n rows values) lent = refused-first file h _
