-- What comes of a call's own rules, 18 to 27, in their order, on the modules of a file: the decision of the call is refused by the
-- first that is broken, and answered where none is.
use Rattle.std.specs.Prelude.{ℕ, suc, ◌+◌, ◌*◌, ◌≤◌, ◌<◌, ◌⊎◌, ◌≢◌, ◌≡◌, refl, Bool, cond, List, [], ◌∷◌, ◌++◌, eqb, leb}
use Rattle.std.proofs.Common.{arith, inl, inr, ap, eq-eqb, ne_eqb}
use Rattle.std.proofs.Math.ListN.{length}
use Rattle.meaning.specs.Syntax.{Module}
use Rattle.meaning.specs.Values.{floating}
use Rattle.meaning.specs.Members.{◌∈◌}
use Rattle.meaning.specs.Boxlist.{Found, box, F, assoc, is_box}
use Rattle.meaning.specs.Layout.{encode}
use Rattle.meaning.specs.Limits.{most_module_nets}
use Rattle.meaning.specs.Rules.{Rule, rule, numbers, Outcome, all_kept, broken, kept}
use Rattle.meaning.specs.Figures.{gate_count, room}
use Rattle.meaning.specs.Calls.{Decision, demand, on_module, first_above, evaluation_on, flat_file, flattening_on, figures_on, answer, Written, writing}
use Rattle.meaning.specs.Rows.{most_rows, rows_evaluation_on}
use Rattle.meaning.specs.CallRules.{came, to_evaluate, to_count, to_flatten, to_rows, Lent, value_rules, call_rules, writer_rules}
use Rattle.laws.specs.Tests.{Tells, tells_true, tells_false, tells, if_true, if_false, eqb_tells, leb_tells}
use Rattle.laws.specs.Finding.{found-tells}
use Rattle.laws.specs.Refusals.{within-tells}

-- A condition that tells whether a rule is broken, in front of the rules after it.
demand-outcome :
    {R B : Type 0} {n p : ℕ} {b : Bool} {rs : List Rule} (next : Decision R)
    → Tells (¬ B) B b
    → Outcome rs (came next)
    → Outcome (rule n p B ∷ rs) (came (demand n p b next))
demand-outcome next (tells_true h) o = kept h o
demand-outcome next (tells_false h) o = broken h

-- 18, in front of the rules of the module found.
module_outcome :
    {R : Type 0} {rs : List Rule} (number : ℕ) (ms : List Module) (ask : Module → Decision R)
    → ((m : Module) → assoc number ms ≡ box m → Outcome rs (came (ask m)))
    → Outcome (rule 18 0 (¬ (number ∈ numbers ms)) ∷ rs) (came (on_module (assoc number ms) ask))
module_outcome {rs = rs} number ms ask o = go (assoc number ms) refl
  where
    go : (f : Found) → assoc number ms ≡ f → Outcome (rule 18 0 (¬ (number ∈ numbers ms)) ∷ rs) (came (on_module f ask))
    go (box m) e = kept (λ (out : ¬ (number ∈ numbers ms)). out (if_true (found-tells number ms) (ap is_box e))) (o m e)
    go F e = broken (if_false (found-tells number ms) (ap is_box e))

-- Numbers one more are equal where the numbers are.
eqb_suc : (a b : ℕ) → eqb (suc a) (suc b) ≡ eqb a b
eqb_suc a b = go (eqb_tells a b)
  where
    go : {t : Bool} → Tells (a ≡ b) (a ≢ b) t → eqb (suc a) (suc b) ≡ t
    go (tells_true e) = eq-eqb (suc a) (suc b) (ap suc e)
    go (tells_false h) = ne_eqb (suc a) (suc b) (λ e. h (omega arith))

-- 20, at the first value that is too large.
values-outcome :
    {R : Type 0} {rs : List Rule} (i place : ℕ) (values : List ℕ) (next : Decision R)
    → place ≡ i + first_above values
    → Outcome rs (came next)
    → Outcome (value_rules i values ++ rs) (came (demand 20 place (eqb (first_above values) (length values)) next))
unfolding value_rules first_above
values-outcome i place [] next there o = o
values-outcome {rs = rs} i place (x ∷ xs) next there o = go (leb_tells x floating) there (λ e. values-outcome (suc i) place xs next e o)
  where
    go :
        {b : Bool}
        → Tells (x ≤ floating) (floating < x) b
        → place ≡ i + cond b (suc (first_above xs)) 0
        → (place ≡ suc i + first_above xs → Outcome (value_rules (suc i) xs ++ rs) (came (demand 20 place (eqb (first_above xs) (length xs)) next)))
        → Outcome (rule 20 i (floating < x) ∷ (value_rules (suc i) xs ++ rs))
        (came (demand 20 place (eqb (cond b (suc (first_above xs)) 0) (suc (length xs))) next))
    go (tells_true h) there further =
        kept (λ (l : floating < x). omega arith) (rw (← eqb_suc (first_above xs) (length xs)) at (further (omega arith)))
    go (tells_false h) there further =
        let here : place ≡ i = omega arith in
        rw (here, ne_eqb 0 (suc (length xs)) (λ e. omega arith)) (broken h)

-- The tests of 19, 21, 22 and 24 beside their rules.
count-tells : (a b : ℕ) → Tells (¬ (a ≢ b)) (a ≢ b) (eqb a b)
count-tells a b = tells (λ e other. other e) (λ h. h) (eqb_tells a b)

module _ (ms : List Module) (lent : Lent) where
  pub evaluation-outcome :
      (number : ℕ) (values : List ℕ)
      → Outcome (call_rules (to_evaluate number values) lent ms)
      (came (on_module (assoc number ms) (evaluation_on number values (length lent.scratch) (length lent.out) ms)))
  unfolding call_rules
  evaluation-outcome number values =
      module_outcome number ms _ λ m found.
      rw found
      (demand-outcome _ (count-tells (length values) (length m.inputs))
      (values-outcome 0 _ values _ (omega arith)
      (demand-outcome _ (within-tells (room ms number) (length lent.scratch))
      (demand-outcome _ (within-tells (length m.outputs) (length lent.out))
      all_kept))))

  pub counting-outcome :
      (number : ℕ)
      → Outcome (call_rules (to_count number) lent ms)
      (came
      (on_module (assoc number ms) λ m.
      demand 21 0 (leb (room ms number) (length lent.scratch)) (answer (figures_on number ms m))))
  unfolding call_rules
  counting-outcome number =
      module_outcome number ms _ λ m found.
      demand-outcome _ (within-tells (room ms number) (length lent.scratch))
      all_kept

  pub flattening-outcome :
      (number : ℕ)
      → Outcome (call_rules (to_flatten number) lent ms)
      (came (on_module (assoc number ms) (flattening_on number (length lent.scratch) (length lent.out) ms)))
  unfolding call_rules flat_file
  flattening-outcome number =
      module_outcome number ms _ λ m found.
      rw found
      (demand-outcome _ (within-tells (length m.inputs + gate_count ms number) most_module_nets)
      (demand-outcome _ (within-tells (room ms number) (length lent.scratch))
      (demand-outcome _ (within-tells (length (flat_file ms number m)) (length lent.out))
      all_kept)))

  pub rows-outcome :
      (number rows : ℕ) (values : List ℕ)
      → Outcome (call_rules (to_rows number rows values) lent ms)
      (came (on_module (assoc number ms) (rows_evaluation_on number rows values (length lent.scratch) (length lent.out) ms)))
  unfolding call_rules
  rows-outcome number rows values =
      module_outcome number ms _ λ m found.
      rw found
      (demand-outcome _ (within-tells rows most_rows)
      (demand-outcome _ (count-tells (length values) (rows * length m.inputs))
      (values-outcome 0 _ values _ (omega arith)
      (demand-outcome _ (within-tells (room ms number) (length lent.scratch))
      (demand-outcome _ (within-tells (rows * length m.outputs) (length lent.out))
      all_kept)))))

-- The writers' own: 23, made of two tests, and 22.
pub writing-outcome :
    (modules : ℕ → List Module) (width : ℕ) (out : List ℕ)
    → Outcome (writer_rules modules width out) (came (writing modules width (length out)))
unfolding writer_rules writing
writing-outcome modules width out =
    go _ (leb_tells 1 width) (leb_tells width 64)
    (demand-outcome _ (within-tells (length (encode (modules width))) (length out)) all_kept)
  where
    inside : 1 ≤ width → width ≤ 64 → ¬ ((width < 1) ⊎ (64 < width))
    inside some most (inl l) = omega arith
    inside some most (inr l) = omega arith

    go :
        {a b : Bool} {rs : List Rule} (next : Decision Written)
        → Tells (1 ≤ width) (width < 1) a
        → Tells (width ≤ 64) (64 < width) b
        → Outcome rs (came next)
        → Outcome (rule 23 0 ((width < 1) ⊎ (64 < width)) ∷ rs) (came (demand 23 0 a (demand 23 0 b next)))
    go next (tells_true some) (tells_true most) o = kept (inside some most) o
    go next (tells_true some) (tells_false l) o = broken (inr l)
    go next (tells_false l) t o = broken (inl l)
