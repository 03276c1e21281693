-- In each row a wide run gives what running the row alone gives: the value of a row is kept at every gate, so it is kept by a file.
use Rattle.std.specs.Prelude.{ℕ, zero, suc, ◌+◌, ◌≤◌, ◌<◌, false, ◌≡◌, refl, length, get_or, drop}
use mathlib.Core.List.Forall₂.{cons as more}
use mathlib.Core.List.Forall₂.{nil as none}
use mathlib.Core.List.{List, [], Forall₂}
use Rattle.std.proofs.Common.{sym, ap, ◌∙◌}
use Rattle.std.proofs.Math.Path.{subst}
use Rattle.std.proofs.Math.ListN.{get_or-eq_default}
use Rattle.meaning.specs.Values.{Val, known, by_fillings}
use Rattle.meaning.specs.Syntax.{Module}
use Rattle.meaning.specs.Gates.{gate, gates, gate_value}
use Rattle.meaning.specs.Boxlist.{box, assoc}
use Rattle.meaning.specs.Evaluation.{gate_outputs, run, evaluate}
use Rattle.laws.specs.Folds.{firsts, constant}
use Rattle.laws.specs.WellFormed.{Accepted}
use Rattle.laws.specs.Related.{Respects, run-related}
use Rattle.gates.specs.Kind.{kind_of}
use Rattle.gates.specs.Gates.{gate-of-kind, module_of-kind}
use Rattle.gates.specs.Folds.{fold_on, folded, result_of}
use Rattle.gates.specs.declared.Rule.{Rule}
use Rattle.gates.specs.declared.Rule.TheVariants.{And, Nand, Or, Nor, Xor, Eqv}
use Rattle.gates.specs.declared.Kind.{Kind}
use Rattle.gates.specs.declared.Kind.TheVariants.{Gate}
use Rattle.gates.specs.declared.Kind.TheVariants as kinds
use Rattle.gates.specs.declared.folds.Fold.{Fold}
use Rattle.gates.specs.declared.folds.Fold.TheVariants.{All, Any, Odd}
use Rattle.image.specs.Resolved.{position_of, resolve}
use Rattle.image.specs.Fitting.{accepted-fits}
use Rattle.image.specs.Frames.{run_frames}
use Rattle.image.specs.FramesMean.{frames_mean}
use Rattle.lanes.specs.Entries.{Holds, holds_not, holds-step, holds-start, holds-none}
use Rattle.run_walk.specs.Work.{meaning_of}
use Rattle.run_wide.specs.Wide.{rows_on, rows_fold, rows_result, rows_kind, rows_work}

module _ {A B : Type 0} {R : A → B → Type 0} where
  first-related : {xs : List A} {ys : List B} {d : A} {e : B} → Forall₂ R xs ys → R d e → R (get_or xs 0 d) (get_or ys 0 e)
  first-related none r = r
  first-related (more x rest) r = x

  rest-related : {xs : List A} {ys : List B} → Forall₂ R xs ys → Forall₂ R (drop 1 xs) (drop 1 ys)
  rest-related none = none
  rest-related (more x rest) = rest

  firsts-related : (n : ℕ) {xs : List A} {ys : List B} {d : A} {e : B} → Forall₂ R xs ys → R d e → Forall₂ R (firsts d n xs) (firsts e n ys)
  firsts-related zero rs r = none
  firsts-related (suc n) rs r = more (first-related rs r) (firsts-related n (rest-related rs) r)

no_gate : (number : ℕ) (vs : List Val) → 16 ≤ number → gate_value number vs ≡ known false
unfolding gate_value gate gates
no_gate number vs above = ap (λ g. by_fillings g.function vs) (get_or-eq_default gates _ above) ∙ constant false vs

-- A row: a word, and a place in it.
module _ {q i : ℕ} (word : q < 4) (place : i < 64) where
  on-related : (fold : Fold) {xs : List (List ℕ)} {vs : List Val} → Forall₂ (Holds q i) xs vs
      → {x : List ℕ} {v : Val} → Holds q i x v → Holds q i (rows_on fold x xs) (fold_on fold v vs)
  on-related fold none h = h
  on-related fold (more r rest) h = on-related fold rest (holds-step word place fold h r)

  fold-related : (fold : Fold) {xs : List (List ℕ)} {vs : List Val} → Forall₂ (Holds q i) xs vs → Holds q i (rows_fold fold xs) (folded fold vs)
  unfolding rows_fold folded
  fold-related fold rs = on-related fold rs (holds-start word place fold)

  result-related : (rule : Rule) {xs : List (List ℕ)} {vs : List Val} → Forall₂ (Holds q i) xs vs → Holds q i (rows_result rule xs) (result_of rule vs)
  unfolding rows_result result_of
  result-related And rs = fold-related All rs
  result-related Nand rs = holds_not word place (fold-related All rs)
  result-related Or rs = fold-related Any rs
  result-related Nor rs = holds_not word place (fold-related Any rs)
  result-related Xor rs = fold-related Odd rs
  result-related Eqv rs = holds_not word place (fold-related Odd rs)

  kind-related : (number : ℕ) {xs : List (List ℕ)} {vs : List Val} → Forall₂ (Holds q i) xs vs
      → (kind : Kind) → kind_of number ≡ kind → Holds q i (rows_kind kind xs) (gate_value number vs)
  unfolding rows_kind
  kind-related number {xs} {vs} rs (kinds.Gate rule arity) e =
      subst (Holds q i (rows_result rule (firsts [] arity xs))) ((gate-of-kind number e).on_values vs)
      (result-related rule (firsts-related arity rs (holds-none q i)))
  kind-related number {xs} {vs} rs kinds.Module e =
      subst (Holds q i []) (sym (no_gate number vs (module_of-kind number e))) (holds-none q i)

  -- What a gate makes of the rows is what it makes of each,
  rows_respected : Respects (Holds q i) (meaning_of rows_work) gate_outputs
  rows_respected = record { keeps = λ number rs. more (kind-related number rs (kind_of number) refl) none }

  -- and so is what a module makes of them.
  pub wide-means :
      {ms : List Module}
      → Accepted ms
      → (number : ℕ) (m : Module)
      → assoc number ms ≡ box m
      → {entries : List (List ℕ)} {values : List Val}
      → length entries ≡ length m.inputs
      → Forall₂ (Holds q i) entries values
      → Forall₂ (Holds q i) (run_frames [] (meaning_of rows_work) (resolve ms) (16 + position_of number ms) entries) (evaluate ms number values)
  unfolding evaluate
  wide-means {ms} accepted number m found {entries} {values} count rs =
      subst (λ (l : List (List ℕ)). Forall₂ (Holds q i) l (run (known false) gate_outputs ms number values))
      (sym (frames_mean [] (meaning_of rows_work) (λ kind xs h. refl) (accepted-fits accepted) number m found entries count))
      ((run-related (Holds q i) [] (known false) (holds-none q i) rows_respected ms).keeps number rs)
