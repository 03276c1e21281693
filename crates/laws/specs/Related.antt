-- Related values in, related values out: one list of modules, run on values of two kinds, gives related outputs for related inputs.
-- The relation may be any that gates keep and that holds between what the two runs read at a net that nothing gave a value.
-- Nothing is asked of the list. That evaluation is monotone and what it does on known bits are two instances.
use Rattle.std.specs.Prelude.{ℕ, ◌≡◌, refl, Bool, true, false, cond, eqb}
use mathlib.Core.List.Forall₂.{cons as more}
use mathlib.Core.List.Forall₂.{nil as none}
use mathlib.Core.List.{List, [], ◌∷◌, ◌++◌, Forall₂}
use Rattle.meaning.specs.Syntax.{Occurrence, Module}
use Rattle.meaning.specs.Gates.{is_gate}
use Rattle.meaning.specs.Evaluation.{Binding, Env, look, look_all, pairs, Meaning, apply, walk, run_module, run}

-- Lists of one length, related entry by entry, are `Forall₂`; one after the other they are again.
forall₂-append :
    {A B : Type 0} {R : A → B → Type 0} {xs xs' : List A} {ys ys' : List B}
    → Forall₂ R xs ys
    → Forall₂ R xs' ys'
    → Forall₂ R (xs ++ xs') (ys ++ ys')
forall₂-append none rest = rest
forall₂-append (more r rs) rest = more r (forall₂-append rs rest)

-- Two bindings of one net, to related values.
pub record Bound {A B : Type 0} (R : A → B → Type 0) (x : Binding A) (y : Binding B) : Type 0 where
  pub same-net : x.net ≡ y.net
  pub values : R x.value y.value

-- Two meanings that take related lists to related lists.
pub record Respects {A B : Type 0} (R : A → B → Type 0) (f : Meaning A) (g : Meaning B) : Type 0 where
  pub keeps : (number : ℕ) {vs : List A} {ws : List B} → Forall₂ R vs ws → Forall₂ R (f number vs) (g number ws)

-- A test picks one of two related pairs.
module _ {A B : Type 0} (R : A → B → Type 0) where
  cond-related : (b : Bool) {x y : A} {x' y' : B} → R x x' → R y y' → R (cond b x y) (cond b x' y')
  cond-related true p q = p
  cond-related false p q = q

module _ {A B : Type 0} (R : A → B → Type 0) (none_a : A) (none_b : B) (unset : R none_a none_b) where
  pub look-related : (net : ℕ) {e : Env A} {f : Env B} → Forall₂ (Bound R) e f → R (look none_a net e) (look none_b net f)
  unfolding look
  look-related net none = unset
  look-related net (more {b = y} bound rest) =
      rw bound.same-net (cond-related R (eqb net y.net) bound.values (look-related net rest))

  look_all-related :
      (nets : List ℕ) {e : Env A} {f : Env B} → Forall₂ (Bound R) e f → Forall₂ R (look_all none_a nets e) (look_all none_b nets f)
  unfolding look_all
  look_all-related [] env = none
  look_all-related (net ∷ nets) env = more (look-related net env) (look_all-related nets env)

  pub pairs-related :
      (nets : List ℕ) {vs : List A} {ws : List B}
      → Forall₂ R vs ws
      → Forall₂ (Bound R) (pairs none_a nets vs) (pairs none_b nets ws)
  unfolding pairs
  pairs-related [] vs = none
  pairs-related (net ∷ nets) none = more (record { same-net = refl; values = unset }) (pairs-related nets none)
  pairs-related (net ∷ nets) (more v vs) = more (record { same-net = refl; values = v }) (pairs-related nets vs)

  module _ {f : Meaning A} {g : Meaning B} (gates : Respects R f g) where
    apply-related :
        {l : Meaning A} {l' : Meaning B}
        → Respects R l l'
        → (number : ℕ) {vs : List A} {ws : List B}
        → Forall₂ R vs ws
        → Forall₂ R (apply f l number vs) (apply g l' number ws)
    apply-related later number vs = cond-related (Forall₂ R) (is_gate number) (gates.keeps number vs) (later.keeps number vs)

    pub walk-related :
        {l : Meaning A} {l' : Meaning B}
        → Respects R l l'
        → (os : List Occurrence) {e : Env A} {e' : Env B}
        → Forall₂ (Bound R) e e'
        → Forall₂ (Bound R) (walk none_a f l os e) (walk none_b g l' os e')
    unfolding walk
    walk-related later [] env = env
    walk-related later (o ∷ os) env =
        let outputs = apply-related later o.refers (look_all-related o.takes env) in
        walk-related later os (forall₂-append (pairs-related o.drives outputs) env)

    run_module-related :
        {l : Meaning A} {l' : Meaning B}
        → Respects R l l'
        → (m : Module) {vs : List A} {ws : List B}
        → Forall₂ R vs ws
        → Forall₂ R (run_module none_a f l m vs) (run_module none_b g l' m ws)
    unfolding run_module
    run_module-related later m vs =
        look_all-related m.outputs (walk-related later m.occurrences (pairs-related m.inputs vs))

    pub run-related : (ms : List Module) → Respects R (run none_a f ms) (run none_b g ms)
    unfolding run
    run-related [] = record { keeps = λ number vs. none }
    run-related (m ∷ ms) =
        let later = run-related ms in
        record {
          keeps = λ number vs.
              cond-related (Forall₂ R) (eqb number m.number) (run_module-related later m vs) (later.keeps number vs);
        }
