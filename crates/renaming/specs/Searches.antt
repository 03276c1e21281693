-- What is asked of a number through a list: the first module that has it answers, and it may ask the later ones. Under other numbers the
-- same modules answer.
use Rattle.std.specs.Prelude.{ℕ, ◌≡◌, refl, Bool, true, false, cond, List, [], ◌∷◌, eqb}
use Rattle.std.proofs.Common.{ap, ◌∙◌}
use Rattle.meaning.specs.Syntax.{Module}
use Rattle.meaning.specs.Gates.{is_gate}
use Rattle.meaning.specs.Boxlist.{Found, box, F, assoc}
use Rattle.renaming.specs.Renamed.{OneToOne, KeepsGates, rename_module, Renamed, none, more}

-- What is said of numbers is related before and after.
pub record Alike {C : Type 0} (R : C → C → Type 0) (number : ℕ → ℕ) (l l' : ℕ → C) : Type 0 where
  pub at : (n : ℕ) → R (l n) (l' (number n))

-- A question that is answered so.
pub record Asks {C : Type 0} (f : List Module → ℕ → C) (of : Module → List Module → C) : Type 0 where
  pub step : (m : Module) (ms : List Module) (x : ℕ) → f (m ∷ ms) x ≡ cond (eqb x m.number) (of m ms) (f ms x)

pub either : {C : Type 0} (R : C → C → Type 0) (b : Bool) {x x' y y' : C} → R x x' → R y y' → R (cond b x y) (cond b x' y')
either R true p q = p
either R false p q = q

module _ {number : ℕ → ℕ} (keeps : KeepsGates number) where
  -- Answers are related where each module's are, given those of the later ones.
  pub asked : {C : Type 0} (R : C → C → Type 0) {f : List Module → ℕ → C} {of : Module → List Module → C} → Asks f of
      → ((x y : ℕ) → R (f [] x) (f [] y))
      → ((net : ℕ → ℕ) → OneToOne net → (m : Module) (ms ns : List Module) → Renamed number ms ns → Alike R number (f ms) (f ns)
      → R (of m ms) (of (rename_module net number m) ns))
      → {ms ns : List Module} → Renamed number ms ns → Alike R number (f ms) (f ns)
  asked R asks empty one none = record { at = λ x. empty x (number x) }
  asked R asks empty one (more {m} {ms} {ns} net o rest) =
      let later = asked R asks empty one rest in
      record {
        at = λ x.
            rw (asks.step m ms x, asks.step (rename_module net number m) ns (number x), keeps.one.tells x m.number)
            (either R (eqb x m.number) (one net o m ms ns rest later) (later.at x));
      }

  pub gate-stays : (n : ℕ) → is_gate (number n) ≡ is_gate n
  gate-stays n = go (is_gate n) refl
    where
      go : (b : Bool) → is_gate n ≡ b → is_gate (number n) ≡ b
      go true e = ap is_gate (keeps.gates n e) ∙ e
      go false e = keeps.modules n e

  -- What a reference comes to, to a gate or to a later module.
  pub referred : {C : Type 0} (R : C → C → Type 0) (of_gate : ℕ → C) {l l' : ℕ → C} → ((n : ℕ) → R (of_gate n) (of_gate n))
      → Alike R number l l'
      → (n : ℕ) → R (cond (is_gate n) (of_gate n) (l n)) (cond (is_gate (number n)) (of_gate (number n)) (l' (number n)))
  referred {C} R of_gate {l} {l'} same later n = rw (gate-stays n) (go (is_gate n) refl)
    where
      go : (b : Bool) → is_gate n ≡ b → R (cond b (of_gate n) (l n)) (cond b (of_gate (number n)) (l' (number n)))
      go true e = rw (keeps.gates n e) (same n)
      go false e = later.at n

-- The module that is found.
pub data FoundAs (number : ℕ → ℕ) : Found → Found → Type 0 where
  both : {m : Module} (net : ℕ → ℕ) → OneToOne net → FoundAs number (box m) (box (rename_module net number m))
  neither : FoundAs number F F

assoc-asks : Asks (λ ms x. assoc x ms) (λ m ms. box m)
unfolding assoc
assoc-asks = record { step = λ m ms x. refl }

pub found_renamed : {number : ℕ → ℕ} → KeepsGates number → {ms ns : List Module} → Renamed number ms ns → (x : ℕ)
    → FoundAs number (assoc x ms) (assoc (number x) ns)
unfolding assoc
found_renamed {number} keeps renamed = (asked keeps (FoundAs number) assoc-asks (λ x y. neither) (λ net one m ms ns rest later. both net one) renamed).at
