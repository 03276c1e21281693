-- Occurrences that the check lets pass one after the other, and what is then said of the nets that are there at the end. A proof goes
-- through a list of occurrences from its front, and hands what it knows of the nets to the proof for the rest.
use Rattle.std.specs.Prelude.{ℕ, ◌≡◌, refl, Bool, true, false, ◌||◌, List, [], ◌∷◌, ◌++◌}
use Rattle.std.proofs.Math.Bool.{or_assoc, or-false}
use Rattle.std.proofs.Common.{ne_eqb}
use Rattle.meaning.specs.Syntax.{Occurrence, Module}
use Rattle.meaning.specs.Boxlist.{member}
use Rattle.meaning.specs.Limits.{driven}
use Rattle.laws.specs.WellFormed.{OccurrenceOk, Body, done, step}
use Rattle.laws.specs.Adder.Distinct.{member-cons, member-append}

module _ (later : List Module) (Final : List ℕ → Type 0) where
  pub data Runs : (signals : List ℕ) → List Occurrence → Type 0 where
    ends : {signals : List ℕ} → Final signals → Runs signals []
    next :
        {signals : List ℕ} {o : Occurrence} {os : List Occurrence}
        → OccurrenceOk later signals o
        → Runs (o.drives ++ signals) os
        → Runs signals (o ∷ os)

module _ {later : List Module} {Final : List ℕ → Type 0} where
  pub runs-body : {signals : List ℕ} {os : List Occurrence} → Runs later Final signals os → Body later signals os
  runs-body (ends f) = done
  runs-body (next ok rest) = step ok (runs-body rest)

-- A net that is there at the end was there before or has been driven.
swapped : (a b c : Bool) → (a || (b || c)) ≡ (b || (a || c))
swapped true true c = refl
swapped true false c = refl
swapped false b c = refl

there-or-driven :
    {later : List Module} (x : ℕ) {signals : List ℕ} {os : List Occurrence}
    → Runs later (λ at-end. member x at-end ≡ true) signals os
    → (member x (driven os) || member x signals) ≡ true
unfolding driven member
there-or-driven x (ends f) = f
there-or-driven x {signals} (next {o = o} {os = os} ok rest) =
    rw (
      member-append x o.drives (driven os),
      or_assoc (member x o.drives) (member x (driven os)) (member x signals),
      swapped (member x o.drives) (member x (driven os)) (member x signals),
      ← member-append x o.drives signals,
    )
    (there-or-driven x rest)

pub runs_drive :
    {later : List Module} (x : ℕ) {signals : List ℕ} {os : List Occurrence}
    → member x signals ≡ false
    → Runs later (λ at-end. member x at-end ≡ true) signals os
    → member x (driven os) ≡ true
runs_drive x {os = os} out runs = rw (out, or-false (member x (driven os))) at (there-or-driven x runs)

-- A net behind one more.
pub behind : (x y : ℕ) (signals : List ℕ) → member x signals ≡ true → member x (y ∷ signals) ≡ true
behind x y signals held = member-cons x y signals (λ other. held)

pub not_behind : (x y : ℕ) (signals : List ℕ) → (x ≡ y → ⊥) → member x signals ≡ false → member x (y ∷ signals) ≡ false
unfolding member
not_behind x y signals other out = rw (ne_eqb x y other) out
