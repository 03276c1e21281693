-- Resolution keeps the figures of a module that go by what its occurrences refer to: expanded size, gates counted with any weight, and
-- room.
use Prim.Native.Nat.{ℕ, suc, ◌+◌, max}
use Rattle.std.specs.Prelude.{◌≡◌, cond, List, map}
use Rattle.std.proofs.Math.Path.{refl, ap₂}
use Rattle.meaning.specs.Syntax.{Occurrence, Module}
use Rattle.meaning.specs.Gates.{is_gate}
use Rattle.meaning.specs.Boxlist.{box, assoc}
use Rattle.meaning.specs.Limits.{body_size, expanded_size}
use Rattle.meaning.specs.Figures.{body_weight, gate_weight, largest_referred, room}
use Rattle.laws.specs.WellFormed.{Reference, to_gate, to_module, Body, done, step}
use Rattle.image.specs.Resolved.{position_of, slot_in, resolve_occurrence, resolve_module, resolve_from, resolve}
use Rattle.image.specs.Fitting.{Fits}
use Rattle.image.specs.Shapes.{net_count-of-resolved}
use Rattle.image.specs.Searching.{expanded_size-search, gate_weight-search, room-search}
use Rattle.image.specs.Referring.{Refers, refer_no_gate}
use Rattle.image.specs.Keeping.{Kept, kept_in_file}

-- A figure of a module is the same after resolution.
abbrev pub Equal : {C : Type 0} → Module → C → C → Type 0
Equal m figure figure' = figure' ≡ figure

-- What is said of gates and of later modules is the same of a reference before and after resolution.
pub record SameReferred {C : Type 0} (refer : ℕ → ℕ) (later : List Module) (l l' : ℕ → C) : Type 0 where
  pub same :
      (of_gate : ℕ → C) (o : Occurrence)
      → Reference later o
      → cond (is_gate (refer o.refers)) (of_gate (refer o.refers)) (l' (refer o.refers))
      ≡ cond (is_gate o.refers) (of_gate o.refers) (l o.refers)

pub references_same :
    {C : Type 0} {f : List Module → ℕ → C} {refer : ℕ → ℕ} {position : ℕ} {later : List Module}
    → Refers refer position later
    → Kept Equal f f refer position later
    → SameReferred refer later (f later) (f (resolve_from refer position later))
references_same {C} {f} {refer} {position} {later} refers before = record { same = same }
  where
    same :
        (of_gate : ℕ → C) (o : Occurrence)
        → Reference later o
        → cond (is_gate (refer o.refers)) (of_gate (refer o.refers)) (f (resolve_from refer position later) (refer o.refers))
        ≡ cond (is_gate o.refers) (of_gate o.refers) (f later o.refers)
    same of_gate o (to_gate h arity drives) = rw (refers.gates o.refers h, h)
    same of_gate o (to_module m h e takes drives) = rw (refer_no_gate refers o.refers m e, h) (before.kept o.refers m e)

-- The same summed up over occurrences.
module _ {refer : ℕ → ℕ} {later : List Module} {l l' : ℕ → ℕ} (references : SameReferred refer later l l') (slot : ℕ → ℕ) where
  pub body_size-kept :
      {signals : List ℕ} {os : List Occurrence}
      → Body later signals os
      → body_size l' (map (resolve_occurrence slot refer) os) ≡ body_size l os
  unfolding body_size
  body_size-kept done = refl
  body_size-kept (step {o} ok rest) =
      ap₂ (λ (a b : ℕ). suc a + b) (references.same (λ kind. 0) o ok.reference) (body_size-kept rest)

  body_weight-kept :
      (weight : ℕ → ℕ) {signals : List ℕ} {os : List Occurrence}
      → Body later signals os
      → body_weight weight l' (map (resolve_occurrence slot refer) os) ≡ body_weight weight l os
  unfolding body_weight
  body_weight-kept weight done = refl
  body_weight-kept weight (step {o} ok rest) = ap₂ ◌+◌ (references.same weight o ok.reference) (body_weight-kept weight rest)

  pub largest_referred-kept :
      {signals : List ℕ} {os : List Occurrence}
      → Body later signals os
      → largest_referred l' (map (resolve_occurrence slot refer) os) ≡ largest_referred l os
  unfolding largest_referred
  largest_referred-kept done = refl
  largest_referred-kept (step {o} ok rest) =
      ap₂ max (references.same (λ kind. 0) o ok.reference) (largest_referred-kept rest)

module _ {ms : List Module} (fits : Fits ms) (number : ℕ) (m : Module) (found : assoc number ms ≡ box m) where
  pub expanded_size-resolved : expanded_size (resolve ms) (16 + position_of number ms) ≡ expanded_size ms number
  unfolding resolve_module
  expanded_size-resolved =
      kept_in_file Equal expanded_size-search expanded_size-search
      (λ refer position m later turn.
      body_size-kept (references_same turn.refers turn.before) (slot_in m) turn.ok.body)
      fits number m found

  pub gate_weight-resolved :
      (weight : ℕ → ℕ) → gate_weight weight (resolve ms) (16 + position_of number ms) ≡ gate_weight weight ms number
  unfolding resolve_module
  gate_weight-resolved weight =
      kept_in_file Equal (gate_weight-search weight) (gate_weight-search weight)
      (λ refer position m later turn.
      body_weight-kept (references_same turn.refers turn.before) (slot_in m) weight turn.ok.body)
      fits number m found

  pub room-resolved : room (resolve ms) (16 + position_of number ms) ≡ room ms number
  unfolding resolve_module
  room-resolved =
      kept_in_file Equal room-search room-search
      (λ refer position m later turn.
      ap₂ ◌+◌ (net_count-of-resolved refer position m)
      (largest_referred-kept (references_same turn.refers turn.before) (slot_in m) turn.ok.body))
      fits number m found
