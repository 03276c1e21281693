-- What every value of a run on frames has in common: where each gate gives only values that have it, and so do the inputs, all values of
-- the frame and all outputs have it.
use Rattle.std.specs.Prelude.{ℕ, zero, suc, Bool, true, false, cond, eqb, get_or}
use mathlib.Core.List.{List, [], ◌∷◌, ◌++◌}
use Rattle.meaning.specs.Lists.{All, none, more}
use Rattle.meaning.specs.Syntax.{Occurrence, Module}
use Rattle.meaning.specs.Gates.{is_gate}
use Rattle.meaning.specs.Evaluation.{Meaning}
use Rattle.image.specs.Frames.{read_slots, walk_frame, run_frame, run_frames}

-- A meaning gives only such values where it is given only such values.
pub record Gives {A : Type 0} (P : A → Type 0) (f : Meaning A) : Type 0 where
  pub gives : (number : ℕ) {vs : List A} → All P vs → All P (f number vs)

module _ {A : Type 0} {P : A → Type 0} where
  all_append : {xs ys : List A} → All P xs → All P ys → All P (xs ++ ys)
  all_append none b = b
  all_append (more p a) b = more p (all_append a b)

  all_get_d : {xs : List A} (unset : A) → P unset → All P xs → (i : ℕ) → P (get_or xs i unset)
  all_get_d unset p none i = p
  all_get_d unset p (more q a) zero = q
  all_get_d unset p (more q a) (suc i) = all_get_d unset p a i

  pick : (b : Bool) {xs ys : List A} → All P xs → All P ys → All P (cond b xs ys)
  pick true a b = a
  pick false a b = b

  pub all-read_slots : {frame : List A} (unset : A) → P unset → All P frame → (slots : List ℕ) → All P (read_slots unset frame slots)
  unfolding read_slots
  all-read_slots unset p a [] = none
  all-read_slots unset p a (s ∷ slots) = more (all_get_d unset p a s) (all-read_slots unset p a slots)

  module _ (unset : A) (p : P unset) {gate_meaning : Meaning A} (gates : Gives P gate_meaning) where
    pub all-walk_frame :
        {later : Meaning A}
        → Gives P later
        → (os : List Occurrence) {frame : List A}
        → All P frame
        → All P (walk_frame unset gate_meaning later os frame)
    unfolding walk_frame
    all-walk_frame l [] a = a
    all-walk_frame l (o ∷ os) a =
        let args = all-read_slots unset p a o.takes in
        all-walk_frame l os (all_append a (pick (is_gate o.refers) (gates.gives o.refers args) (l.gives o.refers args)))

    pub all-run_frames : (rs : List Module) → Gives P (run_frames unset gate_meaning rs)
    unfolding run_frames run_frame
    all-run_frames [] = record { gives = λ number a. none }
    all-run_frames (m ∷ rs) =
        let later = all-run_frames rs in
        record {
          gives = λ number a.
              pick (eqb number m.number) (all-read_slots unset p (all-walk_frame later m.occurrences a) m.outputs) (later.gives number a);
        }
