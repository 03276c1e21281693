-- What checking the occurrences of a module asks and answers.
use Rattle.std.specs.Prelude.{ℕ, Result, Ok, Err, ◌+◌, ◌≤◌, ◌≡◌, List, map, length}
use Rattle.meaning.specs.Syntax.{Occurrence, Module}
use Rattle.meaning.specs.Layout.{each, occurrence_numbers}
use Rattle.meaning.specs.Verdict.{Verdict, good, refused, body_verdict}
use Rattle.nets.specs.Slots.{Knows, Below}
use Rattle.image.specs.Stands.{Stands}
use Rattle.image.specs.Laid.{laid}
use Rattle.image.specs.Resolved.{refer_to, resolve_occurrence, slot_in, nets_of}
use Rattle.check_sizes.specs.Walks.{Summed}
use Rattle.check_sizes.specs.declared.Sums.{Sums}
use Rattle.check_lists.specs.Scene.{Scene, Indexes, Figured}
use Rattle.check_bodies.specs.Occurrences.{Placed}
use Rattle.check_bodies.specs.declared.occurrences.Walked.{Walked}

-- The module's occurrences stand at a place, and the table knows its inputs.
pub record BodyReady
    (numbers first inputs outputs slots : List ℕ) (base k from count width : ℕ) (sizes rooms : List ℕ) : Type 0 where
  pub scene : Scene first inputs outputs k
  pub placed : Placed numbers base from width
  pub stands : Stands numbers from (each occurrence_numbers scene.m.occurrences)
  pub indexes : Indexes first slots (each occurrence_numbers scene.m.occurrences)
  pub figured : Figured scene.ms sizes rooms
  pub all : count ≡ length scene.m.occurrences
  pub knows : Knows slots base scene.m.inputs
  pub wide : width ≡ length scene.m.inputs

-- The resolved occurrences of a module.
abbrev pub resolved_body : List Module → Module → List Occurrence → List Occurrence
resolved_body ms m os = map (resolve_occurrence (slot_in m) (refer_to ms)) os

-- All occurrences are fine.
pub record Finished
    (ms : List Module) (m : Module) (numbers : List ℕ) (from base : ℕ) (sizes rooms numbers' slots' : List ℕ) (next nets : ℕ) (sums : Sums) : Type 0 where
  pub behind : next ≡ from + length (each occurrence_numbers m.occurrences)
  pub count : nets ≡ length (nets_of m)
  pub knows : Knows slots' base (nets_of m)
  pub written : numbers' ≡ laid numbers from (each occurrence_numbers (resolved_body ms m m.occurrences))
  pub summed : Summed sizes rooms (resolved_body ms m m.occurrences) sums
  pub few : nets ≤ next

-- What the answer says: the verdict of rules 11 to 14 over all occurrences, and where it is good the image, the table and the sums.
abbrev pub Walks : Result Walked ℕ → Verdict → (k : ℕ) → (ms : List Module) → Module → (numbers : List ℕ) → (from base : ℕ) → (sizes rooms numbers' slots' : List ℕ) → Type 0
Walks (Ok walked) v k ms m numbers from base sizes rooms numbers' slots' =
    (v ≡ good) × Finished ms m numbers from base sizes rooms numbers' slots' walked.next walked.nets walked.sums
Walks (Err rule) v k ms m numbers from base sizes rooms numbers' slots' = v ≡ refused rule k

pub record BodyChecked
    (numbers first inputs outputs slots : List ℕ) (base k from count width : ℕ) (sizes rooms numbers' slots' : List ℕ) (r : Result Walked ℕ) : Type 0 where
  pub walks :
      (s : Scene first inputs outputs k)
      → Stands numbers from (each occurrence_numbers s.m.occurrences)
      → count ≡ length s.m.occurrences
      → Knows slots base s.m.inputs
      → width ≡ length s.m.inputs
      → Walks r (body_verdict k s.m.occurrences s.m.inputs s.later) k s.ms s.m numbers from base sizes rooms numbers' slots'
  pub low : Below (base + 65536) slots → Below (base + 65536) slots'
