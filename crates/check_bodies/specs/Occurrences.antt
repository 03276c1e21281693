-- What checking one occurrence asks and answers.
use Rattle.std.specs.Prelude.{ℕ, Result, Ok, Err, ◌+◌, ◌*◌, ◌≤◌, ◌<◌, ◌^◌, ◌≡◌, true, List, ◌++◌, length}
use Rattle.meaning.specs.Syntax.{Occurrence, Module}
use Rattle.meaning.specs.Layout.{occurrence_numbers}
use Rattle.meaning.specs.Boxlist.{subset}
use Rattle.meaning.specs.Verdict.{Verdict, good, refused, occurrence_verdict}
use Rattle.nets.specs.Slots.{Knows, Below, slot_of}
use Rattle.image.specs.Stands.{Stands}
use Rattle.image.specs.Laid.{laid}
use Rattle.image.specs.Resolved.{refer_to, resolve_occurrence}
use Rattle.check_sizes.specs.Walks.{plus}
use Rattle.check_sizes.specs.declared.Sums.{Sums}
use Rattle.check_lists.specs.Scene.{Scene, Indexes, Figured, Same}
use Rattle.check_bodies.specs.declared.occurrences.Walked.{Walked}

-- Where the walk stands: places fit their types, and so do the slots above the base.
pub record Placed (numbers : List ℕ) (base at filled : ℕ) : Type 0 where
  pub behind : filled ≤ at
  pub based : base ≤ 65536 * 128
  pub short : length numbers ≤ 65535

-- An occurrence stands at the place, the table knows the nets so far, the tables have entries for its numbers and for what it refers to,
-- and the sum of sizes fits with one more.
pub record StepReady
    (numbers first inputs outputs slots : List ℕ) (base k at filled : ℕ) (sizes rooms : List ℕ) (sums : Sums) : Type 0 where
  pub scene : Scene first inputs outputs k
  pub placed : Placed numbers base at filled
  pub o : Occurrence
  pub stands : Stands numbers at (occurrence_numbers o)
  pub nets : List ℕ
  pub knows : Knows slots base nets
  pub wide : filled ≡ length nets
  pub indexes : Indexes first slots (occurrence_numbers o)
  pub figured : Figured scene.ms sizes rooms
  pub fits : sums.size + 65536 < 2 ^ 32

-- An occurrence is fine: it takes known nets, it has become its part of the image with slots for its nets, the table knows what it drives,
-- and its reference is in the sums.
pub record Advanced
    (ms : List Module) (o : Occurrence) (nets numbers : List ℕ) (at base : ℕ) (sizes rooms : List ℕ) (sums : Sums) (numbers' slots' : List ℕ)
    (next filled : ℕ) (sums' : Sums) : Type 0 where
  pub bound : subset o.takes nets ≡ true
  pub behind : next ≡ at + length (occurrence_numbers o)
  pub count : filled ≡ length (nets ++ o.drives)
  pub knows : Knows slots' base (nets ++ o.drives)
  pub written : numbers' ≡ laid numbers at (occurrence_numbers (resolve_occurrence (λ x. slot_of x (nets ++ o.drives)) (refer_to ms) o))
  pub summed : sums' ≡ plus sizes rooms sums (refer_to ms o.refers)

abbrev pub Steps : Result Walked ℕ → Verdict → (k : ℕ) → (ms : List Module) → Occurrence → (nets numbers : List ℕ) → (at base : ℕ) → (sizes rooms : List ℕ) → (sums : Sums) → (numbers' slots' : List ℕ) → Type 0
Steps (Ok walked) v k ms o nets numbers at base sizes rooms sums numbers' slots' =
    (v ≡ good) × Advanced ms o nets numbers at base sizes rooms sums numbers' slots' walked.next walked.nets walked.sums
Steps (Err rule) v k ms o nets numbers at base sizes rooms sums numbers' slots' = v ≡ refused rule k

pub record Stepped
    (numbers first inputs outputs slots : List ℕ) (base k at filled : ℕ) (sizes rooms : List ℕ) (sums : Sums) (numbers' slots' : List ℕ)
    (r : Result Walked ℕ) : Type 0 where
  pub steps :
      (s : Scene first inputs outputs k) (o : Occurrence) (nets signals : List ℕ)
      → Stands numbers at (occurrence_numbers o)
      → Knows slots base nets
      → filled ≡ length nets
      → Same nets signals
      → Steps r (occurrence_verdict k o signals s.later) k s.ms o nets numbers at base sizes rooms sums numbers' slots'
  pub low : Below (base + 65536) slots → Below (base + 65536) slots'
