-- What reading and copying at a list of slots in the image asks and answers, whatever the type of an entry.
use Rattle.std.specs.Prelude.{ℕ, ◌+◌, ◌-◌, ◌≤◌, ◌<◌, ◌≡◌, List, length, get_or, drop}
use Rattle.std.proofs.Math.Seq.{slice}
use Rattle.image.specs.Frames.{read_slots}

-- The slots at the places `from` to `to` of the image are indices of a list of that length, `source` entries into it.
pub record Readable (image : List ℕ) (from to source size : ℕ) : Type 0 where
  pub ordered : from ≤ to
  pub inside : to ≤ length image
  pub slots : (i : ℕ) → from ≤ i → i < to → source + get_or image i 0 < size

-- The values at those slots, in order.
abbrev pub values_at : {A : Type 0} → A → (image : List ℕ) → (from to source : ℕ) → (scratch : List A) → List A
values_at none image from to source scratch = read_slots none (drop source scratch) (slice from to image)

-- The values are copied to the places from `target` on, where none of them is read.
pub record Copyable {A : Type 0} (image : List ℕ) (from to source target : ℕ) (scratch : List A) : Type 0 where
  pub readable : Readable image from to source (length scratch)
  pub room : target + (to - from) ≤ length scratch
  pub apart :
      (i : ℕ) → from ≤ i → i < to → (j : ℕ) → target ≤ j → j < target + (to - from) → source + get_or image i 0 ≡ j → ⊥
