-- The table of used nets, and the unused numbers in it.
use Rattle.std.specs.Prelude.{ℕ, ◌+◌, ◌-◌, ◌<◌, ◌≡◌, Bool, true, false, List, ◌∷◌, length, get_or}
use Rattle.meaning.specs.Boxlist.{member}
use Rattle.meaning.specs.Adder.{up_from}
use Rattle.meaning.specs.Withdrawn.{without}

-- Every number of a list is an index.
pub record Indexed (list : List ℕ) (bound : ℕ) : Type 0 where
  pub below : (i : ℕ) → i < length list → get_or list i 0 < bound

-- A used net has the stamp, any other a lower one.
pub record Stamped (table : List ℕ) (stamp : ℕ) (used : ℕ → Bool) : Type 0 where
  pub inside : (x : ℕ) → used x ≡ true → get_or table x 0 ≡ stamp
  pub outside : (x : ℕ) → used x ≡ false → get_or table x 0 < stamp

-- The unused numbers from one on.
abbrev pub unused_from : (used : List ℕ) (from : ℕ) → List ℕ
unused_from used from = without used (up_from from (16384 - from))

pub record Seekable (table : List ℕ) (stamp from : ℕ) : Type 0 where
  pub used : List ℕ
  pub long : length table ≡ 16384
  pub stamped : Stamped table stamp (λ x. member x used)
  pub first : ℕ
  pub rest : List ℕ
  pub is : unused_from used from ≡ first ∷ rest

pub record Found {table : List ℕ} {stamp from : ℕ} (s : Seekable table stamp from) (r : ℕ) : Type 0 where
  pub is : r ≡ s.first
  pub low : r < 16384
  pub rest : unused_from s.used (r + 1) ≡ s.rest
