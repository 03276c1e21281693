-- What counting the four gates asks and leaves, said of the modules as they are resolved in the image.
use Rattle.std.specs.Prelude.{ℕ, ◌+◌, ◌≤◌, ◌<◌, ◌≡◌, List, ◌∷◌, length, get_or, drop}
use Rattle.meaning.specs.Syntax.{Module}
use Rattle.meaning.specs.Limits.{expanded_size, most_size}
use Rattle.laws.specs.Withdrawn.Suits.{fours}
use Rattle.laws.specs.Withdrawn.Counts.{fours_reached}
use Rattle.image.specs.Imaged.{Imaged}
use Rattle.image.specs.Scenes.{Scene}

-- The table has what each module behind a position reaches.
pub record Tabled (rs : List Module) (from : ℕ) (reached : List ℕ) : Type 0 where
  pub long : length rs ≤ length reached
  pub entry : (j : ℕ) → from ≤ j → j < length rs → get_or reached j 0 ≡ fours_reached rs (16 + j)

-- The module at position k, within the limit of rule 17, and the table of those behind it.
pub record Reaching (image starts : List ℕ) (k : ℕ) (reached : List ℕ) : Type 0 where
  pub rs : List Module
  pub nets : List ℕ
  pub scene : Scene image starts nets rs k
  pub size : expanded_size rs (16 + k) ≤ most_size
  pub tabled : Tabled rs (k + 1) reached

-- All modules of a file that stands in the image, and tables that are long enough.
pub record Countable (image starts : List ℕ) (modules own reached : ℕ) : Type 0 where
  pub rs : List Module
  pub nets : List ℕ
  pub imaged : Imaged image starts nets rs
  pub all : modules ≡ length rs
  pub size : (k : ℕ) → k < length rs → expanded_size rs (16 + k) ≤ most_size
  pub own_long : length rs ≤ own
  pub reached_long : length rs ≤ reached

-- Both tables, from a position on.
pub record Counted (rs : List Module) (from : ℕ) (own reached : List ℕ) : Type 0 where
  pub owns : (k : ℕ) {m : Module} {later : List Module} → from ≤ k → drop k rs ≡ m ∷ later → get_or own k 0 ≡ fours m.occurrences
  pub tabled : Tabled rs from reached
