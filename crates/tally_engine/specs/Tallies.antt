-- What counting the gates that a module reaches asks and answers, and tallies added kind by kind.
use Rattle.std.specs.Prelude.{ℕ, ◌+◌, ◌≤◌, ◌<◌, ◌^◌, ◌≡◌, cond, List, eqb, length, get_or}
use Rattle.meaning.specs.Syntax.{Module}
use Rattle.meaning.specs.Limits.{expanded_size, most_size}
use Rattle.image.specs.Scenes.{Scene}

-- One gate in the tally of its kind.
abbrev pub one_of : (gate kind : ℕ) → ℕ
one_of gate kind = cond (eqb gate kind) 1 0

-- Each count can hold so many more.
pub record Addable (counts : List ℕ) (more : ℕ → ℕ) : Type 0 where
  pub fits : (kind : ℕ) → kind < 16 → get_or counts kind 0 + more kind < 2 ^ 32

-- Each of the sixteen counts is so many more.
pub record Added (counts : List ℕ) (more : ℕ → ℕ) (counts' : List ℕ) : Type 0 where
  pub long : length counts' ≡ 16
  pub sum : (kind : ℕ) → kind < 16 → get_or counts' kind 0 ≡ get_or counts kind 0 + more kind

-- The module at position k of a file that stands in the image is within the limit of rule 17.
pub record Countable (image starts : List ℕ) (k : ℕ) : Type 0 where
  pub rs : List Module
  pub nets : List ℕ
  pub scene : Scene image starts nets rs k
  pub size : expanded_size rs (16 + k) ≤ most_size
