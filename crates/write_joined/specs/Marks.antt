-- A table by number that tells which numbers a list of modules has.
use Rattle.std.specs.Prelude.{ℕ, ◌<◌, ◌≡◌, List, length, get_or}
use Rattle.meaning.specs.Syntax.{Module}
use Rattle.meaning.specs.Boxlist.{Found, box, F, assoc}
use Rattle.open_finding.specs.Finding.{Searchable}

abbrev pub mark_of : Found → ℕ
mark_of (box m) = 1
mark_of F = 0

pub record Marks (marks : List ℕ) (ms : List Module) : Type 0 where
  pub mark : (x : ℕ) → get_or marks x 0 ≡ mark_of (assoc x ms)

-- The modules' numbers are indices of the table, in which nothing is marked yet.
pub record Markable (names : List ℕ) (modules : ℕ) (marks : List ℕ) : Type 0 where
  pub search : Searchable names modules
  pub indexed : (k : ℕ) → k < modules → get_or names k 0 < length marks
  pub clear : (x : ℕ) → get_or marks x 0 ≡ 0
