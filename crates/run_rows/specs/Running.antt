-- What running a block of rows asks: the module stands in the image, the rows are there, there is an entry for each slot of its room, and
-- room for the outputs.
use Rattle.std.specs.Prelude.{ℕ, ◌+◌, ◌*◌, ◌≤◌, ◌≡◌, List, length, take, drop}
use Rattle.open_finding.specs.Standing.{Standing}
use Rattle.open_finding.specs.declared.Site.{Site}

-- A row behind a place.
abbrev pub row_from : (inputs : ℕ) → (values : List ℕ) → (from r : ℕ) → List ℕ
row_from inputs values from r = take inputs (drop (from + r * inputs) values)

-- Up to 256 rows.
pub record BlockRuns (image starts nets : List ℕ) (site : Site) (values : List ℕ) (from count entries at out : ℕ) : Type 0 where
  pub standing : Standing image starts nets site
  pub there : from + count * length standing.found.m.inputs ≤ length values
  pub few : count ≤ 256
  pub roomy : site.room ≤ entries
  pub fits : at + count * length standing.found.m.outputs ≤ out

-- Any count of rows.
pub record RowsRun (image starts nets : List ℕ) (site : Site) (rows : ℕ) (values : List ℕ) (entries out : ℕ) : Type 0 where
  pub standing : Standing image starts nets site
  pub fed : length values ≡ rows * length standing.found.m.inputs
  pub roomy : site.room ≤ entries
  pub fits : rows * length standing.found.m.outputs ≤ out
