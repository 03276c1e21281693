-- What the walk of a flattening asks.
use Rattle.std.specs.Prelude.{ℕ, ◌+◌, ◌≤◌, List, length}
use Rattle.meaning.specs.Limits.{most_module_nets}
use Rattle.meaning.specs.Figures.{gate_count}
use Rattle.meaning.specs.Calls.{flat_file}
use Rattle.open_finding.specs.Standing.{Standing}
use Rattle.open_finding.specs.declared.Site.{Site}

-- The module has few enough nets, and lists of these lengths are long enough: `entries` for the walk, `places` for the bytes of the
-- flattened file.
pub record Placeable (image starts nets : List ℕ) (site : Site) (entries places : ℕ) : Type 0 where
  pub here : Standing image starts nets site
  pub few : length here.found.m.inputs + gate_count here.ms site.number ≤ most_module_nets
  pub enough : site.room ≤ entries
  pub long : length (flat_file here.ms site.number here.found.m) ≤ places
