-- What every call on a module rests on.
use Rattle.std.specs.Prelude.{ℕ, ◌<◌, ◌≡◌, List, length, get_or}
use Rattle.meaning.specs.Syntax.{Module}
use Rattle.meaning.specs.Limits.{expanded_size}
use Rattle.meaning.specs.Figures.{room}
use Rattle.meaning.specs.Ceilings.{Within, ModuleWithin}
use Rattle.meaning.specs.Verdict.{good, file_verdict}
use Rattle.laws.specs.WellFormed.{Accepted}
use Rattle.laws.specs.Accepted.{good-accepted}
use Rattle.laws.specs.Figures.Bounds.{found_within}
use Rattle.image.specs.Fitting.{Fits, accepted-fits}
use Rattle.image.specs.Imaged.{Shelved}
use Rattle.image.specs.ResolvedLayout.{start_of}
use Rattle.open_finding.specs.Finding.{FoundAt}
use Rattle.open_finding.specs.declared.Site.{Site}

-- An accepted file stands in the image, one module behind the other.
pub record Held (image starts nets : List ℕ) (ms : List Module) : Type 0 where
  pub good : file_verdict ms ≡ good
  pub within : Within ms
  pub shelved : Shelved image starts nets ms
  pub starts_are : (j : ℕ) → j < length ms → get_or starts j 0 ≡ start_of ms j

-- The module of the number is at the position, and has this size and this room.
pub record Standing (image starts nets : List ℕ) (site : Site) : Type 0 where
  pub ms : List Module
  pub held : Held image starts nets ms
  pub found : FoundAt ms site.number site.position
  pub size_is : site.size ≡ expanded_size ms site.number
  pub room_is : site.room ≡ room ms site.number

module _ {image starts nets : List ℕ} {ms : List Module} (h : Held image starts nets ms) where
  pub accepted : Accepted ms
  accepted = good-accepted ms h.good

  pub fits : Fits ms
  fits = accepted-fits accepted

pub module_within : {image starts nets : List ℕ} {site : Site} (s : Standing image starts nets site) → ModuleWithin s.found.m
module_within {site = site} s = found_within site.number s.found.m s.held.within s.found.found
