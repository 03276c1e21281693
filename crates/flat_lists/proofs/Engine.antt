-- From the module that can be placed to the engine: it can be flattened.
use mathlib.Core.Path.{sym}
use mathlib.Core.List.{List}
use Prim.Native.Nat.{ℕ}
use native.Mathlib.Omega.{arith}
use lib.ListN.{length}
use Rattle.flat_engine.specs.Flat.{Flattenable}
use Rattle.open_finding.specs.OnImage.{scene}
use Rattle.open_finding.specs.declared.Site.{Site}
use Rattle.flat_lists.specs.Placeable.{Placeable}

abbrev pub flattenable :
    {image starts nets : List ℕ} {site : Site} {entries bytes : List ℕ}
    → Placeable image starts nets site (length entries) (length bytes)
    → Flattenable image starts nets site.position site.number entries bytes
flattenable {site = site} p =
    let s = p.here in
    record {
      ms = s.ms;
      m = s.found.m;
      accepted = s.held.good;
      within = s.held.within;
      imaged = (scene s).imaged;
      found = s.found.found;
      position = sym s.found.placed;
      few = p.few;
      wide = omega (arith, s.room_is, p.enough);
      long = p.long;
    }
