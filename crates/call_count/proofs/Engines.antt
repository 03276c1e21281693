-- From the module that stands to the engines: each can be called, and what it answers of the position is what is meant of the number.
use Prim.Native.Nat.{ℕ, ◌+◌, ◌≤◌}
use mathlib.Core.Path.{◌≡◌, sym, subst}
use mathlib.Core.List.{List}
use native.Mathlib.Omega.{arith}
use lib.ListN.{length}
use Rattle.meaning.specs.Figures.{room, delay_by, delay}
use Rattle.meaning.specs.Family.{delay_in, family_delay}
use Rattle.meaning.specs.Loads.{largest_load}
use Rattle.image.specs.Resolved.{refer_to, resolve_module, resolve}
use Rattle.image.specs.ResolvedFigures.{room-resolved}
use Rattle.run_times.specs.Times.{one_each}
use Rattle.run_engine.specs.Calls.{Callable, Delayed}
use Rattle.run_engine.specs.Arriving.{delay-means}
use Rattle.load_engine.specs.Loads.{Loadable}
use Rattle.load_engine.specs.Ordered.{ordered}
use Rattle.load_engine.specs.Answers as loads
use Rattle.open_finding.specs.Standing.{Standing, accepted, fits}
use Rattle.open_finding.specs.OnImage.{scene, at_position}
use Rattle.open_finding.specs.declared.Site.{Site}

module _ {image starts nets : List ℕ} {site : Site} (s : Standing image starts nets site) where
  -- The delays.
  abbrev pub callable : {scratch : List ℕ} → site.room ≤ length scratch → Callable image starts nets site.position site.room scratch
  callable enough =
      record {
        rs = resolve s.ms;
        scene = scene s;
        wide = omega (arith, at_position s room (room-resolved (fits s.held) site.number s.found.m s.found.found), s.room_is);
        enough = enough;
      }

  delay-is :
      (lasts : ℕ → ℕ) {r : ℕ}
      → ((kind : ℕ) → lasts kind ≤ 255)
      → Delayed lasts (resolve s.ms) (scene s).m site.position r
      → r ≡ delay_by lasts s.ms site.number
  delay-is lasts {r} small delayed =
      delay-means lasts small (accepted s.held) site.number s.found.m s.found.found
      (subst (λ (p : ℕ). Delayed lasts (resolve s.ms) (resolve_module (refer_to s.ms) p s.found.m) p r) (sym s.found.placed) delayed)

  pub unit-is : {r : ℕ} → Delayed one_each (resolve s.ms) (scene s).m site.position r → r ≡ delay s.ms site.number
  unfolding delay
  unit-is = delay-is one_each (λ kind. omega arith)

  pub family-is :
      (family : List ℕ) {r : ℕ}
      → ((kind : ℕ) → delay_in family kind ≤ 255)
      → Delayed (delay_in family) (resolve s.ms) (scene s).m site.position r
      → r ≡ family_delay family s.ms site.number
  unfolding family_delay
  family-is family = delay-is (delay_in family)

  -- The largest load.
  pub loadable : Loadable image starts nets site.position site.room
  loadable =
      subst (λ (p : ℕ). Loadable image starts nets p site.room) s.found.placed
      (loads.loadable (accepted s.held) (scene s).imaged site.number s.found.m s.found.found (ordered s.ms s.held.starts_are)
      (omega (arith, s.room_is)))

  pub load_is :
      {most : ℕ} → ((e : Loadable image starts nets site.position site.room) → most ≡ largest_load e.rs (16 + site.position))
      → most ≡ largest_load s.ms site.number
  load_is {most} answer =
      loads.loaded (accepted s.held) (scene s).imaged site.number s.found.m s.found.found (ordered s.ms s.held.starts_are)
      (omega (arith, s.room_is))
      (subst (λ (p : ℕ). (e : Loadable image starts nets p site.room) → most ≡ largest_load e.rs (16 + p)) (sym s.found.placed) answer)
