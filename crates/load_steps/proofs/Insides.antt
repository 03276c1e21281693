-- Adding what an occurrence of a module adds: at its argument places, and then at the nets that it drives.
use Prim.Native.Nat.{ℕ, ◌+◌, ◌-◌}
use mathlib.Core.Path.{◌≡◌, ap, ◌∙◌}
use mathlib.Core.Bool.{true}
use mathlib.Core.List.{List}
use native.Mathlib.Omega.{arith}
use lib.ListN.{length}
use lib.Seq.{slice}
use Rattle.meaning.specs.Loads.{places_load}
use Rattle.image.specs.declared.places.Place.{Place}
use Rattle.load_steps.specs.Steps.{place_loads, Placed, LoadsAdded, Inside, InsideAdded}

module _ {image : List ℕ} {o : Place} {start : ℕ} {loads before : List ℕ} (p : Inside image o start loads before) where
  -- Where the driven nets begin and end, and where the loads of the outputs do.
  abbrev from : ℕ
  from = o.from - 2 - o.drives

  abbrev to : ℕ
  to = o.from - 2

  abbrev outputs : ℕ
  outputs = start + 3 + (o.to - o.from)

  pub many : to - from ≡ o.drives
  many = omega (arith, p.front)

  abbrev pub arguments : Placed image o.from o.to true (start + 2) loads before
  arguments =
      record {
        frame = p.frame;
        readable = p.takes;
        room = p.room;
        given = omega (arith, p.given);
        fits = λ net less. omega (arith, p.fits net less);
      }

  module _
      {scratch : List ℕ} (long : length scratch ≡ length before)
      (told :
      (q : Placed image o.from o.to true (start + 2) loads before)
      → LoadsAdded image o.from o.to true (start + 2) loads q.frame before scratch)
    where
      -- What the driven nets add, as many as they are.
      pub shares :
          (net : ℕ)
          → places_load net (slice from to image) (place_loads true outputs (to - from) loads)
          ≡ places_load net (slice from to image) (place_loads true outputs o.drives loads)
      shares net = ap (λ (n : ℕ). places_load net (slice from to image) (place_loads true outputs n loads)) many

      abbrev pub driven : Placed image from to true outputs loads scratch
      driven =
          record {
            frame = p.frame;
            readable = p.drives;
            room = omega (arith, p.room);
            given = omega (arith, p.given, many);
            fits = λ net less. omega (arith, p.fits net less, (told arguments).added net less, shares net);
          }

      pub both :
          {scratch' : List ℕ}
          → ((q : Placed image from to true outputs loads scratch) → LoadsAdded image from to true outputs loads q.frame scratch scratch')
          → InsideAdded image o start loads p.frame before scratch'
      both told' =
          record {
            added = λ net less. omega (arith, (told arguments).added net less, (told' driven).added net less, shares net);
            behind = (told' driven).behind ∙ (told arguments).behind;
          }
