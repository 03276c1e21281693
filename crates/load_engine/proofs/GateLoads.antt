-- A turn of working out loads at a gate: each argument place adds 1, and the driven net gets nothing.
use Prim.Native.Nat.{ℕ, ◌-◌}
use mathlib.Core.Path.{◌≡◌, refl, ap, ap₂, ◌∙◌}
use mathlib.Core.Bool.{true, false}
use mathlib.Core.List.{List}
use native.Mathlib.Omega.{arith}
use lib.ListN.{length, get_or, replicate}
use lib.Seq.{slice}
use Rattle.meaning.specs.Gates.{is_gate}
use Rattle.meaning.specs.Loads.{places_load}
use Rattle.laws.specs.Loads.Places.{load-none}
use Rattle.image.specs.Reading.{slice_stands}
use Rattle.image.specs.Scenes.{frame_is}
use Rattle.image.specs.Walking.{Turn, readable, at-gate as gate-there}
use Rattle.image.specs.declared.places.Place.{Place}
use Rattle.load_steps.specs.Steps.{Placed, LoadsAdded}
use Rattle.load_engine.specs.Loads.{Loadable}
use Rattle.load_engine.proofs.Loading.{Loading, frame-fits}
use Rattle.load_engine.proofs.LoadSteps.{occurrence_load, Ready, fits, next}

module _
    {image starts nets : List ℕ} {k entries : ℕ} (s : Loadable image starts nets k entries) {before : List ℕ} {at left most : ℕ}
    {scratch : List ℕ} (l : Loading s before at left most scratch) {place : Place}
    (t : Turn image s.scene.m s.scene.later at left l.filled l.rest place)
  where
    -- At a gate: its places can add, and the loads go on.
    pub record GateStep (loads : List ℕ) : Type 0 where
      pub placed : Placed image place.from place.to false 0 loads scratch
      pub next :
          {scratch' : List ℕ}
          → length scratch' ≡ length scratch
          → ((p : Placed image place.from place.to false 0 loads scratch)
          → LoadsAdded image place.from place.to false 0 loads p.frame scratch scratch')
          → Loading s before place.to (left - 1) most scratch'

    pub at-gate : is_gate place.refers ≡ true → (loads : List ℕ) → GateStep loads
    at-gate gate loads =
        record { placed = placed; next = λ long told. next s l t ready long (told placed).added (told placed).behind }
      where
        is : is_gate t.o.refers ≡ true
        is = (gate-there t gate).is

        share : ℕ → ℕ
        share net = places_load net (slice place.from place.to image) (replicate (place.to - place.from) 1)

        count : place.to - place.from ≡ length t.o.takes
        count = omega (arith, t.read.to)

        adds : (net : ℕ) → share net ≡ occurrence_load s.scene.later t.o net
        adds net =
            ap₂ (places_load net) (slice_stands place.from t.read.takes t.read.to) (ap (λ (n : ℕ). replicate n 1) count)
            ∙ rw is (omega (arith, load-none net t.o.drives))

        ready : Ready s l t share most scratch
        ready = record { front = refl; back = l.behind; long = l.long; adds = adds; larger = rw is (omega arith) }

        placed : Placed image place.from place.to false 0 loads scratch
        placed =
            record {
              frame = get_or nets k 0;
              readable = readable t (get_or nets k 0) (omega (arith, t.fits, frame_is s.scene));
              room = omega (arith, frame-fits s, l.long);
              given = omega arith;
              fits = fits s l t ready;
            }
