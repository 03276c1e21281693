-- A turn of working out loads at a module: it is later, its room lies behind the frame, and once its loads are known each argument place adds
-- the load of that input, and each driven net gets the load of that output.
use Prim.Native.Nat.{ℕ, ◌+◌, ◌-◌, ◌*◌, ◌≤◌, ◌<◌, max}
use mathlib.Core.Path.{◌≡◌, sym, ap, ap₂, ◌∙◌}
use mathlib.Core.Bool.{false}
use mathlib.Core.List.{List}
use native.Mathlib.Omega.{arith}
use borrow.Rule.Slice.PartMut.{mid_of, put_mid}
use lib.ListN.{length, get_or, take, drop, length-drop}
use Rattle.meaning.specs.Gates.{is_gate}
use Rattle.meaning.specs.Limits.{most_size}
use Rattle.meaning.specs.Figures.{largest_referred, room}
use Rattle.meaning.specs.Loads.{places_load, Loads, referred_loads, loads_inside, largest_load}
use Rattle.image.specs.Pieces.{moved, ModuleAt, module_at}
use Rattle.image.specs.Searching.{loads_inside-search, largest_load-search, room-search}
use Rattle.image.specs.Entries.{same-behind, same-further}
use Rattle.image.specs.Reading.{slice_stands}
use Rattle.image.specs.Scenes.{in_starts, module_stands, frame_is, says_here}
use Rattle.image.specs.Lending.{lent_is, Back, back}
use Rattle.image.specs.Walking.{Turn, readable, driven-readable, target, called, file-says, is_module, call-room}
use Rattle.image.specs.declared.places.Place.{Place}
use Rattle.load_steps.specs.Steps.{inside_load, Inside, InsideAdded}
use Rattle.load_engine.specs.Loads.{Loadable, LoadsKept, Workable, Loaded}
use Rattle.load_engine.proofs.Loading.{Loading, frame-fits, says-room}
use Rattle.load_engine.proofs.LoadSteps.{occurrence_load, Ready, fits, next}

module _
    {image starts nets : List ℕ} {k entries : ℕ} (s : Loadable image starts nets k entries) {before : List ℕ} {at left most : ℕ}
    {scratch : List ℕ} (l : Loading s before at left most scratch) {place : Place}
    (t : Turn image s.scene.m s.scene.later at left l.filled l.rest place)
  where
    module _ (no_gate : is_gate place.refers ≡ false) where
      abbrev j : ℕ
      j = place.refers - 16

      abbrev lent : List ℕ
      lent = mid_of (get_or nets k 0) (length scratch - get_or nets k 0) scratch

      there : ModuleAt image (get_or starts j 0) (called s.scene t no_gate).m
      there = module_at (called s.scene t no_gate).m (module_stands (called s.scene t no_gate))

      pub after : k < place.refers - 16
      after = (target s.scene t no_gate).after

      pub listed : place.refers - 16 < length starts
      listed = in_starts (called s.scene t no_gate)

      frame_in : get_or nets k 0 ≤ length scratch
      frame_in = omega (arith, frame-fits s, l.long)

      rooms : get_or nets k 0 + room s.rs (16 + j) ≤ room s.rs (16 + k)
      rooms = omega (arith, call-room s.scene t no_gate, says-room s, says_here (called s.scene t no_gate) room-search)

      pub lent-room : room s.rs (16 + j) ≤ length lent
      lent-room =
          omega (arith, rooms, s.room, ap length (lent_is (get_or nets k 0) scratch), length-drop (get_or nets k 0) scratch, l.long)

      pub sub-loads : largest_load s.rs (16 + j) ≤ 4 * most_size
      unfolding largest_referred
      sub-loads =
          omega (
            arith,
            rw (t.is, is_module s.scene t no_gate) at l.largest,
            file-says s.scene t no_gate largest_load-search,
            says_here s.scene largest_load-search,
            s.loads,
          )

      abbrev pub workable :
          {loads known : List ℕ} → LoadsKept image starts s.rs loads known → Workable image starts nets j (length lent) loads known
      workable kept =
          record {
            loadable =
                record {
                  rs = s.rs;
                  scene = called s.scene t no_gate;
                  ordered = s.ordered;
                  room = lent-room;
                  loads = sub-loads;
                };
            kept = kept;
          }

      -- What the module adds, from where its loads are kept.
      pub record ModuleStep (loads : List ℕ) (most' : ℕ) (scratch' : List ℕ) : Type 0 where
        pub placed : Inside image place (get_or starts j 0) loads scratch'
        pub next :
            {scratch'' : List ℕ}
            → length scratch'' ≡ length scratch'
            → ((p : Inside image place (get_or starts j 0) loads scratch')
            → InsideAdded image place (get_or starts j 0) loads p.frame scratch' scratch'')
            → Loading s before place.to (left - 1) most' scratch''

      -- Where the driven nets stand.
      driven-from : place.from - 2 - place.drives ≡ at + 1
      driven-from = omega (arith, t.read.from, t.read.drives)

      driven-to : place.from - 2 ≡ place.from - 2 - place.drives + place.drives
      driven-to = omega (arith, t.read.from, t.read.drives)

      pub at_module :
          {inner most' : ℕ} (part : List ℕ) {loads' known' : List ℕ}
          → Loaded image starts s.rs (called s.scene t no_gate).m j inner lent part loads' known'
          → length part ≡ length lent
          → most' ≡ max most inner
          → ModuleStep loads' most' (put_mid (get_or nets k 0) (length scratch - get_or nets k 0) scratch part)
      at_module {most' = most'} part {loads'} done long larger =
          record { placed = placed; next = λ kept told. next s l t ready kept (told placed).added (told placed).behind }
        where
          scratch' : List ℕ
          scratch' = put_mid (get_or nets k 0) (length scratch - get_or nets k 0) scratch part

          returned : Back (get_or nets k 0) scratch part scratch'
          returned = back (get_or nets k 0) scratch part frame_in long

          inside : referred_loads (loads_inside s.scene.later) t.o ≡ loads_inside s.rs (16 + j)
          inside = rw (is_module s.scene t no_gate) (file-says s.scene t no_gate loads_inside-search)

          takes : place.to - place.from ≡ length (called s.scene t no_gate).m.inputs
          takes = omega (arith, t.read.to, (target s.scene t no_gate).takes)

          drives : place.drives ≡ length (called s.scene t no_gate).m.outputs
          drives = t.read.drives ∙ (target s.scene t no_gate).drives

          -- The loads of the inputs and of the outputs, as many as there are places.
          inputs : take (place.to - place.from) (drop (get_or starts j 0 + 2) loads') ≡ (referred_loads (loads_inside s.scene.later) t.o).inputs
          inputs =
              ap (λ (n : ℕ). take n (drop (get_or starts j 0 + 2) loads')) takes
              ∙ done.there.inputs
              ∙ sym (ap (λ (ls : Loads). ls.inputs) inside)

          outputs :
              take place.drives (drop (get_or starts j 0 + 3 + (place.to - place.from)) loads')
              ≡ (referred_loads (loads_inside s.scene.later) t.o).outputs
          outputs =
              ap₂ (λ (n i : ℕ). take n (drop (get_or starts j 0 + 3 + i) loads')) drives takes
              ∙ done.there.outputs
              ∙ sym (ap (λ (ls : Loads). ls.outputs) inside)

          adds : (net : ℕ) → inside_load image place (get_or starts j 0) loads' net ≡ occurrence_load s.scene.later t.o net
          adds net =
              ap₂ ◌+◌
              (ap₂ (places_load net) (slice_stands place.from t.read.takes t.read.to) inputs)
              (ap₂ (places_load net)
              (slice_stands (place.from - 2 - place.drives) (moved (at + 1) driven-from t.read.driven) (driven-to ∙ ap (λ (n : ℕ). place.from - 2 - place.drives + n) t.read.drives))
              outputs)

          ready : Ready s l t (inside_load image place (get_or starts j 0) loads') most' scratch'
          ready =
              record {
                front = returned.front;
                back =
                    same-behind _ scratch (get_or nets k 0) (room s.rs (16 + k)) (omega (arith, rooms))
                    (ap (drop (room s.rs (16 + k) - get_or nets k 0)) returned.lent
                    ∙ same-further part lent (room s.rs (16 + j)) (room s.rs (16 + k) - get_or nets k 0) (omega (arith, rooms)) done.behind
                    ∙ ap (drop (room s.rs (16 + k) - get_or nets k 0)) (lent_is (get_or nets k 0) scratch))
                    ∙ l.behind;
                long = returned.size ∙ l.long;
                adds = adds;
                larger =
                    rw (is_module s.scene t no_gate)
                    (omega (arith, larger, done.largest, file-says s.scene t no_gate largest_load-search));
              }

          placed : Inside image place (get_or starts j 0) loads' scratch'
          placed =
              record {
                frame = get_or nets k 0;
                front = omega (arith, t.read.from, t.read.drives);
                takes = readable t (get_or nets k 0) (omega (arith, t.fits, frame_is s.scene));
                drives = driven-readable t (get_or nets k 0) driven-from driven-to (omega (arith, frame_is s.scene));
                room = omega (arith, returned.size, frame_in);
                given = omega (arith, takes, drives, there.end, done.kept.long);
                fits = fits s l t ready;
              }
