-- A walk over the occurrences of a module, one after the other: those that are ahead stand in the image from a place on, and what each of
-- them takes are slots of the module's frame that have values.
use Rattle.std.specs.Prelude.{ℕ, ◌+◌, ◌-◌, ◌≤◌, ◌<◌, ◌≡◌, refl, true, false, cond, get_or, take}
use Rattle.std.proofs.Common.{sym, ap, ◌∙◌, true≢false, arith, get_or-append-add}
use Rattle.std.proofs.Math.Path.{subst}
use mathlib.Core.List.{List, ◌∷◌, ◌++◌}
use Rattle.std.proofs.Math.ListN.{length, length-append, get_or-append}
use Rattle.meaning.specs.Syntax.{Occurrence, Module}
use Rattle.meaning.specs.Gates.{is_gate, gate}
use Rattle.meaning.specs.Layout.{each, occurrence_numbers}
use Rattle.meaning.specs.Limits.{driven, net_count}
use Rattle.meaning.specs.Figures.{largest_referred, room}
use Rattle.laws.specs.WellFormed.{Reference, to_gate, to_module}
use Rattle.laws.specs.Adder.Nets.{length-up_from}
use Rattle.image.specs.Stands.{Stands, stands-front, stands-skip}
use Rattle.image.specs.Pieces.{moved}
use Rattle.image.specs.Resolved.{nets_of}
use Rattle.image.specs.Entries.{run_at}
use Rattle.image.specs.Frames.{read_slots, Filled, Framed, done, step, FrameOk}
use Rattle.image.specs.Searching.{Search, room-search}
use Rattle.image.specs.Places.{HeaderOf, OccurrenceThere, PlaceOf}
use Rattle.image.specs.Scenes.{Scene, frame_is, frame-ok, says_here, Beyond, beyond, says-beyond}
use Rattle.image.specs.Slots.{Readable, values_at}
use Rattle.image.specs.Reading.{values-stand, readable-stands, read-front}
use Rattle.image.specs.declared.places.Header.{Header}
use Rattle.image.specs.declared.places.Place.{Place}

-- The room of a module in front of the later ones.
abbrev pub needed : Module → List Module → ℕ
needed m later = net_count m + largest_referred (room later) m.occurrences

pub record Ahead (image : List ℕ) (m : Module) (later : List Module) (at left filled : ℕ) (rest : List Occurrence) : Type 0 where
  pub stands : Stands image at (each occurrence_numbers rest)
  pub many : left ≡ length rest
  pub framed : Framed later filled rest
  pub fits : filled + length (driven rest) ≡ net_count m
  pub calls : largest_referred (room later) rest ≤ largest_referred (room later) m.occurrences
  pub nets : Filled (net_count m) (driven rest)

-- A list of slots in front of another, and the other.
filled-front : {size : ℕ} (xs ys : List ℕ) → Filled size (xs ++ ys) → Filled size xs
filled-front xs ys f =
    record {
      slot = λ i h. omega (arith, get_or-append xs ys 0 i h, f.slot i (omega (arith, length-append xs ys)));
    }

filled-behind : {size : ℕ} (xs ys : List ℕ) → Filled size (xs ++ ys) → Filled size ys
filled-behind xs ys f =
    record {
      slot = λ i h. omega (arith, get_or-append-add xs ys i 0, f.slot (length xs + i) (omega (arith, length-append xs ys)));
    }

-- All nets of a module have slots.
all-filled : {position : ℕ} {m : Module} {later : List Module} → FrameOk position m later → Filled (net_count m) (nets_of m)
all-filled {m = m} ok =
    record {
      slot = λ i h.
          let inside : i < net_count m = omega (arith, ap length ok.slots, length-up_from 0 (net_count m)) in
          omega (arith, ap (λ (xs : List ℕ). get_or xs i 0) ok.slots, run_at 0 (net_count m) i inside);
    }

-- At first all of them.
pub all-ahead :
    {image starts nets : List ℕ} {rs : List Module} {k : ℕ} (s : Scene image starts nets rs k) {h : Header}
    → HeaderOf image (get_or starts k 0) s.m h
    → Ahead image s.m s.later (h.to + 1) h.count h.inputs s.m.occurrences
unfolding net_count nets_of
all-ahead s {h} header =
    record {
      stands = header.body;
      many = header.count;
      framed = subst (λ (n : ℕ). Framed s.later n s.m.occurrences) (sym header.inputs) (frame-ok s).framed;
      fits = omega (arith, header.inputs);
      calls = omega arith;
      nets = filled-behind s.m.inputs (driven s.m.occurrences) (all-filled (frame-ok s));
    }

-- The one whose turn it is, as it was read.
pub record Turn
    (image : List ℕ) (m : Module) (later : List Module) (at left filled : ℕ) (rest : List Occurrence) (place : Place) : Type 0 where
  pub o : Occurrence
  pub os : List Occurrence
  pub is : rest ≡ o ∷ os
  pub read : PlaceOf image at o place
  pub slots : Filled filled o.takes
  pub nets : Filled (net_count m) o.drives
  pub reference : Reference later o
  pub fits : filled + place.drives ≤ net_count m
  pub call : cond (is_gate o.refers) 0 (room later o.refers) ≤ largest_referred (room later) m.occurrences
  pub next : Ahead image m later place.to (left - 1) (filled + place.drives) os

module _ {image : List ℕ} {m : Module} {later : List Module} {at left filled : ℕ} (some : 0 < left) where
  pub occurrence-there : {rest : List Occurrence} → Ahead image m later at left filled rest → OccurrenceThere image at
  unfolding each
  occurrence-there ahead = go ahead.framed ahead.many ahead.stands
    where
      go :
          {filled : ℕ} {rest : List Occurrence} → Framed later filled rest → left ≡ length rest
          → Stands image at (each occurrence_numbers rest) → OccurrenceThere image at
      go done many stands = absurd (omega arith)
      go (step {o = o} {os = os} slots reference others) many stands =
          record { o = o; stands = stands-front (each occurrence_numbers os) stands }

  pub turn :
      {rest : List Occurrence} {place : Place}
      → Ahead image m later at left filled rest
      → ((o : Occurrence) → Stands image at (occurrence_numbers o) → PlaceOf image at o place)
      → Turn image m later at left filled rest place
  unfolding each driven largest_referred
  turn {place = place} ahead read = go ahead.framed ahead.fits ahead.many ahead.calls ahead.nets ahead.stands
    where
      go :
          {filled : ℕ} {rest : List Occurrence} → Framed later filled rest → filled + length (driven rest) ≡ net_count m
          → left ≡ length rest → largest_referred (room later) rest ≤ largest_referred (room later) m.occurrences
          → Filled (net_count m) (driven rest) → Stands image at (each occurrence_numbers rest)
          → Turn image m later at left filled rest place
      go done fits many calls slots stands = absurd (omega arith)
      go (step {filled} {o} {os} slots reference others) fits many calls given stands =
          let there = read o (stands-front (each occurrence_numbers os) stands) in
          let nets = length-append o.drives (driven os) in
          record {
            o = o;
            os = os;
            is = refl;
            read = there;
            slots = slots;
            nets = filled-front o.drives (driven os) given;
            reference = reference;
            fits = omega (arith, there.drives);
            call = omega arith;
            next =
                record {
                  stands = moved (at + length (occurrence_numbers o)) there.next (stands-skip (occurrence_numbers o) stands);
                  many = omega arith;
                  framed = subst (λ (n : ℕ). Framed later (filled + n) os) (sym there.drives) others;
                  fits = omega (arith, there.drives);
                  calls = omega arith;
                  nets = filled-behind o.drives (driven os) given;
                };
          }

module _
    {image : List ℕ} {m : Module} {later : List Module} {at left filled : ℕ} {rest : List Occurrence} {place : Place}
    (t : Turn image m later at left filled rest place)
  where
    -- Its arguments can be read, and they are read from the frame so far.
    pub readable : (size : ℕ) → filled ≤ size → Readable image place.from place.to 0 size
    readable size within = readable-stands place.from t.read.takes t.read.to 0 size t.slots (omega arith)

    -- The nets that it drives have slots too.
    pub driven-readable :
        (size : ℕ) {from to : ℕ} → from ≡ at + 1 → to ≡ from + place.drives → net_count m ≤ size → Readable image from to 0 size
    driven-readable size {from} begin end within =
        readable-stands from (moved (at + 1) begin t.read.driven) (omega (arith, t.read.drives)) 0 size t.nets (omega arith)

    pub arguments :
        {A : Type 0} (none : A) (scratch : List A)
        → values_at none image place.from place.to 0 scratch ≡ read_slots none (take filled scratch) t.o.takes
    arguments none scratch =
        values-stand place.from t.read.takes t.read.to none 0 scratch
        ∙ sym (read-front none scratch t.o.takes t.slots)

    -- It refers to a gate, and so takes as many arguments as that and drives one net.
    pub record AtGate : Type 0 where
      pub is : is_gate t.o.refers ≡ true
      pub takes : (gate t.o.refers).arity ≡ length t.o.takes
      pub drives : place.drives ≡ 1

    pub at-gate : is_gate place.refers ≡ true → AtGate
    at-gate told = go t.reference
      where
        go : Reference later t.o → AtGate
        go (to_gate h arity one) = record { is = h; takes = arity; drives = t.read.drives ∙ sym one }
        go (to_module n h found takes drives) = absurd (true≢false (sym told ∙ ap is_gate t.read.refers ∙ h))

-- A turn at a module: it is later, and its room lies behind the frame.
module _
    {image starts nets : List ℕ} {rs : List Module} {k : ℕ} (s : Scene image starts nets rs k) {at left filled : ℕ} {rest : List Occurrence}
    {place : Place} (t : Turn image s.m s.later at left filled rest place) (no_gate : is_gate place.refers ≡ false)
  where
    pub target : Beyond image starts nets rs k (place.refers - 16) t.o
    target = beyond s t.reference t.read.refers no_gate

    abbrev pub called : Scene image starts nets rs (place.refers - 16)
    called = target.scene

    -- What the later modules say of the number referred to is what the file says of the position, and what it says of the module there.
    pub file-says :
        {C : Type 0} {f : List Module → ℕ → C} {own : Module → List Module → C}
        → Search f own
        → f s.later t.o.refers ≡ f rs (16 + (place.refers - 16))
    file-says says = says-beyond s t.reference t.read.refers no_gate says

    pub target-says :
        {C : Type 0} {f : List Module → ℕ → C} {own : Module → List Module → C}
        → Search f own
        → f s.later t.o.refers ≡ own called.m called.later
    target-says says = file-says says ∙ says_here called says

    pub is_module : is_gate t.o.refers ≡ false
    is_module = ap is_gate (sym t.read.refers) ∙ no_gate

    pub call-room : get_or nets k 0 + needed target.scene.m target.scene.later ≤ needed s.m s.later
    call-room = omega (arith, frame_is s, target-says room-search, rw is_module at t.call)
