-- What the steps of working out loads ask and answer: what places add, and what is kept of a module.
use Rattle.std.specs.Prelude.{ℕ, ◌+◌, ◌-◌, ◌≤◌, ◌<◌, ◌^◌, ◌≡◌, Bool, cond, List, length, get_or, take, drop, set, replicate}
use Rattle.std.proofs.Math.Seq.{slice, paste}
use Rattle.meaning.specs.Loads.{places_load}
use Rattle.image.specs.Slots.{Readable, values_at}
use Rattle.image.specs.declared.places.Header.{Header}
use Rattle.image.specs.declared.places.Place.{Place}

-- What so many places add: 1 each at a gate, and inside a module the loads of its inputs or outputs.
abbrev pub place_loads : (inside : Bool) (first count : ℕ) (loads : List ℕ) → List ℕ
place_loads inside first count loads = cond inside (take count (drop first loads)) (replicate count 1)

-- The places `from` to `to` of the image are slots of a frame, and each load can be made larger by what they add.
pub record Placed (image : List ℕ) (from to : ℕ) (inside : Bool) (first : ℕ) (loads scratch : List ℕ) : Type 0 where
  pub frame : ℕ
  pub readable : Readable image from to 0 frame
  pub room : frame ≤ length scratch
  pub given : first + cond inside (to - from) 0 ≤ length loads
  pub fits :
      (net : ℕ)
      → net < frame
      → get_or scratch net 0 + places_load net (slice from to image) (place_loads inside first (to - from) loads) < 2 ^ 32

-- Each load is larger by what the places add, and nothing behind the frame has changed.
pub record LoadsAdded
    (image : List ℕ) (from to : ℕ) (inside : Bool) (first : ℕ) (loads : List ℕ) (frame : ℕ) (scratch scratch' : List ℕ) : Type 0 where
  pub added :
      (net : ℕ)
      → net < frame
      → get_or scratch' net 0 ≡ get_or scratch net 0 + places_load net (slice from to image) (place_loads inside first (to - from) loads)
  pub behind : drop frame scratch' ≡ drop frame scratch

-- What an occurrence of a module adds to the load of a net, where the module's numbers begin at `start`: its loads of inputs at the argument
-- places, and its loads of outputs at the driven nets.
abbrev pub inside_load : (image : List ℕ) (o : Place) (start : ℕ) (loads : List ℕ) (net : ℕ) → ℕ
inside_load image o start loads net =
    places_load net (slice o.from o.to image) (take (o.to - o.from) (drop (start + 2) loads))
    + places_load net (slice (o.from - 2 - o.drives) (o.from - 2) image) (take o.drives (drop (start + 3 + (o.to - o.from)) loads))

-- The argument places and the driven nets are slots of a frame, and each load can be made larger by what they add.
pub record Inside (image : List ℕ) (o : Place) (start : ℕ) (loads scratch : List ℕ) : Type 0 where
  pub frame : ℕ
  pub front : 2 + o.drives ≤ o.from
  pub takes : Readable image o.from o.to 0 frame
  pub drives : Readable image (o.from - 2 - o.drives) (o.from - 2) 0 frame
  pub room : frame ≤ length scratch
  pub given : start + 3 + (o.to - o.from) + o.drives ≤ length loads
  pub fits : (net : ℕ) → net < frame → get_or scratch net 0 + inside_load image o start loads net < 2 ^ 32

-- Each load is larger by it, and nothing behind the frame has changed.
pub record InsideAdded (image : List ℕ) (o : Place) (start : ℕ) (loads : List ℕ) (frame : ℕ) (scratch scratch' : List ℕ) : Type 0 where
  pub added : (net : ℕ) → net < frame → get_or scratch' net 0 ≡ get_or scratch net 0 + inside_load image o start loads net
  pub behind : drop frame scratch' ≡ drop frame scratch

-- The inputs of a module stand first in its frame and its outputs are slots of it, the list of loads has their places, and its largest load
-- plus 1 can be written.
pub record Keepable (image : List ℕ) (start : ℕ) (header : Header) (load : ℕ) (scratch loads : List ℕ) : Type 0 where
  pub frame : header.inputs ≤ length scratch
  pub there : start + 2 + header.inputs ≤ length loads
  pub outputs : Readable image header.from header.to 0 (length scratch)
  pub outputs_there : header.to ≤ length loads
  pub fits : load + 1 < 2 ^ 32

-- They are written, the loads of the inputs and then those of the outputs.
pub record Written
    (image : List ℕ) (start : ℕ) (header : Header) (k load : ℕ) (scratch loads known loads' known' : List ℕ) : Type 0 where
  pub middle : List ℕ
  pub inputs : middle ≡ paste loads (start + 2) scratch header.inputs
  pub outputs : loads' ≡ paste middle header.from (values_at 0 image header.from header.to 0 scratch) (header.to - header.from)
  pub largest : known' ≡ set known k (load + 1)
