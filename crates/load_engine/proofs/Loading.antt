-- How far working out the loads of a module's nets has come: what the frame holds and what the occurrences ahead add are the loads. So
-- no sum on the way is above the largest load.
use Prim.Native.Nat.{ℕ, zero, suc, ◌+◌, ◌*◌, ◌≤◌, ◌<◌, max}
use mathlib.Core.Path.{◌≡◌, refl, sym, ap, ap₂, ◌∙◌}
use mathlib.Core.List.{List, [], ◌∷◌, ◌++◌, map, map-append}
use native.Mathlib.Omega.{arith}
use lib.ListN.{length, get_or, take, drop, replicate, length-replicate, length-map, get_or-replicate, get_or-append}
use lib.Seq.{ext_get_or, get_or-take, length-take-le, take-take, take_at, drop_at}
use Rattle.meaning.specs.Syntax.{Occurrence, Module}
use Rattle.meaning.specs.Limits.{driven, net_count, most_size}
use Rattle.meaning.specs.Figures.{largest, largest_referred, room}
use Rattle.meaning.specs.Loads.{Loads, net_load, loads_inside, largest_load}
use Rattle.image.specs.Resolved.{nets_of}
use Rattle.image.specs.Shapes.{length-of-nets}
use Rattle.image.specs.Searching.{room-search, loads_inside-search, largest_load-search}
use Rattle.image.specs.Entries.{mapped, same-further}
use Rattle.image.specs.Frames.{read_slots, Filled}
use Rattle.image.specs.Reading.{read-front}
use Rattle.image.specs.Places.{HeaderOf}
use Rattle.image.specs.Scenes.{Scene, frame_is, frame-ok, says_here}
use Rattle.image.specs.Walking.{needed, Ahead, all-ahead}
use Rattle.image.specs.declared.places.Header.{Header}
use Rattle.load_engine.specs.Loads.{Loadable}

-- No entry is above the largest.
within-largest : (l : List ℕ) (i : ℕ) → get_or l i 0 ≤ largest l
unfolding largest
within-largest [] i = omega arith
within-largest (x ∷ l) zero = omega arith
within-largest (x ∷ l) (suc i) = omega (arith, within-largest l i)

-- The load of a net by the occurrences of a list.
abbrev pub load_by : List Module → List Occurrence → (net : ℕ) → ℕ
load_by later os net = net_load (loads_inside later) os net

pub record Loading
    {image starts nets : List ℕ} {k entries : ℕ} (s : Loadable image starts nets k entries)
    (before : List ℕ) (at left most : ℕ) (scratch : List ℕ) : Type 0 where
  pub rest : List Occurrence
  pub filled : ℕ
  pub ahead : Ahead image s.scene.m s.scene.later at left filled rest
  pub loaded :
      (net : ℕ)
      → net < net_count s.scene.m
      → get_or scratch net 0 + load_by s.scene.later rest net ≡ load_by s.scene.later s.scene.m.occurrences net
  pub largest :
      max most (largest_referred (largest_load s.scene.later) rest)
      ≡ largest_referred (largest_load s.scene.later) s.scene.m.occurrences
  pub long : length scratch ≡ entries
  pub behind : drop (room s.rs (16 + k)) scratch ≡ drop (room s.rs (16 + k)) before

-- All occurrences have added: the loads of the module's nets stand in its frame, the largest of them and of those inside is known, and
-- nothing behind its room has changed.
pub record FrameLoaded
    (rs : List Module) (m : Module) (later : List Module) (k most : ℕ) (scratch scratch' : List ℕ) : Type 0 where
  pub largest : most ≡ largest_load rs (16 + k)
  pub loads : take (net_count m) scratch' ≡ map (net_load (loads_inside later) m.occurrences) (nets_of m)
  pub behind : drop (room rs (16 + k)) scratch' ≡ drop (room rs (16 + k)) scratch

-- The same module in other entries that are enough.
abbrev pub moved :
    {image starts nets : List ℕ} {k entries entries' : ℕ} (s : Loadable image starts nets k entries)
    → room s.rs (16 + k) ≤ entries'
    → Loadable image starts nets k entries'
moved s enough = record { rs = s.rs; scene = s.scene; ordered = s.ordered; room = enough; loads = s.loads }

-- The loads of a module's nets, by slot.
load_at :
    {image starts nets : List ℕ} {rs : List Module} {k : ℕ} (s : Scene image starts nets rs k) (net : ℕ)
    → net < net_count s.m
    → get_or (map (load_by s.later s.m.occurrences) (nets_of s.m)) net 0 ≡ load_by s.later s.m.occurrences net
load_at s net less =
    let load = load_by s.later s.m.occurrences in
    let same : 0 + net ≡ net = omega arith in
    ap (λ (l : List ℕ). get_or (map load l) net 0) (frame-ok s).slots ∙ mapped load 0 (net_count s.m) net less ∙ ap load same

module _ {image starts nets : List ℕ} {k entries : ℕ} (s : Loadable image starts nets k entries) where
  -- The module's room: its frame, and behind it that of the modules referred to.
  pub says-room : room s.rs (16 + k) ≡ needed s.scene.m s.scene.later
  says-room = says_here s.scene room-search

  pub frame-fits : get_or nets k 0 ≤ entries
  frame-fits = omega (arith, says-room, s.room, frame_is s.scene)

  -- The frame is cleared.
  module _ (entry : List ℕ) {scratch : List ℕ} (zeros : scratch ≡ replicate (get_or nets k 0) 0 ++ drop (get_or nets k 0) entry) where
    cleared : (net : ℕ) → net < net_count s.scene.m → get_or scratch net 0 ≡ 0
    cleared net less =
        let inside : net < get_or nets k 0 = omega (arith, frame_is s.scene) in
        ap (λ (l : List ℕ). get_or l net 0) zeros
        ∙ get_or-append (replicate (get_or nets k 0) 0) (drop (get_or nets k 0) entry) 0 net
        (omega (arith, length-replicate {A = ℕ} (get_or nets k 0) 0))
        ∙ get_or-replicate (get_or nets k 0) net 0 0 inside

    pub kept-behind : drop (room s.rs (16 + k)) scratch ≡ drop (room s.rs (16 + k)) entry
    kept-behind =
        same-further scratch entry (get_or nets k 0) (room s.rs (16 + k)) (omega (arith, says-room, frame_is s.scene))
        (ap (drop (get_or nets k 0)) zeros
        ∙ drop_at (replicate (get_or nets k 0) 0) (drop (get_or nets k 0) entry) (get_or nets k 0) (length-replicate (get_or nets k 0) 0))

    -- Nothing is added yet.
    pub none-loaded :
        {h : Header}
        → HeaderOf image (get_or starts k 0) s.scene.m h
        → length scratch ≡ entries
        → Loading s scratch (h.to + 1) h.count 0 scratch
    none-loaded header long =
        record {
          rest = s.scene.m.occurrences;
          filled = _;
          ahead = all-ahead s.scene header;
          loaded = λ net less. omega (arith, cleared net less);
          largest = omega arith;
          long = long;
          behind = refl;
        }

  -- None is above the largest.
  pub net-within : (net : ℕ) → net < net_count s.scene.m → load_by s.scene.later s.scene.m.occurrences net ≤ 4 * most_size
  net-within net less =
      omega (
        arith,
        load_at s.scene net less,
        within-largest (map (load_by s.scene.later s.scene.m.occurrences) (nets_of s.scene.m)) net,
        says_here s.scene largest_load-search,
        s.loads,
      )

  -- With no occurrence left the frame holds the loads, and the largest is known.
  pub all-loaded :
      {before scratch : List ℕ} (entry : List ℕ) {at left most own most' : ℕ}
      → left ≡ 0
      → Loading s before at left most scratch
      → drop (room s.rs (16 + k)) before ≡ drop (room s.rs (16 + k)) entry
      → own ≡ largest (take (get_or nets k 0) scratch)
      → most' ≡ max own most
      → FrameLoaded s.rs s.scene.m s.scene.later k most' entry scratch
  unfolding net_load largest_referred
  all-loaded {scratch = scratch} entry {left = left} {most} over l kept own larger =
      record {
        largest = omega (arith, larger, rw (frame_is s.scene) at own, ap largest loads, says_here s.scene largest_load-search, most-of-all);
        loads = loads;
        behind = l.behind ∙ kept;
      }
    where
      nothing : (rest : List Occurrence) → length rest ≡ 0 → rest ≡ []
      nothing [] e = refl
      nothing (o ∷ os) e = absurd (omega arith)

      none : l.rest ≡ []
      none = nothing l.rest (omega (arith, l.ahead.many))

      most-of-all : most ≡ largest_referred (largest_load s.scene.later) s.scene.m.occurrences
      most-of-all = omega (arith, rw none at l.largest)

      long : length (take (net_count s.scene.m) scratch) ≡ net_count s.scene.m
      long = length-take-le (net_count s.scene.m) scratch (omega (arith, frame-fits, frame_is s.scene, l.long))

      at-net : (net : ℕ) → net < net_count s.scene.m → get_or scratch net 0 ≡ load_by s.scene.later s.scene.m.occurrences net
      at-net net less = omega (arith, rw none at (l.loaded net less))

      loads :
          take (net_count s.scene.m) scratch
          ≡ map (load_by s.scene.later s.scene.m.occurrences) (nets_of s.scene.m)
      loads =
          ext_get_or 0 (take (net_count s.scene.m) scratch) _
          (long ∙ sym (length-of-nets s.scene.m) ∙ sym (length-map (nets_of s.scene.m) _))
          (λ net less.
          let inside_frame : net < net_count s.scene.m = omega (arith, long) in
          get_or-take (net_count s.scene.m) scratch net 0 inside_frame ∙ at-net net inside_frame ∙ sym (load_at s.scene net inside_frame))

-- The loads of a module's inputs are the first of those that its turn leaves, and those of its outputs stand at their slots.
module _
    {image starts nets : List ℕ} {rs : List Module} {j most : ℕ} {part part' : List ℕ} (s : Scene image starts nets rs j)
    (done : FrameLoaded rs s.m s.later j most part part')
  where
    abbrev load : ℕ → ℕ
    load = net_load (loads_inside s.later) s.m.occurrences

    pub inputs-loaded : take (length s.m.inputs) part' ≡ (loads_inside rs (16 + j)).inputs
    unfolding nets_of net_count
    inputs-loaded =
        let n = s.m in
        sym (take-take (length n.inputs) (net_count n) part' (omega arith))
        ∙ ap (take (length n.inputs)) (done.loads ∙ map-append load n.inputs (driven n.occurrences))
        ∙ take_at (map load n.inputs) (map load (driven n.occurrences)) (length n.inputs) (length-map n.inputs load)
        ∙ sym (ap (λ (l : Loads). l.inputs) (says_here s loads_inside-search))

    -- By slot, for a list of slots of the frame.
    slots-loaded : (slots : List ℕ) → Filled (net_count s.m) slots → read_slots 0 (take (net_count s.m) part') slots ≡ map load slots
    unfolding read_slots
    slots-loaded [] filled = refl
    slots-loaded (x ∷ slots) filled =
        ap₂ {C = List ℕ} ◌∷◌ (ap (λ (l : List ℕ). get_or l x 0) done.loads ∙ load_at s x (filled.slot 0 (omega arith)))
        (slots-loaded slots (record { slot = λ i less. filled.slot (suc i) (omega arith) }))

    pub outputs-loaded : read_slots 0 part' s.m.outputs ≡ (loads_inside rs (16 + j)).outputs
    outputs-loaded =
        let filled = (frame-ok s).answered in
        sym (read-front 0 part' s.m.outputs filled)
        ∙ slots-loaded s.m.outputs filled
        ∙ sym (ap (λ (l : Loads). l.outputs) (says_here s loads_inside-search))
