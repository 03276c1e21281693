-- One turn of working out loads: where an occurrence adds to each net what the definition says, the loads go on behind it. What it adds
-- can be added, since no sum on the way is above the largest load.
use Prim.Native.Nat.{ℕ, ◌+◌, ◌-◌, ◌<◌, ◌^◌, max}
use mathlib.Core.Path.{◌≡◌, ◌∙◌}
use mathlib.Core.Bool.{cond}
use mathlib.Core.List.{List}
use native.Mathlib.Omega.{arith}
use lib.ListN.{length, get_or, take, drop}
use Rattle.meaning.specs.Syntax.{Occurrence, Module}
use Rattle.meaning.specs.Gates.{is_gate}
use Rattle.meaning.specs.Figures.{largest_referred, room}
use Rattle.meaning.specs.Loads.{places_load, Loads, referred_loads, net_load, loads_inside, largest_load}
use Rattle.image.specs.Entries.{same-entry, same-further}
use Rattle.image.specs.Scenes.{frame_is}
use Rattle.image.specs.Walking.{Turn}
use Rattle.image.specs.declared.places.Place.{Place}
use Rattle.load_engine.specs.Loads.{Loadable}
use Rattle.load_engine.proofs.Loading.{Loading, load_by, net-within, says-room}

-- What an occurrence adds to the load of a net, and what it makes of the largest load so far.
abbrev pub occurrence_load : List Module → Occurrence → (net : ℕ) → ℕ
occurrence_load later o net =
    let inside : Loads = referred_loads (loads_inside later) o in
    places_load net o.takes inside.inputs + places_load net o.drives inside.outputs

abbrev largest_with : List Module → Occurrence → (most : ℕ) → ℕ
largest_with later o most = max most (cond (is_gate o.refers) 0 (largest_load later o.refers))

module _
    {image starts nets : List ℕ} {k entries : ℕ} (s : Loadable image starts nets k entries) {before : List ℕ} {at left most : ℕ}
    {scratch : List ℕ} (l : Loading s before at left most scratch) {place : Place}
    (t : Turn image s.scene.m s.scene.later at left l.filled l.rest place)
  where
    -- What is to be added stands ready, the frame is as it was, and so is what lies behind the module's room.
    pub record Ready (share : ℕ → ℕ) (most' : ℕ) (scratch' : List ℕ) : Type 0 where
      pub front : take (get_or nets k 0) scratch' ≡ take (get_or nets k 0) scratch
      pub back : drop (room s.rs (16 + k)) scratch' ≡ drop (room s.rs (16 + k)) before
      pub long : length scratch' ≡ entries
      pub adds : (net : ℕ) → share net ≡ occurrence_load s.scene.later t.o net
      pub larger : most' ≡ largest_with s.scene.later t.o most

    module _ {share : ℕ → ℕ} {most' : ℕ} {scratch' : List ℕ} (ready : Ready share most' scratch') where
      split :
          (net : ℕ)
          → net < get_or nets k 0
          → get_or scratch' net 0 + (share net + load_by s.scene.later t.os net)
          ≡ load_by s.scene.later s.scene.m.occurrences net
      unfolding net_load
      split net less =
          omega (
            arith,
            same-entry scratch' scratch (get_or nets k 0) net less ready.front,
            ready.adds net,
            rw t.is at (l.loaded net (omega (arith, frame_is s.scene))),
          )

      -- Then it can be added, and the loads go on.
      pub fits : (net : ℕ) → net < get_or nets k 0 → get_or scratch' net 0 + share net < 2 ^ 32
      fits net less = omega (arith, split net less, net-within s net (omega (arith, frame_is s.scene)))

      pub next :
          {scratch'' : List ℕ}
          → length scratch'' ≡ length scratch'
          → ((net : ℕ) → net < get_or nets k 0 → get_or scratch'' net 0 ≡ get_or scratch' net 0 + share net)
          → drop (get_or nets k 0) scratch'' ≡ drop (get_or nets k 0) scratch'
          → Loading s before place.to (left - 1) most' scratch''
      unfolding largest_referred
      next {scratch''} long added behind =
          record {
            rest = t.os;
            filled = _;
            ahead = t.next;
            loaded = λ net less.
                let inside_frame : net < get_or nets k 0 = omega (arith, frame_is s.scene) in
                omega (arith, split net inside_frame, added net inside_frame);
            largest = omega (arith, rw t.is at l.largest, ready.larger);
            long = long ∙ ready.long;
            behind =
                same-further scratch'' scratch' (get_or nets k 0) (room s.rs (16 + k)) (omega (arith, says-room s, frame_is s.scene)) behind
                ∙ ready.back;
          }
