-- A turn of the walk: what the occurrence places is within what was planned, and once it is placed the walk goes on behind it. At a gate it
-- is written, and its net comes to the next slot.
use Prim.Native.Nat.{ℕ, suc, ◌+◌, ◌-◌, ◌≤◌, ◌<◌}
use mathlib.Core.Path.{◌≡◌, refl, sym, ap, ap₂, subst, ◌∙◌}
use mathlib.Core.Bool.{true}
use mathlib.Core.List.{List, [], ◌∷◌, ◌++◌}
use native.Mathlib.Omega.{arith}
use lib.ListN.{length, take, set, length-set, length-append}
use lib.Seq.{take-suc-set}
use Rattle.meaning.specs.Lists.{All, more}
use Rattle.meaning.specs.Syntax.{Occurrence}
use Rattle.meaning.specs.Gates.{is_gate}
use Rattle.meaning.specs.Layout.{each, occurrence_numbers}
use Rattle.meaning.specs.Ceilings.{OccurrenceWithin}
use Rattle.meaning.specs.Limits.{most_module_nets}
use Rattle.meaning.specs.Flattening.{Placed, place_referred, place_gate}
use Rattle.laws.specs.Lists.{all-behind}
use Rattle.laws.specs.Written.{occurrence_bytes}
use Rattle.bytes_out.specs.Filled.{Put}
use Rattle.image.specs.Frames.{read_slots}
use Rattle.image.specs.Scenes.{frame-ok}
use Rattle.image.specs.Stands.{Stands}
use Rattle.image.specs.Places.{PlaceOf}
use Rattle.image.specs.Walking.{needed, Ahead, all-ahead, Turn, turn, readable, arguments, AtGate, at-gate}
use Rattle.image.specs.declared.places.Header.{Header}
use Rattle.image.specs.declared.places.Place.{Place}
use Rattle.flat_engine.specs.Placing.{walk_placed, place_frames}
use Rattle.flat_engine.specs.Growing.{Grows, board-grows, pieces_grow, all-before}
use Rattle.flat_bytes.specs.Gates.{Written, Settable, gate_at, each_snoc, gate-written}
use Rattle.flat_engine.specs.Plan.{Plan, Ready, SomeWalkable, planned, scene}
use Rattle.flat_bytes.specs.declared.pen.Pen.{Pen}
use Rattle.flat_engine.proofs.Progress.{Progress, Walking, long-now}

-- The walk so far, and the occurrence whose turn it is.
pub record Here
    {p : Plan} {image starts nets : List ℕ} {k : ℕ} {pen₀ : Pen} {scratch₀ bytes₀ : List ℕ}
    (ready : Ready p image starts nets k pen₀ scratch₀ bytes₀) (at left filled : ℕ) (scratch bytes : List ℕ) (pen : Pen) (place : Place)
    : Type 0 where
  pub progress : Progress ready at left filled scratch bytes pen
  pub turn : Turn image p.m p.later at left filled progress.rest place

-- Once its place is read, what is known of any plan that could be carried out from the start,
pub here :
    {image starts nets : List ℕ} {k : ℕ} {pen₀ : Pen} {scratch₀ bytes₀ : List ℕ} {at₀ left₀ filled₀ at left filled : ℕ} {scratch bytes : List ℕ}
    {pen : Pen} {place : Place}
    → Walking image starts nets k pen₀ scratch₀ bytes₀ at₀ left₀ filled₀ at left filled scratch bytes pen
    → 0 < left
    → ((o : Occurrence) → Stands image at (occurrence_numbers o) → PlaceOf image at o place)
    → (p : Plan) (ready : Ready p image starts nets k pen₀ scratch₀ bytes₀)
    → Ahead image p.m p.later at₀ left₀ filled₀ p.m.occurrences
    → Here ready at left filled scratch bytes pen place
here walking some read p ready ahead = let g = walking p ready ahead in record { progress = g; turn = turn some g.ahead read }

-- and of the one that the caller has. Its own occurrences are all ahead at first.
pub own :
    {image starts nets : List ℕ} {k : ℕ} {header : Header} {pen₀ : Pen} {scratch₀ bytes₀ : List ℕ} {at left filled : ℕ} {scratch bytes : List ℕ}
    {pen : Pen} {place : Place} (w : SomeWalkable image starts nets k header pen₀ scratch₀ bytes₀)
    → Walking image starts nets k pen₀ scratch₀ bytes₀ (header.to + 1) header.count header.inputs at left filled scratch bytes pen
    → 0 < left
    → ((o : Occurrence) → Stands image at (occurrence_numbers o) → PlaceOf image at o place)
    → Here w.ready at left filled scratch bytes pen place
own w walking some read = here walking some read w.plan w.ready (all-ahead (scene w.ready) w.header)

module _
    {p : Plan} {image starts nets : List ℕ} {k : ℕ} {pen₀ : Pen} {scratch₀ bytes₀ : List ℕ}
    {ready : Ready p image starts nets k pen₀ scratch₀ bytes₀} {at left filled : ℕ} {scratch bytes : List ℕ} {pen : Pen} {place : Place}
    (h : Here ready at left filled scratch bytes pen place)
  where
    abbrev pub o : Occurrence
    o = h.turn.o

    abbrev pub args : List ℕ
    args = read_slots 0 (take filled scratch) o.takes

    -- What the occurrence places.
    abbrev pub placed : Placed
    placed = place_referred (place_frames p.later) o.refers args h.progress.board

    -- The walk behind it is the rest of what was planned.
    rest-is : walk_placed (place_frames p.later) h.turn.os (take filled scratch ++ placed.nets) placed.board ≡ planned p scratch₀
    unfolding walk_placed
    rest-is =
        sym (ap (λ (os : List Occurrence). walk_placed (place_frames p.later) os (take filled scratch) h.progress.board) h.turn.is)
        ∙ h.progress.same

    -- The occurrence's gates have numbers, can be written, and have places.
    pub record Within : Type 0 where
      pub few : placed.board.next ≤ most_module_nets
      pub within : All OccurrenceWithin placed.board.gates
      pub long : length (each occurrence_bytes placed.board.gates) ≤ length p.around

    pub within : Within
    within =
        let grows = board-grows p.later h.turn.os (take filled scratch ++ placed.nets) placed.board in
        let planned-grows = subst (λ (q : Placed). Grows placed.board q.board) rest-is grows in
        record {
          few = omega (arith, ready.few, planned-grows.next);
          within = all-before planned-grows ready.within;
          long = omega (arith, ready.long, pieces_grow occurrence_bytes planned-grows);
        }

    pub enough : needed p.m p.later ≤ length scratch
    enough = omega (arith, ready.room, h.progress.size)

    -- The frame is narrow.
    pub narrow : filled + place.drives ≤ most_module_nets
    narrow = omega (arith, h.turn.fits, (frame-ok (scene ready)).nets)

    -- It is placed: its nets stand in their slots, and its gates are written.
    pub record Stepped (scratch' bytes' : List ℕ) (pen' : Pen) : Type 0 where
      pub front : take (filled + place.drives) scratch' ≡ take filled scratch ++ placed.nets
      pub size : length scratch' ≡ length scratch
      pub written : Written p.around placed.board pen' bytes'

    pub past :
        {scratch' bytes' : List ℕ} {pen' : Pen}
        → Stepped scratch' bytes' pen'
        → Progress ready place.to (left - 1) (filled + place.drives) scratch' bytes' pen'
    past s =
        record {
          rest = h.turn.os;
          ahead = h.turn.next;
          size = s.size ∙ h.progress.size;
          board = placed.board;
          written = s.written;
          same = ap (λ (frame : List ℕ). walk_placed (place_frames p.later) h.turn.os frame placed.board) s.front ∙ rest-is;
        }

    -- A gate.
    module _ (is : is_gate place.refers ≡ true) where
      gate : AtGate h.turn
      gate = at-gate h.turn is

      pub gate-room : filled < length scratch
      gate-room = omega (arith, h.turn.fits, gate.drives, enough)

      -- With the net that it drives, and its arguments' nets.
      abbrev driving : (net : ℕ) → Occurrence
      driving net = record { drives = net ∷ []; refers = o.refers; takes = args }

      gate-is : gate_at place.refers pen.next image place.from place.to scratch ≡ driving pen.next
      gate-is =
          ap₂ (λ (kind : ℕ) (takes : List ℕ). record { drives = pen.next ∷ []; refers = kind; takes = takes }) h.turn.read.refers
          (arguments h.turn 0 scratch)

      abbrev new : Occurrence
      new = driving h.progress.board.next

      new_is : gate_at place.refers pen.next image place.from place.to scratch ≡ new
      new_is = gate-is ∙ ap driving h.progress.written.next

      set-down : placed ≡ place_gate o.refers args h.progress.board
      set-down = rw gate.is

      new-within : OccurrenceWithin new
      new-within = go (all-behind h.progress.board.gates (rw set-down at within.within))
        where
          go : All OccurrenceWithin (new ∷ []) → OccurrenceWithin new
          go (more w rest) = w

      fits : pen.at + length (occurrence_bytes new) ≤ length bytes
      fits =
          omega (
            arith,
            rw set-down at within.long,
            ap length (each_snoc occurrence_bytes h.progress.board.gates new),
            length-append (each occurrence_bytes h.progress.board.gates) (occurrence_bytes new),
            h.progress.written.put.place,
            long-now ready h.progress,
          )

      pub numbered : pen.next + 1 ≤ most_module_nets
      numbered = omega (arith, h.progress.written.next, rw set-down at within.few)

      pub settable : Settable place.refers pen.next image place.from place.to scratch bytes pen.at
      settable =
          record {
            readable = readable h.turn (length scratch) (omega (arith, gate-room));
            within = rw new_is new-within;
            room = rw new_is fits;
          }

      pub turn-gate :
          {bytes' : List ℕ} {end : ℕ}
          → Put (occurrence_bytes (gate_at place.refers pen.next image place.from place.to scratch)) bytes pen.at bytes' end
          → Progress ready place.to (left - 1) (filled + place.drives) (set scratch filled pen.next) bytes'
          (record { next = pen.next + 1; at = end })
      turn-gate put =
          let one : filled + place.drives ≡ suc filled = omega (arith, gate.drives) in
          past
          (record {
            front = rw (set-down, one, ← h.progress.written.next) (take-suc-set scratch filled pen.next gate-room);
            size = length-set scratch filled pen.next;
            written = rw set-down (gate-written o.refers args h.progress.written (rw gate-is at put) refl);
          })
