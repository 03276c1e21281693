-- A turn of the walk at an occurrence that refers to a module: the plan for that module is carried out in the part of scratch behind the
-- frame, with the occurrence's arguments at the front of that part, and its outputs come to the next slots.
use Prim.Native.Nat.{ℕ, ◌+◌, ◌-◌, ◌*◌, ◌≤◌, ◌<◌}
use mathlib.Core.Path.{◌≡◌, sym, ap, subst, ◌∙◌}
use mathlib.Core.Bool.{false}
use mathlib.Core.List.{List, ◌++◌}
use native.Mathlib.Omega.{arith}
use borrow.Rule.Slice.PartMut.{mid_of, put_mid}
use lib.ListN.{length, get_or, take, drop}
use Rattle.meaning.specs.Gates.{is_gate}
use Rattle.meaning.specs.Flattening.{Board, Placed}
use Rattle.image.specs.Frames.{read_slots}
use Rattle.image.specs.Laid.{laid}
use Rattle.image.specs.Places.{HeaderOf}
use Rattle.image.specs.Scenes.{Scene, in_starts, frame-ok}
use Rattle.image.specs.Slots.{Copyable, values_at}
use Rattle.image.specs.Reading.{read-front}
use Rattle.image.specs.Lending as lending
use Rattle.image.specs.Walking.{target, called, target-says, is_module}
use Rattle.image.specs.Calling as calling
use Rattle.image.specs.declared.places.Header.{Header}
use Rattle.image.specs.declared.places.Place.{Place}
use Rattle.flat_engine.specs.Placing.{walk_placed, place_frame, place_frames}
use Rattle.flat_engine.specs.PlacingMeans.{place_frames-search}
use Rattle.flat_bytes.specs.Gates.{Written}
use Rattle.flat_engine.specs.Plan.{Plan, Ready, Done, given, planned, scene}
use Rattle.flat_bytes.specs.declared.pen.Pen.{Pen}
use Rattle.flat_engine.proofs.Progress.{Progress}
use Rattle.flat_engine.proofs.Turns.{Here, args, placed, within, enough, past}

module _
    {p : Plan} {image starts nets : List ℕ} {k : ℕ} {pen₀ : Pen} {scratch₀ bytes₀ : List ℕ}
    {ready : Ready p image starts nets k pen₀ scratch₀ bytes₀} {at left filled : ℕ} {scratch bytes : List ℕ} {pen : Pen} {place : Place}
    (h : Here ready at left filled scratch bytes pen place) (no_gate : is_gate place.refers ≡ false)
  where
    abbrev pub sub : Scene image starts nets p.rs (place.refers - 16)
    sub = called (scene ready) h.turn no_gate

    pub listed : place.refers - 16 < length starts
    listed = in_starts sub

    pub falls : 2 * (length starts - (place.refers - 16)) + 1 < 2 * (length starts - k)
    falls = omega (arith, (target (scene ready) h.turn no_gate).after, listed)

    pub passes : Copyable image place.from place.to 0 (get_or nets k 0) scratch
    passes = calling.passes 0 (scene ready) h.turn no_gate scratch (enough h)

    abbrev pub sub-plan : Plan
    sub-plan = record { rs = p.rs; m = sub.m; later = sub.later; board = h.progress.board; around = p.around }

    -- What the occurrence places is what placing that module gives.
    placed-is : placed h ≡ place_frame (place_frames sub.later) sub.m (args h) h.progress.board
    placed-is =
        rw (is_module (scene ready) h.turn no_gate)
        (ap (λ (place : List ℕ → Board → Placed). place (args h) h.progress.board)
        (target-says (scene ready) h.turn no_gate place_frames-search))

    -- Once the arguments are passed.
    module _ {scratch₁ : List ℕ} (passed : scratch₁ ≡ laid scratch (get_or nets k 0) (values_at 0 image place.from place.to 0 scratch)) where
      pub lent-inside : get_or nets k 0 ≤ length scratch₁
      lent-inside = calling.lent-inside 0 (scene ready) h.turn no_gate scratch (enough h) passed

      abbrev pub part : List ℕ
      part = mid_of (get_or nets k 0) (length scratch₁ - get_or nets k 0) scratch₁

      given_is : given sub-plan part ≡ args h
      given_is =
          ap (take (length sub.m.inputs)) (lending.lent_is (get_or nets k 0) scratch₁)
          ∙ ap (λ (n : ℕ). take n (drop (get_or nets k 0) scratch₁)) (sym (target (scene ready) h.turn no_gate).takes)
          ∙ lending.given (calling.args-passed 0 (scene ready) h.turn no_gate scratch (enough h) passed)

      planned-is : planned sub-plan part ≡ walk_placed (place_frames sub.later) sub.m.occurrences (args h) h.progress.board
      planned-is = ap (λ (nets : List ℕ). walk_placed (place_frames sub.later) sub.m.occurrences nets h.progress.board) given_is

      -- The module's gates are those of the occurrence, and its outputs the nets that the occurrence drives.
      board-is : (planned sub-plan part).board ≡ (placed h).board
      unfolding place_frame
      board-is = ap (λ (q : Placed). q.board) planned-is ∙ sym (ap (λ (q : Placed). q.board) placed-is)

      nets-are : read_slots 0 (planned sub-plan part).nets sub.m.outputs ≡ (placed h).nets
      unfolding place_frame
      nets-are = ap (λ (q : Placed). read_slots 0 q.nets sub.m.outputs) planned-is ∙ sym (ap (λ (q : Placed). q.nets) placed-is)

      pub calls : Ready sub-plan image starts nets (place.refers - 16) pen part bytes
      calls =
          record {
            imaged = ready.imaged;
            here = sub.here;
            room = calling.lent-room 0 (scene ready) h.turn no_gate scratch (enough h) passed;
            written = h.progress.written;
            few = rw board-is (within h).few;
            within = rw board-is (within h).within;
            long = rw board-is (within h).long;
          }

      module _
          (part' : List ℕ) (kept : length part' ≡ length part) {header : Header}
          (read : HeaderOf image (get_or starts (place.refers - 16) 0) sub.m header)
        where
          abbrev returned : List ℕ
          returned = put_mid (get_or nets k 0) (length scratch₁ - get_or nets k 0) scratch₁ part'

          pub fetches : Copyable image header.from header.to (get_or nets k 0) filled returned
          fetches = calling.fetches 0 (scene ready) h.turn no_gate scratch (enough h) passed part' kept read

          pub turn_module :
              {pen' : Pen} {bytes' : List ℕ}
              → Done sub-plan part part' pen' bytes'
              → {scratch₃ : List ℕ}
              → scratch₃ ≡ laid returned filled (values_at 0 image header.from header.to (get_or nets k 0) returned)
              → Progress ready place.to (left - 1) (filled + place.drives) scratch₃ bytes' pen'
          turn_module {pen'} {bytes'} done {scratch₃} fetched =
              past h
              (record {
                front =
                    ap (λ (n : ℕ). take (filled + n) scratch₃) (h.turn.read.drives ∙ (target (scene ready) h.turn no_gate).drives)
                    ∙ lending.grown exchange
                    ∙ ap (λ (l : List ℕ). take filled scratch ++ l)
                    (sym (read-front 0 part' sub.m.outputs (frame-ok sub).answered)
                    ∙ ap (λ (l : List ℕ). read_slots 0 l sub.m.outputs) done.frame
                    ∙ nets-are);
                size = lending.size exchange;
                written = subst (λ (b : Board). Written p.around b pen' bytes') board-is done.written;
              })
            where
              exchange : lending.Exchange 0 h.turn.o.takes sub.m.outputs (get_or nets k 0) filled scratch scratch₁ part' returned scratch₃
              exchange = calling.exchanged 0 (scene ready) h.turn no_gate scratch (enough h) passed part' kept read fetched
