-- A turn of the walk at an occurrence that refers to a module: it is run behind the frame, and its outputs come to the next slots.
use Prim.Native.Nat.{ℕ, ◌+◌, ◌-◌, ◌*◌, ◌≤◌, ◌<◌}
use mathlib.Core.Path.{◌≡◌, sym, ap, subst, ◌∙◌}
use mathlib.Core.Bool.{false}
use mathlib.Core.List.{List, ◌++◌}
use native.Mathlib.Omega.{arith}
use borrow.Rule.Slice.PartMut.{mid_of, put_mid}
use lib.ListN.{length, get_or, take, drop}
use Rattle.meaning.specs.Gates.{is_gate}
use Rattle.gates.specs.Kind.{kind_of}
use Rattle.gates.specs.Gates.{module_told}
use Rattle.gates.specs.declared.Kind.TheVariants.{Module}
use Rattle.image.specs.Frames.{read_slots, run_frame}
use Rattle.image.specs.Laid.{laid}
use Rattle.image.specs.Entries.{same-further}
use Rattle.image.specs.Searching.{run_frames-search}
use Rattle.image.specs.Places.{HeaderOf}
use Rattle.image.specs.Scenes.{Scene, in_starts, frame-ok}
use Rattle.image.specs.Slots.{Copyable, values_at}
use Rattle.image.specs.Reading.{read-front}
use Rattle.image.specs.Lending as lending
use Rattle.image.specs.Walking.{needed, target, called, target-says, is_module, call-room}
use Rattle.image.specs.Calling as calling
use Rattle.image.specs.declared.places.Header.{Header}
use Rattle.image.specs.declared.places.Place.{Place}
use Rattle.run_walk.specs.Work.{Work, meaning_of}
use Rattle.run_walk.specs.Running.{walk_of, Runnable, Ran}
use Rattle.run_walk.proofs.Progress.{Progress}
use Rattle.run_walk.proofs.Turns.{Here, o, args, made, enough, past}

module _
    {A : Type 0} {work : Work A} {image starts nets : List ℕ} {k : ℕ} {scratch₀ : List A} {s : Runnable image starts nets k scratch₀}
    {at left filled : ℕ} {scratch : List A} {place : Place} (h : Here work s at left filled scratch place)
    (kind : kind_of place.refers ≡ Module)
  where
    pub no_gate : is_gate place.refers ≡ false
    no_gate = module_told place.refers kind

    abbrev pub sub : Scene image starts nets s.rs (place.refers - 16)
    sub = called s.scene h.turn no_gate

    pub target-listed : place.refers - 16 < length starts
    target-listed = in_starts sub

    pub falls : 2 * (length starts - (place.refers - 16)) + 1 < 2 * (length starts - k)
    falls = omega (arith, (target s.scene h.turn no_gate).after, target-listed)

    pub passes : Copyable image place.from place.to 0 (get_or nets k 0) scratch
    passes = calling.passes work.none s.scene h.turn no_gate scratch (enough h)

    module _ {scratch₁ : List A} (passed : scratch₁ ≡ laid scratch (get_or nets k 0) (values_at work.none image place.from place.to 0 scratch)) where
      pub lent-inside : get_or nets k 0 ≤ length scratch₁
      lent-inside = calling.lent-inside work.none s.scene h.turn no_gate scratch (enough h) passed

      abbrev pub calls :
          Runnable image starts nets (place.refers - 16) (mid_of (get_or nets k 0) (length scratch₁ - get_or nets k 0) scratch₁)
      calls =
          record {
            rs = s.rs;
            scene = sub;
            enough = calling.lent-room work.none s.scene h.turn no_gate scratch (enough h) passed;
          }

      module _
          (part : List A) (kept : length part ≡ length (mid_of (get_or nets k 0) (length scratch₁ - get_or nets k 0) scratch₁)) {header : Header}
          (read : HeaderOf image (get_or starts (place.refers - 16) 0) sub.m header)
        where
          abbrev returned : List A
          returned = put_mid (get_or nets k 0) (length scratch₁ - get_or nets k 0) scratch₁ part

          pub fetches : Copyable image header.from header.to (get_or nets k 0) filled returned
          fetches = calling.fetches work.none s.scene h.turn no_gate scratch (enough h) passed part kept read

          pub turn_module :
              Ran work sub.m sub.later (mid_of (get_or nets k 0) (length scratch₁ - get_or nets k 0) scratch₁) part
              → {scratch₃ : List A}
              → scratch₃ ≡ laid returned filled (values_at work.none image header.from header.to (get_or nets k 0) returned)
              → Progress work s place.to (left - 1) (filled + place.drives) scratch₃
          unfolding run_frame
          turn_module ran-there {scratch₃} fetched =
              past h
              (record {
                size = lending.size exchange;
                grown =
                    ap (λ (n : ℕ). take (filled + n) scratch₃) (h.turn.read.drives ∙ (target s.scene h.turn no_gate).drives)
                    ∙ lending.grown exchange
                    ∙ ap (λ (l : List A). take filled scratch ++ l) answers;
                behind =
                    lending.untouched exchange (needed s.scene.m s.scene.later) (omega (arith, room, takes, calling.inputs-within sub.m))
                    (same-further part (drop frame scratch₁) (needed sub.m sub.later) (needed s.scene.m s.scene.later - frame)
                    (omega (arith, room)) ran.behind);
              })
            where
              frame : ℕ
              frame = get_or nets k 0

              room : frame + needed sub.m sub.later ≤ needed s.scene.m s.scene.later
              room = call-room s.scene h.turn no_gate

              takes : length (o h).takes ≡ length sub.m.inputs
              takes = (target s.scene h.turn no_gate).takes

              exchange : lending.Exchange work.none (o h).takes sub.m.outputs (get_or nets k 0) filled scratch scratch₁ part returned scratch₃
              exchange = calling.exchanged work.none s.scene h.turn no_gate scratch (enough h) passed part kept read fetched

              ran : Ran work sub.m sub.later (drop frame scratch₁) part
              ran = subst (λ (l : List A). Ran work sub.m sub.later l part) (lending.lent_is frame scratch₁) ran-there

              answers : read_slots work.none part sub.m.outputs ≡ made h
              answers =
                  sym (read-front work.none part sub.m.outputs (frame-ok sub).answered)
                  ∙ ap (λ (l : List A). read_slots work.none l sub.m.outputs)
                  (ran.frame
                  ∙ ap (walk_of work sub.later sub.m.occurrences)
                  (ap (λ (n : ℕ). take n (drop frame scratch₁)) (sym takes) ∙ lending.given exchange.passed))
                  ∙ sym
                  (rw (is_module s.scene h.turn no_gate)
                  (ap (λ (run : List A → List A). run (args h)) (target-says s.scene h.turn no_gate (run_frames-search work.none (meaning_of work)))))
