-- A turn of the walk over a module's occurrences: at a gate, and where no net is driven. Each time the frame grows by what the occurrence
-- refers to makes of its arguments, and the walk goes on behind it.
use Prim.Native.Nat.{ℕ, suc, ◌+◌, ◌-◌, ◌≤◌, ◌<◌}
use mathlib.Core.Path.{◌≡◌, refl, sym, ap, ap₂, ◌∙◌}
use mathlib.Core.List.{List, [], ◌∷◌, ◌++◌, append-nil}
use native.Mathlib.Omega.{arith}
use lib.ListN.{length, take, drop, set, length-set}
use lib.Seq.{take_all, take-suc-set, drop-set-lt}
use Rattle.meaning.specs.Syntax.{Occurrence}
use Rattle.meaning.specs.Evaluation.{apply}
use Rattle.meaning.specs.Layout.{occurrence_numbers}
use Rattle.gates.specs.Kind.{kind_of}
use Rattle.gates.specs.Gates.{gate-of-kind, gate-told}
use Rattle.gates.specs.declared.Rule.{Rule}
use Rattle.gates.specs.declared.Kind.TheVariants.{Gate}
use Rattle.image.specs.Frames.{read_slots, walk_frame}
use Rattle.image.specs.FrameLengths.{length-of-read_slots, length-of-apply}
use Rattle.image.specs.Slots.{Readable, values_at}
use Rattle.image.specs.Walking.{needed, Ahead, all-ahead, Turn, turn, readable, arguments, AtGate, at-gate}
use Rattle.image.specs.Stands.{Stands}
use Rattle.image.specs.Places.{PlaceOf}
use Rattle.image.specs.declared.places.Header.{Header}
use Rattle.image.specs.declared.places.Place.{Place}
use Rattle.run_walk.specs.Work.{Work, meaning_of}
use Rattle.run_walk.specs.Running.{run_of, walk_of, Runnable, Walkable}
use Rattle.run_walk.proofs.Progress.{Progress, Walking}

-- The walk so far, and the occurrence whose turn it is.
pub record Here
    {A : Type 0} (work : Work A) {image starts nets : List ℕ} {k : ℕ} {scratch₀ : List A} (s : Runnable image starts nets k scratch₀)
    (at left filled : ℕ) (scratch : List A) (place : Place) : Type 0 where
  pub progress : Progress work s at left filled scratch
  pub turn : Turn image s.scene.m s.scene.later at left filled progress.rest place

-- Once its place is read, what is known of any module that can be run from the start,
pub here :
    {A : Type 0} {work : Work A} {image starts nets : List ℕ} {k : ℕ} {scratch₀ : List A} {at₀ left₀ filled₀ at left filled : ℕ}
    {scratch : List A} {place : Place}
    → Walking work image starts nets k scratch₀ at₀ left₀ filled₀ at left filled scratch
    → 0 < left
    → ((o : Occurrence) → Stands image at (occurrence_numbers o) → PlaceOf image at o place)
    → (s : Runnable image starts nets k scratch₀)
    → Ahead image s.scene.m s.scene.later at₀ left₀ filled₀ s.scene.m.occurrences
    → Here work s at left filled scratch place
here walking more read s ahead = let p = walking s ahead in record { progress = p; turn = turn more p.ahead read }

-- and of the one that the caller spoke of. Its own occurrences are all ahead at first.
pub enter :
    {A : Type 0} {image starts nets : List ℕ} {k : ℕ} {h : Header} {scratch : List A} (w : Walkable image starts nets k h scratch)
    → Ahead image w.runnable.scene.m w.runnable.scene.later (h.to + 1) h.count h.inputs w.runnable.scene.m.occurrences
enter w = all-ahead w.runnable.scene w.header

pub own :
    {A : Type 0} {work : Work A} {image starts nets : List ℕ} {k : ℕ} {h : Header} {scratch₀ : List A} {at left filled : ℕ} {scratch : List A}
    {place : Place} (w : Walkable image starts nets k h scratch₀)
    → Walking work image starts nets k scratch₀ (h.to + 1) h.count h.inputs at left filled scratch
    → 0 < left
    → ((o : Occurrence) → Stands image at (occurrence_numbers o) → PlaceOf image at o place)
    → Here work w.runnable at left filled scratch place
own w walking more read = here walking more read w.runnable (enter w)

module _
    {A : Type 0} {work : Work A} {image starts nets : List ℕ} {k : ℕ} {scratch₀ : List A} {s : Runnable image starts nets k scratch₀}
    {at left filled : ℕ} {scratch : List A} {place : Place} (h : Here work s at left filled scratch place)
  where
    abbrev pub o : Occurrence
    o = h.turn.o

    -- What the frame so far has for the arguments, and what the occurrence makes of it.
    abbrev pub args : List A
    args = read_slots work.none (take filled scratch) o.takes

    abbrev pub made : List A
    made = apply (meaning_of work) (run_of work s.scene.later) o.refers args

    pub enough : needed s.scene.m s.scene.later ≤ length scratch
    enough = omega (arith, s.enough, h.progress.size)

    pub turn-readable : Readable image place.from place.to 0 (length scratch)
    turn-readable = readable h.turn (length scratch) (omega (arith, h.turn.fits, enough))

    -- The occurrence is run: the walk has come past it.
    pub record Stepped (scratch' : List A) : Type 0 where
      pub size : length scratch' ≡ length scratch
      pub grown : take (filled + place.drives) scratch' ≡ take filled scratch ++ made
      pub behind : drop (needed s.scene.m s.scene.later) scratch' ≡ drop (needed s.scene.m s.scene.later) scratch

    pub past : {scratch' : List A} → Stepped scratch' → Progress work s place.to (left - 1) (filled + place.drives) scratch'
    unfolding walk_frame
    past step =
        record {
          rest = h.turn.os;
          ahead = h.turn.next;
          size = step.size ∙ h.progress.size;
          same =
              ap (walk_of work s.scene.later h.turn.os) step.grown
              ∙ sym (ap (λ (os : List Occurrence). walk_of work s.scene.later os (take filled scratch)) h.turn.is)
              ∙ h.progress.same;
          behind = step.behind ∙ h.progress.behind;
        }

    -- What an occurrence without nets refers to gives nothing, so scratch may stay as it is.
    pub turn-idle : place.drives ≤ 0 → Progress work s place.to (left - 1) (filled + place.drives) scratch
    turn-idle none =
        let same : filled + place.drives ≡ filled = omega arith in
        past
        (record {
          size = refl;
          grown =
              ap (λ (n : ℕ). take n scratch) same
              ∙ sym (append-nil (take filled scratch))
              ∙ ap (λ (l : List A). take filled scratch ++ l) (take_all 0 made (omega (arith, made-long, h.turn.read.drives)));
          behind = refl;
        })
      where
        made-long : length made ≡ length o.drives
        made-long = length-of-apply work.none (meaning_of work) (λ kind xs is-gate. refl) h.turn.reference args

    -- At a gate its value comes to the next slot.
    module _ {rule : Rule} {arity : ℕ} (kind : kind_of place.refers ≡ Gate rule arity) where
      gate : AtGate h.turn
      gate = at-gate h.turn (gate-told place.refers kind)

      pub gate-room : filled < length scratch
      gate-room = omega (arith, h.turn.fits, gate.drives, enough)

      pub turn-gate :
          {v : A}
          → v ≡ work.by_rule place.refers rule (values_at work.none image place.from place.to 0 scratch)
          → Progress work s place.to (left - 1) (filled + place.drives) (set scratch filled v)
      turn-gate {v} e =
          past
          (record {
            size = length-set scratch filled v;
            grown =
                ap (λ (n : ℕ). take n (set scratch filled v)) next
                ∙ take-suc-set scratch filled v gate-room
                ∙ ap (λ (l : List A). take filled scratch ++ l) (ap (λ (x : A). x ∷ []) value ∙ sym (rw gate.is));
            behind = drop-set-lt (needed s.scene.m s.scene.later) scratch filled v (omega (arith, h.turn.fits, gate.drives));
          })
        where
          next : filled + place.drives ≡ suc filled
          next = omega (arith, gate.drives)

          own-kind : kind_of o.refers ≡ Gate rule arity
          own-kind = ap kind_of (sym h.turn.read.refers) ∙ kind

          value : v ≡ work.at_gate o.refers args
          value =
              e
              ∙ ap₂ (λ number xs. work.by_rule number rule xs) h.turn.read.refers (arguments h.turn work.none scratch)
              ∙ work.rule-is o.refers rule arity own-kind args
              (length-of-read_slots work.none (take filled scratch) o.takes
              ∙ sym gate.takes
              ∙ sym (gate-of-kind o.refers own-kind).arity-is)
