-- A turn at an occurrence that refers to a module: its arguments are copied behind the frame, the module works in that part, and its
-- outputs are copied to the next slots of the frame. What each copy asks, and what all of it comes to, whatever the type of an entry.
use Rattle.std.specs.Prelude.{ℕ, ◌+◌, ◌-◌, ◌≤◌, ◌≡◌, false, List, length, get_or}
use Rattle.std.proofs.Common.{ap, ◌∙◌, arith, length-drop}
use borrow.Rule.Slice.PartMut.{mid_of, put_mid}
use Rattle.meaning.specs.Syntax.{Occurrence, Module}
use Rattle.meaning.specs.Gates.{is_gate}
use Rattle.meaning.specs.Limits.{net_count}
use Rattle.image.specs.Laid.{laid}
use Rattle.image.specs.Places.{HeaderOf}
use Rattle.image.specs.Scenes.{Scene, frame_is, frame-ok}
use Rattle.image.specs.Slots.{Copyable, values_at}
use Rattle.image.specs.Reading.{values-stand, readable-stands}
use Rattle.image.specs.Lending.{lent_is, back, Passed, passed-size, Exchange}
use Rattle.image.specs.Walking.{needed, Turn, readable, called, target, call-room}
use Rattle.image.specs.declared.places.Header.{Header}
use Rattle.image.specs.declared.places.Place.{Place}

-- Inputs are nets.
pub inputs-within : (m : Module) → length m.inputs ≤ net_count m
unfolding net_count
inputs-within m = omega arith

module _
    {A : Type 0} (none : A) {image starts nets : List ℕ} {rs : List Module} {k : ℕ} (s : Scene image starts nets rs k) {at left filled : ℕ}
    {rest : List Occurrence} {place : Place} (t : Turn image s.m s.later at left filled rest place)
    (no_gate : is_gate place.refers ≡ false) (scratch : List A) (enough : needed s.m s.later ≤ length scratch)
  where
    -- The arguments have places behind the frame.
    args_fit : get_or nets k 0 + length t.o.takes ≤ length scratch
    args_fit = omega (arith, call-room s t no_gate, (target s t no_gate).takes, inputs-within (called s t no_gate).m)

    pub passes : Copyable image place.from place.to 0 (get_or nets k 0) scratch
    passes =
        record {
          readable = readable t (length scratch) (omega (arith, t.fits));
          room = omega (arith, t.read.to, args_fit);
          apart = λ i after before j low high e. omega (arith, (readable t filled (omega arith)).slots i after before, t.fits, frame_is s);
        }

    module _ {scratch₁ : List A} (passed : scratch₁ ≡ laid scratch (get_or nets k 0) (values_at none image place.from place.to 0 scratch)) where
      pub args-passed : Passed none t.o.takes (get_or nets k 0) filled scratch scratch₁
      args-passed =
          record {
            slots = t.slots;
            enough = args_fit;
            is = passed ∙ ap (laid scratch (get_or nets k 0)) (values-stand place.from t.read.takes t.read.to none 0 scratch);
          }

      -- The part that is lent begins within scratch, and the module has its room there.
      pub lent-inside : get_or nets k 0 ≤ length scratch₁
      lent-inside = omega (arith, passed-size args-passed, frame_is s)

      pub lent-room : needed (called s t no_gate).m (called s t no_gate).later ≤ length (mid_of (get_or nets k 0) (length scratch₁ - get_or nets k 0) scratch₁)
      lent-room =
          omega (
            arith,
            ap length (lent_is (get_or nets k 0) scratch₁),
            length-drop (get_or nets k 0) scratch₁,
            passed-size args-passed,
            call-room s t no_gate,
          )

      module _
          (part : List A) (kept : length part ≡ length (mid_of (get_or nets k 0) (length scratch₁ - get_or nets k 0) scratch₁)) {h : Header}
          (header : HeaderOf image (get_or starts (place.refers - 16) 0) (called s t no_gate).m h)
        where
          abbrev returned : List A
          returned = put_mid (get_or nets k 0) (length scratch₁ - get_or nets k 0) scratch₁ part

          returned-size : length returned ≡ length scratch
          returned-size = (back (get_or nets k 0) scratch₁ part lent-inside kept).size ∙ passed-size args-passed

          -- There are as many outputs as nets driven.
          outputs-fit : filled + length (called s t no_gate).m.outputs ≤ get_or nets k 0
          outputs-fit = omega (arith, (target s t no_gate).drives, t.read.drives, t.fits, frame_is s)

          pub fetches : Copyable image h.from h.to (get_or nets k 0) filled returned
          fetches =
              record {
                readable =
                    readable-stands h.from header.outputs header.to (get_or nets k 0) (length returned) (frame-ok (called s t no_gate)).answered
                    (omega (arith, returned-size, call-room s t no_gate));
                room = omega (arith, header.to, outputs-fit, returned-size, frame_is s);
                apart = λ i after before j low high e. omega (arith, header.to, outputs-fit);
              }

          pub exchanged :
              {scratch₃ : List A}
              → scratch₃ ≡ laid returned filled (values_at none image h.from h.to (get_or nets k 0) returned)
              → Exchange none t.o.takes (called s t no_gate).m.outputs (get_or nets k 0) filled scratch scratch₁ part returned scratch₃
          exchanged fetched =
              record {
                passed = args-passed;
                fits = outputs-fit;
                back = back (get_or nets k 0) scratch₁ part lent-inside kept;
                fetched =
                    fetched ∙ ap (laid returned filled) (values-stand h.from header.outputs header.to none (get_or nets k 0) returned);
              }
