-- The gates of the new module as bytes in a lent list: what writing one more asks and does.
use Rattle.std.specs.Prelude.{ℕ, ◌+◌, ◌≤◌, ◌≡◌, List, [], ◌∷◌, ◌++◌, length}
use Rattle.std.proofs.Common.{zero-le, ◌∙◌, append-nil, arith}
use Rattle.meaning.specs.Syntax.{Occurrence}
use Rattle.meaning.specs.Layout.{each}
use Rattle.meaning.specs.Ceilings.{OccurrenceWithin}
use Rattle.meaning.specs.Flattening.{Board, place_gate}
use Rattle.laws.specs.Lists.{each_append}
use Rattle.laws.specs.Written.{occurrence_bytes}
use Rattle.bytes_out.specs.Filled.{Put}
use Rattle.bytes_out.specs.Puts.{put-more}
use Rattle.image.specs.Slots.{Readable}
use Rattle.flat_bytes.specs.Slots.{nets_at}
use Rattle.flat_bytes.specs.declared.pen.Pen.{Pen}

-- A gate with the net that it drives and the nets at the slots of its arguments.
abbrev pub gate_at : (kind net : ℕ) (image : List ℕ) (from to : ℕ) (scratch : List ℕ) → Occurrence
gate_at kind net image from to scratch = record { drives = net ∷ []; refers = kind; takes = nets_at image from to scratch }

pub record Settable (kind net : ℕ) (image : List ℕ) (from to : ℕ) (scratch bytes : List ℕ) (at : ℕ) : Type 0 where
  pub readable : Readable image from to 0 (length scratch)
  pub within : OccurrenceWithin (gate_at kind net image from to scratch)
  pub room : at + length (occurrence_bytes (gate_at kind net image from to scratch)) ≤ length bytes

-- The gates of a board stand at the front of the list, which was otherwise as `around`.
pub record Written (around : List ℕ) (b : Board) (pen : Pen) (bytes : List ℕ) : Type 0 where
  pub next : pen.next ≡ b.next
  pub put : Put (each occurrence_bytes b.gates) around 0 bytes pen.at

pub each_snoc : (f : Occurrence → List ℕ) (os : List Occurrence) (o : Occurrence) → each f (os ++ (o ∷ [])) ≡ each f os ++ f o
unfolding each
each_snoc f os o = each_append f os (o ∷ []) ∙ rw append-nil

-- Writing a gate is placing it.
pub gate-written :
    {around : List ℕ} {b : Board} {pen : Pen} {before : List ℕ} (kind : ℕ) (nets : List ℕ) {after : List ℕ} {r : Pen}
    → Written around b pen before
    → Put (occurrence_bytes (record { drives = pen.next ∷ []; refers = kind; takes = nets })) before pen.at after r.at
    → r.next ≡ pen.next + 1
    → Written around (place_gate kind nets b).board r after
gate-written {b = b} kind nets w put next =
    record {
      next = next ∙ omega (arith, w.next);
      put = rw (each_snoc occurrence_bytes b.gates, ← w.next) (put-more w.put zero-le put);
    }
