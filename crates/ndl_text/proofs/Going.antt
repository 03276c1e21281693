-- How far a module's occurrences are told: the lines that stand and those left, and where the numbers left stand.
use Prim.Native.Nat.{ℕ, suc, ◌+◌, ◌≤◌, ◌<◌}
use mathlib.Core.Path.{◌≡◌, refl, sym, ap, subst}
use mathlib.Core.List.{List, [], ◌∷◌}
use native.Mathlib.Omega.{arith}
use native.Mathlib.Numerals.{add-one}
use lib.ListN.{length, length-append}
use Rattle.meaning.specs.Lists.{All, more}
use Rattle.meaning.specs.Syntax.{Occurrence}
use Rattle.meaning.specs.Ceilings.{OccurrenceWithin}
use Rattle.meaning.specs.Layout.{each, occurrence_numbers}
use Rattle.meaning.specs.Ndl.{occurrence_text, occurrences_text}
use Rattle.bytes_out.specs.Laying.{Laying}
use Rattle.write_pieces.specs.Laying.{laying-start, laying-left, laying-more, laying-all, room-first}
use Rattle.image.specs.Stands.{Stands, stands-front, stands-skip}
use Rattle.ndl_text.specs.declared.occurrences.Pen.{Pen}
use Rattle.ndl_text.specs.Standing.{Lines, OccurrenceTold, OccurrencesTold}

pub record Going {names numbers : List ℕ} {from count : ℕ} {out : List ℕ} {at : ℕ} (t : OccurrencesTold names numbers from count out at)
    (i : ℕ) (after : List ℕ) (pen : Pen) : Type 0 where
  pub left : List Occurrence
  pub within : All OccurrenceWithin left
  pub some : i + length left ≡ length t.os
  pub stands : Stands numbers pen.from (each occurrence_numbers left)
  pub passed : pen.from + length (each occurrence_numbers left) ≡ from + length (each occurrence_numbers t.os)
  pub laid : Laying (occurrences_text names 0 t.os) (occurrences_text names i left) out at after pen.at

module _ {names numbers : List ℕ} {from count : ℕ} {out : List ℕ} {at : ℕ} (t : OccurrencesTold names numbers from count out at) where
  pub going_start : (pen : Pen) → pen.from ≡ from → pen.at ≡ at → Going t 0 out pen
  going_start pen e f =
      record {
        left = t.os;
        within = t.within;
        some = omega arith;
        stands = subst (λ (n : ℕ). Stands numbers n (each occurrence_numbers t.os)) (sym e) t.stands;
        passed = ap (λ (n : ℕ). n + length (each occurrence_numbers t.os)) e;
        laid = subst (λ (n : ℕ). Laying (occurrences_text names 0 t.os) (occurrences_text names 0 t.os) out at out n) (sym f) (laying-start t.room);
      }

  -- At the end all is told.
  pub going-all : {i : ℕ} {after : List ℕ} {pen : Pen} → Going t i after pen → count ≤ i
      → Lines (occurrences_text names 0 t.os) (each occurrence_numbers t.os) from out at after pen
  unfolding each occurrences_text
  going-all {i} {after} {pen} g end = go g.left g.some g.passed g.laid
    where
      go : (left : List Occurrence) → i + length left ≡ length t.os
          → pen.from + length (each occurrence_numbers left) ≡ from + length (each occurrence_numbers t.os)
          → Laying (occurrences_text names 0 t.os) (occurrences_text names i left) out at after pen.at
          → Lines (occurrences_text names 0 t.os) (each occurrence_numbers t.os) from out at after pen
      go [] some passed laid = record { put = laying-all laid refl; next = omega (arith, passed) }
      go (o ∷ left) some passed laid = absurd (omega (arith, t.all))

  -- Where one is left it can be told,
  pub next-told : {i : ℕ} {after : List ℕ} {pen : Pen} → Going t i after pen → i < count
      → OccurrenceTold names numbers pen.from i after pen.at
  unfolding each occurrences_text
  next-told {i} {after} {pen} g more_left = go g.left g.within g.some g.stands g.laid
    where
      go : (left : List Occurrence) → All OccurrenceWithin left → i + length left ≡ length t.os
          → Stands numbers pen.from (each occurrence_numbers left)
          → Laying (occurrences_text names 0 t.os) (occurrences_text names i left) out at after pen.at
          → OccurrenceTold names numbers pen.from i after pen.at
      go [] w some stands laid = absurd (omega (arith, t.all))
      go (o ∷ left) (more w ws) some stands laid =
          record {
            o = o;
            stands = stands-front (each occurrence_numbers left) stands;
            within = w;
            small = omega (arith, t.few);
            long = t.long;
            room = room-first (occurrences_text names (suc i) left) (laying-left laid);
          }

  -- and then one more is told.
  pub going_more : {i : ℕ} {after : List ℕ} {pen : Pen} → Going t i after pen → i < count → {later : List ℕ} {next : Pen}
      → ((u : OccurrenceTold names numbers pen.from i after pen.at)
      → Lines (occurrence_text names i u.o) (occurrence_numbers u.o) pen.from after pen.at later next)
      → Going t (i + 1) later next
  unfolding each occurrences_text
  going_more {i} {after} {pen} g more_left {later} {next} told = go g.left g.within g.some g.stands g.passed g.laid
    where
      go : (left : List Occurrence) → All OccurrenceWithin left → i + length left ≡ length t.os
          → Stands numbers pen.from (each occurrence_numbers left)
          → pen.from + length (each occurrence_numbers left) ≡ from + length (each occurrence_numbers t.os)
          → Laying (occurrences_text names 0 t.os) (occurrences_text names i left) out at after pen.at
          → Going t (i + 1) later next
      go [] w some stands passed laid = absurd (omega (arith, t.all))
      go (o ∷ left) (more w ws) some stands passed laid =
          let u : OccurrenceTold names numbers pen.from i after pen.at =
          record {
            o = o;
            stands = stands-front (each occurrence_numbers left) stands;
            within = w;
            small = omega (arith, t.few);
            long = t.long;
            room = room-first (occurrences_text names (suc i) left) (laying-left laid);
          } in
          let lines = told u in
          let one : suc i ≡ i + 1 = sym (add-one i) in
          record {
            left = left;
            within = ws;
            some = omega arith;
            stands = subst (λ (n : ℕ). Stands numbers n (each occurrence_numbers left)) (sym lines.next) (stands-skip (occurrence_numbers o) stands);
            passed = omega (arith, lines.next, passed, length-append (occurrence_numbers o) (each occurrence_numbers left));
            laid =
                subst (λ (n : ℕ). Laying (occurrences_text names 0 t.os) (occurrences_text names n left) out at later next.at) one
                (laying-more laid (occurrence_text names i o) (occurrences_text names (suc i) left) refl lines.put);
          }
