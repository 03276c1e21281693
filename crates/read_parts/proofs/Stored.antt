-- One number laid out: what the code's answers come to where a number or a count is due.
use Prim.Native.Nat.{ℕ, ◌+◌, ◌≤◌, ◌<◌}
use mathlib.Core.Path.{◌≡◌, refl, ap, sym}
use mathlib.Core.List.{List, [], ◌∷◌}
use native.Mathlib.Omega.{arith}
use borrow.Author.Tests.{le-leb, lt-leb}
use lib.ListN.{length, set, length-append}
use Rattle.meaning.specs.Reading.{Step, got, refused, read_number, read_count}
use Rattle.std.specs.Prelude.{Ok, Err}
use Rattle.refusals.specs.Refused.{refusal_at}
use Rattle.refusals.specs.declared.Refusal.{Refusal}
use Rattle.read_parts.specs.Numbers.{before}
use Rattle.read_parts.specs.Places.{Further, before-length}
use Rattle.read_parts.specs.Single.{Single, single-number}
use Rattle.read_parts.specs.Steps.{number_read, step_from, Stands, Lays, Takes}
use Rattle.read_parts.specs.Ways.{ok_not_err}
use Rattle.read_parts.specs.Laid.{laid_more}
use Rattle.read_parts.specs.declared.number.Spelled.{Spelled}
use Rattle.read_parts.specs.declared.way.Spot.{Spot}

module _ {bytes old : List ℕ} {spot : Spot} (stands : Stands bytes spot old) where
  -- A number that has been read has room.
  has_room : {q v : ℕ} {rest : List ℕ} → Further bytes spot.place q (v ∷ []) rest → spot.filled < length old
  has_room {q} {v} w =
      let few = before-length bytes q in
      let more = simp length-append at (ap length w.numbers) in
      omega (arith, stands.count, stands.room)

  -- A number that has been read is laid behind the others.
  stored : {q v : ℕ} {rest : List ℕ} → Further bytes spot.place q (v ∷ []) rest
      → Lays bytes spot.place q old (set old spot.filled v)
  stored {q} {v} w =
      let more = simp length-append at (ap length w.numbers) in
      record {
        all = rw w.numbers
            (laid_more (before bytes spot.place) old spot.filled v stands.lies stands.count (has_room w));
        keeps = omega arith;
      }

  counted-more : {q v : ℕ} {rest : List ℕ} → Further bytes spot.place q (v ∷ []) rest
      → spot.filled + 1 ≡ length (before bytes q)
  counted-more w = let more = simp length-append at (ap length w.numbers) in omega (arith, stands.count)

  -- A refusal that passes no number leaves all as it is.
  unchanged : {q : ℕ} → before bytes q ≡ before bytes spot.place → Lays bytes spot.place q old old
  unchanged e = record { all = rw e (sym stands.lies); keeps = rw e (omega arith) }

  -- A number that was read, and the step that it comes from.
  record Found (s : Step ℕ) (count : Spelled) : Type 0 where
    rest : List ℕ
    step : s ≡ got count.value count.next rest
    further : Further bytes spot.place count.next (count.value ∷ []) rest

  found : {s : Step ℕ} {count : Spelled} → Ok count ≡ number_read s → Single bytes spot.place s → Found s count
  found {s = got u o rest} {count} e w =
      let same : count ≡ record { value = u; next = o } = cc in
      record { rest = rest; step = rw same; further = rw same w }
  found {s = refused j o} e w = absurd (ok_not_err e)

  -- A refusal, and the step that it comes from.
  record Failed (s : Step ℕ) (refusal : Refusal) : Type 0 where
    step : s ≡ refused refusal.number refusal.place
    same : before bytes refusal.place ≡ before bytes spot.place

  failed : {s : Step ℕ} {refusal : Refusal} → Err refusal ≡ number_read s → Single bytes spot.place s → Failed s refusal
  failed {s = got u o rest} e w = absurd (ok_not_err (sym e))
  failed {s = refused j o} {refusal} e w =
      let same : refusal ≡ refusal_at j o = cc in
      record { step = rw same; same = rw same w }

  -- Where a number is due, and the code finds one.
  module _ {count : Spelled} (is : Ok count ≡ number_read (step_from read_number bytes spot)) where
    it : Found (step_from read_number bytes spot) count
    it = found is (single-number bytes spot.place stands.front)

    pub count_room : spot.filled < length old
    count_room = has_room it.further

    pub count_kept : (ceiling : ℕ) → count.value ≤ ceiling
        → Takes (read_count ceiling) bytes spot old (set old spot.filled count.value)
        (Ok (record { place = count.next; filled = spot.filled + 1 }))
    unfolding read_count
    count_kept ceiling h =
        record {
          answers = rw (it.step, le-leb count.value ceiling h, counted-more it.further);
          lays = stored it.further;
        }

    pub count-over : (ceiling : ℕ) → ceiling < count.value
        → Takes (read_count ceiling) bytes spot old old (Err (refusal_at 4 spot.place))
    unfolding read_count
    count-over ceiling h = record { answers = rw (it.step, lt-leb count.value ceiling h); lays = unchanged refl }

  -- Where a number is due, and the code finds a refusal.
  module _ {refusal : Refusal} (no : Err refusal ≡ number_read (step_from read_number bytes spot)) where
    none : Failed (step_from read_number bytes spot) refusal
    none = failed no (single-number bytes spot.place stands.front)

    pub count-refused : (ceiling : ℕ) → Takes (read_count ceiling) bytes spot old old (Err refusal)
    unfolding read_count
    count-refused ceiling = record { answers = rw none.step; lays = unchanged none.same }
