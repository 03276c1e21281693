-- How far a list's entries are told: the text that stands and what is left of it, and where the numbers left stand. One for occurrences and
-- modules.
use Prim.Native.Nat.{ℕ, suc, ◌+◌, ◌≤◌, ◌<◌}
use mathlib.Core.Path.{◌≡◌, refl, sym, ap, subst}
use mathlib.Core.List.{List, [], ◌∷◌, ◌++◌}
use native.Mathlib.Omega.{arith}
use native.Mathlib.Numerals.{add-one}
use lib.ListN.{length, length-append}
use Rattle.meaning.specs.Lists.{All, more}
use Rattle.meaning.specs.Layout.{each}
use Rattle.meaning.specs.ListPrint.{parted}
use Rattle.bytes_out.specs.Laying.{Laying}
use Rattle.write_pieces.specs.Laying.{laying-none, laying-left, laying-more, laying-all, room-first}
use Rattle.image.specs.Stands.{Stands, stands-front, stands-skip}
use Rattle.print_names.specs.Entries.{leading, onward, parted-onward}
use Rattle.print_lines.specs.declared.occurrences.Pen.{Pen}
use Rattle.print_lines.specs.Standing.{Lines, EntryTold, EntriesTold}

module _ {A : Type 0} {numbers_of text_of : A → List ℕ} {between : List ℕ} {Fits : A → Type 0} {numbers : List ℕ} {from count : ℕ} {out : List ℕ} {at : ℕ}
    (t : EntriesTold numbers_of text_of between Fits numbers from count out at)
  where
    abbrev whole : List ℕ
    whole = parted between text_of t.entries

    pub record Going (i : ℕ) (after : List ℕ) (pen : Pen) : Type 0 where
      pub left : List A
      pub within : All Fits left
      pub some : i + length left ≡ length t.entries
      pub stands : Stands numbers pen.from (each numbers_of left)
      pub passed : pen.from + length (each numbers_of left) ≡ from + length (each numbers_of t.entries)
      pub laid : Laying whole (onward between text_of i left) out at after pen.at

    pub going_start : (pen : Pen) → pen.from ≡ from → pen.at ≡ at → Going 0 out pen
    going_start pen e f =
        record {
          left = t.entries;
          within = t.within;
          some = omega arith;
          stands = subst (λ (n : ℕ). Stands numbers n (each numbers_of t.entries)) (sym e) t.stands;
          passed = ap (λ (n : ℕ). n + length (each numbers_of t.entries)) e;
          laid =
              subst (λ (n : ℕ). Laying whole (onward between text_of 0 t.entries) out at out n) (sym f)
              (laying-none out at (sym (parted-onward between text_of t.entries)) t.room.fits);
        }

    -- At the end all is told.
    pub going-all : {i : ℕ} {after : List ℕ} {pen : Pen} → Going i after pen → count ≤ i → Lines whole (each numbers_of t.entries) from out at after pen
    unfolding each onward
    going-all {i} {after} {pen} g end = go g.left g.some g.passed g.laid
      where
        go : (left : List A) → i + length left ≡ length t.entries
            → pen.from + length (each numbers_of left) ≡ from + length (each numbers_of t.entries)
            → Laying whole (onward between text_of i left) out at after pen.at
            → Lines whole (each numbers_of t.entries) from out at after pen
        go [] some passed laid = record { put = laying-all laid refl; next = omega (arith, passed) }
        go (x ∷ left) some passed laid = absurd (omega (arith, t.all))

    -- An entry that is left, with those behind it.
    record Next (i : ℕ) (after : List ℕ) (pen : Pen) : Type 0 where
      x : A
      rest : List A
      within : Fits x
      withins : All Fits rest
      some : i + suc (length rest) ≡ length t.entries
      stands : Stands numbers pen.from (numbers_of x ++ each numbers_of rest)
      passed : pen.from + length (numbers_of x ++ each numbers_of rest) ≡ from + length (each numbers_of t.entries)
      laid : Laying whole ((leading between i ++ text_of x) ++ onward between text_of (suc i) rest) out at after pen.at

    next : {i : ℕ} {after : List ℕ} {pen : Pen} → Going i after pen → i < count → Next i after pen
    unfolding each onward
    next {i} {after} {pen} g more_left = go g.left g.within g.some g.stands g.passed g.laid
      where
        go : (left : List A) → All Fits left → i + length left ≡ length t.entries
            → Stands numbers pen.from (each numbers_of left)
            → pen.from + length (each numbers_of left) ≡ from + length (each numbers_of t.entries)
            → Laying whole (onward between text_of i left) out at after pen.at
            → Next i after pen
        go [] w some stands passed laid = absurd (omega (arith, t.all))
        go (x ∷ left) (more w ws) some stands passed laid =
            record { x = x; rest = left; within = w; withins = ws; some = some; stands = stands; passed = passed; laid = laid }

    told_of : {i : ℕ} {after : List ℕ} {pen : Pen} → Next i after pen → EntryTold numbers_of text_of between Fits numbers pen.from i after pen.at
    told_of {i} n =
        record {
          entry = n.x;
          stands = stands-front (each numbers_of n.rest) n.stands;
          within = n.within;
          room = room-first (onward between text_of (suc i) n.rest) (laying-left n.laid);
        }

    -- Where one is left it can be told,
    pub next-told : {i : ℕ} {after : List ℕ} {pen : Pen} → Going i after pen → i < count
        → EntryTold numbers_of text_of between Fits numbers pen.from i after pen.at
    next-told g more_left = told_of (next g more_left)

    -- and then one more is told.
    pub going_more : {i : ℕ} {after : List ℕ} {pen : Pen} → Going i after pen → i < count → {later : List ℕ} {pen' : Pen}
        → ((u : EntryTold numbers_of text_of between Fits numbers pen.from i after pen.at)
        → Lines (leading between i ++ text_of u.entry) (numbers_of u.entry) pen.from after pen.at later pen')
        → Going (i + 1) later pen'
    unfolding told_of
    going_more {i} {after} {pen} g more_left {later} {pen'} told =
        let n = next g more_left in
        let lines : Lines (leading between i ++ text_of n.x) (numbers_of n.x) pen.from after pen.at later pen' = told (told_of n) in
        let one : suc i ≡ i + 1 = sym (add-one i) in
        record {
          left = n.rest;
          within = n.withins;
          some = omega (arith, n.some);
          stands = subst (λ (k : ℕ). Stands numbers k (each numbers_of n.rest)) (sym lines.next) (stands-skip (numbers_of n.x) n.stands);
          passed = omega (arith, lines.next, n.passed, length-append (numbers_of n.x) (each numbers_of n.rest));
          laid =
              subst (λ (k : ℕ). Laying whole (onward between text_of k n.rest) out at later pen'.at) one
              (laying-more n.laid (leading between i ++ text_of n.x) (onward between text_of (suc i) n.rest) refl lines.put);
        }
