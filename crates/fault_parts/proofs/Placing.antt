-- Where modules stand, one after the other.
use Prim.Native.Nat.{ℕ, ◌+◌, ◌-◌, ◌≤◌, ◌<◌}
use native.Mathlib.Omega.{arith}
use mathlib.Core.Path.{◌≡◌, refl, sym, subst}
use mathlib.Core.Bool.{Bool, true, false}
use mathlib.Core.List.{List, [], ◌∷◌, ◌++◌}
use lib.Dec.{eqb}
use borrow.Author.Tests.{eqb-true, eqb-false}
use lib.ListN.{length, get_or, drop, set, length-append}
use lib.Seq.{get_or-set_same, get_or-set_other}
use Rattle.meaning.specs.Syntax.{Occurrence, Module}
use Rattle.meaning.specs.Layout.{each, occurrence_numbers, module_numbers, file_numbers}
use Rattle.image.specs.Stands.{Stands, stands-front, stands-skip, stands-tail, stands-whole}
use Rattle.image.specs.Pieces.{moved, length-of_module}
use Rattle.image.specs.Places.{HeaderOf, OccurrenceThere, PlaceOf, ModuleThere}
use Rattle.image.specs.declared.places.Header.{Header}
use Rattle.image.specs.declared.places.Place.{Place}
use Rattle.check_sizes.specs.Behind.{here, behind, inside}
use Rattle.check_lists.specs.Filed.{At, Filed}
use Rattle.fault_parts.specs.Asked.{Whole}

-- Occurrences ahead, in a list of numbers.
pub record Ahead (numbers : List ℕ) (at left end : ℕ) : Type 0 where
  pub rest : List Occurrence
  pub stands : Stands numbers at (each occurrence_numbers rest)
  pub many : left ≡ length rest
  pub ends : end ≡ at + length (each occurrence_numbers rest)

pub ahead-first : {numbers : List ℕ} {from : ℕ} (m : Module) {h : Header} → HeaderOf numbers from m h
    → Ahead numbers (h.to + 1) h.count (from + length (module_numbers m))
ahead-first m h =
    record { rest = m.occurrences; stands = h.body; many = h.count; ends = omega (arith, h.from, h.to, length-of_module m) }

-- The one whose turn it is.
pub record Turn (numbers : List ℕ) (at left end : ℕ) : Type 0 where
  pub o : Occurrence
  pub there : Stands numbers at (occurrence_numbers o)
  pub next : Ahead numbers (at + length (occurrence_numbers o)) (left - 1) end

pub turn : {numbers : List ℕ} {at left end : ℕ} → 0 < left → Ahead numbers at left end → Turn numbers at left end
unfolding each
turn {numbers} {at} {left} {end} some a = go a.rest a.stands a.many a.ends
  where
    go : (rest : List Occurrence) → Stands numbers at (each occurrence_numbers rest) → left ≡ length rest
        → end ≡ at + length (each occurrence_numbers rest) → Turn numbers at left end
    go [] s m e = absurd (omega arith)
    go (o ∷ os) s m e =
        record {
          o = o;
          there = stands-front (each occurrence_numbers os) s;
          next =
              record {
                rest = os;
                stands = stands-skip (occurrence_numbers o) s;
                many = omega arith;
                ends = omega (arith, length-append (occurrence_numbers o) (each occurrence_numbers os));
              };
        }

-- The occurrences behind the one that was read.
pub behind-it : {numbers : List ℕ} {at left end : ℕ} (t : Turn numbers at left end) {place : Place} → PlaceOf numbers at t.o place
    → Ahead numbers place.to (left - 1) end
behind-it {numbers} {left = left} {end = end} t p = subst (λ at. Ahead numbers at (left - 1) end) (sym p.next) t.next

pub there : {numbers : List ℕ} {at left end : ℕ} → Turn numbers at left end → OccurrenceThere numbers at
there t = record { o = t.o; stands = t.there }

pub ahead_none : {numbers : List ℕ} {at left end : ℕ} → left ≤ 0 → Ahead numbers at left end → at ≡ end
unfolding each
ahead_none {at = at} {left = left} {end = end} l a = go a.rest a.many a.ends
  where
    go : (rest : List Occurrence) → left ≡ length rest → end ≡ at + length (each occurrence_numbers rest) → at ≡ end
    go [] m e = omega arith
    go (o ∷ os) m e = absurd (omega arith)

-- Modules that are placed so far, and those ahead.
pub record Placing (numbers starts : List ℕ) (ms : List Module) (at k : ℕ) : Type 0 where
  pub placed : (j : ℕ) (m : Module) (later : List Module) → At ms j m later → j < k → Stands numbers (get_or starts j 0) (module_numbers m)
  pub ahead : Stands numbers at (each module_numbers (drop k ms))

pub placing_first : (numbers starts : List ℕ) (w : Whole numbers) → Placing numbers starts w.ms 1 0
unfolding file_numbers
placing_first numbers starts w =
    record { placed = λ j m later e h. absurd (omega arith); ahead = stands-tail (stands-whole w.is) }

below : (j k : ℕ) → j < k + 1 → (j ≡ k → ⊥) → j < k
below j k b n = omega arith

-- The module whose turn it is.
module _ {numbers starts : List ℕ} {ms : List Module} {at k : ℕ} (p : Placing numbers starts ms at k) (l : k < length ms) where
  pub stands-next : Stands numbers at (module_numbers (here ms k l).m ++ each module_numbers (here ms k l).later)
  unfolding each
  stands-next = subst (λ ns. Stands numbers at (each module_numbers ns)) (here ms k l).at p.ahead

  pub module_there : ModuleThere numbers at
  module_there = record { m = (here ms k l).m; stands = stands-front (each module_numbers (here ms k l).later) stands-next }

  pub placing_on : k < length starts → (end : ℕ) → ((m : Module) → Stands numbers at (module_numbers m) → end ≡ at + length (module_numbers m))
      → Placing numbers (set starts k at) ms end (k + 1)
  unfolding module_there
  placing_on h end ends =
      record {
        placed = λ j m later e b. go j m later e b (eqb j k) refl;
        ahead =
            subst (λ ns. Stands numbers end (each module_numbers ns)) (sym (behind ms k (here ms k l).at))
            (moved (at + length (module_numbers (here ms k l).m)) (ends (here ms k l).m module_there.stands) (stands-skip (module_numbers (here ms k l).m) stands-next));
      }
    where
      go : (j : ℕ) (m : Module) (later : List Module) → At ms j m later → j < k + 1 → (t : Bool) → eqb j k ≡ t
          → Stands numbers (get_or (set starts k at) j 0) (module_numbers m)
      go j m later e b true q =
          let same : j ≡ k = eqb-true j k q in
          let first : (here ms k l).m ≡ m = cc ((here ms k l).at, e, same) in
          rw (same, get_or-set_same starts k at 0 h, ← first) module_there.stands
      go j m later e b false q =
          let apart = eqb-false j k q in
          rw (get_or-set_other starts k j at 0 apart) (p.placed j m later e (below j k b apart))

pub all_placed : {numbers starts : List ℕ} {at k : ℕ} (w : Whole numbers) → Placing numbers starts w.ms at k → length w.ms ≤ k
    → length w.ms ≤ length starts → Filed numbers starts w.ms
all_placed w p all long =
    record {
      standing = λ j m later e. p.placed j m later e (omega (arith, inside w.ms j e));
      listed = long;
      few = w.few;
    }
