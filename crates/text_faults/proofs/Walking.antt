-- Occurrences, one after the other.
use Prim.Native.Nat.{ℕ, suc, ◌+◌, ◌≤◌, ◌<◌}
use native.Mathlib.Omega.{arith}
use native.Mathlib.Numerals.{add-one}
use mathlib.Core.Path.{◌≡◌, refl, sym, ◌∙◌, ap}
use mathlib.Core.List.{List, [], ◌∷◌, ◌++◌}
use lib.ListN.{length}
use borrow.Author.Tests.{lt-ltb, le-ltb}
use Rattle.meaning.specs.Syntax.{Occurrence, Module}
use Rattle.meaning.specs.Layout.{each, occurrence_numbers}
use Rattle.image.specs.Stands.{Stands, stands-front, stands-skip}
use Rattle.image.specs.Pieces.{moved}
use Rattle.fault_parts.specs.Asked.{Marked}
use Rattle.text_faults.specs.declared.Fault.{Fault}
use Rattle.text_faults.specs.Faults.{entries, fault_in, no_fault, first_fault}
use Rattle.text_faults.specs.Body.{Body}

-- Those passed are fine; what is found among those ahead is what is found among all.
pub record Walking (numbers marks : List ℕ) (count at i : ℕ) (os : List Occurrence) (known : List ℕ) (later : List Module) : Type 0 where
  pub ahead : List Occurrence
  pub signals : List ℕ
  pub stands : Stands numbers at (each occurrence_numbers ahead)
  pub many : count ≡ i + length ahead
  pub marked : Marked marks signals
  pub is : first_fault 0 os known later ≡ first_fault i ahead signals later

pub walking_first : {numbers marks : List ℕ} {at count : ℕ} {later : List Module} (b : Body numbers marks at count)
    → Walking numbers marks count at 0 b.os b.known later
walking_first b =
    record { ahead = b.os; signals = b.known; stands = b.stands; many = omega (arith, b.counted); marked = b.marked; is = refl }

-- The one whose turn it is.
pub record Facing (numbers : List ℕ) (at : ℕ) (ahead : List Occurrence) : Type 0 where
  pub o : Occurrence
  pub others : List Occurrence
  pub is : ahead ≡ o ∷ others
  pub there : Stands numbers at (occurrence_numbers o)
  pub next : Stands numbers (at + length (occurrence_numbers o)) (each occurrence_numbers others)

module _ {numbers marks : List ℕ} {count at i : ℕ} {os : List Occurrence} {known : List ℕ} {later : List Module}
    (w : Walking numbers marks count at i os known later) where
  pub facing : i < count → Facing numbers at w.ahead
  unfolding each
  facing l = go w.ahead w.stands w.many
    where
      go : (ahead : List Occurrence) → Stands numbers at (each occurrence_numbers ahead) → count ≡ i + length ahead → Facing numbers at ahead
      go [] s m = absurd (omega arith)
      go (o ∷ others) s m =
          record {
            o = o;
            others = others;
            is = refl;
            there = stands-front (each occurrence_numbers others) s;
            next = stands-skip (occurrence_numbers o) s;
          }

  pub walking_last : count ≤ i → no_fault i ≡ first_fault 0 os known later
  unfolding first_fault
  walking_last l = go w.ahead w.many w.is
    where
      go : (ahead : List Occurrence) → count ≡ i + length ahead → first_fault 0 os known later ≡ first_fault i ahead w.signals later
          → no_fault i ≡ first_fault 0 os known later
      go [] m e = sym e
      go (o ∷ others) m e = absurd (omega arith)

  module _ (f : Facing numbers at w.ahead) (atom : ℕ) (a : atom ≡ fault_in f.o w.signals later) where
    whole : first_fault 0 os known later ≡ first_fault i (f.o ∷ f.others) w.signals later
    whole = w.is ∙ ap (λ ahead. first_fault i ahead w.signals later) f.is

    pub walking_stops : (driven : ℕ) → driven ≡ length f.o.drives → atom < entries f.o
        → ◌≡◌ {A = Fault} (record { occurrence = i; driven = driven; atom = atom }) (first_fault 0 os known later)
    unfolding first_fault
    walking_stops driven d l = let l' : fault_in f.o w.signals later < entries f.o = omega arith in rw (whole, d, a, lt-ltb _ _ l')

    past : entries f.o ≤ atom
        → first_fault i (f.o ∷ f.others) w.signals later ≡ first_fault (suc i) f.others (f.o.drives ++ w.signals) later
    unfolding first_fault
    past l = let l' : entries f.o ≤ fault_in f.o w.signals later = omega arith in rw (le-ltb _ _ l')

    pub walking_on : {marks' : List ℕ} (to : ℕ) → to ≡ at + length (occurrence_numbers f.o) → entries f.o ≤ atom
        → (entries f.o ≤ atom → Marked marks' (f.o.drives ++ w.signals))
        → Walking numbers marks' count to (i + 1) os known later
    walking_on to t l m =
        record {
          ahead = f.others;
          signals = f.o.drives ++ w.signals;
          stands = moved _ t f.next;
          many = omega (arith, w.many, ap length f.is);
          marked = m l;
          is = whole ∙ past l ∙ ap (λ n. first_fault n f.others (f.o.drives ++ w.signals) later) (sym (add-one i));
        }
