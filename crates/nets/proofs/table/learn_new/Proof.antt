-- `nets::table::learn_new` meets its contract. The loop's invariant: the table knows the nets before place i besides those that it knew,
-- their slots are in their places, and the list has none that it knew just if it has none from place i on. Assumes nothing.
use Rattle.std.proofs.Common.{◌≡◌, ℕ, suc, ◌+◌, ◌-◌, ◌<◌, ◌≤◌, false, leb, List, [], ◌∷◌, ◌++◌, length, get_or, take, drop, set, sym, refl, ap, ◌∙◌, ap₂, append_assoc, append-nil, arith, length-append, length-set, length-take-le, take_all, get_or-set_other, le-leb}
use mathlib.Core.Bool.{or-false}
use borrow.Author.Tests.{lt-leb}
use lib.Seq.{split_at}
use Rattle.meaning.specs.Boxlist.{member, disjoint, duplicates}
use Rattle.nets.specs.Slots.{slot_of, Knows, Below}
use Rattle.nets.specs.Members.{member-append, entry-fresh}
use Rattle.nets.specs.Bounds.{below_set}
use Rattle.nets.specs.SlotLaws.{slot-fresh}
use Rattle.nets.specs.Walks.{up_to-here, disjoint-here, disjoint-end}
use Rattle.nets.specs.Fronts.{front-whole, front-short}
use Rattle.nets.specs.Writing.{replaced, replaced-next, replaced-all}
use Rattle.nets.specs.Tables.{Learnt, known_member, knows-one}
use Rattle.nets.proofs.table.learn_new.Statement.{statement}
use Rattle.nets.proofs.table.learn_new.Tie as tie

-- Where the table knew `nets`.
record Learning (nets list₀ : List ℕ) (base : ℕ) (list table : List ℕ) (i : ℕ) : Type 0 where
  left : disjoint list₀ nets ≡ disjoint (drop i list₀) nets
  knows : Knows table base (nets ++ take i list₀)
  written : list ≡ replaced (λ (x : ℕ). slot_of x (nets ++ list₀)) list₀ i

record Passed (list₀ table₀ : List ℕ) (base first : ℕ) (list table : List ℕ) (i : ℕ) : Type 0 where
  within : i ≤ length list₀
  list_kept : length list ≡ length list₀
  table_kept : length table ≡ length table₀
  ahead : (j : ℕ) → i ≤ j → get_or list j 0 ≡ get_or list₀ j 0
  low : Below (base + 65536) table₀ → Below (base + 65536) table
  learning : (nets : List ℕ) → Knows table₀ base nets → first ≡ length nets → Learning nets list₀ base list table i

module _ {nets list₀ : List ℕ} {base : ℕ} {list table : List ℕ} {i : ℕ} (l : Learning nets list₀ base list table i) where
  -- Behind the last net all were new.
  learnt : i ≤ length list₀ → length list₀ ≤ i → Learnt nets list₀ base list table i
  learnt within end =
      record {
        front = front-whole (omega arith) (sym (l.left ∙ disjoint-end list₀ i end nets));
        knows = λ e. rw (← take_all i list₀ end) l.knows;
        written = λ e. l.written ∙ replaced-all (λ (x : ℕ). slot_of x (nets ++ list₀)) list₀ i end;
      }

  module _ (single : duplicates list₀ ≡ false) (here : i < length list₀) where
    -- The net at i is none of those before it: if the table knows it, it is among `nets`.
    earlier : member (get_or list₀ i 0) nets ≡ leb base (get_or table (get_or list₀ i 0) 0)
    earlier =
        sym (member-append (get_or list₀ i 0) nets (take i list₀) ∙ rw (entry-fresh list₀ i here single, or-false (member (get_or list₀ i 0) nets)))
        ∙ known_member table base (nets ++ take i list₀) l.knows (get_or list₀ i 0)

    -- The net at i is known.
    met : base ≤ get_or table (get_or list₀ i 0) 0 → Learnt nets list₀ base list table i
    met known =
        record {
          front = front-short here (sym (l.left ∙ rw (disjoint-here list₀ i here nets, earlier, le-leb base (get_or table (get_or list₀ i 0) 0) known)));
          knows = λ e. absurd (omega arith);
          written = λ e. absurd (omega arith);
        }

    -- It is not: it takes the next slot.
    learn-one :
        (first x : ℕ) → first ≡ length nets → x ≡ get_or list₀ i 0 → x < length table → get_or table x 0 < base
        → Learning nets list₀ base (set list i (first + i)) (set table x (base + (first + i))) (i + 1)
    learn-one first x count is in_table unknown =
        record {
          left = l.left ∙ rw (disjoint-here list₀ i here nets, earlier, ← is, lt-leb base (get_or table x 0) unknown);
          knows = rw (← grown, ← next) (knows-one x in_table new l.knows);
          written =
              ap₂ (λ (ys : List ℕ) (slot : ℕ). set ys i slot) l.written (sym next ∙ sym slot ∙ ap (λ (y : ℕ). slot_of y (nets ++ list₀)) is)
              ∙ replaced-next (λ (y : ℕ). slot_of y (nets ++ list₀)) list₀ i here;
        }
      where
        new : member x (nets ++ take i list₀) ≡ false
        new = known_member table base (nets ++ take i list₀) l.knows x ∙ lt-leb base (get_or table x 0) unknown

        grown : (nets ++ take i list₀) ++ (x ∷ []) ≡ nets ++ take (i + 1) list₀
        grown =
            append_assoc nets (take i list₀) (x ∷ [])
            ∙ ap (λ (ys : List ℕ). nets ++ ys) (ap (λ (y : ℕ). take i list₀ ++ (y ∷ [])) is ∙ sym (up_to-here list₀ i here))

        next : length (nets ++ take i list₀) ≡ first + i
        next = omega (arith, length-append nets (take i list₀), length-take-le i list₀ (omega arith))

        slot : slot_of x (nets ++ list₀) ≡ length (nets ++ take i list₀)
        slot =
            ap (λ (ys : List ℕ). slot_of x (nets ++ ys)) (split_at list₀ i 0 here ∙ ap (λ (y : ℕ). take i list₀ ++ (y ∷ drop (suc i) list₀)) (sym is))
            ∙ ap (slot_of x) (sym (append_assoc nets (take i list₀) (x ∷ drop (suc i) list₀)))
            ∙ slot-fresh x (nets ++ take i list₀) (drop (suc i) list₀) new

abbrev invariant-loop : tie.invariant-loop-i
invariant-loop list₀ table₀ base first i₀ list table i = Passed list₀ table₀ base first list table i

abbrev decreases-loop : tie.decreases-loop-i
decreases-loop list₀ table₀ base first i₀ list table i = length list₀ - i

loop-holds : tie.Need-loop-i-init invariant-loop decreases-loop
loop-holds c =
    record {
      within = omega arith;
      list_kept = refl;
      table_kept = refl;
      ahead = λ j h. refl;
      low = λ l. l;
      learning = λ nets k e. record { left = refl; knows = rw (append-nil nets) k; written = refl };
    }

cast-net : tie.Need-overflow_cast-net invariant-loop decreases-loop
cast-net c = omega (arith, c.slice_known-1.given c.loop-i.i)

mul-if1 : tie.Need-offset_bounds-table-net invariant-loop decreases-loop
mul-if1 c = omega (arith, c.slice_known-1.given c.loop-i.i)

-- The net at i is the one that the list had there at first, an index of the table.
slice-read-if1 : tie.Need-bounds-table-net invariant-loop decreases-loop
slice-read-if1 c =
    omega (arith, c.loop-i.invariant.ahead c.loop-i.i (omega arith), c.requires.in_table.below c.loop-i.i)

returns : tie.Need-returns-then-base-table invariant-loop decreases-loop
returns c =
    let inv = c.loop-i.invariant in (
      (λ nets k e. met (inv.learning nets k e) c.requires.single (omega arith) (rw (← inv.ahead c.loop-i.i (omega arith)) c.if-base-table.true)),
      inv.low,
    )

mul-table : tie.Need-offset_bounds-table-net-in-loop-i invariant-loop decreases-loop
mul-table c = omega (arith, c.slice_known-1.given c.loop-i.i)

slice-write-table : tie.Need-bounds-table-net-in-loop-i invariant-loop decreases-loop
slice-write-table c =
    omega (arith, c.loop-i.invariant.ahead c.loop-i.i (omega arith), c.requires.in_table.below c.loop-i.i)

loop-again : tie.Need-loop-i-preserved invariant-loop decreases-loop
loop-again c =
    let inv = c.loop-i.invariant in
    let i = c.loop-i.i in
    let first = c.args.first in
    let same = inv.ahead i (omega arith) in
    let in_table = c.requires.in_table.below i in
    record {
      within = omega arith;
      list_kept = simp length-set inv.list_kept;
      table_kept = simp length-set inv.table_kept;
      ahead = λ j h. get_or-set_other c.loop-i.list i j (first + i) 0 (λ e. omega arith) ∙ inv.ahead j (omega arith);
      low = λ l. below_set (get_or c.loop-i.list i 0) (c.args.base + (first + i)) (omega arith) (omega arith) (inv.low l);
      learning = λ nets k e.
          learn-one (inv.learning nets k e) c.requires.single (omega arith) first (get_or c.loop-i.list i 0) e same (omega arith) c.if-base-table.false;
    }

returns-2 : tie.Need-returns invariant-loop decreases-loop
returns-2 c =
    let inv = c.loop-i.invariant in
    ((λ nets k e. learnt (inv.learning nets k e) (omega arith) (omega arith)), inv.low)

pub learn_new_spec : {M : Type 1} → statement M
learn_new_spec =
    tie.close
    (tie.spec
    invariant-loop
    decreases-loop
    loop-holds
    (λ c. omega arith)
    (λ c. omega arith)
    cast-net
    mul-if1
    slice-read-if1
    (λ c. c.loop-i.invariant.list_kept)
    (λ c. c.loop-i.invariant.table_kept)
    returns
    (λ c. omega arith)
    (λ c. omega arith)
    (λ c. omega arith)
    mul-table
    slice-write-table
    (λ c. omega arith)
    (λ c. omega arith)
    (λ c. omega arith)
    (λ c. omega arith)
    (λ c. omega arith)
    loop-again
    (λ c. c.loop-i.invariant.list_kept)
    (λ c. c.loop-i.invariant.table_kept)
    returns-2)
