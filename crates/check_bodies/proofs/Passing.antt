-- What is known of an occurrence behind each of its lists, where the walk over the list went as far as the list's count says: all its nets
-- have passed.
use Prim.Native.Nat.{ℕ, ◌+◌, ◌≤◌}
use mathlib.Core.Path.{◌≡◌, sym, ap, subst, ◌∙◌}
use mathlib.Core.List.{List, ◌++◌}
use native.Mathlib.Omega.{arith}
use lib.ListN.{length, get_or, length-map}
use Rattle.meaning.specs.Syntax.{Occurrence}
use Rattle.meaning.specs.Layout.{list_numbers, occurrence_numbers}
use Rattle.nets.specs.Slots.{Knows, Below, slot_of}
use Rattle.nets.specs.Fronts.{whole-passes}
use Rattle.image.specs.Stands.{Stands, stands-head, stands-tail}
use Rattle.image.specs.Laid.{laid}
use Rattle.check_sizes.specs.declared.Sums.{Sums}
use Rattle.check_lists.specs.Lists.{ListReady, ListLearnt, ListWritten}
use Rattle.check_bodies.specs.Occurrences.{StepReady}
use Rattle.check_bodies.proofs.OccurrenceParts.{drives-stand, behind-drives}
use Rattle.check_bodies.proofs.Laying.{laid-keeps, stands-behind}
use Rattle.check_bodies.proofs.Advancing.{slots-of, Driven, Taken}

-- A list of an occurrence can be learnt or written.
pub list-ready :
    {numbers first inputs outputs slots : List ℕ} {base k at filled : ℕ} {sizes rooms : List ℕ} {sums : Sums} {numbers' slots' : List ℕ}
    {place : ℕ} → StepReady numbers first inputs outputs slots base k at filled sizes rooms sums
    → length numbers' ≡ length numbers → length slots' ≡ length slots
    → (list : List ℕ) → Stands numbers' place (list_numbers list) → Below (length slots) list → ListReady numbers' slots' base place filled
list-ready h numbers_kept slots_kept list stands low =
    let p = h.placed in
    record {
      listed = record { list = list; stands = stands };
      in_slots = subst (λ (n : ℕ). Below n list) (sym slots_kept) low;
      few = omega (arith, h.stands.within, p.behind, p.short);
      high = omega (arith, p.based);
      short = omega (arith, p.short);
    }

-- The nets that it drives are new.
pub record Learning (numbers slots : List ℕ) (base at filled driven learnt : ℕ) (slots' numbers' : List ℕ) : Type 0 where
  pub counted : driven ≡ get_or numbers at 0
  pub list : ListLearnt numbers slots base at filled slots' numbers' learnt
  pub all : driven ≤ learnt

module _
    {numbers slots : List ℕ} {base at filled driven learnt : ℕ} {slots' numbers' : List ℕ}
    (l : Learning numbers slots base at filled driven learnt slots' numbers')
  where
    pub driven-new :
        (o : Occurrence) (nets : List ℕ) → Stands numbers at (occurrence_numbers o) → Knows slots base nets → filled ≡ length nets
        → Driven numbers base at driven learnt slots' numbers' o nets
    driven-new o nets stands knows count =
        let there = drives-stand o stands in
        let n = l.list.learnt o.drives nets there knows count in
        let counted : driven ≡ length o.drives = l.counted ∙ stands-head there in
        let passed : learnt ≡ length o.drives = omega (arith, l.all, n.0.within) in
        let wide = length-map o.drives (λ (x : ℕ). slot_of x (nets ++ o.drives)) in
        record {
          counted = counted;
          passed = passed;
          stands = stands;
          new = whole-passes n.0 passed;
          knows = n.1 passed;
          lies = n.2 passed;
          behind = rw (n.2 passed) (stands-behind at (slots-of nets o o.drives) (omega arith) (behind-drives o stands passed));
        }

    -- Of the occurrence that is meant.
    pub driven-here :
        {first inputs outputs : List ℕ} {k : ℕ} {sizes rooms : List ℕ} {sums : Sums}
        (p : StepReady numbers first inputs outputs slots base k at filled sizes rooms sums)
        → Driven numbers base at driven learnt slots' numbers' p.o p.nets
    driven-here p = driven-new p.o p.nets p.stands p.knows p.wide

-- And those that it takes are known.
pub record Writing (numbers slots : List ℕ) (base at filled driven learnt taken written : ℕ) (slots' numbers' numbers'' : List ℕ) : Type 0 where
  pub learning : Learning numbers slots base at filled driven learnt slots' numbers'
  pub counted : taken ≡ get_or numbers' (at + 1 + learnt + 1) 0
  pub list : ListWritten numbers' slots' base (at + 1 + learnt + 1) filled numbers'' written
  pub all : taken ≤ written

module _
    {numbers slots : List ℕ} {base at filled driven learnt taken written : ℕ} {slots' numbers' numbers'' : List ℕ}
    (w : Writing numbers slots base at filled driven learnt taken written slots' numbers' numbers'')
  where
    pub taken-known :
        (o : Occurrence) (nets : List ℕ) → Stands numbers at (occurrence_numbers o) → Knows slots base nets → filled ≡ length nets
        → Taken numbers at learnt taken written numbers'' o nets
    taken-known o nets stands knows count =
        let n = driven-new w.learning o nets stands knows count in
        let there = stands-tail n.behind in
        let m = w.list.written o.takes nets o.drives there n.knows count in
        let counted : taken ≡ length o.takes = w.counted ∙ stands-head there in
        let passed : written ≡ length o.takes = omega (arith, w.all, m.0.within) in
        let wide = length-map o.takes (λ (x : ℕ). slot_of x (nets ++ o.drives)) in
        let inside = there.within in
        record {
          counted = counted;
          passed = passed;
          known = whole-passes m.0 passed;
          lies = m.1 passed ∙ ap (λ (im : List ℕ). laid im (at + 1 + learnt + 1) (slots-of nets o o.takes)) n.lies;
          refers =
              ap (λ (im : List ℕ). get_or im (at + 1 + learnt) 0) (m.1 passed)
              ∙ laid-keeps numbers' (at + 1 + learnt + 1) (slots-of nets o o.takes) (at + 1 + learnt) (omega arith) (omega arith)
              ∙ stands-head n.behind;
        }

    pub taken_here :
        {first inputs outputs : List ℕ} {k : ℕ} {sizes rooms : List ℕ} {sums : Sums}
        (p : StepReady numbers first inputs outputs slots base k at filled sizes rooms sums)
        → Taken numbers at learnt taken written numbers'' p.o p.nets
    taken_here p = taken-known p.o p.nets p.stands p.knows p.wide
