-- `occurrences::put` meets its contract: what parts it from the one before, and the two parts of the line, from the parts of the occurrence's
-- numbers. Assumes nothing.
use Prim.Native.Nat.{ℕ, ◌+◌, ◌-◌}
use native.Mathlib.Omega.{arith}
use mathlib.Core.Path.{◌≡◌, ap, subst}
use mathlib.Core.List.{List, ◌++◌}
use borrow.Author.Rules.{rules}
use lib.ListN.{take, drop}
use Rattle.meaning.specs.Lists.{All}
use Rattle.meaning.specs.Syntax.{Occurrence}
use Rattle.meaning.specs.Ceilings.{Small}
use Rattle.meaning.specs.ListPrint.{occurrence_break}
use Rattle.bytes_out.specs.Laying.{Laying}
use Rattle.write_pieces.specs.Rooms.{Room}
use Rattle.write_pieces.specs.Laying.{laying-start, laying-left, laying-put, laying-last, room-first}
use Rattle.image.specs.Places.{PlaceOf}
use Rattle.ndl_text.proofs.Told.{part-between}
use Rattle.print_names.specs.Entries.{leading}
use Rattle.print_lines.specs.Parts.{driven_part, taken_part, occurrence-of-parts}
use Rattle.print_lines.specs.Standing.{OccurrenceTold}
use Rattle.print_lines.proofs.occurrences.put.Statement.{statement}
use Rattle.print_lines.proofs.occurrences.put.Tie as tie

-- The places where the parts are known, behind what parts it from the one before, and behind the nets that it drives.
abbrev start : tie.After-occurrence_at-place → tie.Start
start c = c.before.before.before

abbrev parts : tie.After-put_break-driven → tie.After-occurrence_at-place
parts c = c.before.before.before.before.before

abbrev Told : tie.After-occurrence_at-place → Type 0
Told c = let a = c.args in OccurrenceTold a.numbers.now a.from a.position a.out.now a.at

-- The two parts of its line.
abbrev line : Occurrence → List ℕ
line o = driven_part o.drives ++ taken_part o.refers o.takes

module _ (c : tie.After-occurrence_at-place) (t : Told c) where
  placed : PlaceOf (start c).args.numbers.now (start c).args.from t.entry c.occurrence_at-place.result
  placed = c.occurrence_at-place.ensures t.entry t.stands

  driven-part :
      take ((start c).args.from + 1 + c.occurrence_at-place.result.drives - ((start c).args.from + 1)) (drop ((start c).args.from + 1) (start c).args.numbers.now)
      ≡ t.entry.drives
  driven-part =
      part-between (c.args.from + 1) (c.args.from + 1 + c.occurrence_at-place.result.drives) placed.driven
      (ap (λ (n : ℕ). c.args.from + 1 + n) placed.drives)

  taken-part :
      take (c.occurrence_at-place.result.to - c.occurrence_at-place.result.from) (drop c.occurrence_at-place.result.from (start c).args.numbers.now)
      ≡ t.entry.takes
  taken-part = part-between c.occurrence_at-place.result.from c.occurrence_at-place.result.to placed.takes placed.to

room-of-parts : {numbers : List ℕ} {from position : ℕ} {out : List ℕ} {at : ℕ} (t : OccurrenceTold numbers from position out at)
    → Room (leading occurrence_break position ++ line t.entry) out at
room-of-parts {position = position} {out = out} {at = at} t =
    subst (λ (text : List ℕ). Room (leading occurrence_break position ++ text) out at) (occurrence-of-parts t.entry) t.room

parted : (c : tie.After-put_break-driven) (t : Told c.before.before.before.before.before)
    → let a = c.args in
    Laying (leading occurrence_break a.position ++ line t.entry) (line t.entry)
    a.out.now a.at c.put_break-driven.new.out c.put_break-driven.result
parted c t = laying-put c.put_break-driven.ensures (laying-start (room-of-parts t))

begun : (c : tie.After-put_driven-refers) (t : Told c.before.before.before.before.before.before.before.before.before.before)
    → let a = c.args in
    Laying (leading occurrence_break a.position ++ line t.entry) (taken_part t.entry.refers t.entry.takes)
    a.out.now a.at c.put_driven-refers.new.out c.put_driven-refers.result
begun c t = laying-put (rw (driven-part c.before.before.before.before.before.before.before.before.before.before t) at c.put_driven-refers.ensures) (parted c.before.before.before.before.before t)

put-break-requires : tie.Need-put_break-driven-requires
put-break-requires c κs =
    room-first {xs = leading occurrence_break c.args.position} (line c.requires.entry) (room-of-parts c.requires)

put-driven-requires : tie.Need-put_driven-refers-requires
put-driven-requires c κs =
    let t = c.requires in
    rw (driven-part c.before.before.before.before.before.before.before.before.before t)
    (t.within.drives.numbers, room-first (taken_part t.entry.refers t.entry.takes) (laying-left (parted c.before.before.before.before t)))

-- What is asked of a reference and its arguments, as they stand in the numbers.
takeable : (out : List ℕ) (at : ℕ) {n m : ℕ} {xs ys : List ℕ} → n ≡ m → xs ≡ ys
    → Small m × All Small ys × Room (taken_part m ys) out at
    → Small n × All Small xs × Room (taken_part n xs) out at
takeable out at e f h = rw (e, f) h

put-taken-requires : tie.Need-put_taken-end-requires
put-taken-requires c κs =
    let t = c.requires in
    takeable _ _ (placed c.before.before.before.before.before.before.before.before.before.before.before.before.before.before t).refers (taken-part c.before.before.before.before.before.before.before.before.before.before.before.before.before.before t) (t.within.refers, t.within.takes.numbers, laying-left (begun c.before.before.before.before t))

returns : tie.Need-returns
returns c t =
    record {
      put =
          rw (occurrence-of-parts t.entry)
          (laying-last (rw (taken-part c.before.before.before.before.before.before.before.before.before.before.before.before.before.before.before.before.before t, (placed c.before.before.before.before.before.before.before.before.before.before.before.before.before.before.before.before.before t).refers) at c.put_taken-end.ensures) (begun c.before.before.before.before.before.before.before t));
      next = (placed c.before.before.before.before.before.before.before.before.before.before.before.before.before.before.before.before.before t).next;
    }

pub put_spec : {M : Type 1} → statement M
put_spec =
    tie.close
    (tie.spec
    (λ c κs. let t = c.requires in record { o = t.entry; stands = t.stands })
    (λ c. omega (arith, (placed c c.requires).driven.within))
    (λ c. omega (arith, (placed c.before c.requires).driven.within, (placed c.before c.requires).drives))
    put-break-requires
    (λ c. omega (arith, (placed c.before.before.before.before.before.before.before c.requires).driven.within))
    (λ c. omega (arith, (placed c.before.before.before.before.before.before.before c.requires).driven.within))
    (λ c. omega (arith, (placed c.before.before.before.before.before.before.before c.requires).driven.within))
    (λ c. omega (arith, (placed c.before.before.before.before.before.before.before c.requires).driven.within, (placed c.before.before.before.before.before.before.before c.requires).drives))
    put-driven-requires
    (λ c. omega (arith, (placed c.before.before.before.before.before.before.before.before.before.before.before.before c.requires).takes.within))
    (λ c. omega (arith, (placed c.before.before.before.before.before.before.before.before.before.before.before.before c.requires).takes.within, (placed c.before.before.before.before.before.before.before.before.before.before.before.before c.requires).to))
    (λ c. omega (arith, (placed c.before.before.before.before.before.before.before.before.before.before.before.before c.requires).takes.within, (placed c.before.before.before.before.before.before.before.before.before.before.before.before c.requires).to))
    (λ c. omega (arith, (placed c.before.before.before.before.before.before.before.before.before.before.before.before c.requires).takes.within, (placed c.before.before.before.before.before.before.before.before.before.before.before.before c.requires).to))
    put-taken-requires
    (λ c. search rules)
    returns)
