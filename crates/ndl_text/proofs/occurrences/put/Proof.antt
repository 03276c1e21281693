-- `occurrences::put` meets its contract: the two parts of the line, from the parts of the occurrence's numbers. Assumes nothing.
use Prim.Native.Nat.{ℕ, ◌+◌, ◌-◌}
use native.Mathlib.Omega.{arith}
use mathlib.Core.Path.{◌≡◌, ap}
use mathlib.Core.List.{List, ◌++◌}
use borrow.Author.Rules.{rules}
use lib.ListN.{length, take, drop}
use Rattle.meaning.specs.Lists.{All}
use Rattle.meaning.specs.Ceilings.{Small}
use Rattle.bytes_out.specs.Laying.{Laying}
use Rattle.write_pieces.specs.Rooms.{Room}
use Rattle.write_pieces.specs.Laying.{laying-start, laying-left, laying-put, laying-last, room-first}
use Rattle.image.specs.Stands.{Stands}
use Rattle.image.specs.Places.{PlaceOf}
use Rattle.ndl_text.specs.Parts.{driven_text, taken_text, occurrence-of-parts}
use Rattle.ndl_text.specs.Standing.{OccurrenceTold}
use Rattle.ndl_text.proofs.Told.{part-between, drives-stand, room-of-parts}
use Rattle.ndl_text.proofs.occurrences.put.Statement.{statement}
use Rattle.ndl_text.proofs.occurrences.put.Tie as tie

-- The places where the parts are known, and behind the first part of the line.
abbrev start : tie.After-occurrence_at-place → tie.Start
start c = c.before.before.before.before

abbrev parts : tie.After-put_driven-refers → tie.After-occurrence_at-place
parts c = c.before.before.before.before

abbrev Told : tie.After-occurrence_at-place → Type 0
Told c =
    let a = c.args in
    OccurrenceTold a.names.now a.numbers.now a.from a.position a.out.now a.at

module _ (c : tie.After-occurrence_at-place) (t : Told c) where
  placed : PlaceOf (start c).args.numbers.now (start c).args.from t.o c.occurrence_at-place.result
  placed = c.occurrence_at-place.ensures t.o t.stands

  drives : Stands (start c).args.numbers.now ((start c).args.from + 1) t.o.drives
  drives = drives-stand t.o t.stands

  driven-part :
      take ((start c).args.from + 1 + c.occurrence_at-place.result.drives - ((start c).args.from + 1)) (drop ((start c).args.from + 1) (start c).args.numbers.now)
      ≡ t.o.drives
  driven-part =
      part-between (c.args.from + 1) (c.args.from + 1 + c.occurrence_at-place.result.drives) drives
      (ap (λ (n : ℕ). c.args.from + 1 + n) placed.drives)

  taken-part :
      take (c.occurrence_at-place.result.to - c.occurrence_at-place.result.from) (drop c.occurrence_at-place.result.from (start c).args.numbers.now)
      ≡ t.o.takes
  taken-part = part-between c.occurrence_at-place.result.from c.occurrence_at-place.result.to placed.takes placed.to

begun : (c : tie.After-put_driven-refers) (t : Told c.before.before.before.before)
    → let a = c.args in
    Laying (driven_text a.position t.o.drives ++ taken_text a.names.now t.o.refers t.o.takes) (taken_text a.names.now t.o.refers t.o.takes)
    a.out.now a.at c.put_driven-refers.new.out c.put_driven-refers.result
begun c t = laying-put (rw (driven-part c.before.before.before.before t) at c.put_driven-refers.ensures) (laying-start (room-of-parts t))

put-driven-requires : tie.Need-put_driven-refers-requires
put-driven-requires c κs =
    let t = c.requires in
    rw (driven-part c.before.before.before t)
    (t.small, t.within.drives.numbers, room-first (taken_text c.args.names.now t.o.refers t.o.takes) (room-of-parts t))

-- What is asked of a reference and its arguments, as they stand in the numbers.
takeable : (names out : List ℕ) (at : ℕ) {n m : ℕ} {xs ys : List ℕ} → n ≡ m → xs ≡ ys
    → (length names ≡ 128) × Small m × All Small ys × Room (taken_text names m ys) out at
    → (length names ≡ 128) × Small n × All Small xs × Room (taken_text names n xs) out at
takeable names out at e f h = rw (e, f) h

put-taken-requires : tie.Need-put_taken-end-requires
put-taken-requires c κs =
    let t = c.requires in
    takeable _ _ _ (placed c.before.before.before.before.before.before.before.before t).refers (taken-part c.before.before.before.before.before.before.before.before t)
    (t.long, t.within.refers, t.within.takes.numbers, laying-left (begun c.before.before.before.before t))

returns : tie.Need-returns
returns c t =
    let a = c.args in
    record {
      put =
          rw (occurrence-of-parts a.names.now a.position t.o)
          (laying-last (rw (taken-part c.before.before.before.before.before.before.before.before.before.before.before t, (placed c.before.before.before.before.before.before.before.before.before.before.before t).refers) at c.put_taken-end.ensures) (begun c.before.before.before.before.before.before.before t));
      next = (placed c.before.before.before.before.before.before.before.before.before.before.before t).next;
    }

pub put_spec : {M : Type 1} → statement M
put_spec =
    tie.close
    (tie.spec
    (λ c κs. let t = c.requires in record { o = t.o; stands = t.stands })
    (λ c. omega (arith, (drives c c.requires).within))
    (λ c. omega (arith, (drives c.before c.requires).within, (placed c.before c.requires).drives))
    (λ c. omega (arith, (drives c.before c.requires).within))
    (λ c. omega (arith, (drives c.before c.requires).within))
    (λ c. omega (arith, (drives c.before c.requires).within))
    (λ c. omega (arith, (drives c.before c.requires).within, (placed c.before c.requires).drives))
    put-driven-requires
    (λ c. omega (arith, (placed c.before.before.before.before.before.before c.requires).takes.within))
    (λ c. omega (arith, (placed c.before.before.before.before.before.before c.requires).takes.within, (placed c.before.before.before.before.before.before c.requires).to))
    (λ c. omega (arith, (placed c.before.before.before.before.before.before c.requires).takes.within, (placed c.before.before.before.before.before.before c.requires).to))
    (λ c. omega (arith, (placed c.before.before.before.before.before.before c.requires).takes.within, (placed c.before.before.before.before.before.before c.requires).to))
    put-taken-requires
    (λ c. search rules)
    returns)
