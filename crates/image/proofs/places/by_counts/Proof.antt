-- `image::places::by_counts` meets its contract: each number that it reads is what stands there. Assumes nothing.
use Prim.Native.Nat.{ℕ, ◌+◌, ◌≤◌}
use mathlib.Core.Path.{◌≡◌, refl, ◌∙◌}
use mathlib.Core.List.{List}
use native.Mathlib.Omega.{arith}
use borrow.Author.Rules.{rules}
use lib.ListN.{length, get_or}
use Rattle.meaning.specs.Syntax.{Occurrence}
use Rattle.meaning.specs.Layout.{occurrence_numbers}
use Rattle.image.specs.Stands.{Stands}
use Rattle.image.specs.Pieces.{occurrence-at}
use Rattle.image.proofs.places.by_counts.Statement.{statement}
use Rattle.image.proofs.places.by_counts.Tie as tie

entry-requires : tie.Need-entry-drives-requires
entry-requires c κs = let p = c.requires in omega (arith, (occurrence-at p.o p.stands).end)

-- The first count is read.
at_first :
    (c : tie.After-entry-drives)
    → c.args.at + 3 + c.entry-drives.result + length c.requires.o.takes ≤ length c.args.image.now
at_first c =
    let p = c.requires in
    let there = occurrence-at p.o p.stands in
    omega (arith, there.end, c.entry-drives.ensures, there.driven_count)

add-r-2 : tie.Need-overflow_add-r-2
add-r-2 c = let h = at_first c in omega arith

add-from : tie.Need-overflow_add-from
add-from c = let h = at_first c in omega arith

add-entry : tie.Need-overflow_add-r-3
add-entry c = let h = at_first c in omega arith

entry-requires-2 : tie.Need-entry-requires
entry-requires-2 c κs = let h = at_first c in omega arith

-- The second count is that of the arguments.
second :
    {image : List ℕ} {at : ℕ} (o : Occurrence) {drives takes : ℕ} → Stands image at (occurrence_numbers o) → drives ≡ get_or image at 0
    → takes ≡ get_or image (at + 1 + drives + 1) 0 → takes ≡ length o.takes
second {at = at} o {drives} s d e =
    let there = occurrence-at o s in
    e ∙ there.taken_count (at + 1 + drives + 1) (omega (arith, there.driven_count))

add-to : tie.Need-overflow_add-to
add-to c =
    let p = c.requires in
    let h = at_first c.before in
    omega (arith, second p.o p.stands c.entry-drives.ensures c.entry.ensures)

mul-t7 : tie.Need-offset_bounds-image-r
mul-t7 c = let h = at_first c.before in omega arith

shared-slice-read-t10 : tie.Need-bounds-image-r
shared-slice-read-t10 c = let h = at_first c.before.before in omega arith

returns : tie.Need-returns
returns c o s =
    let there = occurrence-at o s in
    let refers = c.args.at + 1 + c.entry-drives.result in
    let driven = c.entry-drives.ensures ∙ there.driven_count in
    let taken = second o s c.entry-drives.ensures c.entry.ensures in
    record {
      drives = driven;
      driven = there.drives (c.args.at + 1) refl;
      refers = there.refers refers (omega arith);
      from = omega arith;
      takes = there.takes (refers + 2) (omega arith);
      to = omega arith;
      next = omega (arith, there.long);
    }

pub by_counts_spec : {M : Type 1} → statement M
by_counts_spec =
    tie.close
    (tie.spec
    entry-requires
    (λ c. search rules)
    add-r-2
    add-from
    add-entry
    entry-requires-2
    add-to
    mul-t7
    shared-slice-read-t10
    returns)
