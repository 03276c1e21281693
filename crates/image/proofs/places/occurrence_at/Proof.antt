-- `image::places::occurrence_at` meets its contract: where one net is driven and two are taken, each part stands at a fixed distance. Assumes
-- nothing.
use Prim.Native.Nat.{◌+◌, ◌≤◌}
use mathlib.Core.Path.{◌≡◌, refl, sym, ◌∙◌}
use native.Mathlib.Omega.{arith}
use borrow.Author.Rules.{rules}
use lib.ListN.{length}
use Rattle.image.specs.Pieces.{occurrence-at}
use Rattle.image.proofs.places.occurrence_at.Statement.{statement}
use Rattle.image.proofs.places.occurrence_at.Tie as tie

entry-requires : tie.Need-entry-requires
entry-requires c κs = let p = c.requires in omega (arith, (occurrence-at p.o p.stands).end)

-- Where the function began, from where one net is known to be driven.
abbrev began : tie.Else-entry-ne1 → tie.Start
began c = c.before.before.before

-- What stands there then has four numbers in front of its arguments.
single : (c : tie.Else-entry-ne1) → c.args.at + 4 + length c.requires.o.takes ≤ length c.args.image.now
single c =
    let p = c.requires in
    let there = occurrence-at p.o p.stands in
    omega (arith, there.end, there.driven_count, c.entry.ensures, c.if-entry-ne1.false)

-- And six numbers in all, if it takes two.
pair : (c : tie.Else-entry-ne2) → c.args.at + 6 ≤ length c.args.image.now
pair c =
    let p = c.requires in
    let there = occurrence-at p.o p.stands in
    let counted = there.taken_count (c.args.at + 3) (omega (arith, there.driven_count, c.entry.ensures, c.if-entry-ne1.false)) in
    omega (arith, single c.before.before, counted, c.entry-2.ensures, c.if-entry-ne2.false)

returns-3 : tie.Need-returns
returns-3 c o s =
    let at = c.args.at in
    let there = occurrence-at o s in
    let driven : 1 ≡ length o.drives = sym c.if-entry-ne1.false ∙ c.entry.ensures ∙ there.driven_count in
    let counted = there.taken_count (at + 3) (omega (arith, driven)) in
    let taken : 2 ≡ length o.takes = sym c.if-entry-ne2.false ∙ c.entry-2.ensures ∙ counted in
    record {
      drives = driven;
      driven = there.drives (at + 1) refl;
      refers = there.refers (at + 2) (omega (arith, driven));
      from = omega (arith, driven);
      takes = there.takes (at + 4) (omega (arith, driven));
      to = omega (arith, taken);
      next = omega (arith, there.long, driven, taken);
    }

pub occurrence_at_spec : {M : Type 1} → statement M
occurrence_at_spec =
    tie.close
    (tie.spec
    entry-requires
    (λ c κs. search rules)
    (λ c. search rules)
    (λ c. let h = single c in omega arith)
    (λ c κs. let h = single c in omega arith)
    (λ c κs. search rules)
    (λ c. search rules)
    (λ c. let h = pair c in omega arith)
    (λ c. let h = pair c in omega arith)
    (λ c. let h = pair c.before in omega arith)
    (λ c. let h = pair c.before in omega arith)
    (λ c. let h = pair c.before in omega arith)
    returns-3)
