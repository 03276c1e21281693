-- `take_rows` meets its contract: each turn packs the row in front of those that are packed.
use Rattle.std.proofs.Common.{◌≡◌, ℕ, List, ◌+◌, ◌-◌, ◌*◌, length, take, drop, refl, sym, ap, ◌∙◌, arith}
use Rattle.std.proofs.Math.Path.{subst}
use Rattle.lanes.specs.Lanes.{surely, maybe}
use Rattle.lanes.specs.Rows.{Light}
use Rattle.lanes.specs.Groups.{Grouping, grouping_start, before-is, row-long, row-light, grouping_more, grouping_all}
use Rattle.lanes.proofs.rows.take_rows.Goals as goal

-- The row that is lent.
row_is :
    (values : List ℕ) (inputs start at : ℕ)
    → at ≡ start + inputs
    → take (start + inputs - start) (drop start values) ≡ take inputs (drop (at - inputs) values)
row_is values inputs start at e =
    let many : start + inputs - start ≡ inputs = omega arith in
    let place : start ≡ at - inputs = omega (arith, e) in
    ap (λ (n : ℕ). take n (drop start values)) many ∙ ap (λ (n : ℕ). take inputs (drop n values)) place

pub loop-row-init : goal.loop-row-init
loop-row-init c = (grouping_start c.requires.0 refl, grouping_start c.requires.1 refl)

pub take_row-requires : goal.take_row-requires
take_row-requires c =
    let inv = c.loop-row.invariant in
    let more = c.loop-row-test.true in
    let is = row_is c.args.values.now c.args.inputs _ _ (before-is c.requires.0 inv.0 more) in
    let long = ap length is ∙ row-long c.requires.0 inv.0 more in (
      subst (λ (n : ℕ). Light n c.loop-row.low) (sym long) (row-light c.requires.0 inv.0 more),
      subst (λ (n : ℕ). Light n c.loop-row.high) (sym long) (row-light c.requires.1 inv.1 more),
    )

pub loop-row-preserved : goal.loop-row-preserved
loop-row-preserved c =
    let a = c.args in
    let inv = c.loop-row.invariant in
    let more = c.loop-row-test.true in
    let row = c.loop-row.row in
    let here = before-is c.requires.0 inv.0 more in
    let is = row_is a.values.now a.inputs _ _ here in
    let back : a.from + row * a.inputs - a.inputs ≡ a.from + (row - 1) * a.inputs = omega (arith, here) in (
      subst (λ (n : ℕ). Grouping surely a.values.now a.inputs a.from a.count (row - 1) n a.low.now c.take_row.new.low) back
          (grouping_more c.requires.0 inv.0 more is c.take_row.ensures.0),
      subst (λ (n : ℕ). Grouping maybe a.values.now a.inputs a.from a.count (row - 1) n a.high.now c.take_row.new.high) back
          (grouping_more c.requires.1 inv.1 more is c.take_row.ensures.1),
    )

pub returns : goal.returns
returns c =
    let inv = c.loop-row.invariant in
    let over = c.loop-row-test.false in
    (grouping_all c.requires.0 inv.0 (omega (arith, over)), grouping_all c.requires.1 inv.1 (omega (arith, over)))
