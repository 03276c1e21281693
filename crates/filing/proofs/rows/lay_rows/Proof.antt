-- The rows that were passed are laid.
use Prim.Native.Nat.{◌+◌, ◌*◌, ◌-◌, ◌≤◌}
use mathlib.Core.Path.{◌≡◌, subst, ◌∙◌}
use native.Mathlib.Omega.{arith}
use borrow.Author.Count.{below_none}
use borrow.Rule.Slice.PartMut.{mid_len}
use lib.ListN.{length}
use Rattle.filing.specs.Laying.{Rowed}
use Rattle.filing.proofs.Parts.{rowed_more}
use Rattle.filing.proofs.rows.lay_rows.Statement.{statement}
use Rattle.filing.proofs.rows.lay_rows.Tie as tie

abbrev invariant-loop : tie.invariant-loop-i
invariant-loop count bits mask values₀ from₀ i₀ values from i =
    (i ≤ count) × (from + 2 * i ≡ 2 * count) × Rowed count bits mask i values

abbrev decreases-loop : tie.decreases-loop-i
decreases-loop count bits mask values₀ from₀ i₀ values from i = count - i

mul-from : tie.Need-overflow_mul-from invariant-loop decreases-loop
mul-from c = omega (arith, c.requires.most)

loop-holds : tie.Need-loop-i-init invariant-loop decreases-loop
loop-holds c =
    (omega arith, omega arith, record { whole = c.requires.whole; row = below_none _ })

sub-from : tie.Need-overflow_sub-from invariant-loop decreases-loop
sub-from c = omega (arith, c.loop-i.invariant.1, c.loop-i-test.true)

mul_at : tie.Need-overflow_mul-at invariant-loop decreases-loop
mul_at c = omega (arith, c.requires.most, c.loop-i-test.true)

add-end : tie.Need-overflow_add-end invariant-loop decreases-loop
add-end c = omega (arith, c.requires.most, c.loop-i-test.true)

sub-lay-row : tie.Need-slice_bounds-lay_row-count invariant-loop decreases-loop
sub-lay-row c = omega arith

part-lay-row-start : tie.Need-slice_bounds-lay_row-start invariant-loop decreases-loop
part-lay-row-start c = omega arith

part-lay-row-end : tie.Need-slice_bounds-lay_row-end invariant-loop decreases-loop
part-lay-row-end c = omega (arith, c.loop-i.invariant.2.whole, c.loop-i-test.true)

lay-row-requires : tie.Need-lay_row-requires invariant-loop decreases-loop
lay-row-requires c κs =
    let l = c.loop-i in
    let p = c.requires in
    let within : l.i * 32 + 32 ≤ length l.values = omega (arith, l.invariant.2.whole, c.loop-i-test.true) in
    record {
      long = omega (arith, l.invariant.1, p.long);
      whole = mid_len (l.i * 32) (l.i * 32 + 32) l.values within ∙ omega arith;
    }

add-i : tie.Need-overflow_step-i invariant-loop decreases-loop
add-i c = omega arith

loop-less : tie.Need-loop-i-smaller invariant-loop decreases-loop
loop-less c = omega arith

loop-again : tie.Need-loop-i-preserved invariant-loop decreases-loop
loop-again c =
    let l = c.loop-i in (
      omega arith,
      omega (arith, l.invariant.1, c.loop-i-test.true),
      rowed_more l.invariant.2 c.loop-i-test.true _ (l.from - 2) (omega (arith, l.invariant.1)) c.lay_row.ensures,
    )

same_length : tie.Need-shape_of-values invariant-loop decreases-loop
same_length c = omega (arith, c.loop-i.invariant.2.whole, c.requires.whole)

returns : tie.Need-returns invariant-loop decreases-loop
returns c =
    let l = c.loop-i in
    let a = c.args in
    let all : l.i ≡ a.count = omega arith in
    subst (λ n. Rowed a.count a.bits.now a.mask.now n l.values) all l.invariant.2

pub lay_rows_spec : {M : Type 1} → statement M
lay_rows_spec =
    tie.close
    (tie.spec
    invariant-loop
    decreases-loop
    mul-from
    loop-holds
    sub-from
    mul_at
    add-end
    sub-lay-row
    part-lay-row-start
    part-lay-row-end
    lay-row-requires
    add-i
    loop-less
    loop-again
    same_length
    returns)
