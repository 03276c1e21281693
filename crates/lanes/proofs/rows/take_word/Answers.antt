-- `take_word` meets its contract: each turn packs the eight rows in front of those that are packed; the first may pack fewer.
use Rattle.std.specs.Int.{div_ceil}
use Rattle.std.proofs.Common.{◌≡◌, ℕ, ◌+◌, ◌-◌, ◌*◌, ◌%◌, ◌<◌, ◌≤◌, min, length, drop, replicate, sym, arith}
use Rattle.std.proofs.Math.Path.{subst}
use Rattle.std.proofs.lemmas.List.{length-replicate}
use Rattle.meaning.specs.Rows.{rows_of}
use Rattle.lanes.specs.Lanes.{surely, maybe}
use Rattle.lanes.specs.Groups.{Group}
use Rattle.lanes.specs.Rows.{Packed}
use Rattle.lanes.specs.Blocks.{zeros-at}
use Rattle.lanes.specs.Wording.{wording_start, group-there, hungry, wording_more, wording_all}
use Rattle.lanes.proofs.rows.take_word.Goals as goal

-- The rows of a group are the last of those that are left.
record Turn (count group some : ℕ) : Type 0 where
  more : 0 < min count (group * 8)
  is : some ≡ (min count (group * 8) - 1) % 8 + 1
  back : min count (group * 8) - some ≡ (group - 1) * 8
  next : min count (group * 8) - some ≡ min count ((group - 1) * 8)

turn :
    {count group some end : ℕ}
    → 0 < group
    → group ≤ end
    → end ≡ div_ceil count 8
    → some ≡ min (count - (group - 1) * 8) 8
    → Turn count group some
turn more upto end is =
    record {
      more = omega (arith, more, upto, end);
      is = omega (arith, more, upto, end, is);
      back = omega (arith, more, upto, end, is);
      next = omega (arith, more, upto, end, is);
    }

pub loop-group-init : goal.loop-group-init
loop-group-init c =
    let all : c.args.count ≡ min c.args.count (c.div_ceil-group.result * 8) = omega (arith, c.div_ceil-group.ensures) in
    rw (sym all) (wording_start c.requires.0, wording_start c.requires.1)

pub take_rows-requires : goal.take_rows-requires
take_rows-requires c =
    let a = c.args in
    let t = turn c.loop-group-test.true c.loop-group.auto.group c.div_ceil-group.ensures c.min-some.ensures in
    let group : Group a.values.now a.inputs (a.from + (c.loop-group.group - 1) * 8 * a.inputs) c.min-some.result (replicate 192 0) =
    record {
      there =
          subst (λ (n : ℕ). a.from + n * a.inputs + c.min-some.result * a.inputs ≤ length a.values.now) t.back
          (group-there c.requires.0 c.loop-group.invariant.0 t.more t.is);
      few = omega (arith, c.min-some.ensures);
      long = omega (arith, c.requires.0.narrow, length-replicate {A = ℕ} 192 0);
      empty = λ i h. zeros-at 192 i;
    } in
    (group, group)

pub feed-requires : goal.feed-requires
feed-requires c =
    let t = turn c.loop-group-test.true c.loop-group.auto.group c.div_ceil-group.ensures c.min-some.ensures in
    hungry c.requires.0 c.loop-group.invariant.0 t.more t.is (omega (arith, c.take_rows.auto.low, c.requires.0.narrow))

pub feed-requires-in-loop-group : goal.feed-requires-in-loop-group
feed-requires-in-loop-group c =
    let t = turn c.loop-group-test.true c.loop-group.auto.group c.div_ceil-group.ensures c.min-some.ensures in
    hungry c.requires.1 c.loop-group.invariant.1 t.more t.is (omega (arith, c.take_rows.auto.high, c.requires.1.narrow))

pub loop-group-preserved : goal.loop-group-preserved
loop-group-preserved c =
    let a = c.args in
    let some = c.min-some.result in
    let t = turn c.loop-group-test.true c.loop-group.auto.group c.div_ceil-group.ensures c.min-some.ensures in
    let taken = c.take_rows.ensures in
    let inv = c.loop-group.invariant in
    rw (sym t.next) (
      wording_more c.requires.0 inv.0 t.more t.is
          (subst (λ (n : ℕ). Packed surely (rows_of some a.inputs (drop (a.from + n * a.inputs) a.values.now)) a.inputs c.take_rows.new.low) (sym t.back) taken.0)
          c.feed.ensures,
      wording_more c.requires.1 inv.1 t.more t.is
          (subst (λ (n : ℕ). Packed maybe (rows_of some a.inputs (drop (a.from + n * a.inputs) a.values.now)) a.inputs c.take_rows.new.high) (sym t.back) taken.1)
          c.feed-in-loop-group.ensures,
    )

pub returns : goal.returns
returns c =
    let inv = c.loop-group.invariant in
    let over : min c.args.count (c.loop-group.group * 8) ≤ 0 = omega (arith, c.loop-group-test.false) in
    (wording_all c.requires.0 inv.0 over, wording_all c.requires.1 inv.1 over)
