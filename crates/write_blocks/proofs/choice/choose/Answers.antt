-- `choice::choose` meets its contract: in a turn the two gates of a bit come first of those left. Assumes nothing.
use Rattle.std.proofs.Common.{ℕ, ◌+◌, ◌≤◌, ◌<◌, ◌≡◌, List, length, arith}
use Rattle.meaning.specs.Layout.{occurrence_numbers}
use Rattle.bytes_out.specs.Puts.{put-more}
use Rattle.bytes_out.specs.Laying.{Laying}
use Rattle.write_pieces.specs.Laying.{laying-none, laying-room, laying-more, laying-all}
use Rattle.write_blocks.specs.Choices.{choice_numbers, choice_from, bit_at, whole_choice, rest-of_choice, no_choice}
use Rattle.write_blocks.proofs.choice.choose.Goals as goal

-- Where a bit is left, there is room for its two gates.
room : (empty high low ands ors count i : ℕ) {before after : List ℕ} {at next : ℕ}
    → Laying (choice_numbers empty high low ands ors count) (choice_from empty high low ands ors count i) before at after next
    → i < count
    → (length after ≡ length before) × (next + 12 ≤ length before)
unfolding occurrence_numbers
room empty high low ands ors count i laying some =
    laying-room laying (bit_at empty high low ands ors i) _ (rest-of_choice empty high low ands ors count i some)

pub loop-i-init : goal.loop-i-init
loop-i-init c =
    let a = c.args in
    laying-none a.bytes.now a.at (whole_choice a.empty a.high a.low a.ands a.ors a.count) c.requires.4.fits

pub gate-or-requires : goal.gate-or-requires
unfolding occurrence_numbers
gate-or-requires c =
    let a = c.args in
    omega (arith, room a.empty a.high a.low a.ands a.ors a.count c.loop-i.i c.loop-i.invariant c.loop-i-test.true)

pub gate-at-requires : goal.gate-at-requires
unfolding occurrence_numbers
gate-at-requires c =
    let a = c.args in
    omega (arith, room a.empty a.high a.low a.ands a.ors a.count c.loop-i.i c.loop-i.invariant c.loop-i-test.true)

pub loop-i-preserved : goal.loop-i-preserved
loop-i-preserved c =
    let a = c.args in
    let i = c.loop-i.i in
    laying-more c.loop-i.invariant (bit_at a.empty a.high a.low a.ands a.ors i) _
    (rest-of_choice a.empty a.high a.low a.ands a.ors a.count i c.loop-i-test.true)
    (put-more c.gate-or.ensures
    (omega (arith, room a.empty a.high a.low a.ands a.ors a.count i c.loop-i.invariant c.loop-i-test.true))
    c.gate-at.ensures)

pub returns : goal.returns
returns c =
    let a = c.args in
    laying-all c.loop-i.invariant
    (no_choice a.empty a.high a.low a.ands a.ors a.count c.loop-i.i c.loop-i-test.false)
