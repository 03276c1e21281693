-- The word is a front of the line, and the line of the text.
use Rattle.std.proofs.Common.{length, sym, ◌∙◌, arith, eq-eqb, length-take-le}
use Rattle.row_lines.specs.Lines.{feed_at, found_in}
use Rattle.row_lines.proofs.Feeds.{feed-within, found-there}
use Rattle.row_lines.proofs.judging.find_row.Goals as goal

pub returns-then-feed-text : goal.returns-then-feed-text
unfolding found_in
returns-then-feed-text c =
    let t = c.args.text.now in
    rw (eq-eqb (feed_at t) (length t) (sym c.feed_at-feed.ensures ∙ c.if-feed-text.true))

pub slice_bounds-bare_length-end : goal.slice_bounds-bare_length-end
slice_bounds-bare_length-end c =
    let t = c.args.text.now in
    sym (length-take-le c.feed_at-feed.result t (omega (arith, c.feed_at-feed.ensures, feed-within t)))

pub overflow_add-feed : goal.overflow_add-feed
overflow_add-feed c = omega (arith, c.if-feed-text.false, c.feed_at-feed.ensures, feed-within c.args.text.now)

pub returns : goal.returns
returns c =
    found-there c.args.inputs c.args.text.now c.feed_at-feed.result c.bare_length-bare.result c.judge.result
    c.feed_at-feed.ensures
    c.if-feed-text.false
    c.bare_length-bare.ensures
    c.judge.ensures
