-- `numbers::put_list` meets its contract: in a turn the bytes of a number come first of those left. Assumes nothing.
use Rattle.std.proofs.Common.{ℕ, ◌+◌, ◌<◌, ◌≡◌, List, ◌++◌, length, drop, get_or, arith, drop_of_length-le}
use Rattle.meaning.specs.Layout.{each, number_bytes}
use Rattle.laws.specs.Lists.{all-at}
use Rattle.write_pieces.specs.Laying.{laying-start, laying-room, laying-more, laying-all}
use Rattle.write_pieces.specs.Encoding.{bytes-of-next, no_bytes}
use Rattle.write_pieces.specs.Runs.{rest-of-list}
use Rattle.write_pieces.proofs.numbers.put_list.Goals as goal

next : (numbers : List ℕ) (i : ℕ) → i < length numbers
    → each number_bytes (drop i numbers) ≡ number_bytes (get_or numbers i 0) ++ each number_bytes (drop (i + 1) numbers)
next numbers i some = bytes-of-next (rest-of-list numbers i some)

pub loop-number-init : goal.loop-number-init
loop-number-init c = laying-start c.requires.1

pub put-at-requires : goal.put-at-requires
put-at-requires c =
    let loop = c.loop-number in
    let left = next c.args.numbers.now loop.number-index c.loop-number-test.true in (
      all-at c.requires.0 loop.number-index 0 c.loop-number-test.true,
      omega (arith, laying-room loop.invariant (number_bytes _) _ left),
    )

pub loop-number-preserved : goal.loop-number-preserved
loop-number-preserved c =
    let loop = c.loop-number in
    laying-more loop.invariant (number_bytes _) _ (next c.args.numbers.now loop.number-index c.loop-number-test.true) c.put-at.ensures

pub returns : goal.returns
returns c = laying-all c.loop-number.invariant (no_bytes (drop_of_length-le c.args.numbers.now c.loop-number-test.false))
