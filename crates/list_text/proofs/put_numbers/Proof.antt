-- `put_numbers` meets its contract: the first number and those behind it are the row. Assumes nothing.
use native.Mathlib.Omega.{arith}
use borrow.Author.Rules.{rules}
use Rattle.meaning.specs.Listing.{decimal}
use Rattle.list_text.specs.Pieces.{PutDown}
use Rattle.list_text.proofs.Pieces.{put-length, put-after}
use Rattle.list_text.proofs.Numbers.{length-of-number, number_spellable, number_put, spaced-behind}
use Rattle.list_text.proofs.put_numbers.Statement.{statement}
use Rattle.list_text.proofs.put_numbers.Tie as tie

put-number-requires : tie.Need-put_number-at-requires
put-number-requires c κs = number_spellable c.ranges.first.fits (omega (arith, c.requires))

-- The first number stands there.
first : (c : tie.After-put_number-at)
    → PutDown (decimal c.args.first) c.args.out.now c.args.from c.put_number-at.new.out
    c.put_number-at.result
first c = number_put c.put_number-at.ensures c.ranges.first.fits (omega (arith, c.requires))

put-more-requires : tie.Need-put_more-requires
put-more-requires c κs =
    let d = first c.before.before.before in
    let kept = put-length d in
    omega (arith, c.requires, length-of-number c.args.first)

same_length : tie.Need-shape_of-out
same_length c = search rules

returns : tie.Need-returns
returns c =
    rw (spaced-behind c.args.first c.args.rest.now) at (put-after (first c.before.before.before.before.before.before) c.put_more.ensures)

pub put_numbers_spec : {M : Type 1} → statement M
put_numbers_spec = tie.close (tie.spec put-number-requires put-more-requires same_length returns)
