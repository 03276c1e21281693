-- `numerals::put` meets its contract: a number of each length is put from its own pieces. Assumes nothing.
use mathlib.Core.Path.{◌≡◌}
use native.Mathlib.Omega.{arith}
use borrow.Author.Rules.{rules}
use Rattle.meaning.specs.Listing.{decimal}
use Rattle.ndl_pieces.specs.Digits.{last_digits}
use Rattle.ndl_pieces.proofs.Spelling.{one-digit, two_digits, three-digits, four-digits, five-digits, same-room, same-put, front-room, two-room, two-last}
use Rattle.ndl_pieces.proofs.numerals.put.Statement.{statement}
use Rattle.ndl_pieces.proofs.numerals.put.Tie as tie

returns : tie.Need-returns-then-n-lt10
returns c =
    same-put (one-digit c.if-n-lt10.true) c.put_one.ensures

returns-2 : tie.Need-returns-then-n-lt100
returns-2 c =
    same-put (two_digits c.if-n-lt10.false c.if-n-lt100.true) c.put_two.ensures

returns-3 : tie.Need-returns-then-n-lt1000
returns-3 c =
    same-put (three-digits c.if-n-lt100.false c.if-n-lt1000.true) c.put_three.ensures

four : (t : tie.Then-n-lt10000) → decimal t.args.n ≡ last_digits 4 t.args.n
four t = four-digits t.if-n-lt1000.false t.if-n-lt10000.true

five : (t : tie.Else-n-lt10000) → decimal t.args.n ≡ last_digits 5 t.args.n
five t = five-digits t.if-n-lt10000.false (omega (arith, t.requires.0))

put-two-requires-3 : tie.Need-put_two-requires-then-n-lt10000
put-two-requires-3 c κs =
    two-room 2 c.args.n (four c.before.before.before.before.before) c.requires.1 c.put_two-next.ensures

returns-4 : tie.Need-returns-then-n-lt10000
returns-4 c =
    two-last 2 c.args.n (four c.before.before.before.before.before.before.before.before) c.requires.1 c.put_two-next.ensures c.put_two-then-n-lt10000.ensures

put-two-requires-4 : tie.Need-put_two-requires-2
put-two-requires-4 c κs =
    two-room 3 c.args.n (five c.before.before.before.before.before) c.requires.1 c.put_three-next.ensures

returns-5 : tie.Need-returns
returns-5 c =
    two-last 3 c.args.n (five c.before.before.before.before.before.before.before.before) c.requires.1 c.put_three-next.ensures c.put_two-2.ensures

pub put_spec : {M : Type 1} → statement M
put_spec =
    tie.close
    (tie.spec
    (λ c κs. same-room (one-digit c.if-n-lt10.true) c.requires.1)
    (λ c. search rules)
    returns
    (λ c κs. same-room (two_digits c.if-n-lt10.false c.if-n-lt100.true) c.requires.1)
    (λ c. search rules)
    returns-2
    (λ c κs. same-room (three-digits c.if-n-lt100.false c.if-n-lt1000.true) c.requires.1)
    (λ c. search rules)
    returns-3
    (λ c κs. front-room 2 c.args.n (four c.before) c.requires.1)
    put-two-requires-3
    (λ c. search rules)
    returns-4
    (λ c κs. front-room 3 c.args.n (five c.before) c.requires.1)
    put-two-requires-4
    (λ c. search rules)
    returns-5)
