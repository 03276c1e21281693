-- `references::put_letters` meets its contract: the letters are the front of the name. Assumes nothing.
use native.Mathlib.Omega.{arith}
use mathlib.Core.Path.{◌≡◌, sym}
use borrow.Author.Rules.{rules}
use lib.ListN.{take}
use lib.Seq.{length-take-le}
use Rattle.meaning.specs.Ndl.{letters}
use Rattle.ndl_names.proofs.Names.{front-letters, few-letters}
use Rattle.ndl_pieces.proofs.references.put_letters.Statement.{statement}
use Rattle.ndl_pieces.proofs.references.put_letters.Tie as tie

-- The bytes that are copied are the letters.
front : (c : tie.After-letters-count) → take c.letters-count.result c.args.name.now ≡ letters c.args.name.now
front c =
    let name = c.args.name.now in
    rw c.letters-count.ensures (front-letters name)

copy-requires : tie.Need-copy-requires
copy-requires c κs =
    rw (front c.before) c.requires.fits

returns : tie.Need-returns
returns c =
    rw (front c.before.before.before.before) at c.copy.ensures

pub put_letters_spec : {M : Type 1} → statement M
put_letters_spec =
    tie.close
    (tie.spec
    (λ c κs. search rules)
    (λ c. sym (length-take-le _ _ (omega (arith, few-letters c.args.name.now, c.letters-count.ensures))))
    copy-requires
    (λ c. search rules)
    returns)
