-- `numerals::put_named` meets its contract: the letter, and the number behind it. Assumes nothing.
use native.Mathlib.Omega.{arith}
use mathlib.Core.Path.{refl, ◌∙◌}
use lib.ListN.{length-set}
use Rattle.write_pieces.specs.Laying.{laying-start, laying_store, laying-left, laying-last}
use Rattle.ndl_pieces.proofs.numerals.put_named.Statement.{statement}
use Rattle.ndl_pieces.proofs.numerals.put_named.Tie as tie

put-requires : tie.Need-put-requires
put-requires c κs =
    (c.requires.0, laying-left (laying_store (laying-start c.requires.1) refl))

returns : tie.Need-returns
returns c =
    laying-last c.put.ensures (laying_store (laying-start c.requires.1) refl)

pub put_named_spec : {M : Type 1} → statement M
put_named_spec =
    tie.close
    (tie.spec
    (λ c. omega (arith, c.requires.1.fits))
    (λ c. omega (arith, c.requires.1.fits))
    put-requires
    (λ c. c.put.auto.out ∙ length-set c.args.out.now _ _)
    returns)
