-- `nets::put_signed` meets its contract: the sign, and the net behind it. Assumes nothing.
use native.Mathlib.Omega.{arith}
use mathlib.Core.Path.{refl, ◌∙◌}
use lib.ListN.{length-set}
use Rattle.write_pieces.specs.Laying.{laying-start, laying_store, laying-left, laying-last}
use Rattle.ndl_pieces.proofs.nets.put_signed.Statement.{statement}
use Rattle.ndl_pieces.proofs.nets.put_signed.Tie as tie

put-named-requires : tie.Need-put_named-requires
put-named-requires c κs =
    (c.requires.0, laying-left (laying_store (laying-start c.requires.1) refl))

returns : tie.Need-returns
returns c =
    laying-last c.put_named.ensures (laying_store (laying-start c.requires.1) refl)

pub put_signed_spec : {M : Type 1} → statement M
put_signed_spec =
    tie.close
    (tie.spec
    (λ c. omega (arith, c.requires.1.fits))
    (λ c. omega (arith, c.requires.1.fits))
    put-named-requires
    (λ c. c.put_named.auto.out ∙ length-set c.args.out.now _ _)
    returns)
