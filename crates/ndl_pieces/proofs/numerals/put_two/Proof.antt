-- `numerals::put_two` meets its contract: the last digit but one, and the last. Assumes nothing.
use Prim.Native.Nat.{◌+◌, ◌/◌, ◌%◌}
use mathlib.Core.List.{[], ◌∷◌}
use native.Mathlib.Numerals.{add-one}
use native.Mathlib.Omega.{arith}
use borrow.Author.Rules.{rules}
use lib.ListN.{length-set}
use Rattle.bytes_out.proofs.Filling.{put_stores}
use Rattle.ndl_pieces.specs.Digits.{last_digits}
use Rattle.ndl_pieces.proofs.numerals.put_two.Statement.{statement}
use Rattle.ndl_pieces.proofs.numerals.put_two.Tie as tie

slice-write-out : tie.Need-bounds-out-at
unfolding last_digits
slice-write-out c = omega (arith, c.requires.fits)

slice-write-out-2 : tie.Need-bounds-out-at-2
unfolding last_digits
slice-write-out-2 c = simp length-set (omega (arith, c.requires.fits))

returns : tie.Need-returns
unfolding last_digits
returns c =
    rw (c.digit-2.ensures, c.digit.ensures, add-one)
    (put_stores ((48 + c.args.n / 10 % 10) ∷ (48 + c.args.n % 10) ∷ []) c.args.out.now c.args.at c.requires.fits)

pub put_two_spec : {M : Type 1} → statement M
put_two_spec =
    tie.close
    (tie.spec
    (λ c κs. search rules)
    slice-write-out
    (λ c κs. search rules)
    (λ c. search rules)
    slice-write-out-2
    (λ c. search rules)
    (λ c. search rules)
    returns)
