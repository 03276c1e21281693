-- `numerals::put_one` meets its contract. Assumes nothing.
use Prim.Native.Nat.{◌+◌, ◌%◌}
use mathlib.Core.List.{[], ◌∷◌}
use native.Mathlib.Omega.{arith}
use borrow.Author.Rules.{rules}
use Rattle.bytes_out.proofs.Filling.{put_stores}
use Rattle.ndl_pieces.specs.Digits.{last_digits}
use Rattle.ndl_pieces.proofs.numerals.put_one.Statement.{statement}
use Rattle.ndl_pieces.proofs.numerals.put_one.Tie as tie

slice-write-out : tie.Need-bounds-out-at
unfolding last_digits
slice-write-out c = omega (arith, c.requires.fits)

returns : tie.Need-returns
unfolding last_digits
returns c =
    rw c.digit.ensures (put_stores ((48 + c.args.n % 10) ∷ []) c.args.out.now c.args.at c.requires.fits)

pub put_one_spec : {M : Type 1} → statement M
put_one_spec = tie.close (tie.spec (λ c κs. search rules) slice-write-out (λ c. search rules) (λ c. search rules) returns)
