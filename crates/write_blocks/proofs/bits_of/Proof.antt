-- `blocks::bits_of` meets its contract: the shift loses nothing. Assumes nothing.
use Prim.Native.Nat.{◌*◌, ◌%◌, ◌^◌}
use native.Mathlib.Nat.{one-mul}
use native.Mathlib.Omega.{arith}
use borrow.Author.Rules.{rules}
use mathlib.Core.Path.{◌≡◌, refl, ◌∙◌}
use lib.Pow.{pow_mono, shl_exact}
use Rattle.write_blocks.proofs.bits_of.Statement.{statement}
use Rattle.write_blocks.proofs.bits_of.Tie as tie

returns : tie.Need-returns
returns c =
    let level = c.args.level in
    let exact : (1 * 2 ^ level) % 2 ^ 8 ≡ 2 ^ level = shl_exact {a = 1} 1 level 8 (omega arith) (omega arith) ∙ one-mul (2 ^ level) in
    rw exact (refl, pow_mono {i = level} {j = 6} (omega arith))

pub bits_of_spec : {M : Type 1} → statement M
bits_of_spec = tie.close (tie.spec (λ c. search rules) returns)
