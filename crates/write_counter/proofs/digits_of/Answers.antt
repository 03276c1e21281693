-- `write_counter::digits_of` meets its contract: what is left of eight bits without the zeros in front are the digits. Assumes nothing.
use Rattle.std.proofs.Common.{ℕ, suc, ◌-◌, ◌^◌, ◌<◌, ◌≡◌, length, arith}
use Rattle.std.proofs.lemmas.Nat.{leading_length}
use Rattle.std.specs.Int.Count.{count_leading_zeros}
use native.Mathlib.Nat.{pow-suc}
use Rattle.meaning.specs.Counter.{digits}
use Rattle.laws.specs.Counter.Digits.{digits_fewest, power_below, below-digits}
use Rattle.write_counter.proofs.digits_of.Goals as goal

digits-behind_zeros : (n : ℕ) → n < 2 ^ 8 → 8 - count_leading_zeros 8 n ≡ length (digits n)
digits-behind_zeros n small =
    let counted = leading_length 8 n small in
    let most = length (digits n) in
    let few = power_below counted.0 (suc most) (omega (arith, counted.3, below-digits n, pow-suc 2 most)) in
    omega (arith, counted.1, digits_fewest n counted.0 counted.2, few)

pub returns : goal.returns
returns c = digits-behind_zeros c.args.width (omega arith)
