-- How many bytes numbers take. That a file under other numbers has at most twice the bytes is in proofs/Sizes.antt.
use Prim.Native.Nat.{ℕ, ◌+◌, ◌*◌, ◌/◌, ◌%◌, ◌≤◌}
use native.Mathlib.Omega.{arith}
use Rattle.std.specs.Prelude.{Bool, true, false, cond, ltb}
use mathlib.Core.List.{List, [], ◌∷◌}
use Rattle.std.proofs.Math.ListN.{length, length-append}
use Rattle.meaning.specs.Layout.{each, number_bytes}

-- One or two bytes a number.
pub few_bytes : (n : ℕ) → (1 ≤ length (number_bytes n)) × (length (number_bytes n) ≤ 2)
unfolding number_bytes
few_bytes n = go (ltb n 128)
  where
    go : (b : Bool)
        → (1 ≤ length (cond b (n ∷ []) ((128 + n % 128) ∷ (n / 128) ∷ []))) × (length (cond b (n ∷ []) ((128 + n % 128) ∷ (n / 128) ∷ [])) ≤ 2)
    go true = (omega arith, omega arith)
    go false = (omega arith, omega arith)

pub all-bytes : (ns : List ℕ) → (length ns ≤ length (each number_bytes ns)) × (length (each number_bytes ns) ≤ 2 * length ns)
unfolding each
all-bytes [] = (omega arith, omega arith)
all-bytes (n ∷ ns) =
    let sum = length-append (number_bytes n) (each number_bytes ns) in
    let one = few_bytes n in
    let rest = all-bytes ns in
    (omega (arith, sum, one.0, rest.0), omega (arith, sum, one.1, rest.1))
