-- Figures of the written adder that count its cells: at width n it has 5n gates, expanded size 8n and room 4n+13.
use Rattle.std.specs.Prelude.{◌≡◌, refl, [], ◌∷◌, ℕ, zero, suc, ◌+◌, ◌*◌, ◌≤◌, length}
use Rattle.std.proofs.Common.{arith}
use Rattle.meaning.specs.Limits.{driven, net_count, body_size, expanded_size}
use Rattle.meaning.specs.Figures.{body_weight, gate_weight, gate_count, largest_referred, room}
use Rattle.meaning.specs.Adder.{adder_cells, ripple_adder, full_adder, half_adder, adder}
use Rattle.laws.specs.Adder.Nets.{length-up_from}

-- Every cell refers to the full adder, so each figure of the cells is the full adder's times the width, or the full adder's own.
weight_of-cells :
    (weight later : ℕ → ℕ) (a b s k before n : ℕ) → body_weight weight later (adder_cells a b s k before n) ≡ n * later 17
unfolding body_weight adder_cells
weight_of-cells weight later a b s k before zero = omega arith
weight_of-cells weight later a b s k before (suc n) =
    omega (arith, weight_of-cells weight later (suc a) (suc b) (suc s) (suc k) k n)

pub adder-gates : (n : ℕ) → gate_count (adder n) 18 ≡ 5 * n
unfolding gate_count gate_weight body_weight adder ripple_adder
adder-gates n =
    omega (arith, weight_of-cells (λ kind. 1) (gate_weight (λ kind. 1) (full_adder ∷ half_adder ∷ [])) 1 (n + 1) (2 * n + 1) (3 * n + 1) 0 n)

size-of-cells : (later : ℕ → ℕ) (a b s k before n : ℕ) → body_size later (adder_cells a b s k before n) ≡ n * suc (later 17)
unfolding body_size adder_cells
size-of-cells later a b s k before zero = omega arith
size-of-cells later a b s k before (suc n) = omega (arith, size-of-cells later (suc a) (suc b) (suc s) (suc k) k n)

pub adder-size : (n : ℕ) → expanded_size (adder n) 18 ≡ 8 * n
unfolding expanded_size body_size adder ripple_adder
adder-size n = omega (arith, size-of-cells (expanded_size (full_adder ∷ half_adder ∷ [])) 1 (n + 1) (2 * n + 1) (3 * n + 1) 0 n)

pub driven-by-cells : (a b s k before n : ℕ) → length (driven (adder_cells a b s k before n)) ≡ 2 * n
unfolding driven adder_cells
driven-by-cells a b s k before zero = refl
driven-by-cells a b s k before (suc n) = omega (arith, driven-by-cells (suc a) (suc b) (suc s) (suc k) k n)

pub adder-nets : (n : ℕ) → net_count (ripple_adder n) ≡ 4 * n + 1
unfolding net_count ripple_adder
adder-nets n = omega (arith, length-up_from 0 (2 * n + 1), driven-by-cells 1 (n + 1) (2 * n + 1) (3 * n + 1) 0 n)

pub referred-by-cells :
    (later : ℕ → ℕ) (a b s k before n : ℕ) → 1 ≤ n → largest_referred later (adder_cells a b s k before n) ≡ later 17
unfolding largest_referred adder_cells
referred-by-cells later a b s k before zero some = omega arith
referred-by-cells later a b s k before (suc zero) some = omega arith
referred-by-cells later a b s k before (suc (suc n)) some =
    omega (arith, referred-by-cells later (suc a) (suc b) (suc s) (suc k) k (suc n) (omega arith))

pub adder-room : (n : ℕ) → 1 ≤ n → room (adder n) 18 ≡ 4 * n + 13
unfolding room net_count driven largest_referred adder ripple_adder
adder-room n some =
    omega (arith, adder-nets n, referred-by-cells (room (full_adder ∷ half_adder ∷ [])) 1 (n + 1) (2 * n + 1) (3 * n + 1) 0 n some)
