-- What the counter yields, for every width from 1 on: as soon as the leading zeros are known they stand on its outputs, in binary, low
-- first, on as many outputs as the width has binary digits. So do the leading zeros of known bits.
use Rattle.std.specs.Prelude.{ℕ, ◌≤◌, ◌≡◌, refl, Bool, true, false, List, ◌∷◌, ◌++◌, map, length, replicate}
use Rattle.std.proofs.Common.{◌∙◌, arith}
use Rattle.std.proofs.lemmas.List.{length-replicate, length-map}
use Rattle.meaning.specs.Values.{Val, known}
use Rattle.meaning.specs.Evaluation.{evaluate}
use Rattle.meaning.specs.Adder.{binary}
use Rattle.meaning.specs.Counter.{leading_zeros, digits, counter}
use Rattle.laws.specs.Counter.Leading.{Leading, one, none, found, empty, lead-one, lead-zeros, leading-known}
use Rattle.laws.specs.Counter.Values.{Counts, counts, nothing}
use Rattle.laws.specs.Counter.Zeros.{counter-answers}

-- Outputs that are known, and read as a number of leading zeros of n bits.
pub record CountsZeros (n zeros : ℕ) (outputs : List Val) : Type 0 where
  pub bits : List Bool
  pub count : length bits ≡ length (digits n)
  pub reads : binary bits ≡ zeros
  pub known-bits : outputs ≡ map known bits

reads-found : {n width zeros : ℕ} {outs : List Val} → Counts (length (digits n)) width (found zeros) outs → CountsZeros n zeros outs
reads-found (counts bs size reads) = record { bits = bs; count = size; reads = reads; known-bits = refl }

reads-empty : {n width zeros : ℕ} {outs : List Val} → width ≡ zeros → Counts (length (digits n)) width empty outs
    → CountsZeros n zeros outs
reads-empty same (nothing bs size reads) = record { bits = bs; count = size; reads = reads ∙ same; known-bits = refl }

-- Known early: where the highest 1 and every bit above it are known, all outputs are known, whatever lies below.
pub counter-known-early : (n : ℕ) → 1 ≤ n → {vs : List Val} {zeros : ℕ} → Leading vs zeros → length vs ≡ n
    → CountsZeros n zeros (evaluate (counter n) 32 vs)
counter-known-early n some (one below zeros) full =
    reads-found (rw (lead-one below zeros) at (counter-answers n some (below ++ (known true ∷ replicate zeros (known false))) full))
counter-known-early n some (none zeros) full =
    reads-empty (omega (arith, length-replicate zeros (known false)))
    (rw (lead-zeros zeros) at (counter-answers n some (replicate zeros (known false)) full))

-- On known bits the outputs are the leading zeros.
pub counter-on-known : (n : ℕ) → 1 ≤ n → (bs : List Bool) → length bs ≡ n
    → CountsZeros n (leading_zeros bs) (evaluate (counter n) 32 (map known bs))
counter-on-known n some bs full = counter-known-early n some (leading-known bs) (length-map bs known ∙ full)
