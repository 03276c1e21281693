-- What the counter computes is a law: the zeros above the highest 1, or that there is none, as far as the bits that are known tell it.
use Rattle.std.specs.Prelude.{ℕ, ◌≤◌, ◌≡◌, refl, true, false, List, [], ◌∷◌, length}
use Rattle.std.proofs.Common.{length-append}
use Rattle.meaning.specs.Values.{Val, known, un, by_fillings}
use Rattle.meaning.specs.Gates.{gate, gates, gate_value}
use Rattle.meaning.specs.Evaluation.{evaluate}
use Rattle.meaning.specs.Adder.{binary}
use Rattle.meaning.specs.Counter.{NOT, NOR, digits, counter}
use Rattle.laws.specs.Counter.Leading.{lead, lead-append}
use Rattle.laws.specs.Counter.Values.{Answers, counts, nothing, anything, length-answers, Counts, length-counts, join-blocks, join-counter}
use Rattle.laws.specs.Counter.Law.{Law}
use Rattle.laws.specs.Counter.Lawful.{counter_lawful}

bit-answers : (x : Val) → Answers 0 (lead (x ∷ [])) [] (gate_value NOT (x ∷ []))
unfolding lead gate_value gate gates by_fillings binary
bit-answers (known true) = counts [] refl refl
bit-answers (known false) = nothing
bit-answers un = anything refl

pair-answers : (x y : Val)
    → Answers 1 (lead (x ∷ y ∷ [])) (gate_value NOR (y ∷ gate_value NOR (x ∷ y ∷ []) ∷ []) ∷ []) (gate_value NOR (x ∷ y ∷ []))
unfolding lead gate_value gate gates by_fillings binary
pair-answers (known true) (known true) = counts (false ∷ []) refl refl
pair-answers (known false) (known true) = counts (false ∷ []) refl refl
pair-answers un (known true) = counts (false ∷ []) refl refl
pair-answers (known true) (known false) = counts (true ∷ []) refl refl
pair-answers (known false) (known false) = nothing
pair-answers un (known false) = anything refl
pair-answers x un = anything refl

no_bits : Counts 0 0 (lead []) []
unfolding lead binary
no_bits = nothing [] refl refl

unfoldable zeros : Law gate_value
zeros =
    record {
      Block = λ j xs outs e. Answers j (lead xs) outs e;
      Counter = λ n xs outs. Counts n (length xs) (lead xs) outs;
      block-count = length-answers;
      counter-count = length-counts;
      bit = bit-answers;
      pair = pair-answers;
      halves = λ {j} {xs} {ys} some full low high. rw (lead-append xs ys, full) (join-blocks low high);
      nothing = no_bits;
      above = λ {n} {j} {lows} {xs} short full low high.
          rw (length-append lows xs, lead-append lows xs, full) (join-counter short low high);
    }

pub counter-answers : (n : ℕ) → 1 ≤ n → (vs : List Val) → length vs ≡ n
    → Counts (length (digits n)) n (lead vs) (evaluate (counter n) 32 vs)
unfolding evaluate zeros
counter-answers n some vs full = rw full at (counter_lawful (known false) zeros n some vs full)
