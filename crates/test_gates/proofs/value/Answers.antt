-- There are slots for four arguments.
use Rattle.std.proofs.Common.{ℕ, ◌≤◌, [], ◌∷◌, arith, rules}
use Rattle.meaning.specs.Adder.{up_from}
use Rattle.image.specs.Slots.{Readable}
use Rattle.image.specs.Entries.{mapped}
use Rattle.test_gates.proofs.value.Goals as goal

readable : (count : ℕ) → count ≤ 4 → Readable (0 ∷ 1 ∷ 2 ∷ 3 ∷ []) 0 count 0 count
unfolding up_from
readable count few =
    record {
      ordered = omega arith;
      inside = few;
      slots = λ i after before. omega (arith, mapped (λ n. n) 0 4 i (omega arith));
    }

pub result-requires : goal.result-requires
result-requires c = readable _ (search rules)
