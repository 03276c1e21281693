-- The look-ahead on bits: each carry from the one before it, as on three values, of which known bits are some.
use Rattle.std.specs.Prelude.{ℕ, suc, ◌+◌, ◌<◌, ◌≡◌, Bool, List}
use Rattle.std.proofs.Common.{ap}
use Rattle.meaning.specs.Values.{Val, known, by_fillings}
use Rattle.meaning.specs.Gates.{gate, gates, gate_value}
use Rattle.meaning.specs.FastAdder.{Tree, Step}
use Rattle.laws.specs.Adder.Sum.{gate_bit}
use Rattle.laws.specs.FastAdder.Lattice.{over}
use Rattle.laws.specs.FastAdder.Looks.{Looks, looks-leaf, looks-node, Chained, chained-end, chained-one, chained-two}
use Rattle.laws.specs.FastAdder.Signals.{width}
use Rattle.laws.specs.FastAdder.Carries.{carry-by-carry}

module _ (n : ℕ) (value : ℕ → Bool) where
  abbrev known_value : ℕ → Val
  known_value net = known (value net)

  known-looks : {t : Tree} {s : ℕ} → Looks gate_bit n value t s → Looks gate_value n known_value t s
  unfolding gate_value gate gates by_fillings
  known-looks looks-leaf = looks-leaf
  known-looks (looks-node in_x at_x in_y at_y in_z its-p its-g) =
      looks-node (known-looks in_x) (ap known at_x) (known-looks in_y) (ap known at_y) (known-looks in_z) (ap known its-p)
      (ap known its-g)

  known-chained : {steps : List Step} {s : ℕ} → Chained gate_bit n value steps s → Chained gate_value n known_value steps s
  unfolding gate_value gate gates by_fillings
  known-chained chained-end = chained-end
  known-chained (chained-one in_x at_x rest) = chained-one (known-looks in_x) (ap known at_x) (known-chained rest)
  known-chained (chained-two in_x at_x in_y at_y rest) =
      chained-two (known-looks in_x) (ap known at_x) (known-looks in_y) (ap known at_y) (known-chained rest)

  pub bit-carry-by-carry :
      {steps : List Step}
      → width steps ≡ n
      → Chained gate_bit n value steps 0
      → (i : ℕ)
      → i < n
      → value (suc i) ≡ over gate_bit (value i) (value (n + 1 + i)) (value (n + 1 + i + n))
  unfolding gate_value gate gates by_fillings
  bit-carry-by-carry whole chained i low = cc (carry-by-carry n known_value whole (known-chained chained) i low)
