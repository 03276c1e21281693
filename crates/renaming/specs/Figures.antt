-- How figures are asked of a list of modules. That they are the same under other numbers is in proofs/Figures.antt.
use Prim.Native.Nat.{ℕ, ◌+◌}
use Rattle.std.specs.Prelude.{◌≡◌}
use Rattle.std.proofs.Math.Path.{refl}
use Rattle.std.proofs.lemmas.List.{length-map}
use Rattle.meaning.specs.Boxlist.{Found}
use Rattle.meaning.specs.Limits.{net_count, body_size, expanded_size}
use Rattle.meaning.specs.Figures.{body_weight, gate_weight, largest_referred, room, input_count}
use Rattle.renaming.specs.Searches.{Asks, FoundAs, both, neither}

abbrev pub Same : {C : Type 0} → C → C → Type 0
Same x y = y ≡ x

pub expanded_size-asks : Asks expanded_size (λ m ms. body_size (expanded_size ms) m.occurrences)
unfolding expanded_size
expanded_size-asks = record { step = λ m ms x. refl }

pub gate_weight-asks : (weight : ℕ → ℕ) → Asks (gate_weight weight) (λ m ms. body_weight weight (gate_weight weight ms) m.occurrences)
unfolding gate_weight
gate_weight-asks weight = record { step = λ m ms x. refl }

pub room-asks : Asks room (λ m ms. net_count m + largest_referred (room ms) m.occurrences)
unfolding room
room-asks = record { step = λ m ms x. refl }

pub inputs-same : {number : ℕ → ℕ} {a b : Found} → FoundAs number a b → input_count b ≡ input_count a
inputs-same (both {m} net one) = length-map m.inputs net
inputs-same neither = refl
