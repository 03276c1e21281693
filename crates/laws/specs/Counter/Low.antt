-- Numbers below 128: each is its own byte, and a file of such numbers, not too long, is within the ceilings, since its counts are
-- among them. What a row of nets, a gate and a module need for it.
use Rattle.std.specs.Prelude.{ℕ, zero, suc, ◌+◌, ◌≤◌, ◌<◌, ◌≡◌, refl, List, [], ◌∷◌, ◌++◌, length}
use Rattle.std.proofs.Common.{arith}
use Rattle.meaning.specs.Lists.{All, none, more}
use Rattle.meaning.specs.Syntax.{Occurrence, Module}
use Rattle.meaning.specs.Layout.{each, list_numbers, occurrence_numbers, module_numbers, file_numbers, number_bytes, encode}
use Rattle.meaning.specs.Reading.{most_bytes}
use Rattle.meaning.specs.Ceilings.{NetsWithin, OccurrenceWithin, ModuleWithin, ModulesWithin, Within}
use Rattle.meaning.specs.Adder.{up_from}
use Rattle.meaning.specs.Counter.{gate_on}
use Rattle.laws.specs.Lists.{all-behind, all_map}
use Rattle.laws.specs.Written.{bytes-of-low}
use Rattle.laws.specs.Counter.Every.{all_both, all-before}

abbrev pub Low : List ℕ → Type 0
Low = All (λ x. x < 128)

low-bytes : {xs : List ℕ} → Low xs → each number_bytes xs ≡ xs
unfolding each
low-bytes none = refl
low-bytes (more {x = x} low h) = rw (bytes-of-low x low, low-bytes h)

pub bytes-are-numbers : (ms : List Module) → Low (file_numbers ms) → encode ms ≡ file_numbers ms
unfolding encode
bytes-are-numbers ms low = low-bytes low

-- Of a list, an occurrence, a module, a file.
nets-within : (nets : List ℕ) → Low (list_numbers nets) → NetsWithin nets
nets-within nets (more count low) = record { count = omega arith; numbers = all_map (λ x h. omega arith) low }

within-each : {A : Type 0} {P : A → Type 0} (f : A → List ℕ) → ((x : A) → Low (f x) → P x) → (xs : List A) → Low (each f xs) → All P xs
unfolding each
within-each f holds [] low = none
within-each f holds (x ∷ xs) low =
    more (holds x (all-before (f x) (each f xs) low)) (within-each f holds xs (all-behind (f x) low))

occurrence-within : (o : Occurrence) → Low (occurrence_numbers o) → OccurrenceWithin o
unfolding occurrence_numbers
occurrence-within o low = go (all-behind (list_numbers o.drives) low)
  where
    go : Low (o.refers ∷ list_numbers o.takes) → OccurrenceWithin o
    go (more refers takes) =
        record {
          drives = nets-within o.drives (all-before (list_numbers o.drives) (o.refers ∷ list_numbers o.takes) low);
          refers = omega arith;
          takes = nets-within o.takes takes;
        }

module_within : (m : Module) → Low (module_numbers m) → ModuleWithin m
unfolding module_numbers
module_within m (more number low) =
    let body = length m.occurrences ∷ each occurrence_numbers m.occurrences in
    let behind = all-behind (list_numbers m.inputs) low in
    go (all-before (list_numbers m.inputs) (list_numbers m.outputs ++ body) low)
    (all-before (list_numbers m.outputs) body behind) (all-behind (list_numbers m.outputs) behind)
  where
    go : Low (list_numbers m.inputs) → Low (list_numbers m.outputs)
        → Low (length m.occurrences ∷ each occurrence_numbers m.occurrences) → ModuleWithin m
    go inputs outputs (more count occurrences) =
        record {
          number = omega arith;
          inputs = nets-within m.inputs inputs;
          outputs = nets-within m.outputs outputs;
          count = omega arith;
          occurrences = within-each occurrence_numbers occurrence-within m.occurrences occurrences;
        }

modules-within : (ms : List Module) → Low (file_numbers ms) → ModulesWithin ms
unfolding file_numbers
modules-within ms (more count modules) =
    record { count = omega arith; modules = within-each module_numbers module_within ms modules }

pub low-within : (ms : List Module) → Low (file_numbers ms) → length (file_numbers ms) ≤ most_bytes → Within ms
low-within ms low few = record { modules = modules-within ms low; bytes = rw (bytes-are-numbers ms low) few }

-- Rows and gates.
pub low-row : (first n : ℕ) → first + n ≤ 128 → Low (up_from first n)
unfolding up_from
low-row first zero h = none
low-row first (suc n) h = more {x = first} (omega arith) (low-row (suc first) n (omega arith))

pub low-list : (nets : List ℕ) → length nets < 128 → Low nets → Low (list_numbers nets)
low-list nets few low = more {x = length nets} few low

pub low-gate : (net kind a b : ℕ) → net < 128 → kind < 128 → a < 128 → b < 128 → Low (occurrence_numbers (gate_on net kind a b))
unfolding occurrence_numbers
low-gate net kind a b n k f g =
    more {x = 1} (omega arith) (more n (more k (more {x = 2} (omega arith) (more f (more g none)))))

pub low-occurrence : (drives takes : List ℕ) (number : ℕ) → Low (list_numbers drives) → number < 128 → Low (list_numbers takes)
    → Low (occurrence_numbers (record { drives = drives; refers = number; takes = takes }))
unfolding occurrence_numbers
low-occurrence drives takes number d r t = all_both d (more r t)

pub low_module : (m : Module) → m.number < 128 → Low (list_numbers m.inputs) → Low (list_numbers m.outputs)
    → length m.occurrences < 128 → Low (each occurrence_numbers m.occurrences) → Low (module_numbers m)
unfolding module_numbers
low_module m number inputs outputs count occurrences = more number (all_both inputs (all_both outputs (more count occurrences)))
