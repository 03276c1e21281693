-- What inputs enter scratch as: 0 and 1 as they are, all else as 2. So the entries are bytes, whatever the inputs.
use Prim.Native.Nat.{ℕ, ◌≤◌, ◌<◌}
use mathlib.Core.Path.{◌≡◌, refl, sym}
use mathlib.Core.List.{List, [], ◌∷◌, map}
use native.Mathlib.Omega.{arith}
use borrow.Author.Tests.{ne_eqb}
use lib.ListN.{get_or, get_or-map}
use Rattle.meaning.specs.Lists.{none, more}
use Rattle.meaning.specs.Values.{value}
use Rattle.meaning.specs.Ceilings.{Bytes}
use Rattle.gates.specs.ThreeValues.{code-of-value, is-small}
use Rattle.run_engine.specs.Slots.{entered}

pub as_it_is : (input : ℕ) → input < 2 → input ≡ entered input
unfolding entered
as_it_is input h = sym (code-of-value input (omega arith))

pub as_unknown : (input : ℕ) → 2 ≤ input → 2 ≡ entered input
unfolding entered
as_unknown input h = rw (ne_eqb input 0 (λ e. omega (arith, h, e)), ne_eqb input 1 (λ e. omega (arith, h, e)))

pub entry_at : (inputs : List ℕ) (i : ℕ) → get_or (map entered inputs) i 0 ≡ entered (get_or inputs i 0)
unfolding entered
entry_at inputs i = get_or-map entered inputs i 0

pub entries-bytes : (inputs : List ℕ) → Bytes (map entered inputs)
unfolding entered
entries-bytes [] = none
entries-bytes (x ∷ xs) = more {x = entered x} (omega (arith, is-small (value x) {n = entered x} refl)) (entries-bytes xs)
