-- The load is never below the figure before request M-101, by which a net that a module drives added nothing for what it drives inside.
-- Nothing is asked of the list.
use Prim.Native.Nat.{ℕ, ◌+◌, ◌≤◌, max}
use Rattle.std.specs.Prelude.{Bool, cond, eqb, length, replicate}
use Rattle.std.proofs.Math.Bool.{true, false}
use mathlib.Core.List.Forall₂.{cons as more}
use mathlib.Core.List.Forall₂.{nil as none}
use mathlib.Core.List.{List, [], ◌∷◌, ◌++◌, map, Forall₂}
use Rattle.std.proofs.Common.{le_refl}
use native.Mathlib.Omega.{arith}
use Rattle.meaning.specs.Syntax.{Occurrence, Module}
use Rattle.meaning.specs.Gates.{is_gate}
use Rattle.meaning.specs.Limits.{driven}
use Rattle.meaning.specs.Figures.{largest, largest_referred}
use Rattle.meaning.specs.Loads.{places_load, Loads, gate_loads, net_load, module_loads, loads_inside, largest_load}

-- The figure before the request.
unfoldable pub net_load_before : (later : ℕ → List ℕ) → List Occurrence → (net : ℕ) → ℕ
net_load_before later [] net = 0
net_load_before later (o ∷ os) net =
    places_load net o.takes (cond (is_gate o.refers) (replicate (length o.takes) 1) (later o.refers))
    + net_load_before later os net

unfoldable pub input_loads_before : List Module → ℕ → List ℕ
input_loads_before [] number = []
input_loads_before (m ∷ ms) number =
    cond (eqb number m.number) (map (net_load_before (input_loads_before ms) m.occurrences) m.inputs) (input_loads_before ms number)

unfoldable pub largest_load_before : List Module → ℕ → ℕ
largest_load_before [] number = 0
largest_load_before (m ∷ ms) number =
    cond (eqb number m.number)
    (max (largest (map (net_load_before (input_loads_before ms) m.occurrences) (m.inputs ++ driven m.occurrences)))
    (largest_referred (largest_load_before ms) m.occurrences))
    (largest_load_before ms number)

places-above : (net : ℕ) (xs : List ℕ) {ls ks : List ℕ} → Forall₂ ◌≤◌ ls ks → places_load net xs ls ≤ places_load net xs ks
unfolding places_load
places-above net [] h = omega arith
places-above net (x ∷ xs) none = omega arith
places-above net (x ∷ xs) (more {a = l} {b = k} {l₁ = ls} {l₂ = ks} h hs) = go (eqb net x) (places-above net xs hs)
  where
    go : (b : Bool) → places_load net xs ls ≤ places_load net xs ks → cond b l 0 + places_load net xs ls ≤ cond b k 0 + places_load net xs ks
    go true rest = omega arith
    go false rest = omega arith

still : (ls : List ℕ) → Forall₂ ◌≤◌ ls ls
still [] = none
still (l ∷ ls) = more (le_refl l) (still ls)

module _ (f g : ℕ → ℕ) (above : (x : ℕ) → f x ≤ g x) where
  all_above : (xs : List ℕ) → Forall₂ ◌≤◌ (map f xs) (map g xs)
  all_above [] = none
  all_above (x ∷ xs) = more (above x) (all_above xs)

  largest-above : (xs : List ℕ) → largest (map f xs) ≤ largest (map g xs)
  unfolding largest
  largest-above [] = omega arith
  largest-above (x ∷ xs) = omega (arith, above x, largest-above xs)

  referred-above : (os : List Occurrence) → largest_referred f os ≤ largest_referred g os
  unfolding largest_referred
  referred-above [] = omega arith
  referred-above (o ∷ os) = go (is_gate o.refers) (referred-above os)
    where
      go :
          (b : Bool)
          → largest_referred f os ≤ largest_referred g os
          → max (cond b 0 (f o.refers)) (largest_referred f os) ≤ max (cond b 0 (g o.refers)) (largest_referred g os)
      go true rest = omega arith
      go false rest = omega (arith, above o.refers)

module _ (old : ℕ → List ℕ) (now : ℕ → Loads) (above : (number : ℕ) → Forall₂ ◌≤◌ (old number) (now number).inputs) where
  net_load-above : (os : List Occurrence) (net : ℕ) → net_load_before old os net ≤ net_load now os net
  unfolding net_load_before net_load
  net_load-above [] net = omega arith
  net_load-above (o ∷ os) net = omega (arith, go (is_gate o.refers), net_load-above os net)
    where
      go :
          (b : Bool)
          → places_load net o.takes (cond b (replicate (length o.takes) 1) (old o.refers))
          ≤ places_load net o.takes (cond b (gate_loads o) (now o.refers)).inputs
      go true = omega arith
      go false = places-above net o.takes (above o.refers)

inputs-above : (ms : List Module) (number : ℕ) → Forall₂ ◌≤◌ (input_loads_before ms number) (loads_inside ms number).inputs
unfolding input_loads_before loads_inside
inputs-above [] number = none
inputs-above (m ∷ ms) number =
    go (eqb number m.number) (loads_inside ms number) (module_loads (loads_inside ms) m) (inputs-above ms number)
    (all_above _ _ (net_load-above (input_loads_before ms) (loads_inside ms) (inputs-above ms) m.occurrences) m.inputs)
  where
    go :
        (b : Bool) {old here : List ℕ} (now there : Loads)
        → Forall₂ ◌≤◌ old now.inputs
        → Forall₂ ◌≤◌ here there.inputs
        → Forall₂ ◌≤◌ (cond b here old) (cond b there now).inputs
    go true now there later own = own
    go false now there later own = later

pub never-below-before : (ms : List Module) (number : ℕ) → largest_load_before ms number ≤ largest_load ms number
unfolding largest_load_before largest_load
never-below-before [] number = omega arith
never-below-before (m ∷ ms) number =
    let nets = m.inputs ++ driven m.occurrences in
    let own = largest-above _ _ (net_load-above (input_loads_before ms) (loads_inside ms) (inputs-above ms) m.occurrences) nets in
    go (eqb number m.number) (never-below-before ms number)
    (omega (arith, own, referred-above _ _ (never-below-before ms) m.occurrences))
  where
    go : (b : Bool) {old here now there : ℕ} → old ≤ now → here ≤ there → cond b here old ≤ cond b there now
    go true later own = own
    go false later own = later
