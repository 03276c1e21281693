-- Largest load is at most four times the gate count, so that number types hold it as before: each unit of a load is the place of an
-- argument at a gate of the flattened module, and no gate has more than four.
use Rattle.std.specs.Prelude.{ℕ, suc, ◌+◌, ◌*◌, ◌≤◌, ◌≡◌, refl, Bool, true, false, cond, List, [], ◌∷◌, ◌++◌, eqb, length, replicate}
use Rattle.std.proofs.Common.{arith, eq-eqb}
use Rattle.meaning.specs.Syntax.{Occurrence, Module}
use Rattle.meaning.specs.Boxlist.{Found, box, F, assoc}
use Rattle.meaning.specs.Limits.{driven, most_size}
use Rattle.meaning.specs.Verdict.{good, file_verdict}
use Rattle.meaning.specs.Figures.{gate_count}
use Rattle.meaning.specs.Loads.{places_load, Loads, net_load, loads_inside, largest_load}
use Rattle.meaning.specs.Flattening.{flat_module}
use Rattle.laws.specs.WellFormed.{Accepted}
use Rattle.laws.specs.Accepted.{accepted-good}
use Rattle.laws.specs.Arity.{arity-within}
use Rattle.laws.specs.Bounds.{gates-within, largest-within}
use Rattle.laws.specs.Suffix.{no_module}
use Rattle.laws.specs.Flatten.Wired.{Wired, done, more}
use Rattle.laws.specs.Flatten.Shape.{flat_shape, length-of-flat}
use Rattle.laws.specs.Loads.Suffix.{largest_load_searches}
use Rattle.laws.specs.Loads.Places.{largest-least, load-none}
use Rattle.laws.specs.Loads.Flat.Same.{largest_load-of-flat}

load-of-ones : (net : ℕ) (xs : List ℕ) → places_load net xs (replicate (length xs) 1) ≤ length xs
unfolding places_load
load-of-ones net [] = omega arith
load-of-ones net (x ∷ xs) = go (eqb net x) (load-of-ones net xs)
  where
    go :
        (b : Bool)
        → places_load net xs (replicate (length xs) 1) ≤ length xs
        → cond b 1 0 + places_load net xs (replicate (length xs) 1) ≤ suc (length xs)
    go true rest = omega arith
    go false rest = omega arith

load-of-wired : {n k : ℕ} {os : List Occurrence} (later : ℕ → Loads) (net : ℕ) → Wired n os k → net_load later os net ≤ 4 * length os
unfolding net_load
load-of-wired later net done = omega arith
load-of-wired later net (more {o = o} g rest) =
    rw g.kind
    (omega (
      arith,
      load-of-ones net o.takes,
      load-none net o.drives,
      g.arity,
      arity-within o.refers,
      load-of-wired later net rest,
    ))

pub largest_load-below-gates : {ms : List Module} → Accepted ms → (number : ℕ) → largest_load ms number ≤ 4 * gate_count ms number
unfolding largest_load flat_module
largest_load-below-gates {ms} a number = go (assoc number ms) refl
  where
    ok : file_verdict ms ≡ good
    ok = accepted-good a

    go : (f : Found) → assoc number ms ≡ f → largest_load ms number ≤ 4 * gate_count ms number
    go (box m) found =
        let flat = flat_module ms number (length m.inputs) in
        let wired = (flat_shape ms number m ok found).wired in
        let same = rw (eq-eqb number number refl) at (largest_load-of-flat ms number m ok found) in
        omega (
          arith,
          same,
          largest-least (net_load (loads_inside []) flat.occurrences) (flat.inputs ++ driven flat.occurrences)
              (4 * length flat.occurrences)
              (λ net i. load-of-wired (loads_inside []) net wired),
          largest-within (largest_load []) 0 (λ x. omega arith) flat.occurrences,
          length-of-flat ms number m ok found,
        )
    go F absent = omega (arith, no_module largest_load_searches ms number absent)

pub largest_load-within : {ms : List Module} → Accepted ms → (number : ℕ) → largest_load ms number ≤ 4 * most_size
largest_load-within a number = omega (arith, largest_load-below-gates a number, gates-within a number)
