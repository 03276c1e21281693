-- The largest load of the propagate-generate adder is at most 5, or 1 more than twice the height of its shape.
use Rattle.std.specs.Prelude.{ℕ, zero, suc, ◌+◌, ◌*◌, ◌≤◌, max, Bool, true, false, eqb}
use Rattle.std.proofs.Math.Path.{◌≡◌, refl}
use Rattle.std.proofs.Common.{ap, ◌∙◌, mul-one, add-one, lit≤}
use Rattle.std.proofs.Math.Bool.{cond}
use mathlib.Core.List.{List, [], ◌∷◌, ◌++◌, map}
use Rattle.std.proofs.Math.Nat.{mul-add}
use native.Mathlib.Omega.{arith}
use Rattle.meaning.specs.Syntax.{Occurrence}
use Rattle.meaning.specs.Limits.{driven}
use Rattle.meaning.specs.Figures.{largest, largest_referred}
use Rattle.meaning.specs.Loads.{places_load, Loads, referred_loads, net_load, loads_inside, largest_load}
use Rattle.meaning.specs.Adder.{up_from}
use Rattle.meaning.specs.FastAdder.{node, leaves, Step, p_net, g_net, chain, lookahead, carries_ahead, fast_module, fast_adder_over, height, steps, fast_adder}
use Rattle.laws.specs.Bounds.{largest-within}
use Rattle.laws.specs.Loads.Places.{largest-least, none-either_way}
use Rattle.laws.specs.FastAdder.Signals.{width}
use Rattle.laws.specs.FastAdder.Passing.{carriers}
use Rattle.laws.specs.FastAdder.Bodies.{after_first}
use Rattle.laws.specs.FastAdder.Shape.{steps-width}
use Rattle.laws.specs.FastAdder.Counting.{total}
use Rattle.laws.specs.FastAdder.Figures.{either-most}
use Rattle.laws.specs.FastAdder.Hits.{hits, hits_in}
use Rattle.laws.specs.FastAdder.Lean.{lean_steps, steps-lean, steps-lean-to_64}
use Rattle.laws.specs.FastAdder.TreeLoad.{lookahead-load}
use Rattle.laws.specs.FastAdder.FirstLoad.{first_load}

-- What an occurrence adds to the load of a net.
module _ (later : ℕ → Loads) (net : ℕ) where
  unfoldable adds : Occurrence → ℕ
  adds o =
      places_load net o.takes (referred_loads later o).inputs + places_load net o.drives (referred_loads later o).outputs

  load-total : (os : List Occurrence) → net_load later os net ≡ total adds os
  unfolding net_load total adds
  load-total [] = refl
  load-total (o ∷ os) = omega (arith, load-total os)

twice : (b : Bool) → cond b 2 0 ≡ 2 * cond b 1 0
twice true = refl
twice false = refl

-- The loads of the inputs and of the output of modules 42 and 43.
one-loads : loads_inside carriers 42 ≡ record { inputs = 1 ∷ 1 ∷ 1 ∷ []; outputs = 0 ∷ [] }
unfolding loads_inside net_load places_load
one-loads = refl

two-loads : loads_inside carriers 43 ≡ record { inputs = 1 ∷ 1 ∷ 1 ∷ 2 ∷ 1 ∷ []; outputs = 0 ∷ [] }
unfolding loads_inside net_load places_load
two-loads = refl

-- A row of nets at places of which none has more than so much load.
share : (b : Bool) (load most : ℕ) → load ≤ most → cond b load 0 ≤ most * cond b 1 0
share true load most by = omega (arith, mul-one most)
share false load most by = omega arith

places-most :
    (net most : ℕ) (load : ℕ → ℕ)
    → ((x : ℕ) → load x ≤ most)
    → (first count : ℕ) (xs : List ℕ)
    → places_load net (up_from first count) (map load xs) ≤ most * hits_in net first count
unfolding places_load up_from hits_in hits
places-most net most load by first zero xs = omega arith
places-most net most load by first (suc count) [] = omega arith
places-most net most load by first (suc count) (x ∷ xs) =
    omega (
      arith,
      mul-add most (cond (eqb net first) 1 0) (hits_in net (suc first) count),
      share (eqb net first) (load x) most (by x),
      places-most net most load by (suc first) count xs,
    )

carriers-load : (x : ℕ) → largest_load carriers x ≤ 2
unfolding largest_load largest_referred largest loads_inside net_load places_load driven
carriers-load x = either-most (eqb x 43) 2 _ 2 (lit≤ tt) (either-most (eqb x 42) 1 0 2 (lit≤ tt) (lit≤ tt))

module _ (n : ℕ) (steps : List Step) (whole : width steps ≡ n) where
  abbrev most : ℕ
  most = max 4 (lean_steps steps)

  -- Any net in module 41.
  inner-load : (net : ℕ) → net_load (loads_inside carriers) (chain n steps 0) net ≤ most
  unfolding adds places_load hits
  inner-load net =
      rw (load-total (loads_inside carriers) net (chain n steps 0))
      (lookahead-load n net (adds (loads_inside carriers) net)
      (λ x s. rw one-loads (omega (arith, no_output (s + leaves x))))
      (λ x y s. rw two-loads (omega (arith, no_output (s + leaves x + leaves y), twice (eqb net (p_net n y (s + leaves x))))))
      (λ x y z s. omega (arith, no_output (p_net n (node x y z) s)))
      (λ x y z s.
      rw two-loads
      (omega (arith, no_output (g_net n (node x y z) s), twice (eqb net (p_net n z (s + leaves x + leaves y))))))
      steps
      whole)
    where
      no_output : (driven : ℕ) → ◌≡◌ {A = ℕ} (cond (eqb net driven) 0 0) 0
      no_output driven = none-either_way (eqb net driven)

  -- Any net in module 40.
  refer_load :
      (net : ℕ)
      → adds (loads_inside (after_first n steps)) net
      (carries_ahead n)
      ≤ most * (hits_in net 0 (n + 1) + hits_in net (3 * n + 1) (2 * n))
  unfolding adds places_load loads_inside lookahead
  refer_load net =
      let inside = net_load (loads_inside carriers) (chain n steps 0) in
      omega (
        arith,
        mul-add most (hits_in net 0 (n + 1)) (hits_in net (3 * n + 1) (2 * n)),
        carry-share net,
        share (eqb net 0) (inside 0) most (inner-load 0),
        places-most net most inside inner-load 1 n (up_from 1 n),
        places-most net most inside inner-load (3 * n + 1) (2 * n) (up_from (n + 1) (2 * n)),
      )
    where
      carry-share : (net : ℕ) → most * hits_in net 0 (n + 1) ≡ most * cond (eqb net 0) 1 0 + most * hits_in net 1 n
      carry-share net =
          unfold hits hits_in in
          (ap (λ (k : ℕ). most * hits_in net 0 k) (add-one n) ∙ mul-add most (cond (eqb net 0) 1 0) (hits_in net 1 n))

  outer-load : (net : ℕ) → net_load (loads_inside (after_first n steps)) (fast_module n).occurrences net ≤ max 2 (most + 1)
  unfolding adds places_load hits
  outer-load net =
      let later = loads_inside (after_first n steps) in
      rw (load-total later net (fast_module n).occurrences)
      (first_load net (adds later net) (λ kind drives a b is. rw is (omega (arith, none-either_way (eqb net drives)))) n most (refer_load net))

  reached-load : (x : ℕ) → largest_load (after_first n steps) x ≤ most
  unfolding largest_load lookahead
  reached-load x =
      either-most (eqb x 41) _ _ most
      (omega (
        arith,
        largest-least (net_load (loads_inside carriers) (chain n steps 0))
            ((0 ∷ up_from (n + 1) (2 * n)) ++ driven (chain n steps 0)) most (λ net i. inner-load net),
        largest-within (largest_load carriers) 2 carriers-load (chain n steps 0),
      ))
      (omega (arith, carriers-load x))

  load-over : largest_load (fast_adder_over n steps) 40 ≤ most + 1
  unfolding largest_load fast_adder_over fast_module
  load-over =
      omega (
        arith,
        largest-least (net_load (loads_inside (after_first n steps)) (fast_module n).occurrences)
            ((0 ∷ up_from (n + 1) (2 * n)) ++ driven (fast_module n).occurrences) (max 2 (most + 1)) (λ net i. outer-load net),
        largest-within (largest_load (after_first n steps)) most reached-load (fast_module n).occurrences,
      )

pub fast_adder-load : (n : ℕ) → largest_load (fast_adder n) 40 ≤ max 5 (2 * height n + 1)
unfolding fast_adder
fast_adder-load n = omega (arith, load-over n (steps n) (steps-width n), steps-lean n)

-- At the widths that are written it is at most 9.
pub fast_adder-load-to_64 : (n : ℕ) → n ≤ 64 → largest_load (fast_adder n) 40 ≤ 9
unfolding fast_adder
fast_adder-load-to_64 n within = omega (arith, load-over n (steps n) (steps-width n), steps-lean-to_64 n within)
