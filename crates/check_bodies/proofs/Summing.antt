-- The sums over a module's references, one reference more at a time. No sum of sizes passes 65,536 for each of them.
use Prim.Native.Nat.{ℕ, ◌+◌, ◌-◌, ◌*◌, ◌≤◌, ◌<◌, max}
use mathlib.Core.Path.{◌≡◌, refl, ap}
use mathlib.Core.Bool.{Bool, true, false, cond}
use mathlib.Core.List.{List, [], ◌∷◌, ◌++◌}
use native.Mathlib.Omega.{arith}
use borrow.Author.Tests.{le-ltb}
use lib.ListN.{length}
use Rattle.meaning.specs.Syntax.{Occurrence}
use Rattle.meaning.specs.Gates.{is_gate}
use Rattle.meaning.specs.Limits.{body_size}
use Rattle.meaning.specs.Figures.{largest_referred}
use Rattle.nets.specs.Slots.{Below}
use Rattle.check_sizes.specs.Walks.{no_sums, plus_gate, plus_module, plus, entry, figure, Summed}
use Rattle.check_sizes.specs.declared.Sums.{Sums}

module _ (sizes rooms : List ℕ) where
  -- What a gate adds, and the module at a position.
  module _ (s : Sums) where
    pub plus-gate : (to : ℕ) → is_gate to ≡ true → plus_gate s ≡ plus sizes rooms s to
    plus-gate to g = rw g (ap (λ (n : ℕ). record { size = s.size + 1; room = n }) (omega arith))

    pub plus-module : (to j : ℕ) → to ≡ 16 + j → plus_module sizes rooms s j ≡ plus sizes rooms s to
    plus-module to j e =
        let position : to - 16 ≡ j = omega arith in
        rw (le-ltb to 16 (omega arith), position)

  -- Over no occurrence, and over one more.
  pub summed-none : Summed sizes rooms [] no_sums
  unfolding body_size largest_referred
  summed-none = record { sized = refl; roomed = refl }

  sizes_snoc :
      (os : List Occurrence) (o : Occurrence)
      → body_size (entry sizes) (os ++ (o ∷ [])) ≡ body_size (entry sizes) os + (1 + figure sizes o.refers)
  unfolding body_size
  sizes_snoc [] o = omega arith
  sizes_snoc (x ∷ os) o = omega (arith, sizes_snoc os o)

  rooms_snoc :
      (os : List Occurrence) (o : Occurrence)
      → largest_referred (entry rooms) (os ++ (o ∷ [])) ≡ max (largest_referred (entry rooms) os) (figure rooms o.refers)
  unfolding largest_referred
  rooms_snoc [] o = omega arith
  rooms_snoc (x ∷ os) o = omega (arith, rooms_snoc os o)

  pub summed-more :
      {os : List Occurrence} {s s' : Sums} (o : Occurrence) → Summed sizes rooms os s → s' ≡ plus sizes rooms s o.refers
      → Summed sizes rooms (os ++ (o ∷ [])) s'
  summed-more {os} o before e =
      record {
        sized = omega (arith, ap (λ (s : Sums). s.size) e, before.sized, sizes_snoc os o);
        roomed = omega (arith, ap (λ (s : Sums). s.room) e, before.roomed, rooms_snoc os o);
      }

  module _ (low : Below 65536 sizes) where
    figure-small : (to : ℕ) → figure sizes to < 65536
    figure-small to = go (is_gate to)
      where
        go : (b : Bool) → cond b 0 (entry sizes to) < 65536
        go true = omega arith
        go false = low.below (to - 16)

    sizes-small : (os : List Occurrence) → body_size (entry sizes) os ≤ 65536 * length os
    unfolding body_size
    sizes-small [] = omega arith
    sizes-small (o ∷ os) = omega (arith, sizes-small os, figure-small o.refers)

    pub summed-small : {os : List Occurrence} {s : Sums} → Summed sizes rooms os s → s.size ≤ 65536 * length os
    summed-small {os} summed = omega (arith, summed.sized, sizes-small os)
