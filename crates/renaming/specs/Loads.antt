-- How loads are asked of a list of modules, and the loads of places under other numbers. That the largest load is the same is in
-- proofs/Loads.antt.
use Prim.Native.Nat.{ℕ, ◌+◌}
use Rattle.std.specs.Prelude.{◌≡◌, Bool}
use Rattle.std.proofs.Math.Path.{refl, ap₂}
use Rattle.std.proofs.Math.Bool.{cond}
use mathlib.Core.List.{List, [], ◌∷◌, map}
use Rattle.meaning.specs.Loads.{places_load, module_loads, loads_inside, largest_in, largest_load}
use Rattle.renaming.specs.Renamed.{OneToOne}
use Rattle.renaming.specs.Searches.{Asks}

module _ {net : ℕ → ℕ} (one : OneToOne net) where
  pub places_renamed : (x : ℕ) (places loads : List ℕ) → places_load (net x) (map net places) loads ≡ places_load x places loads
  unfolding places_load
  places_renamed x [] loads = refl
  places_renamed x (y ∷ places) [] = refl
  places_renamed x (y ∷ places) (l ∷ loads) =
      ap₂ (λ (t : Bool) (n : ℕ). cond t l 0 + n) (one.tells x y) (places_renamed x places loads)

pub inside-asks : Asks loads_inside (λ m ms. module_loads (loads_inside ms) m)
unfolding loads_inside
inside-asks = record { step = λ m ms x. refl }

pub largest-asks : Asks largest_load (λ m ms. largest_in (loads_inside ms) (largest_load ms) m)
unfolding largest_load
largest-asks = record { step = λ m ms x. refl }
