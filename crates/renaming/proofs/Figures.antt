-- The figures of a module are the same under other numbers: expanded size, gates counted with any weight, room, delay and largest load.
use Prim.Native.Nat.{ℕ, suc, ◌+◌, max}
use Rattle.std.specs.Prelude.{◌≡◌, eqb, replicate}
use Rattle.std.proofs.Math.Path.{refl, ap, ap₂}
use Rattle.std.proofs.Common.{◌∙◌}
use Rattle.std.proofs.Math.Bool.{cond}
use mathlib.Core.List.{List, [], ◌∷◌, map}
use Rattle.meaning.specs.Syntax.{Occurrence, Module}
use Rattle.meaning.specs.Boxlist.{assoc}
use Rattle.meaning.specs.Limits.{body_size, expanded_size}
use Rattle.meaning.specs.Figures.{largest, body_weight, gate_weight, gate_count, kind_count, tally, largest_referred, room, gate_arrival, arrivals, input_count, delay_by, delay}
use Rattle.renaming.specs.Renamed.{KeepsGates, rename_occurrence, Renamed}
use Rattle.renaming.specs.Nets.{net_count_renamed}
use Rattle.renaming.specs.Searches.{Alike, asked, referred, found_renamed}
use Rattle.renaming.proofs.Runs.{run_renamed}
use Rattle.renaming.specs.Figures.{Same, expanded_size-asks, gate_weight-asks, room-asks, inputs-same}

module _ {number : ℕ → ℕ} (keeps : KeepsGates number) where
  -- Sums over occurrences.
  module _ {l l' : ℕ → ℕ} (later : Alike Same number l l') (net : ℕ → ℕ) where
    pub size_renamed : (os : List Occurrence) → body_size l' (map (rename_occurrence net number) os) ≡ body_size l os
    unfolding body_size
    size_renamed [] = refl
    size_renamed (o ∷ os) =
        ap₂ (λ (a b : ℕ). suc a + b) (referred keeps Same (λ kind. 0) (λ kind. refl) later o.refers) (size_renamed os)

    weight_renamed : (weight : ℕ → ℕ) (os : List Occurrence)
        → body_weight weight l' (map (rename_occurrence net number) os) ≡ body_weight weight l os
    unfolding body_weight
    weight_renamed weight [] = refl
    weight_renamed weight (o ∷ os) =
        ap₂ ◌+◌ (referred keeps Same weight (λ kind. refl) later o.refers) (weight_renamed weight os)

    pub largest_renamed : (os : List Occurrence) → largest_referred l' (map (rename_occurrence net number) os) ≡ largest_referred l os
    unfolding largest_referred
    largest_renamed [] = refl
    largest_renamed (o ∷ os) =
        ap₂ max (referred keeps Same (λ kind. 0) (λ kind. refl) later o.refers) (largest_renamed os)

module _ {number : ℕ → ℕ} (keeps : KeepsGates number) {ms ns : List Module} (renamed : Renamed number ms ns) (x : ℕ) where
  pub expanded_size_renamed : expanded_size ns (number x) ≡ expanded_size ms x
  unfolding expanded_size
  expanded_size_renamed =
      (asked keeps Same expanded_size-asks (λ x y. refl) (λ net one m ms ns rest later. size_renamed keeps later net m.occurrences) renamed).at x

  pub gate_weight_renamed : (weight : ℕ → ℕ) → gate_weight weight ns (number x) ≡ gate_weight weight ms x
  unfolding gate_weight
  gate_weight_renamed weight =
      (asked keeps Same (gate_weight-asks weight) (λ x y. refl) (λ net one m ms ns rest later. weight_renamed keeps later net weight m.occurrences) renamed).at x

  pub gate_count_renamed : gate_count ns (number x) ≡ gate_count ms x
  unfolding gate_count
  gate_count_renamed = gate_weight_renamed (λ kind. 1)

  pub tally_renamed : tally ns (number x) ≡ tally ms x
  unfolding tally kind_count
  tally_renamed = each (0 ∷ 1 ∷ 2 ∷ 3 ∷ 4 ∷ 5 ∷ 6 ∷ 7 ∷ 8 ∷ 9 ∷ 10 ∷ 11 ∷ 12 ∷ 13 ∷ 14 ∷ 15 ∷ [])
    where
      each : (kinds : List ℕ) → map (λ kind. kind_count kind ns (number x)) kinds ≡ map (λ kind. kind_count kind ms x) kinds
      each [] = refl
      each (kind ∷ kinds) = ap₂ ◌∷◌ (gate_weight_renamed (λ other. cond (eqb other kind) 1 0)) (each kinds)

  pub room_renamed : room ns (number x) ≡ room ms x
  unfolding room
  room_renamed =
      (asked keeps Same room-asks (λ x y. refl)
      (λ net one m ms ns rest later. ap₂ ◌+◌ (net_count_renamed net number m) (largest_renamed keeps later net m.occurrences)) renamed).at x

  pub delay_renamed : delay ns (number x) ≡ delay ms x
  unfolding delay delay_by arrivals
  delay_renamed =
      ap (λ (n : ℕ). largest (arrivals (λ kind. 1) ns (number x) (replicate n 0))) (inputs-same (found_renamed keeps renamed x))
      ∙ ap largest (run_renamed keeps 0 (gate_arrival (λ kind. 1)) renamed x (replicate (input_count (assoc x ms)) 0))
