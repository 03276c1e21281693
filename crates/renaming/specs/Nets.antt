-- Lists of nets under other numbers: what is said of them by comparing nets stays.
use Prim.Native.Nat.{ℕ, ◌+◌}
use Rattle.std.specs.Prelude.{◌≡◌, Bool}
use Rattle.std.proofs.Math.Path.{refl, sym, ap, ap₂}
use Rattle.std.proofs.Common.{◌∙◌}
use Rattle.std.proofs.Math.Bool.{not, ◌&&◌, ◌||◌}
use mathlib.Core.List.{List, [], ◌∷◌, ◌++◌, map, map-append}
use Rattle.std.proofs.Math.ListN.{length, length-map}
use Rattle.meaning.specs.Syntax.{Occurrence, Module}
use Rattle.meaning.specs.Boxlist.{member, disjoint, duplicates, subset}
use Rattle.meaning.specs.Limits.{driven, net_count}
use Rattle.renaming.specs.Renamed.{OneToOne, rename_occurrence, rename_module}

module _ {f : ℕ → ℕ} (one : OneToOne f) where
  member_renamed : (x : ℕ) (ys : List ℕ) → member (f x) (map f ys) ≡ member x ys
  unfolding member
  member_renamed x [] = refl
  member_renamed x (y ∷ ys) = ap₂ ◌||◌ (one.tells x y) (member_renamed x ys)

  pub disjoint_renamed : (xs ys : List ℕ) → disjoint (map f xs) (map f ys) ≡ disjoint xs ys
  unfolding disjoint
  disjoint_renamed [] ys = refl
  disjoint_renamed (x ∷ xs) ys = ap₂ (λ (a b : Bool). not a && b) (member_renamed x ys) (disjoint_renamed xs ys)

  pub duplicates_renamed : (xs : List ℕ) → duplicates (map f xs) ≡ duplicates xs
  unfolding duplicates
  duplicates_renamed [] = refl
  duplicates_renamed (x ∷ xs) = ap₂ ◌||◌ (member_renamed x xs) (duplicates_renamed xs)

  pub subset_renamed : (xs ys : List ℕ) → subset (map f xs) (map f ys) ≡ subset xs ys
  unfolding subset
  subset_renamed [] ys = refl
  subset_renamed (x ∷ xs) ys = ap₂ ◌&&◌ (member_renamed x ys) (subset_renamed xs ys)

module _ (net number : ℕ → ℕ) where
  pub driven_renamed : (os : List Occurrence) → driven (map (rename_occurrence net number) os) ≡ map net (driven os)
  unfolding driven
  driven_renamed [] = refl
  driven_renamed (o ∷ os) =
      ap (λ (l : List ℕ). map net o.drives ++ l) (driven_renamed os) ∙ sym (map-append net o.drives (driven os))

  pub net_count_renamed : (m : Module) → net_count (rename_module net number m) ≡ net_count m
  unfolding net_count
  net_count_renamed m =
      ap₂ ◌+◌ (length-map m.inputs net) (ap length (driven_renamed m.occurrences) ∙ length-map (driven m.occurrences) net)
