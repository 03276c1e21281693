-- What resolution keeps of a module whatever the file: all its counts, and with them the length of its numbers. Its number becomes
-- its position.
use Prim.Native.Nat.{ℕ, ◌+◌}
use Rattle.std.specs.Prelude.{◌≡◌, length}
use Rattle.std.proofs.Math.Path.{refl, sym, ap, ap₂}
use Rattle.std.proofs.Common.{◌∙◌}
use mathlib.Core.List.{List, [], ◌∷◌, ◌++◌, map, map-append}
use Rattle.std.proofs.Math.ListN.{length-append, length-map}
use Rattle.meaning.specs.Syntax.{Occurrence, Module}
use Rattle.meaning.specs.Limits.{driven, net_count}
use Rattle.meaning.specs.Layout.{each, occurrence_numbers, module_numbers}
use Rattle.image.specs.Pieces.{length-of-occurrence, length-of_module}
use Rattle.image.specs.Resolved.{nets_of, slot_in, resolve_occurrence, resolve_module}

pub length-of-nets : (m : Module) → length (nets_of m) ≡ net_count m
unfolding nets_of net_count
length-of-nets m = length-append m.inputs (driven m.occurrences)

-- Occurrences resolved: the nets that they drive, and the length of their numbers.
module _ (slot refer : ℕ → ℕ) where
  pub driven-resolved : (os : List Occurrence) → driven (map (resolve_occurrence slot refer) os) ≡ map slot (driven os)
  unfolding driven
  driven-resolved [] = refl
  driven-resolved (o ∷ os) =
      ap (λ (nets : List ℕ). map slot o.drives ++ nets) (driven-resolved os) ∙ sym (map-append slot o.drives (driven os))

  pub length-of-resolved-occurrence :
      (o : Occurrence) → length (occurrence_numbers (resolve_occurrence slot refer o)) ≡ length (occurrence_numbers o)
  length-of-resolved-occurrence o = simp (length-of-occurrence, length-map)

  pub length-of-resolved-body :
      (os : List Occurrence)
      → length (each occurrence_numbers (map (resolve_occurrence slot refer) os)) ≡ length (each occurrence_numbers os)
  unfolding each
  length-of-resolved-body [] = refl
  length-of-resolved-body (o ∷ os) =
      length-append (occurrence_numbers (resolve_occurrence slot refer o)) _
      ∙ ap₂ ◌+◌ (length-of-resolved-occurrence o) (length-of-resolved-body os)
      ∙ sym (length-append (occurrence_numbers o) (each occurrence_numbers os))

module _ (refer : ℕ → ℕ) (position : ℕ) (m : Module) where
  pub number-of-resolved : (resolve_module refer position m).number ≡ 16 + position
  unfolding resolve_module
  number-of-resolved = refl

  pub inputs-of-resolved : length (resolve_module refer position m).inputs ≡ length m.inputs
  unfolding resolve_module
  inputs-of-resolved = length-map m.inputs (slot_in m)

  pub outputs-of-resolved : length (resolve_module refer position m).outputs ≡ length m.outputs
  unfolding resolve_module
  outputs-of-resolved = length-map m.outputs (slot_in m)

  -- The nets of the resolved module are the slots of the module's nets.
  pub nets-of-resolved : nets_of (resolve_module refer position m) ≡ map (slot_in m) (nets_of m)
  unfolding resolve_module nets_of
  nets-of-resolved =
      ap (λ (nets : List ℕ). map (slot_in m) m.inputs ++ nets) (driven-resolved (slot_in m) refer m.occurrences)
      ∙ sym (map-append (slot_in m) m.inputs (driven m.occurrences))

  pub net_count-of-resolved : net_count (resolve_module refer position m) ≡ net_count m
  unfolding resolve_module net_count
  net_count-of-resolved = simp (driven-resolved, length-map)

  pub length-of-resolved_module : length (module_numbers (resolve_module refer position m)) ≡ length (module_numbers m)
  unfolding resolve_module
  length-of-resolved_module = simp (length-of_module, length-map, length-of-resolved-body)
