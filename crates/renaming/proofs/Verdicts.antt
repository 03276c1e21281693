-- The check gives a file and the same file under other numbers the same refusal at the same place, or accepts both.
use Rattle.std.specs.Prelude.{ℕ, suc, ◌≡◌, leb}
use Rattle.std.proofs.Math.Path.{refl, ap₂}
use Rattle.std.proofs.Common.{sym, ap, ◌∙◌}
use mathlib.Core.List.{List, [], ◌∷◌, ◌++◌, map, map-append}
use Rattle.meaning.specs.Syntax.{Occurrence, Module}
use Rattle.meaning.specs.Limits.{driven, body_size, expanded_size, most_size}
use Rattle.meaning.specs.Verdict.{good, keep, and_then, occurrence_verdict, body_verdict, module_verdict, modules_verdict, sizes_verdict, file_verdict}
use Rattle.renaming.specs.Renamed.{OneToOne, KeepsGates, rename_occurrence, rename_module, Renamed, none, more}
use Rattle.renaming.specs.Nets.{disjoint_renamed, duplicates_renamed, subset_renamed, driven_renamed, net_count_renamed}
use Rattle.renaming.specs.Searches.{gate-stays, found_renamed}
use Rattle.renaming.proofs.Figures.{size_renamed, expanded_size_renamed}
use Rattle.renaming.specs.Verdicts.{is_box_renamed, arity_renamed}

module _ {number : ℕ → ℕ} (keeps : KeepsGates number) {ms ns : List Module} (renamed : Renamed number ms ns) where
  module _ {net : ℕ → ℕ} (one : OneToOne net) (place : ℕ) where
    occurrence_renamed : (o : Occurrence) (signals : List ℕ)
        → occurrence_verdict place (rename_occurrence net number o) (map net signals) ns ≡ occurrence_verdict place o signals ms
    unfolding occurrence_verdict
    occurrence_renamed o signals =
        rw (
          duplicates_renamed one o.drives,
          disjoint_renamed one o.drives signals,
          subset_renamed one o.takes signals,
          arity_renamed keeps renamed one place o,
          gate-stays keeps o.refers,
          is_box_renamed (found_renamed keeps renamed o.refers),
        )

    body_renamed : (os : List Occurrence) (signals : List ℕ)
        → body_verdict place (map (rename_occurrence net number) os) (map net signals) ns ≡ body_verdict place os signals ms
    unfolding body_verdict
    body_renamed [] signals = refl
    body_renamed (o ∷ os) signals =
        ap₂ and_then (occurrence_renamed o signals)
        (ap (λ (s : List ℕ). body_verdict place (map (rename_occurrence net number) os) s ns) (sym (map-append net o.drives signals))
        ∙ body_renamed os (o.drives ++ signals))

    module_renamed : (m : Module) → module_verdict place (rename_module net number m) ns ≡ module_verdict place m ms
    unfolding module_verdict
    module_renamed m =
        rw (
          gate-stays keeps m.number,
          is_box_renamed (found_renamed keeps renamed m.number),
          duplicates_renamed one m.inputs,
          duplicates_renamed one m.outputs,
          disjoint_renamed one m.inputs m.outputs,
          body_renamed m.occurrences m.inputs,
          driven_renamed net number m.occurrences,
          subset_renamed one m.outputs (driven m.occurrences),
          net_count_renamed net number m,
        )

    size-stays : (m : Module)
        → body_size (expanded_size ns) (map (rename_occurrence net number) m.occurrences) ≡ body_size (expanded_size ms) m.occurrences
    size-stays m = size_renamed keeps (record { at = expanded_size_renamed keeps renamed }) net m.occurrences

module _ {number : ℕ → ℕ} (keeps : KeepsGates number) where
  modules_renamed : (place : ℕ) {ms ns : List Module} → Renamed number ms ns → modules_verdict place ns ≡ modules_verdict place ms
  unfolding modules_verdict
  modules_renamed place none = refl
  modules_renamed place (more {m} net one rest) = ap₂ and_then (module_renamed keeps rest one place m) (modules_renamed (suc place) rest)

  sizes_renamed : (place : ℕ) {ms ns : List Module} → Renamed number ms ns → sizes_verdict place ns ≡ sizes_verdict place ms
  unfolding sizes_verdict
  sizes_renamed place none = refl
  sizes_renamed place (more {m} net one rest) =
      ap₂ and_then (sizes_renamed (suc place) rest) (ap (λ (n : ℕ). keep 17 place (leb n most_size) good) (size-stays keeps rest one place m))

  pub verdict_renamed : {ms ns : List Module} → Renamed number ms ns → file_verdict ns ≡ file_verdict ms
  unfolding file_verdict
  verdict_renamed renamed = ap₂ and_then (modules_renamed 0 renamed) (sizes_renamed 0 renamed)
