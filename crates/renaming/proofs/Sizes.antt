-- A file under other numbers has as many numbers, and so at most twice the bytes.
use Prim.Native.Nat.{ℕ, ◌*◌, ◌≤◌}
use native.Mathlib.Omega.{arith}
use Rattle.std.specs.Prelude.{◌≡◌}
use Rattle.std.proofs.Math.Path.{refl}
use mathlib.Core.List.{List, [], ◌∷◌, ◌++◌, map}
use Rattle.std.proofs.Math.ListN.{length, length-append, length-map}
use Rattle.meaning.specs.Syntax.{Occurrence, Module}
use Rattle.meaning.specs.Layout.{each, list_numbers, occurrence_numbers, module_numbers, file_numbers, encode}
use Rattle.renaming.specs.Renamed.{rename_occurrence, rename_module, Renamed, none, more}
use Rattle.renaming.specs.Sizes.{all-bytes}

module _ (net number : ℕ → ℕ) where
  occurrence-count : (o : Occurrence) → length (occurrence_numbers (rename_occurrence net number o)) ≡ length (occurrence_numbers o)
  unfolding occurrence_numbers
  occurrence-count o =
      omega (
        arith,
        length-append (list_numbers (map net o.drives)) (number o.refers ∷ list_numbers (map net o.takes)),
        length-append (list_numbers o.drives) (o.refers ∷ list_numbers o.takes),
        length-map o.drives net,
        length-map o.takes net,
      )

  occurrences-count : (os : List Occurrence) → length (each occurrence_numbers (map (rename_occurrence net number) os)) ≡ length (each occurrence_numbers os)
  unfolding each
  occurrences-count [] = refl
  occurrences-count (o ∷ os) =
      omega (
        arith,
        length-append (occurrence_numbers (rename_occurrence net number o)) (each occurrence_numbers (map (rename_occurrence net number) os)),
        length-append (occurrence_numbers o) (each occurrence_numbers os),
        occurrence-count o,
        occurrences-count os,
      )

  module_count : (m : Module) → length (module_numbers (rename_module net number m)) ≡ length (module_numbers m)
  unfolding module_numbers
  module_count m =
      let body : List ℕ = length m.occurrences ∷ each occurrence_numbers m.occurrences in
      let body' : List ℕ = length (map (rename_occurrence net number) m.occurrences) ∷ each occurrence_numbers (map (rename_occurrence net number) m.occurrences) in
      omega (
        arith,
        length-append (list_numbers (map net m.inputs)) (list_numbers (map net m.outputs) ++ body'),
        length-append (list_numbers (map net m.outputs)) body',
        length-append (list_numbers m.inputs) (list_numbers m.outputs ++ body),
        length-append (list_numbers m.outputs) body,
        length-map m.inputs net,
        length-map m.outputs net,
        occurrences-count m.occurrences,
      )

modules-count : {number : ℕ → ℕ} {ms ns : List Module} → Renamed number ms ns → length (each module_numbers ns) ≡ length (each module_numbers ms)
unfolding each
modules-count none = refl
modules-count {number} (more {m} {ms} {ns} net one rest) =
    omega (
      arith,
      length-append (module_numbers (rename_module net number m)) (each module_numbers ns),
      length-append (module_numbers m) (each module_numbers ms),
      module_count net number m,
      modules-count rest,
    )

pub size_renamed : {number : ℕ → ℕ} {ms ns : List Module} → Renamed number ms ns → length (encode ns) ≤ 2 * length (encode ms)
unfolding encode file_numbers
size_renamed {ms = ms} {ns = ns} renamed =
    omega (arith, (all-bytes (file_numbers ns)).1, (all-bytes (file_numbers ms)).0, modules-count renamed)
