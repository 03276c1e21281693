-- The largest load is the same under other numbers.
use Prim.Native.Nat.{ℕ, ◌+◌, max}
use Rattle.std.specs.Prelude.{◌≡◌}
use Rattle.std.proofs.Math.Path.{refl, ap₂}
use Rattle.std.proofs.Common.{sym, ap, ◌∙◌}
use mathlib.Core.List.{List, [], ◌∷◌, ◌++◌, map, map-append}
use Rattle.std.proofs.lemmas.List.{length-map}
use Rattle.meaning.specs.Syntax.{Occurrence, Module}
use Rattle.meaning.specs.Limits.{driven}
use Rattle.meaning.specs.Figures.{largest}
use Rattle.meaning.specs.Loads.{places_load, Loads, gate_loads, referred_loads, net_load, module_loads, loads_inside, largest_load}
use Rattle.renaming.specs.Renamed.{OneToOne, KeepsGates, rename_occurrence, rename_module, Renamed}
use Rattle.renaming.specs.Nets.{driven_renamed}
use Rattle.renaming.specs.Searches.{Alike, asked, referred}
use Rattle.renaming.specs.Figures.{Same}
use Rattle.renaming.proofs.Figures.{largest_renamed}
use Rattle.renaming.specs.Loads.{places_renamed, inside-asks, largest-asks}

module _ {net : ℕ → ℕ} (one : OneToOne net) where
  module _ {number : ℕ → ℕ} (keeps : KeepsGates number) {l l' : ℕ → Loads} (later : Alike Same number l l') where
    referred-loads : (o : Occurrence) → referred_loads l' (rename_occurrence net number o) ≡ referred_loads l o
    referred-loads o = rw length-map (referred keeps Same (λ kind. gate_loads o) (λ kind. refl) later o.refers)

    load_renamed : (os : List Occurrence) (x : ℕ) → net_load l' (map (rename_occurrence net number) os) (net x) ≡ net_load l os x
    unfolding net_load
    load_renamed [] x = refl
    load_renamed (o ∷ os) x =
        ap₂ ◌+◌
        (ap₂ ◌+◌
        (ap (λ (ls : Loads). places_load (net x) (map net o.takes) ls.inputs) (referred-loads o) ∙ places_renamed one x o.takes _)
        (ap (λ (ls : Loads). places_load (net x) (map net o.drives) ls.outputs) (referred-loads o) ∙ places_renamed one x o.drives _))
        (load_renamed os x)

    loads_renamed : (os : List Occurrence) (xs : List ℕ)
        → map (net_load l' (map (rename_occurrence net number) os)) (map net xs) ≡ map (net_load l os) xs
    loads_renamed os [] = refl
    loads_renamed os (x ∷ xs) = ap₂ ◌∷◌ (load_renamed os x) (loads_renamed os xs)

    module-loads : (m : Module) → module_loads l' (rename_module net number m) ≡ module_loads l m
    module-loads m =
        ap₂ (λ (ins outs : List ℕ). record { inputs = ins; outputs = outs }) (loads_renamed m.occurrences m.inputs) (loads_renamed m.occurrences m.outputs)

    own-loads : (m : Module)
        → largest (map (net_load l' (map (rename_occurrence net number) m.occurrences)) (map net m.inputs ++ driven (map (rename_occurrence net number) m.occurrences)))
        ≡ largest (map (net_load l m.occurrences) (m.inputs ++ driven m.occurrences))
    own-loads m =
        let nets : map net m.inputs ++ driven (map (rename_occurrence net number) m.occurrences) ≡ map net (m.inputs ++ driven m.occurrences) =
        ap (λ (d : List ℕ). map net m.inputs ++ d) (driven_renamed net number m.occurrences) ∙ sym (map-append net m.inputs (driven m.occurrences)) in
        ap (λ (xs : List ℕ). largest (map (net_load l' (map (rename_occurrence net number) m.occurrences)) xs)) nets
        ∙ ap largest (loads_renamed m.occurrences (m.inputs ++ driven m.occurrences))

inside_renamed : {number : ℕ → ℕ} → KeepsGates number → {ms ns : List Module} → Renamed number ms ns → Alike Same number (loads_inside ms) (loads_inside ns)
unfolding loads_inside
inside_renamed keeps renamed = asked keeps Same inside-asks (λ x y. refl) (λ net one m ms ns rest later. module-loads one keeps later m) renamed

module _ {number : ℕ → ℕ} (keeps : KeepsGates number) {ms ns : List Module} (renamed : Renamed number ms ns) (x : ℕ) where
  pub largest_load_renamed : largest_load ns (number x) ≡ largest_load ms x
  unfolding largest_load
  largest_load_renamed =
      (asked keeps Same largest-asks (λ x y. refl)
      (λ net one m ms ns rest later. ap₂ max (own-loads one keeps (inside_renamed keeps rest) m) (largest_renamed keeps later net m.occurrences)) renamed).at x
