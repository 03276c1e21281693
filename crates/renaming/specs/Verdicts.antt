-- What a reference to a module comes to under other numbers. That the check gives the same refusal at the same place, or accepts both,
-- is in proofs/Verdicts.antt.
use Rattle.std.specs.Prelude.{ℕ, ◌≡◌, ◌&&◌, length}
use Rattle.std.proofs.Math.Path.{refl, ap₂}
use Rattle.std.proofs.Common.{◌∙◌}
use Rattle.std.proofs.Math.Bool.{cond}
use mathlib.Core.List.{List, map}
use Rattle.std.proofs.Math.Dec.{eqb}
use Rattle.std.proofs.lemmas.List.{length-map}
use Rattle.meaning.specs.Syntax.{Occurrence, Module}
use Rattle.meaning.specs.Gates.{is_gate, gate}
use Rattle.meaning.specs.Boxlist.{Found, assoc, is_box, submodule_okp, arity_okp}
use Rattle.renaming.specs.Renamed.{OneToOne, KeepsGates, Renamed}
use Rattle.renaming.specs.Searches.{referred, FoundAs, both, neither, found_renamed}
use Rattle.renaming.specs.Figures.{Same}

pub is_box_renamed : {number : ℕ → ℕ} {a b : Found} → FoundAs number a b → is_box b ≡ is_box a
is_box_renamed (both net one) = refl
is_box_renamed neither = refl

module _ (net : ℕ → ℕ) where
  submodule_renamed : {number : ℕ → ℕ} {a b : Found} → FoundAs number a b → (args lhs : List ℕ)
      → submodule_okp b (map net args) (map net lhs) ≡ submodule_okp a args lhs
  submodule_renamed (both {m} other one) args lhs =
      ap₂ ◌&&◌
      (ap₂ eqb (length-map args net) (length-map m.inputs other))
      (ap₂ eqb (length-map lhs net) (length-map m.outputs other))
  submodule_renamed neither args lhs = refl

module _ {number : ℕ → ℕ} (keeps : KeepsGates number) {ms ns : List Module} (renamed : Renamed number ms ns) where
  module _ {net : ℕ → ℕ} (one : OneToOne net) (place : ℕ) where
    pub arity_renamed : (o : Occurrence) → arity_okp (number o.refers) (map net o.takes) (map net o.drives) ns ≡ arity_okp o.refers o.takes o.drives ms
    unfolding arity_okp
    arity_renamed o =
        referred keeps Same (λ fn. eqb (gate fn).arity (length (map net o.takes)) && eqb 1 (length (map net o.drives)))
        {l = λ fn. submodule_okp (assoc fn ms) o.takes o.drives}
        {l' = λ fn. submodule_okp (assoc fn ns) (map net o.takes) (map net o.drives)}
        (λ fn. refl)
        (record { at = λ fn. submodule_renamed net (found_renamed keeps renamed fn) o.takes o.drives }) o.refers
        ∙ ap₂ (λ (t d : ℕ). cond (is_gate o.refers) (eqb (gate o.refers).arity t && eqb 1 d) (submodule_okp (assoc o.refers ms) o.takes o.drives))
        (length-map o.takes net) (length-map o.drives net)
