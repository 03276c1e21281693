-- What a rule gives, whatever the type of an entry, from what a fold makes of the arguments and what a negation makes of that.
use Rattle.std.specs.Prelude.{ℕ, ◌≡◌, List, map}
use Rattle.std.proofs.Common.{refl}
use Rattle.meaning.specs.Values.{value, code}
use Rattle.gates.specs.Folds.{folded, negation, result_of}
use Rattle.gates.specs.Folding.{negated}
use Rattle.gates.specs.declared.Rule.{Rule}
use Rattle.gates.specs.declared.Rule.TheVariants.{And, Nand, Or, Nor, Xor, Eqv}
use Rattle.gates.specs.declared.folds.Fold.{Fold}
use Rattle.gates.specs.declared.folds.Fold.TheVariants.{All, Any, Odd}

abbrev pub FoldOf : Type 0 → Type 0
FoldOf A = Fold → List A → A

unfoldable pub ruled : {A : Type 0} → FoldOf A → (A → A) → Rule → List A → A
ruled fold opposite And xs = fold All xs
ruled fold opposite Nand xs = opposite (fold All xs)
ruled fold opposite Or xs = fold Any xs
ruled fold opposite Nor xs = opposite (fold Any xs)
ruled fold opposite Xor xs = fold Odd xs
ruled fold opposite Eqv xs = opposite (fold Odd xs)

-- Of values.
abbrev pub value_fold : Fold → List ℕ → ℕ
value_fold fold xs = code (folded fold (map value xs))

abbrev pub value_not : ℕ → ℕ
value_not a = code (negation (value a))

pub ruled-values : (rule : Rule) (xs : List ℕ) → ruled value_fold value_not rule xs ≡ code (result_of rule (map value xs))
unfolding ruled result_of
ruled-values And xs = refl
ruled-values Nand xs = negated (folded All (map value xs)) refl refl
ruled-values Or xs = refl
ruled-values Nor xs = negated (folded Any (map value xs)) refl refl
ruled-values Xor xs = refl
ruled-values Eqv xs = negated (folded Odd (map value xs)) refl refl
