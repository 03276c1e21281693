-- What a rule gives to a list of values is the rule's Boolean function by fillings. It holds for any number of arguments, as the operations
-- of two arguments are associative on three values too.
use Rattle.std.specs.Prelude.{ℕ, Bool, not, ◌≡◌}
use mathlib.Core.List.{List, [], ◌∷◌, foldr}
use Rattle.std.proofs.Common.{ap, sym, ◌∙◌, rules}
use Rattle.meaning.specs.Values.{Val, known, by_fillings, value, code}
use Rattle.laws.specs.Folds.{after, fold_step}
use Rattle.gates.specs.ThreeValues.{each, each_three, stands_for}
use Rattle.gates.specs.Folds.{operation, neutral, step, negation, fold_on, folded, result_of}
use Rattle.gates.specs.declared.Rule.{Rule}
use Rattle.gates.specs.declared.Rule.TheVariants.{And, Nand, Or, Nor, Xor, Eqv}
use Rattle.gates.specs.declared.folds.Fold.{Fold}
use Rattle.gates.specs.declared.folds.Fold.TheVariants.{All, Any, Odd}

-- The Boolean function of a fold,
abbrev pub fold_bools : Fold → List Bool → Bool
fold_bools fold bs = foldr (operation fold) (neutral fold) bs

-- and of a rule.
abbrev pub means : Rule → List Bool → Bool
means And bs = fold_bools All bs
means Nand bs = not (fold_bools All bs)
means Or bs = fold_bools Any bs
means Nor bs = not (fold_bools Any bs)
means Xor bs = fold_bools Odd bs
means Eqv bs = not (fold_bools Odd bs)

-- The value that an operation begins with changes nothing, at either place.
abbrev Neutral : Fold → Val → Type 0
Neutral fold v = (step fold (known (neutral fold)) v ≡ v) × (step fold v (known (neutral fold)) ≡ v)

pub neutral-both : (fold : Fold) (v : Val) → Neutral fold v
unfolding step by_fillings
neutral-both All = each (Neutral All) (search rules)
neutral-both Any = each (Neutral Any) (search rules)
neutral-both Odd = each (Neutral Odd) (search rules)

-- It does not matter which two of three arguments come first.
abbrev Associates : Fold → Val → Val → Val → Type 0
Associates fold u v w = step fold (step fold u v) w ≡ step fold u (step fold v w)

associative : (fold : Fold) (u v w : Val) → Associates fold u v w
unfolding step by_fillings
associative All = each_three (Associates All) (search rules)
associative Any = each_three (Associates Any) (search rules)
associative Odd = each_three (Associates Odd) (search rules)

-- Folding on from a value is its operation on that value and what folding gives to the rest.
fold_on-is : (fold : Fold) (v : Val) (ws : List Val) → fold_on fold v ws ≡ step fold v (by_fillings (fold_bools fold) ws)
unfolding step by_fillings
fold_on-is fold v [] = sym (neutral-both fold v).1
fold_on-is fold v (w ∷ ws) =
    fold_on-is fold (step fold v w) ws
    ∙ associative fold v w (by_fillings (fold_bools fold) ws)
    ∙ ap (step fold v) (sym (fold_step (operation fold) (neutral fold) w ws))

folded-is : (fold : Fold) (vs : List Val) → folded fold vs ≡ by_fillings (fold_bools fold) vs
unfolding folded
folded-is fold vs = fold_on-is fold (known (neutral fold)) vs ∙ (neutral-both fold _).0

negated-is : (fold : Fold) (vs : List Val) → negation (folded fold vs) ≡ by_fillings (λ bs. not (fold_bools fold bs)) vs
unfolding negation
negated-is fold vs = ap negation (folded-is fold vs) ∙ sym (after not (fold_bools fold) vs)

-- The value of a rule on a list is the rule's function by fillings.
pub by_folding : (rule : Rule) (vs : List Val) → result_of rule vs ≡ by_fillings (means rule) vs
unfolding result_of
by_folding And vs = folded-is All vs
by_folding Nand vs = negated-is All vs
by_folding Or vs = folded-is Any vs
by_folding Nor vs = negated-is Any vs
by_folding Xor vs = folded-is Odd vs
by_folding Eqv vs = negated-is Odd vs

-- The negation of a number that is the code of a value.
pub negated : (v : Val) {n m : ℕ} → n ≡ code v → m ≡ code (negation (value n)) → m ≡ code (negation v)
negated v e k = k ∙ ap (λ u. code (negation u)) (stands_for v e)
