-- The value of a gate, argument by argument: an operation of two arguments is repeated over them, from first to last, and the result is
-- negated for NAND, NOR and EQV.
use Rattle.std.specs.Prelude.{Bool, true, false, List, [], ◌∷◌}
use Rattle.meaning.specs.Values.{Val, known, by_fillings}
use Rattle.meaning.specs.Gates.{one, two, B-NOT, B-AND, B-OR, B-XOR}
use Rattle.gates.specs.declared.Rule.{Rule}
use Rattle.gates.specs.declared.Rule.TheVariants.{And, Nand, Or, Nor, Xor, Eqv}
use Rattle.gates.specs.declared.folds.Fold.{Fold}
use Rattle.gates.specs.declared.folds.Fold.TheVariants.{All, Any, Odd}

-- The Boolean function that is repeated,
abbrev pub operation : Fold → Bool → Bool → Bool
operation All = B-AND
operation Any = B-OR
operation Odd = B-XOR

-- and what it begins with.
abbrev pub neutral : Fold → Bool
neutral All = true
neutral Any = false
neutral Odd = false

-- On three values each is known exactly when every filling gives it.
unfoldable pub step : Fold → Val → Val → Val
step fold v w = by_fillings (two (operation fold)).function (v ∷ w ∷ [])

unfoldable pub negation : Val → Val
negation v = by_fillings (one B-NOT).function (v ∷ [])

-- The operation repeated over a list of values, after a value that is there already,
abbrev pub fold_on : Fold → Val → List Val → Val
fold_on fold v [] = v
fold_on fold v (w ∷ ws) = fold_on fold (step fold v w) ws

-- and from the beginning.
unfoldable pub folded : Fold → List Val → Val
folded fold vs = fold_on fold (known (neutral fold)) vs

-- What a rule gives to a list of values.
unfoldable pub result_of : Rule → List Val → Val
result_of And vs = folded All vs
result_of Nand vs = negation (folded All vs)
result_of Or vs = folded Any vs
result_of Nor vs = negation (folded Any vs)
result_of Xor vs = folded Odd vs
result_of Eqv vs = negation (folded Odd vs)
