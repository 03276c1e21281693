-- What a number stands for: a gate with its rule and its count of arguments, or a module.
use Rattle.std.specs.Prelude.{ℕ, cond, List, [], ◌∷◌, get_or}
use Rattle.meaning.specs.Gates.{gate, is_gate}
use Rattle.gates.specs.declared.Rule.{Rule}
use Rattle.gates.specs.declared.Rule.TheVariants.{And, Nand, Or, Nor, Xor, Eqv}
use Rattle.gates.specs.declared.Kind.{Kind}
use Rattle.gates.specs.declared.Kind.TheVariants.{Gate, Module}

-- The rules of the gates 0 to 15.
unfoldable pub rules : List Rule
rules = And ∷ Nand ∷ Nand ∷ Nand ∷ Nand ∷ Or ∷ Or ∷ Or ∷ Eqv ∷ Xor ∷ And ∷ And ∷ And ∷ Nor ∷ Nor ∷ Nor ∷ []

-- What `kind_of` answers.
unfoldable pub kind_of : ℕ → Kind
kind_of number = cond (is_gate number) (Gate (get_or rules number And) (gate number).arity) Module
