-- What a run works out for each net, of whatever type: what a gate makes of its arguments, by its number alone and by its rule too, and what a net
-- reads as that nothing gave a value.
use Rattle.std.specs.Prelude.{ℕ, ◌≡◌, List, [], ◌∷◌, length}
use Rattle.meaning.specs.Evaluation.{Meaning}
use Rattle.gates.specs.Kind.{kind_of}
use Rattle.gates.specs.declared.Rule.{Rule}
use Rattle.gates.specs.declared.Kind.TheVariants.{Gate}

pub record Work (A : Type 0) : Type 0 where
  pub none : A
  pub at_gate : ℕ → List A → A
  pub by_rule : ℕ → Rule → List A → A
  pub rule-is :
      (number : ℕ) (rule : Rule) (arity : ℕ)
      → kind_of number ≡ Gate rule arity
      → (xs : List A)
      → length xs ≡ arity
      → by_rule number rule xs ≡ at_gate number xs

abbrev pub meaning_of : {A : Type 0} → Work A → Meaning A
meaning_of work number xs = work.at_gate number xs ∷ []
