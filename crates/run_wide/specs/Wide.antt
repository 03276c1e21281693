-- What a run works out for each net in 256 rows at once.
use Rattle.std.specs.Prelude.{ℕ, ◌≡◌, refl, List, [], ◌∷◌, length}
use Rattle.std.proofs.Common.{sym, ap, ◌∙◌}
use Rattle.laws.specs.Folds.{firsts, firsts-all}
use Rattle.gates.specs.Kind.{kind_of}
use Rattle.gates.specs.declared.Rule.{Rule}
use Rattle.gates.specs.declared.Rule.TheVariants.{And, Nand, Or, Nor, Xor, Eqv}
use Rattle.gates.specs.declared.Kind.{Kind}
use Rattle.gates.specs.declared.Kind.TheVariants.{Gate, Module}
use Rattle.gates.specs.declared.folds.Fold.{Fold}
use Rattle.gates.specs.declared.folds.Fold.TheVariants.{All, Any, Odd}
use Rattle.lanes.specs.Entries.{not_of, step_of, start_of}
use Rattle.run_walk.specs.Ruling.{ruled}
use Rattle.run_walk.specs.Work.{Work}

abbrev pub rows_on : Fold → List ℕ → List (List ℕ) → List ℕ
rows_on fold v [] = v
rows_on fold v (x ∷ xs) = rows_on fold (step_of fold v x) xs

unfoldable pub rows_fold : Fold → List (List ℕ) → List ℕ
rows_fold fold xs = rows_on fold (start_of fold) xs

unfoldable pub rows_result : Rule → List (List ℕ) → List ℕ
rows_result And xs = rows_fold All xs
rows_result Nand xs = not_of (rows_fold All xs)
rows_result Or xs = rows_fold Any xs
rows_result Nor xs = not_of (rows_fold Any xs)
rows_result Xor xs = rows_fold Odd xs
rows_result Eqv xs = not_of (rows_fold Odd xs)

-- It is what the rule gives by folds and negations of such entries.
pub ruled-rows : (rule : Rule) (xs : List (List ℕ)) → ruled rows_fold not_of rule xs ≡ rows_result rule xs
unfolding ruled rows_result
ruled-rows And xs = refl
ruled-rows Nand xs = refl
ruled-rows Or xs = refl
ruled-rows Nor xs = refl
ruled-rows Xor xs = refl
ruled-rows Eqv xs = refl

-- A gate on as many arguments as it takes, a missing one read as nothing.
unfoldable pub rows_kind : Kind → List (List ℕ) → List ℕ
rows_kind (Gate rule arity) xs = rows_result rule (firsts [] arity xs)
rows_kind Module xs = []

pub rows-rule :
    (number : ℕ) (rule : Rule) (arity : ℕ)
    → kind_of number ≡ Gate rule arity
    → (xs : List (List ℕ))
    → length xs ≡ arity
    → rows_result rule xs ≡ rows_kind (kind_of number) xs
unfolding rows_kind
rows-rule number rule arity k xs e =
    ap (rows_result rule) (sym (firsts-all [] xs) ∙ ap (λ (n : ℕ). firsts [] n xs) e)
    ∙ sym (ap (λ (kind : Kind). rows_kind kind xs) k)

abbrev pub rows_work : Work (List ℕ)
rows_work = record { none = []; at_gate = λ number xs. rows_kind (kind_of number) xs; by_rule = λ number. rows_result; rule-is = rows-rule }
