-- Results on two values as words: two bits a result, that of the values v and w from bit 8 v + 2 w on.
use Rattle.std.specs.Prelude.{ℕ, ◌+◌, ◌*◌, ◌/◌, ◌%◌, ◌^◌, ◌≡◌, refl, [], ◌∷◌}
use Rattle.meaning.specs.Values.{Val, by_fillings, code}
use Rattle.gates.specs.ThreeValues.{Each, each}
use Rattle.gates.specs.Folds.{step, negation, folded, result_of}
use Rattle.gates.specs.declared.Rule.{Rule}
use Rattle.gates.specs.declared.Rule.TheVariants.{And, Nand, Or, Nor, Xor, Eqv}
use Rattle.gates.specs.declared.folds.Fold.{Fold}
use Rattle.gates.specs.declared.folds.Fold.TheVariants.{All, Any, Odd}

-- The words of the operations that are repeated,
abbrev pub table_of : Fold → ℕ
table_of All = 2630656
table_of Any = 2495780
table_of Odd = 2760996

-- and of the rules.
abbrev pub pairs_of : Rule → ℕ
pairs_of And = table_of All
pairs_of Nand = 2695445
pairs_of Or = table_of Any
pairs_of Nor = 2228257
pairs_of Xor = table_of Odd
pairs_of Eqv = 2761761

-- Each word has the results of its operation.
abbrev Right : Fold → Val → Val → Type 0
Right fold v w = table_of fold / 2 ^ (8 * code v + 2 * code w) % 4 ≡ code (step fold v w)

every : (fold : Fold) → Each (λ v. Each (Right fold v))
unfolding step by_fillings
every All = ((refl, refl, refl), (refl, refl, refl), (refl, refl, refl))
every Any = ((refl, refl, refl), (refl, refl, refl), (refl, refl, refl))
every Odd = ((refl, refl, refl), (refl, refl, refl), (refl, refl, refl))

looked_up : (fold : Fold) (v w : Val) → Right fold v w
looked_up fold v w = each (Right fold v) (each (λ v. Each (Right fold v)) (every fold) v) w

-- So the number at the place of two values' codes is the code of their result.
pub stands_at :
    (fold : Fold) {table a b : ℕ} (v w : Val)
    → table ≡ table_of fold
    → a ≡ code v
    → b ≡ code w
    → table / 2 ^ (8 * a + 2 * b) % 4 ≡ code (step fold v w)
stands_at fold v w e f g = rw (e, f, g) (looked_up fold v w)

-- The same of a word and any function whose results it has,
abbrev HasResults : ℕ → (Val → Val → Val) → Type 0
HasResults table f = Each (λ v. Each (λ w. table / 2 ^ (8 * code v + 2 * code w) % 4 ≡ code (f v w)))

found_at :
    {word : ℕ} (f : Val → Val → Val)
    → HasResults word f
    → {table a b : ℕ} (v w : Val)
    → table ≡ word
    → a ≡ code v
    → b ≡ code w
    → table / 2 ^ (8 * a + 2 * b) % 4 ≡ code (f v w)
found_at {word} f right v w e g h =
    rw (e, g, h)
    (each (λ w. word / 2 ^ (8 * code v + 2 * code w) % 4 ≡ code (f v w))
    (each (λ v. Each (λ w. word / 2 ^ (8 * code v + 2 * code w) % 4 ≡ code (f v w))) right v) w)

-- and so of the rules.
every_pair : (rule : Rule) → HasResults (pairs_of rule) (λ v w. result_of rule (v ∷ w ∷ []))
unfolding result_of folded negation step by_fillings
every_pair And = ((refl, refl, refl), (refl, refl, refl), (refl, refl, refl))
every_pair Nand = ((refl, refl, refl), (refl, refl, refl), (refl, refl, refl))
every_pair Or = ((refl, refl, refl), (refl, refl, refl), (refl, refl, refl))
every_pair Nor = ((refl, refl, refl), (refl, refl, refl), (refl, refl, refl))
every_pair Xor = ((refl, refl, refl), (refl, refl, refl), (refl, refl, refl))
every_pair Eqv = ((refl, refl, refl), (refl, refl, refl), (refl, refl, refl))

pub pair_stands_at :
    (rule : Rule) {table a b : ℕ} (v w : Val)
    → table ≡ pairs_of rule
    → a ≡ code v
    → b ≡ code w
    → table / 2 ^ (8 * a + 2 * b) % 4 ≡ code (result_of rule (v ∷ w ∷ []))
pair_stands_at rule = found_at (λ v w. result_of rule (v ∷ w ∷ [])) (every_pair rule)
