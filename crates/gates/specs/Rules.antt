-- The Boolean function of each gate is that of its rule on its first arguments: a fold of B-AND, B-OR or B-XOR, negated or not.
use Rattle.std.specs.Prelude.{ℕ, zero, suc, ◌<◌, Bool, true, false, not, ◌≡◌, refl, length, get_or}
use Rattle.std.proofs.Math.Bool.{and-true, or-false}
use mathlib.Core.List.{List, [], ◌∷◌, Forall₂}
use Rattle.std.proofs.Common.{◌∙◌, arith, get_or-drop, drop-drop}
use Rattle.meaning.specs.Gates.{Gate, one, two, three, four, gates, gate}
use Rattle.meaning.specs.Gates.{B-BUF, B-NOT, B-NAND, B-NAND3, B-NAND4, B-OR, B-OR3, B-OR4, B-EQV, B-XOR}
use Rattle.meaning.specs.Gates.{B-AND, B-AND3, B-AND4, B-NOR, B-NOR3, B-NOR4}
use Rattle.laws.specs.Folds.{firsts}
use Rattle.gates.specs.Kind.{rules}
use Rattle.gates.specs.Folding.{means}
use Rattle.gates.specs.declared.Rule.{Rule}
use Rattle.gates.specs.declared.Rule.TheVariants.{And, Nand, Or, Nor, Xor, Eqv}

-- A gate's function is that of a rule.
pub record Computes (g : Gate) (rule : Rule) : Type 0 where
  pub computes : (bs : List Bool) → g.function bs ≡ means rule (firsts false g.arity bs)

-- It is enough to look at one, two, three or four Booleans.

of_one : (f : Bool → Bool) (rule : Rule) → ((a : Bool) → f a ≡ means rule (a ∷ [])) → Computes (one f) rule
of_one f rule h = record { computes = λ bs. h (get_or bs 0 false) }

of_two : (f : Bool → Bool → Bool) (rule : Rule) → ((a b : Bool) → f a b ≡ means rule (a ∷ b ∷ [])) → Computes (two f) rule
of_two f rule h = record { computes = λ bs. simp get_or-drop (h (get_or bs 0 false) (get_or bs 1 false)) }

of_three : (f : Bool → Bool → Bool → Bool) (rule : Rule) → ((a b c : Bool) → f a b c ≡ means rule (a ∷ b ∷ c ∷ []))
    → Computes (three f) rule
of_three f rule h =
    record { computes = λ bs. simp (get_or-drop, drop-drop) (h (get_or bs 0 false) (get_or bs 1 false) (get_or bs 2 false)) }

of_four : (f : Bool → Bool → Bool → Bool → Bool) (rule : Rule)
    → ((a b c d : Bool) → f a b c d ≡ means rule (a ∷ b ∷ c ∷ d ∷ [])) → Computes (four f) rule
of_four f rule h =
    record {
      computes =
          λ bs. simp (get_or-drop, drop-drop) (h (get_or bs 0 false) (get_or bs 1 false) (get_or bs 2 false) (get_or bs 3 false));
    }

buf_is-itself : (b : Bool) → B-BUF b ≡ b
buf_is-itself true = refl
buf_is-itself false = refl

xor_false : (b : Bool) → B-XOR b false ≡ b
xor_false true = refl
xor_false false = refl

eqv_is_not_xor : (a b : Bool) → B-EQV a b ≡ not (B-XOR a b)
eqv_is_not_xor true true = refl
eqv_is_not_xor true false = refl
eqv_is_not_xor false true = refl
eqv_is_not_xor false false = refl

infixr 5 ◌then◌
◌then◌ : {g : Gate} {rule : Rule} {gs : List Gate} {rs : List Rule}
    → Computes g rule → Forall₂ Computes gs rs → Forall₂ Computes (g ∷ gs) (rule ∷ rs)
h then hs = Forall₂.cons h hs

-- The sixteen gates and their rules, in order.
in_order : Forall₂ Computes gates rules
unfolding gates rules
in_order =
    of_one B-BUF And (λ a. simp (buf_is-itself, and-true))
    then of_one B-NOT Nand (λ a. simp and-true)
    then of_two B-NAND Nand (λ a b. simp and-true)
    then of_three B-NAND3 Nand (λ a b c. simp and-true)
    then of_four B-NAND4 Nand (λ a b c d. simp and-true)
    then of_two B-OR Or (λ a b. simp or-false)
    then of_three B-OR3 Or (λ a b c. simp or-false)
    then of_four B-OR4 Or (λ a b c d. simp or-false)
    then of_two B-EQV Eqv (λ a b. eqv_is_not_xor a b ∙ simp xor_false)
    then of_two B-XOR Xor (λ a b. simp xor_false)
    then of_two B-AND And (λ a b. simp and-true)
    then of_three B-AND3 And (λ a b c. simp and-true)
    then of_four B-AND4 And (λ a b c d. simp and-true)
    then of_two B-NOR Nor (λ a b. simp or-false)
    then of_three B-NOR3 Nor (λ a b c. simp or-false)
    then of_four B-NOR4 Nor (λ a b c d. simp or-false)
    then Forall₂.nil

-- What holds of two lists in step holds at each number.
at : {gs : List Gate} {rs : List Rule} → Forall₂ Computes gs rs → (n : ℕ) → n < length gs → (g : Gate) (rule : Rule)
    → Computes (get_or gs n g) (get_or rs n rule)
at Forall₂.nil n less g rule = absurd (omega arith)
at (Forall₂.cons h hs) zero less g rule = h
at (Forall₂.cons h hs) (suc n) less g rule = at hs n (omega arith) g rule

pub gate-computes : (number : ℕ) → number < 16 → Computes (gate number) (get_or rules number And)
unfolding gate gates
gate-computes number below = at in_order number below _ And
