-- Nets given to as many others: each of those reads as one of them, no two as the same where none is listed twice, and any other
-- net reads as before.
use Rattle.std.specs.Prelude.{ℕ, ◌≡◌, Bool, length}
use Rattle.std.proofs.Math.Path.{refl}
use Rattle.std.proofs.Common.{sym, ◌∙◌, arith, eqb-true, ne_eqb}
use Rattle.std.proofs.Math.Bool.{true, false, cond}
use mathlib.Core.List.{List, [], ◌∷◌, ◌++◌}
use Rattle.std.proofs.Math.Dec.{eqb}
use Rattle.std.proofs.lemmas.Bool.{eqb-false}
use Rattle.meaning.specs.Members.{◌∈◌, Twice, again, further}
use Rattle.meaning.specs.Evaluation.{Env, look, pairs}
use Rattle.laws.specs.Members.{here, there, in-none, same_in}

-- A member that is not the first stands further on.
past : {x d : ℕ} {ds : List ℕ} → eqb x d ≡ false → x ∈ (d ∷ ds) → x ∈ ds
past {x} {d} e (here same) = absurd (eqb-false x d e same)
past e (there i) = i

module _ (env : Env ℕ) where
  pub look-given :
      (drives nets : List ℕ)
      → length drives ≡ length nets
      → (x : ℕ)
      → x ∈ drives
      → look 0 x (pairs 0 drives nets ++ env) ∈ nets
  unfolding look pairs
  look-given [] nets count x i = absurd (in-none i)
  look-given (d ∷ ds) [] count x i = absurd (omega arith)
  look-given (d ∷ ds) (n ∷ ns) count x i = go (eqb x d) refl (look-given ds ns (omega arith) x)
    where
      go :
          (b : Bool)
          → eqb x d ≡ b
          → (x ∈ ds → look 0 x (pairs 0 ds ns ++ env) ∈ ns)
          → cond b n (look 0 x (pairs 0 ds ns ++ env)) ∈ (n ∷ ns)
      go true e rest = here refl
      go false e rest = there (rest (past e i))

  pub look-apart :
      (drives nets : List ℕ)
      → length drives ≡ length nets
      → ¬ (Twice nets)
      → (x y : ℕ)
      → x ∈ drives
      → y ∈ drives
      → look 0 x (pairs 0 drives nets ++ env) ≡ look 0 y (pairs 0 drives nets ++ env)
      → x ≡ y
  unfolding look pairs
  look-apart [] nets count once x y i j e = absurd (in-none i)
  look-apart (d ∷ ds) [] count once x y i j e = absurd (omega arith)
  look-apart (d ∷ ds) (n ∷ ns) count once x y i j e =
      go (eqb x d) refl (eqb y d) refl e (look-apart ds ns (omega arith) (λ t. once (further t)) x y)
    where
      given : (z : ℕ) → eqb z d ≡ false → z ∈ (d ∷ ds) → look 0 z (pairs 0 ds ns ++ env) ∈ ns
      given z e k = look-given ds ns (omega arith) z (past e k)

      go :
          (a : Bool)
          → eqb x d ≡ a
          → (b : Bool)
          → eqb y d ≡ b
          → cond a n (look 0 x (pairs 0 ds ns ++ env)) ≡ cond b n (look 0 y (pairs 0 ds ns ++ env))
          → (x ∈ ds → y ∈ ds → look 0 x (pairs 0 ds ns ++ env) ≡ look 0 y (pairs 0 ds ns ++ env) → x ≡ y)
          → x ≡ y
      go true ex true ey e rest = eqb-true x d ex ∙ sym (eqb-true y d ey)
      go true ex false ey e rest = absurd (once (again (same_in e (given y ey j))))
      go false ex true ey e rest = absurd (once (again (same_in (sym e) (given x ex i))))
      go false ex false ey e rest = rest (past ex i) (past ey j) e

  pub look-other : (drives nets : List ℕ) (x : ℕ) → ¬ (x ∈ drives) → look 0 x (pairs 0 drives nets ++ env) ≡ look 0 x env
  unfolding look pairs
  look-other [] nets x out = refl
  look-other (d ∷ ds) [] x out = rw (ne_eqb x d (λ e. out (here e))) (look-other ds [] x (λ i. out (there i)))
  look-other (d ∷ ds) (n ∷ ns) x out = rw (ne_eqb x d (λ e. out (here e))) (look-other ds ns x (λ i. out (there i)))
