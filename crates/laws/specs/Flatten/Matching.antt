-- Nets of the board beside values. `Is b net v` says in which sense a net stands for a value on a board, and `Fine b` what else
-- holds of the board. An environment of nets matches one of values where the nets of all signals stand for the signals' values;
-- giving nets and values to more signals keeps that, and so does a board on which everything is kept.
use Rattle.std.specs.Prelude.{ℕ, ◌≡◌, Bool, cond, ◌⊎◌, length}
use Rattle.std.proofs.Math.Path.{refl}
use Rattle.std.proofs.Math.Bool.{true, false}
use Rattle.std.proofs.Common.{inl, inr, arith}
use mathlib.Core.List.Forall₂.{cons as more}
use mathlib.Core.List.Forall₂.{nil as none}
use mathlib.Core.List.{List, [], ◌∷◌, ◌++◌, append-nil, Forall₂}
use Rattle.std.proofs.Math.Dec.{eqb}
use Rattle.std.proofs.lemmas.Bool.{eqb-false}
use Rattle.meaning.specs.Members.{◌∈◌}
use Rattle.meaning.specs.Evaluation.{Env, look, look_all, pairs}
use Rattle.meaning.specs.Flattening.{Board}
use Rattle.laws.specs.Members.{here, there, in-none, in_left, in_right, in_either}

-- From one board to another everything is kept.
pub record Kept {A : Type 0} (Fine : Board → Type 0) (Is : Board → ℕ → A → Type 0) (a b : Board) : Type 0 where
  pub fine : Fine a → Fine b
  pub nets : (net : ℕ) (v : A) → Is a net v → Is b net v

module _ {A : Type 0} {Fine : Board → Type 0} {Is : Board → ℕ → A → Type 0} where
  pub kept-still : (b : Board) → Kept Fine Is b b
  kept-still b = record { fine = λ f. f; nets = λ net v i. i }

  pub kept_on : {a b c : Board} → Kept Fine Is a b → Kept Fine Is b c → Kept Fine Is a c
  kept_on h k = record { fine = λ f. k.fine (h.fine f); nets = λ net v i. k.nets net v (h.nets net v i) }

-- The nets of these signals stand for their values.
pub record Matches {A : Type 0} (unset : A) (Is : Board → ℕ → A → Type 0)
    (b : Board) (signals : List ℕ) (nets : Env ℕ) (env : Env A) : Type 0 where
  pub at : (x : ℕ) → x ∈ signals → Is b (look 0 x nets) (look unset x env)

module _ {A : Type 0} {unset : A} {Is : Board → ℕ → A → Type 0} where
  pub matches-kept :
      {Fine : Board → Type 0} {a b : Board} {signals : List ℕ} {nets : Env ℕ} {env : Env A}
      → Kept Fine Is a b
      → Matches unset Is a signals nets env
      → Matches unset Is b signals nets env
  matches-kept kept e = record { at = λ x i. kept.nets _ _ (e.at x i) }

  pub look_all-matches :
      {b : Board} {signals : List ℕ} {nets : Env ℕ} {env : Env A} (xs : List ℕ)
      → ((x : ℕ) → x ∈ xs → x ∈ signals)
      → Matches unset Is b signals nets env
      → Forall₂ (Is b) (look_all 0 xs nets) (look_all unset xs env)
  unfolding look_all
  look_all-matches [] bound e = none
  look_all-matches (x ∷ xs) bound e = more (e.at x (bound x (here refl))) (look_all-matches xs (λ y i. bound y (there i)) e)

  pub pairs_match :
      {b : Board} {signals : List ℕ} {nets : Env ℕ} {env : Env A} (drives : List ℕ) {ns : List ℕ} {vs : List A}
      → length drives ≡ length vs
      → Forall₂ (Is b) ns vs
      → Matches unset Is b signals nets env
      → Matches unset Is b (drives ++ signals) (pairs 0 drives ns ++ nets) (pairs unset drives vs ++ env)
  unfolding pairs look
  pairs_match [] count none e = e
  pairs_match [] count (more r rs) e = absurd (omega arith)
  pairs_match (d ∷ ds) count none e = absurd (omega arith)
  pairs_match {b} {signals} {nets} {env} (d ∷ ds) count (more {a = n} {b = v} {l₁ = ns} {l₂ = vs} r rs) e =
      record { at = λ x i. go x i (eqb x d) refl (pairs_match ds (omega arith) rs e) }
    where
      go :
          (x : ℕ)
          → x ∈ (d ∷ (ds ++ signals))
          → (t : Bool)
          → eqb x d ≡ t
          → Matches unset Is b (ds ++ signals) (pairs 0 ds ns ++ nets) (pairs unset ds vs ++ env)
          → Is b (cond t n (look 0 x (pairs 0 ds ns ++ nets))) (cond t v (look unset x (pairs unset ds vs ++ env)))
      go x i true h rest = r
      go x (here e) false h rest = absurd (eqb-false x d h e)
      go x (there i) false h rest = rest.at x i

  -- A module's inputs are the first signals.
  pub inputs_match :
      {b : Board} (inputs : List ℕ) {ns : List ℕ} {vs : List A}
      → length inputs ≡ length vs
      → Forall₂ (Is b) ns vs
      → Matches unset Is b inputs (pairs 0 inputs ns) (pairs unset inputs vs)
  inputs_match inputs count rs =
      simp append-nil at
      (pairs_match {signals = []} {nets = []} {env = []} inputs count rs (record { at = λ x i. absurd (in-none i) }))

-- The order in which signals stand does not matter.
pub in_front : {x : ℕ} (xs ys zs : List ℕ) → x ∈ (xs ++ ys ++ zs) → x ∈ (ys ++ (xs ++ zs))
in_front {x} xs ys zs i = either (in_either (xs ++ ys) i)
  where
    first : (x ∈ xs) ⊎ (x ∈ ys) → x ∈ (ys ++ (xs ++ zs))
    first (inl j) = in_right ys (in_left zs j)
    first (inr j) = in_left (xs ++ zs) j

    either : (x ∈ (xs ++ ys)) ⊎ (x ∈ zs) → x ∈ (ys ++ (xs ++ zs))
    either (inl j) = first (in_either xs j)
    either (inr j) = in_right ys (in_right xs j)
