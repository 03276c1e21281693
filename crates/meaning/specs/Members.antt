-- Membership as a type, and what the rules say by it: a net listed twice, a net in two lists, a net that a list lacks.
use Rattle.std.specs.Prelude.{ℕ}
use mathlib.Core.List.{List, ◌∷◌, Memᴰ}

infix 50 ◌∈◌
-- `x` stands somewhere in the list: at its head or in its tail.
abbrev pub ◌∈◌ : {A : Type 0} → A → List A → Type 0
x ∈ xs = Memᴰ x xs

-- A net is listed twice, at any two places.
pub data Twice : List ℕ → Type 0 where
  again : {x : ℕ} {xs : List ℕ} → x ∈ xs → Twice (x ∷ xs)
  further : {x : ℕ} {xs : List ℕ} → Twice xs → Twice (x ∷ xs)

-- A net stands in both lists.
pub record Common (xs ys : List ℕ) : Type 0 where
  pub net : ℕ
  pub in_first : net ∈ xs
  pub in_second : net ∈ ys

-- A net of the first list does not stand in the second.
pub record Lacking (xs ys : List ℕ) : Type 0 where
  pub net : ℕ
  pub listed : net ∈ xs
  pub missing : ¬ (net ∈ ys)
