-- The four gates that are withdrawn, and the gates of two inputs in their place: on three values they give the same.
use Rattle.std.specs.Prelude.{ℕ, ◌⊎◌, ◌≡◌, true, false, [], ◌∷◌}
use Rattle.std.proofs.Common.{inl, inr, sym, subst, rules}
use Rattle.meaning.specs.Values.{Val, known, un, by_fillings}
use Rattle.meaning.specs.Gates.{is_gate, gates, gate, gate_value}
use Rattle.meaning.specs.Withdrawn.{withdrawn, pair_kind, two_kind}
use Rattle.laws.specs.Tests.{if_true, tells-or, eqb_tells}

pub data Four : ℕ → Type 0 where
  nand4 : Four 4
  or4 : Four 7
  and4 : Four 12
  nor4 : Four 15

pub four-told : (kind : ℕ) → withdrawn kind ≡ true → Four kind
unfolding withdrawn
four-told kind e =
    which (if_true (tells-or (eqb_tells kind 4) (tells-or (eqb_tells kind 7) (tells-or (eqb_tells kind 12) (eqb_tells kind 15)))) e)
  where
    which : (kind ≡ 4) ⊎ ((kind ≡ 7) ⊎ ((kind ≡ 12) ⊎ (kind ≡ 15))) → Four kind
    which (inl e) = subst Four (sym e) nand4
    which (inr (inl e)) = subst Four (sym e) or4
    which (inr (inr (inl e))) = subst Four (sym e) and4
    which (inr (inr (inr e))) = subst Four (sym e) nor4

-- What is known of their numbers.
pub record FourIs (kind : ℕ) : Type 0 where
  pub gone : withdrawn kind ≡ true
  pub is_one : is_gate kind ≡ true
  pub arity : (gate kind).arity ≡ 4
  pub pair_gate : is_gate (pair_kind kind) ≡ true
  pub pair_arity : (gate (pair_kind kind)).arity ≡ 2
  pub pair_stays : withdrawn (pair_kind kind) ≡ false
  pub two_gate : is_gate (two_kind kind) ≡ true
  pub two_arity : (gate (two_kind kind)).arity ≡ 2
  pub two_stays : withdrawn (two_kind kind) ≡ false

pub four_is : {kind : ℕ} → Four kind → FourIs kind
unfolding withdrawn pair_kind two_kind gate gates
four_is nand4 = search rules
four_is or4 = search rules
four_is and4 = search rules
four_is nor4 = search rules

-- What holds at each of the three values holds at all.
abbrev Each : (Val → Type 0) → Type 0
Each P = P (known false) × P (known true) × P un

each : (P : Val → Type 0) → Each P → (v : Val) → P v
each P h (known false) = h.0
each P h (known true) = h.1
each P h un = h.2

-- A pair at a time: what one pair of arguments comes to is one of three values, whatever the pair is.
abbrev InTwo : ℕ → Val → Val → Val → Val → Type 0
InTwo kind a b c d =
    gate_value kind (a ∷ b ∷ c ∷ d ∷ [])
    ≡ gate_value (two_kind kind) (gate_value (pair_kind kind) (a ∷ b ∷ []) ∷ gate_value (pair_kind kind) (c ∷ d ∷ []) ∷ [])

each-four :
    (P : Val → Val → Val → Val → Type 0)
    → Each (λ a. Each (λ b. Each (λ c. Each (P a b c))))
    → (a b c d : Val)
    → P a b c d
each-four P h a b c d =
    each (P a b c)
    (each (λ c. Each (P a b c))
    (each (λ b. Each (λ c. Each (P a b c)))
    (each (λ a. Each (λ b. Each (λ c. Each (P a b c)))) h a) b) c) d

pub same-value : {kind : ℕ} → Four kind → (a b c d : Val) → InTwo kind a b c d
unfolding pair_kind two_kind gate_value by_fillings gate gates
same-value nand4 = each-four (InTwo 4) (search rules)
same-value or4 = each-four (InTwo 7) (search rules)
same-value and4 = each-four (InTwo 12) (search rules)
same-value nor4 = each-four (InTwo 15) (search rules)
