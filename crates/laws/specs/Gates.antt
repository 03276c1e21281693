-- Laws of the sixteen gates on three values, as document 01 states them, and its traps as facts.
use Rattle.std.specs.Prelude.{ℕ, ◌≤◌, Bool, true, false, List, [], ◌∷◌, map, ◌↔◌, ◌≡◌, refl}
use Rattle.std.proofs.Common.{lit≤}
use Rattle.meaning.specs.Values.{Val, known, un, Fills, by_fillings, value, code}
use Rattle.meaning.specs.Gates.{gate, gates, gate_value, gate_code}
use Rattle.laws.specs.Fillings.{Gives, Keeps, Refines, known_exactly, unknown_exactly, on-known, monotone}

-- On known values a gate is the Boolean function of its name.
pub gate-on-known : (number : ℕ) (bs : List Bool) → gate_value number (map known bs) ≡ known ((gate number).function bs)
unfolding gate_value
gate-on-known number = on-known (gate number).function

-- With unknown arguments its result is known exactly when every filling of them gives that same result,
pub gate-known_exactly : (number : ℕ) (vs : List Val) (b : Bool)
    → gate_value number vs ≡ known b ↔ ((bs : List Bool) → Fills vs bs → (gate number).function bs ≡ b)
unfolding gate_value
gate-known_exactly number = known_exactly (gate number).function

-- and otherwise unknown: one filling gives false, another true.
pub gate_unknown_exactly : (number : ℕ) (vs : List Val)
    → gate_value number vs ≡ un ↔ (Gives (gate number).function vs false × Gives (gate number).function vs true)
unfolding gate_value
gate_unknown_exactly number = unknown_exactly (gate number).function

-- Where each known argument keeps its value, a known result keeps its value.
pub gate-monotone : (number : ℕ) {vs ws : List Val} → Refines vs ws → Keeps (gate_value number vs) (gate_value number ws)
unfolding gate_value
gate-monotone number = monotone (gate number).function

-- A gate's result is 0, 1 or 2.
pub gate-code-small : (number : ℕ) (xs : List ℕ) → gate_code number xs ≤ 2
unfolding gate_code
gate-code-small number xs = small (gate_value number (map value xs))
  where
    small : (v : Val) → code v ≤ 2
    small (known false) = lit≤ tt
    small (known true) = lit≤ tt
    small un = lit≤ tt

-- B-AND of 0 and 2 is 0.
pub and-of_false_and_unknown : gate_code 10 (0 ∷ 2 ∷ []) ≡ 0
unfolding gate_code gate_value by_fillings gate gates
and-of_false_and_unknown = refl

-- B-XOR with a 2 is 2, at either place and whatever the other value is.
pub xor_with_unknown : (x : ℕ) → (gate_code 9 (2 ∷ x ∷ []) ≡ 2) × (gate_code 9 (x ∷ 2 ∷ []) ≡ 2)
unfolding gate_code gate_value by_fillings gate gates
xor_with_unknown x = go (value x)
  where
    go : (v : Val) → (code (gate_value 9 (un ∷ v ∷ [])) ≡ 2) × (code (gate_value 9 (v ∷ un ∷ [])) ≡ 2)
    go (known false) = (refl, refl)
    go (known true) = (refl, refl)
    go un = (refl, refl)

-- B-AND of a net and its negation is 2 while the net is unknown: each place is filled by itself.
pub and_with_own-negation : gate_code 10 (2 ∷ gate_code 1 (2 ∷ []) ∷ []) ≡ 2
unfolding gate_code gate_value by_fillings gate gates
and_with_own-negation = refl
