-- Nets that stand in a row: what is equal of two rows is equal net by net, and a row of one gate gives an equation for each bit. For
-- values of any kind and whatever gates make of them.
use Prim.Native.Nat.{ℕ, zero, suc, ◌+◌, ◌<◌}
use Rattle.std.specs.Prelude.{◌≡◌, true}
use mathlib.Core.List.{List, [], ◌∷◌, ◌++◌}
use Rattle.std.proofs.Math.Nat.{add-zero, add-suc, suc-add}
use Rattle.std.proofs.Common.{arith}
use Rattle.meaning.specs.Lists.{All}
use Rattle.meaning.specs.Syntax.{Occurrence, Module}
use Rattle.meaning.specs.Gates.{is_gate}
use Rattle.meaning.specs.Evaluation.{Env, look, look_all}
use Rattle.meaning.specs.Adder.{up_from}
use Rattle.meaning.specs.FastAdder.{gate_row}
use Rattle.laws.specs.FastAdder.Equations.{Satisfied}
use Rattle.laws.specs.FastAdder.Looks.{first, after}

module _ {A : Type 0} (unset : A) where
  -- Runs of nets that hold the same hold the same at each place.
  pub same_at :
      (a b count : ℕ) (old new : Env A)
      → look_all unset (up_from a count) new ≡ look_all unset (up_from b count) old
      → (i : ℕ)
      → i < count
      → look unset (a + i) new ≡ look unset (b + i) old
  unfolding look_all up_from
  same_at a b zero old new same i low = absurd (omega arith)
  same_at a b (suc count) old new same zero low = rw (add-zero a, add-zero b) (cc)
  same_at a b (suc count) old new same (suc i) low =
      rw (add-suc a i, ← suc-add a i, add-suc b i, ← suc-add b i)
      (same_at (suc a) (suc b) count old new (cc) i (omega arith))

-- A row of one gate of two arguments.
module _ {A : Type 0} (unset : A) (gate_result : ℕ → List A → A) (later : List Module) (env : Env A) (kind : ℕ)
    (is-gate : is_gate kind ≡ true) where
  abbrev Holds : Occurrence → Type 0
  Holds = Satisfied unset gate_result later env

  abbrev GateAt : (net a b : ℕ) → Type 0
  GateAt net a b = look unset net env ≡ gate_result kind (look unset a env ∷ look unset b env ∷ [])

  pub gate-equation :
      (net a b : ℕ) → Holds (record { drives = net ∷ []; refers = kind; takes = a ∷ b ∷ [] }) → GateAt net a b
  unfolding look_all
  gate-equation net a b h =
      let both : look unset net env ∷ [] ≡ gate_result kind (look unset a env ∷ look unset b env ∷ []) ∷ [] =
      rw is-gate at h.equation
      in
      cc

  pub row_equations :
      (net a b count : ℕ) (rest : List Occurrence)
      → All Holds (gate_row kind net a b count ++ rest)
      → ((i : ℕ) → i < count → GateAt (net + i) (a + i) (b + i)) × All Holds rest
  unfolding gate_row
  row_equations net a b zero rest h = (λ i low. absurd (omega arith), h)
  row_equations net a b (suc count) rest h =
      let (later, rest-h) = row_equations (suc net) (suc a) (suc b) count rest (after h) in
      (λ i low. go (gate-equation net a b (first h)) later i low, rest-h)
    where
      go :
          GateAt net a b
          → ((i : ℕ) → i < count → GateAt (suc net + i) (suc a + i) (suc b + i))
          → (i : ℕ)
          → i < suc count
          → GateAt (net + i) (a + i) (b + i)
      go here later zero low = rw (add-zero net, add-zero a, add-zero b) here
      go here later (suc i) low =
          rw (add-suc net i, ← suc-add net i, add-suc a i, ← suc-add a i, add-suc b i, ← suc-add b i) (later i (omega arith))
