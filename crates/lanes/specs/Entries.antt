-- An entry of eight words: the rows of four words, 64 in each, and for each of these words another, whether the value may be 1.
use Prim.Native.Nat.{ℕ, zero, suc, ◌+◌, ◌<◌}
use Rattle.std.specs.Prelude.{true, false, List, [], ◌∷◌, ◌≡◌, refl, get_or}
use Rattle.std.proofs.Common.{sym, ◌∙◌, arith}
use Rattle.std.proofs.Math.Path.{ap, subst, subst₂}
use Rattle.std.specs.Int.Bits.{bit_and, bit_or, bit_xor}
use Rattle.meaning.specs.Values.{Val, known}
use Rattle.gates.specs.Folds.{neutral, step, negation}
use Rattle.gates.specs.declared.folds.Fold.{Fold}
use Rattle.gates.specs.declared.folds.Fold.TheVariants.{All, Any, Odd}
use Rattle.lanes.specs.Bits.{bit-ones, bit-zero}
use Rattle.lanes.specs.Lanes.{Lane, lane_and, lane_or, lane_not, odd_is}

-- A list by its entries.
abbrev pub table : ℕ → (ℕ → ℕ) → List ℕ
table zero f = []
table (suc n) f = f 0 ∷ table n (λ i. f (suc i))

pub at_table : (n : ℕ) (f : ℕ → ℕ) (i : ℕ) → i < n → get_or (table n f) i 0 ≡ f i
at_table zero f i h = absurd (omega arith)
at_table (suc n) f zero h = refl
at_table (suc n) f (suc i) h = at_table n (λ j. f (suc j)) i (omega arith)

-- The word of the other rail.
abbrev pub across : List ℕ → List ℕ
across a = get_or a 4 0 ∷ get_or a 5 0 ∷ get_or a 6 0 ∷ get_or a 7 0 ∷ get_or a 0 0 ∷ get_or a 1 0 ∷ get_or a 2 0 ∷ get_or a 3 0 ∷ []

abbrev pub ones : ℕ
ones = 18446744073709551615

unfoldable pub and_of : List ℕ → List ℕ → List ℕ
and_of a b = table 8 (λ i. bit_and (get_or a i 0) (get_or b i 0))

unfoldable pub or_of : List ℕ → List ℕ → List ℕ
or_of a b = table 8 (λ i. bit_or (get_or a i 0) (get_or b i 0))

unfoldable pub not_of : List ℕ → List ℕ
not_of a = table 8 (λ i. bit_xor (get_or (across a) i 0) ones)

unfoldable pub xor_of : List ℕ → List ℕ → List ℕ
xor_of a b = or_of (and_of a (not_of b)) (and_of (not_of a) b)

-- The value of a row, that of a word and a place in it.
pub record Holds (q i : ℕ) (x : List ℕ) (v : Val) : Type 0 where
  pub lane : Lane i (get_or x q 0) (get_or x (4 + q) 0) v

module _ {q i : ℕ} (word : q < 4) (place : i < 64) where
  pub holds-and : {a b : List ℕ} {u v : Val} → Holds q i a u → Holds q i b v → Holds q i (and_of a b) (step All u v)
  unfolding and_of
  holds-and {a} {b} {u} {v} p r =
      let f : ℕ → ℕ = λ j. bit_and (get_or a j 0) (get_or b j 0) in
      record { lane = subst₂ (λ (l h : ℕ). Lane i l h (step All u v)) (sym (at_table 8 f q (omega arith))) (sym (at_table 8 f (4 + q) (omega arith))) (lane_and p.lane r.lane) }

  pub holds-or : {a b : List ℕ} {u v : Val} → Holds q i a u → Holds q i b v → Holds q i (or_of a b) (step Any u v)
  unfolding or_of
  holds-or {a} {b} {u} {v} p r =
      let f : ℕ → ℕ = λ j. bit_or (get_or a j 0) (get_or b j 0) in
      record { lane = subst₂ (λ (l h : ℕ). Lane i l h (step Any u v)) (sym (at_table 8 f q (omega arith))) (sym (at_table 8 f (4 + q) (omega arith))) (lane_or p.lane r.lane) }

  across-is : (a : List ℕ) → (get_or (across a) q 0 ≡ get_or a (4 + q) 0) × (get_or (across a) (4 + q) 0 ≡ get_or a q 0)
  across-is a = go q word
    where
      go : (q : ℕ) → q < 4 → (get_or (across a) q 0 ≡ get_or a (4 + q) 0) × (get_or (across a) (4 + q) 0 ≡ get_or a q 0)
      go zero h = (refl, refl)
      go (suc zero) h = (refl, refl)
      go (suc (suc zero)) h = (refl, refl)
      go (suc (suc (suc zero))) h = (refl, refl)
      go (suc (suc (suc (suc q)))) h = absurd (omega arith)

  pub holds_not : {a : List ℕ} {u : Val} → Holds q i a u → Holds q i (not_of a) (negation u)
  unfolding not_of
  holds_not {a} {u} p =
      let f : ℕ → ℕ = λ j. bit_xor (get_or (across a) j 0) ones in
      record {
        lane =
            subst₂ (λ (l h : ℕ). Lane i l h (negation u))
            (sym (at_table 8 f q (omega arith) ∙ ap (λ (n : ℕ). bit_xor n ones) (across-is a).0))
            (sym (at_table 8 f (4 + q) (omega arith) ∙ ap (λ (n : ℕ). bit_xor n ones) (across-is a).1))
            (lane_not {width = 64} place p.lane);
      }

  pub holds_xor : {a b : List ℕ} {u v : Val} → Holds q i a u → Holds q i b v → Holds q i (xor_of a b) (step Odd u v)
  unfolding xor_of
  holds_xor {a} {b} {u} {v} p r =
      subst (Holds q i (xor_of a b)) (odd_is u v) (holds-or (holds-and p (holds_not r)) (holds-and (holds_not p) r))

-- One step of a fold, and what it begins with.
abbrev pub step_of : Fold → List ℕ → List ℕ → List ℕ
step_of All a b = and_of a b
step_of Any a b = or_of a b
step_of Odd a b = xor_of a b

abbrev pub start_of : Fold → List ℕ
start_of All = table 8 (λ i. ones)
start_of Any = table 8 (λ i. 0)
start_of Odd = table 8 (λ i. 0)

module _ {q i : ℕ} (word : q < 4) (place : i < 64) where
  pub holds-step : (fold : Fold) {a b : List ℕ} {u v : Val} → Holds q i a u → Holds q i b v → Holds q i (step_of fold a b) (step fold u v)
  holds-step All = holds-and word place
  holds-step Any = holds-or word place
  holds-step Odd = holds_xor word place

  holds-zeros : Holds q i (table 8 (λ j. 0)) (known false)
  holds-zeros =
      record {
        lane =
            subst₂ (λ (l h : ℕ). Lane i l h (known false)) (sym (at_table 8 (λ j. 0) q (omega arith))) (sym (at_table 8 (λ j. 0) (4 + q) (omega arith)))
            (record { low-is = bit-zero i; high_is = bit-zero i });
      }

  pub holds-start : (fold : Fold) → Holds q i (start_of fold) (known (neutral fold))
  holds-start All =
      record {
        lane =
            subst₂ (λ (l h : ℕ). Lane i l h (known true)) (sym (at_table 8 (λ j. ones) q (omega arith))) (sym (at_table 8 (λ j. ones) (4 + q) (omega arith)))
            (record { low-is = bit-ones 64 i place; high_is = bit-ones 64 i place });
      }
  holds-start Any = holds-zeros
  holds-start Odd = holds-zeros

-- What nothing gave a value reads as 0.
pub holds-none : (q i : ℕ) → Holds q i [] (known false)
holds-none q i = record { lane = record { low-is = bit-zero i; high_is = bit-zero i } }
