-- The rewriting makes no module more than twice as slow: two gates one behind the other stand in place of one.
use Rattle.std.specs.Prelude.{ℕ, suc, zero, ◌+◌, ◌*◌, ◌≤◌, max, ◌≡◌, refl, Bool, true, false, cond, eqb, replicate}
use mathlib.Core.List.Forall₂.{cons}
use mathlib.Core.List.Forall₂.{nil}
use mathlib.Core.List.{List, [], ◌∷◌, Forall₂}
use Rattle.std.proofs.Common.{arith}
use Rattle.meaning.specs.Syntax.{Module}
use Rattle.meaning.specs.Boxlist.{Found, box, F, assoc}
use Rattle.meaning.specs.Figures.{largest, arrivals, input_count, delay_by, delay}
use Rattle.meaning.specs.Withdrawn.{rewrite_module, rewrite_file}
use Rattle.laws.specs.WellFormed.{Accepted}
use Rattle.laws.specs.Withdrawn.Same.{Keeping, rewritten-run}

-- A time and one that is at most twice as late.
abbrev Twice : ℕ → ℕ → Type 0
Twice t t' = t' ≤ 2 * t

largest-twice : {ts ts' : List ℕ} → Forall₂ Twice ts ts' → largest ts' ≤ 2 * largest ts
unfolding largest
largest-twice nil = omega arith
largest-twice (cons h hs) = omega (arith, largest-twice hs)

-- Two gates behind each other, where each of the first two is late by at most twice the latest of four.
late : (p q latest : ℕ) → p ≤ 2 * latest → q ≤ 2 * latest → 1 + max (1 + p) (max (1 + q) 0) ≤ 2 * (1 + latest)
late p q latest h k = omega arith

first-pair : (a b c d : ℕ) → max a (max b 0) ≤ max a (max b (max c (max d 0)))
first-pair a b c d = omega arith

last-pair : (a b c d : ℕ) → max c (max d 0) ≤ max a (max b (max c (max d 0)))
last-pair a b c d = omega arith

gates-keep : Keeping Twice (λ kind ts. 1 + largest ts) (λ kind ts. 1 + largest ts)
unfolding largest
gates-keep =
    record {
      gates = λ kind rs. omega (arith, largest-twice rs);
      threes = λ four a b c d a' b' c' d' ea eb ec ed.
          late _ _ _
          (within (max a' (max b' 0)) _ _ (largest-twice (cons {b = a'} ea (cons {b = b'} eb nil))) (first-pair a b c d))
          (within (max c' (max d' 0)) _ _ (largest-twice (cons {b = c'} ec (cons {b = d'} ed nil))) (last-pair a b c d));
    }
  where
    within : (p q r : ℕ) → p ≤ 2 * q → q ≤ r → p ≤ 2 * r
    within p q r h k = omega arith

zeros : (n : ℕ) → Forall₂ Twice (replicate n 0) (replicate n 0)
zeros zero = nil
zeros (suc n) = cons {a = 0} {b = 0} (omega arith) (zeros n)

-- A module has as many inputs as before.
pub found-rewritten : (number : ℕ) (ms : List Module) {n : Module} → assoc number ms ≡ box n → assoc number (rewrite_file ms) ≡ box (rewrite_module n)
unfolding assoc rewrite_file rewrite_module
found-rewritten number [] e = absurd (let z : ◌≡◌ {A = ℕ} 0 1 = cc in omega arith)
found-rewritten number (m ∷ ms) {n} e = go (eqb number m.number) e (found-rewritten number ms)
  where
    go :
        (b : Bool)
        → cond b (box m) (assoc number ms) ≡ box n
        → (assoc number ms ≡ box n → assoc number (rewrite_file ms) ≡ box (rewrite_module n))
        → cond b (box (rewrite_module m)) (assoc number (rewrite_file ms)) ≡ box (rewrite_module n)
    go true found rest = let same : m ≡ n = cc in rw same
    go false found rest = rest found

pub none-rewritten : (number : ℕ) (ms : List Module) → assoc number ms ≡ F → assoc number (rewrite_file ms) ≡ F
unfolding assoc rewrite_file rewrite_module
none-rewritten number [] e = refl
none-rewritten number (m ∷ ms) e = go (eqb number m.number) e (none-rewritten number ms)
  where
    go :
        (b : Bool)
        → cond b (box m) (assoc number ms) ≡ F
        → (assoc number ms ≡ F → assoc number (rewrite_file ms) ≡ F)
        → cond b (box (rewrite_module m)) (assoc number (rewrite_file ms)) ≡ F
    go true found rest = absurd (let z : ◌≡◌ {A = ℕ} 0 1 = cc in omega arith)
    go false found rest = rest found

inputs-same : (number : ℕ) (ms : List Module) → input_count (assoc number (rewrite_file ms)) ≡ input_count (assoc number ms)
unfolding rewrite_module
inputs-same number ms = go (assoc number ms) refl
  where
    go : (f : Found) → assoc number ms ≡ f → input_count (assoc number (rewrite_file ms)) ≡ input_count f
    go (box m) e = rw (found-rewritten number ms e)
    go F e = rw (none-rewritten number ms e)

pub at-most-twice : {ms : List Module} → Accepted ms → (number : ℕ) → delay (rewrite_file ms) number ≤ 2 * delay ms number
unfolding delay delay_by arrivals
at-most-twice {ms} accepted number =
    rw (inputs-same number ms)
    (largest-twice (rewritten-run Twice 0 0 (omega arith) (λ kind ts. 1 + largest ts) (λ kind ts. 1 + largest ts) gates-keep accepted number (zeros (input_count (assoc number ms)))))
