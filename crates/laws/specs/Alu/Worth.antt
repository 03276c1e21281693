-- Bits by their places, as a number: the bit at place i counts 2^i.
use Rattle.std.specs.Prelude.{ℕ, zero, suc, ◌+◌, ◌*◌, ◌^◌, ◌/◌, ◌%◌, ◌<◌, ◌≤◌, ◌≡◌, refl, Bool, true, false, not, cond, eqb, ltb, leb}
use Rattle.std.proofs.Common.{sym, ap, ◌∙◌, add-zero, arith, lt-ltb, le-ltb, le-leb}
use Rattle.std.proofs.lemmas.Bool.{lt-leb}
use Rattle.meaning.specs.Evaluation.{Env, look, look_all}
use Rattle.meaning.specs.Adder.{up_from, bit, binary}
use Rattle.meaning.specs.Operations.{each_bit}

-- A bit that counts so much.
abbrev pub worth : (power : ℕ) → Bool → ℕ
worth power b = cond b power 0

unfoldable pub up_to : (ℕ → Bool) → (count : ℕ) → ℕ
up_to f zero = 0
up_to f (suc m) = up_to f m + worth (2 ^ m) (f m)

up_to-suc : (f : ℕ → Bool) (m : ℕ) → up_to f (suc m) ≡ up_to f m + worth (2 ^ m) (f m)
unfolding up_to
up_to-suc f m = refl

pub worth-most : (power : ℕ) (b : Bool) → worth power b ≤ power
worth-most power true = omega arith
worth-most power false = omega arith

pub worth_not : (power : ℕ) (b : Bool) → worth power (not b) + worth power b ≡ power
worth_not power true = omega arith
worth_not power false = omega arith

pub up_to-alike : (f g : ℕ → Bool) (m : ℕ) → ((i : ℕ) → i < m → f i ≡ g i) → up_to f m ≡ up_to g m
unfolding up_to
up_to-alike f g zero same = refl
up_to-alike f g (suc m) same =
    rw (up_to-alike f g m (λ i low. same i (omega arith)), same m (omega arith))

pub up_to-below : (f : ℕ → Bool) (m : ℕ) → up_to f m < 2 ^ m
unfolding up_to
up_to-below f zero = omega arith
up_to-below f (suc m) = omega (arith, up_to-below f m, worth-most (2 ^ m) (f m))

-- None, all, and each the other way.
pub up_to-none : (m : ℕ) → up_to (λ i. false) m ≡ 0
unfolding up_to
up_to-none zero = refl
up_to-none (suc m) = omega (arith, up_to-none m)

pub up_to-all : (m : ℕ) → up_to (λ i. true) m + 1 ≡ 2 ^ m
unfolding up_to
up_to-all zero = refl
up_to-all (suc m) = omega (arith, up_to-all m)

pub up_to_not : (f : ℕ → Bool) (m : ℕ) → up_to (λ i. not (f i)) m + up_to f m + 1 ≡ 2 ^ m
unfolding up_to
up_to_not f zero = refl
up_to_not f (suc m) = omega (arith, up_to_not f m, worth_not (2 ^ m) (f m))

-- The lowest bit, and the others one place down.
pub up_to-lowest : (f : ℕ → Bool) (m : ℕ) → up_to f (suc m) ≡ bit (f 0) + 2 * up_to (λ i. f (suc i)) m
unfolding up_to
up_to-lowest f zero = omega arith
up_to-lowest f (suc m) =
    let twice : worth (2 ^ suc m) (f (suc m)) ≡ 2 * worth (2 ^ m) (f (suc m)) =
    double (f (suc m))
    in
    omega (arith, up_to-lowest f m)
  where
    double : (b : Bool) → worth (2 ^ suc m) b ≡ 2 * worth (2 ^ m) b
    double true = let twice : 2 ^ suc m ≡ 2 * 2 ^ m = omega arith in twice
    double false = refl

pub lowest_odd : (f : ℕ → Bool) (m : ℕ) → eqb (up_to f (suc m) % 2) 1 ≡ f 0
lowest_odd f m = go (f 0) (up_to f (suc m)) (up_to (λ i. f (suc i)) m) (up_to-lowest f m)
  where
    go : (b : Bool) (number rest : ℕ) → number ≡ bit b + 2 * rest → eqb (number % 2) 1 ≡ b
    go true number rest e = let one : number % 2 ≡ 1 = omega arith in rw one
    go false number rest e = let none : number % 2 ≡ 0 = omega arith in rw none

-- All one place down, with one more bit at the top.
pub one_down :
    (f : ℕ → Bool) (k : ℕ) (high : Bool) → f (suc k) ≡ high
    → up_to (λ i. f (suc i)) (suc k) ≡ up_to f (suc k) / 2 + cond high (2 ^ k) 0
one_down f k high at_top = go (f 0) high (up_to f (suc k)) (up_to (λ i. f (suc i)) (suc k)) (top high at_top ∙ up_to-lowest f (suc k))
  where
    top : (high : Bool) → f (suc k) ≡ high → up_to f (suc k) + worth (2 * 2 ^ k) high ≡ up_to f (suc (suc k))
    top high e = ap (λ (w : ℕ). up_to f (suc k) + w) (double high ∙ ap (worth (2 ^ suc k)) (sym e)) ∙ sym (up_to-suc f (suc k))
      where
        double : (b : Bool) → worth (2 * 2 ^ k) b ≡ worth (2 ^ suc k) b
        double true = let twice : 2 * 2 ^ k ≡ 2 ^ suc k = omega arith in twice
        double false = refl

    go : (low high : Bool) (number rest : ℕ) → number + worth (2 * 2 ^ k) high ≡ bit low + 2 * rest
        → rest ≡ number / 2 + cond high (2 ^ k) 0
    go true true number rest e = omega arith
    go true false number rest e = omega arith
    go false true number rest e = omega arith
    go false false number rest e = omega arith

-- What a row of nets holds, as a number.
pub binary-held :
    (env : Env Bool) (s m : ℕ) → binary (look_all false (up_from s m) env) ≡ up_to (λ i. look false (s + i) env) m
unfolding look_all up_from binary up_to
binary-held env s zero = refl
binary-held env s (suc m) =
    let place : s + 0 ≡ s = add-zero s in
    let on : up_to (λ i. look false (suc s + i) env) m ≡ up_to (λ i. look false (s + suc i) env) m =
    up_to-alike _ _ m (λ i low. let same : suc s + i ≡ s + suc i = omega arith in rw same)
    in
    let lowest = up_to-lowest (λ i. look false (s + i) env) m in
    let first : bit (look false (s + 0) env) ≡ bit (look false s env) = rw place in
    omega (arith, binary-held env (suc s) m)

pub binary-each :
    (h : Bool → Bool → Bool) (env : Env Bool) (s t m : ℕ)
    → binary (each_bit h (look_all false (up_from s m) env) (look_all false (up_from t m) env))
    ≡ up_to (λ i. h (look false (s + i) env) (look false (t + i) env)) m
unfolding look_all up_from binary each_bit up_to
binary-each h env s t zero = refl
binary-each h env s t (suc m) =
    let f : ℕ → Bool = λ i. h (look false (s + i) env) (look false (t + i) env) in
    let on : up_to (λ i. h (look false (suc s + i) env) (look false (suc t + i) env)) m ≡ up_to (λ i. f (suc i)) m =
    up_to-alike _ _ m (λ i low.
    let one : suc s + i ≡ s + suc i = omega arith in
    let two : suc t + i ≡ t + suc i = omega arith in
    rw (one, two))
    in
    let first : bit (h (look false (s + 0) env) (look false (t + 0) env)) ≡ bit (h (look false s env) (look false t env)) =
    rw (add-zero s, add-zero t)
    in
    binary-each-cons on first (up_to-lowest f m) (binary-each h env (suc s) (suc t) m)
  where
    binary-each-cons : {low low' rest rest' all held : ℕ}
        → rest ≡ rest' → low' ≡ low → all ≡ low' + 2 * rest' → held ≡ rest → low + 2 * held ≡ all
    binary-each-cons a b c d = omega arith

-- The top bit tells whether a number is below the half.
pub top_below : (f : ℕ → Bool) (k : ℕ) → ltb (up_to f (suc k)) (2 ^ k) ≡ not (f k)
unfolding up_to
top_below f k = go (f k)
  where
    go : (b : Bool) → ltb (up_to f k + worth (2 ^ k) b) (2 ^ k) ≡ not b
    go true = le-ltb (up_to f k + 2 ^ k) (2 ^ k) (omega arith)
    go false = lt-ltb (up_to f k + 0) (2 ^ k) (omega (arith, up_to-below f k))

pub top_from : (f : ℕ → Bool) (k : ℕ) → leb (2 ^ k) (up_to f (suc k)) ≡ f k
unfolding up_to
top_from f k = go (f k)
  where
    go : (b : Bool) → leb (2 ^ k) (up_to f k + worth (2 ^ k) b) ≡ b
    go true = le-leb (2 ^ k) (up_to f k + 2 ^ k) (omega arith)
    go false = lt-leb (2 ^ k) (up_to f k + 0) (omega (arith, up_to-below f k))
