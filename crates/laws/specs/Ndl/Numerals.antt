-- A number in decimal is digits only, at least one, and gives the number back; so numerals that end at a byte that is no digit are equal
-- only if the numbers are.
use Rattle.std.specs.Prelude.{ℕ, zero, suc, ◌+◌, ◌*◌, ◌-◌, ◌/◌, ◌%◌, ◌≤◌, ◌<◌, ◌^◌, ◌≡◌, refl, Bool, true, false, cond, List, [], ◌∷◌, ◌++◌, ltb, leb, length}
use Rattle.std.proofs.Common.{sym, ap, ◌∙◌, arith, pow-suc, length-append, ltb-true, ltb-false, le-leb}
use Rattle.meaning.specs.Ceilings.{Small}
use Rattle.meaning.specs.Listing.{decimal_within, decimal}
use Rattle.meaning.specs.Ndl.{every, is_digit}
use Rattle.laws.specs.Ndl.Spans.{every_append, Stops, span_cut}

-- A digit is a digit.
digit : (d : ℕ) → d < 10 → every is_digit ((48 + d) ∷ []) ≡ true
unfolding every
digit d low = rw (le-leb 48 (48 + d) (omega arith), le-leb (48 + d) 57 (omega arith))

pub digits-within : (most n : ℕ) → every is_digit (decimal_within most n) ≡ true
unfolding decimal_within every
digits-within zero n = refl
digits-within (suc k) n = go (ltb n 10) refl (digits-within k (n / 10))
  where
    go : (b : Bool) → ltb n 10 ≡ b → every is_digit (decimal_within k (n / 10)) ≡ true
        → every is_digit (cond b ((48 + n) ∷ []) (decimal_within k (n / 10) ++ ((48 + n % 10) ∷ []))) ≡ true
    go true e h = digit n (ltb-true n 10 e)
    go false e h = every_append is_digit (decimal_within k (n / 10)) _ h (digit (n % 10) (omega arith))

pub digits : (n : ℕ) → every is_digit (decimal n) ≡ true
unfolding decimal
digits n = digits-within 20 n

-- At least one.
pub some-digit : (n : ℕ) → 1 ≤ length (decimal n)
unfolding decimal decimal_within
some-digit n = go (ltb n 10)
  where
    go : (b : Bool) → 1 ≤ length (cond b ((48 + n) ∷ []) (decimal_within 19 (n / 10) ++ ((48 + n % 10) ∷ [])))
    go true = omega arith
    go false = simp length-append (omega arith)

-- What digits are worth behind a number.
unfoldable worth : ℕ → List ℕ → ℕ
worth n [] = n
worth n (d ∷ ds) = worth (10 * n + (d - 48)) ds

worth-append : (n : ℕ) (xs ys : List ℕ) → worth n (xs ++ ys) ≡ worth (worth n xs) ys
unfolding worth
worth-append n [] ys = refl
worth-append n (x ∷ xs) ys = worth-append (10 * n + (x - 48)) xs ys

-- A number of two digits or more has one digit less in its tenth.
pub fewer : (k n : ℕ) → 10 ≤ n → n < 10 ^ suc k → (n / 10 < 10 ^ k) × (1 ≤ k)
fewer zero n ten few = absurd (omega (arith, few))
fewer (suc k) n ten few = (omega (arith, few, pow-suc 10 (suc k)), omega arith)

worth-within : (most n : ℕ) → n < 10 ^ most → 1 ≤ most → worth 0 (decimal_within most n) ≡ n
unfolding decimal_within worth
worth-within zero n small some = absurd (omega (arith, some))
worth-within (suc k) n small some = go (ltb n 10) refl (worth-within k (n / 10))
  where
    go : (b : Bool) → ltb n 10 ≡ b → (n / 10 < 10 ^ k → 1 ≤ k → worth 0 (decimal_within k (n / 10)) ≡ n / 10)
        → worth 0 (cond b ((48 + n) ∷ []) (decimal_within k (n / 10) ++ ((48 + n % 10) ∷ []))) ≡ n
    go true e tenth = omega arith
    go false e tenth =
        let f = fewer k n (ltb-false n 10 e) small in
        worth-append 0 (decimal_within k (n / 10)) ((48 + n % 10) ∷ [])
        ∙ ap (λ (t : ℕ). 10 * t + (48 + n % 10 - 48)) (tenth f.0 f.1)
        ∙ omega arith

pub equal_numerals : (a b : ℕ) → Small a → Small b → decimal a ≡ decimal b → a ≡ b
unfolding decimal
equal_numerals a b few low e =
    sym (worth-within 20 a (omega arith) (omega arith)) ∙ ap (worth 0) e ∙ worth-within 20 b (omega arith) (omega arith)

pub cut-number :
    (a b : ℕ) {r s : List ℕ} → Small a → Small b → Stops is_digit r → Stops is_digit s → decimal a ++ r ≡ decimal b ++ s
    → (a ≡ b) × (r ≡ s)
cut-number a b few low there also same =
    let cut = span_cut is_digit (decimal a) (decimal b) (digits a) (digits b) there also same in
    (equal_numerals a b few low cut.0, cut.1)
