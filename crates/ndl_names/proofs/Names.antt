-- Names byte by byte: what a test of all bytes, the letters and a comparison say from a place on.
use Prim.Native.Nat.{ℕ, zero, suc, ◌+◌, ◌*◌, ◌-◌, ◌≤◌, ◌<◌}
use mathlib.Core.Path.{◌≡◌, refl, ap}
use mathlib.Core.Bool.{Bool, true, false, not, cond, ◌&&◌, ◌||◌}
use mathlib.Core.List.{List, [], ◌∷◌}
use native.Mathlib.Omega.{arith}
use native.Mathlib.Numerals.{add-one}
use lib.Dec.{eqb}
use lib.ListN.{length, get_or, take, drop, length-take, drop_of_length-le}
use lib.Seq.{drop-cons}
use borrow.Author.Tests.{eq-eqb, ne_eqb}
use Rattle.meaning.specs.Listing.{space}
use Rattle.meaning.specs.Ndl.{name_at, letters, every, is_digit, like_module, same_name, used_in, first_bad_from, good_name}

-- All bytes.
module _ (p : ℕ → Bool) (bytes : List ℕ) (i : ℕ) where
  pub every-none : length bytes ≤ i → every p (drop i bytes) ≡ true
  unfolding every
  every-none h = rw (drop_of_length-le bytes h)

  pub every-next : i < length bytes → every p (drop i bytes) ≡ (p (get_or bytes i 0) && every p (drop (i + 1) bytes))
  unfolding every
  every-next h = rw (add-one i, drop-cons bytes i 0 h)

-- Letters.
module _ (name : List ℕ) (i : ℕ) where
  pub letters-none : length name ≤ i → length (letters (drop i name)) ≡ 0
  unfolding letters
  letters-none h = rw (drop_of_length-le name h)

  pub letters-end : i < length name → get_or name i 0 ≡ space → length (letters (drop i name)) ≡ 0
  unfolding letters
  letters-end h e = rw (drop-cons name i 0 h, eq-eqb (get_or name i 0) space e)

  pub letters-next : i < length name → (get_or name i 0 ≡ space → ⊥)
      → length (letters (drop i name)) ≡ suc (length (letters (drop (i + 1) name)))
  unfolding letters
  letters-next h e = rw (add-one i, drop-cons name i 0 h, ne_eqb (get_or name i 0) space e)

-- A comparison.
module _ (one other : List ℕ) (i : ℕ) (same : length one ≡ length other) where
  pub same_none : length one ≤ i → same_name (drop i one) (drop i other) ≡ true
  unfolding same_name
  same_none h =
      let behind : length other ≤ i = omega arith in
      rw (drop_of_length-le one h, drop_of_length-le other behind)

  pub same_next : i < length one
      → same_name (drop i one) (drop i other) ≡ (eqb (get_or one i 0) (get_or other i 0) && same_name (drop (i + 1) one) (drop (i + 1) other))
  unfolding same_name
  same_next h = rw (add-one i, drop-cons one i 0 h, drop-cons other i 0 (omega arith))

-- The letters are the front of the name.
pub front-letters : (name : List ℕ) → take (length (letters name)) name ≡ letters name
unfolding letters
front-letters [] = refl
front-letters (b ∷ bs) = go (eqb b space) (front-letters bs)
  where
    go : (s : Bool) → take (length (letters bs)) bs ≡ letters bs → take (length (cond s [] (b ∷ letters bs))) (b ∷ bs) ≡ cond s [] (b ∷ letters bs)
    go true e = refl
    go false e = ap (λ (l : List ℕ). b ∷ l) e

pub few-letters : (name : List ℕ) → length (letters name) ≤ length name
few-letters name = omega (arith, ap length (front-letters name), length-take (length (letters name)) name)

-- Letters like a module's: two at least, an M, and digits.
pub like-short : (word : List ℕ) → length word < 2 → false ≡ like_module word
like-short [] h = refl
like-short (b ∷ []) h = refl
like-short (b ∷ d ∷ ds) h = absurd (omega arith)

pub like-other : (word : List ℕ) → (get_or word 0 0 ≡ 77 → ⊥) → false ≡ like_module word
like-other [] e = refl
like-other (b ∷ []) e = refl
like-other (b ∷ d ∷ ds) e = rw (ne_eqb b 77 e)

pub like-digits : (word : List ℕ) (r : Bool) → 2 ≤ length word → get_or word 0 0 ≡ 77 → r ≡ every is_digit (drop 1 word) → r ≡ like_module word
like-digits [] r h e f = absurd (omega arith)
like-digits (b ∷ []) r h e f = absurd (omega arith)
like-digits (b ∷ d ∷ ds) r h e f = rw (eq-eqb b 77 e) f

-- Eight bytes of the names, as a part that is lent on.
pub part-of-names : (names : List ℕ) (k : ℕ) → take (8 * k + 8 - 8 * k) (drop (8 * k) names) ≡ name_at names k
part-of-names names k =
    let eight : 8 * k + 8 - 8 * k ≡ 8 = omega arith in
    ap (λ (n : ℕ). take n (drop (8 * k) names)) eight

-- A name among those before a position, and the first bad one from a position on.
pub used-next : (names name : List ℕ) (j : ℕ) → 0 < j
    → used_in names j name ≡ (same_name (name_at names (j - 1)) name || used_in names (j - 1) name)
unfolding used_in
used-next names name zero h = absurd (omega arith)
used-next names name (suc j) h =
    let before : suc j - 1 ≡ j = omega arith in
    rw before

pub bad-next : (names : List ℕ) (k : ℕ) → k < 16
    → first_bad_from names k (16 - k)
    ≡ cond (good_name (name_at names k) && not (used_in names k (name_at names k))) (first_bad_from names (k + 1) (16 - (k + 1))) k
unfolding first_bad_from
bad-next names k h =
    let left : 16 - k ≡ suc (16 - (k + 1)) = omega arith in
    rw (left, add-one k)
