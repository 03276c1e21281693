-- A number's digits: how many there are, and writing them a few at a time.
use Prim.Native.Nat.{ℕ, zero, suc, ◌+◌, ◌/◌, ◌%◌, ◌≤◌, ◌<◌, ◌^◌}
use mathlib.Core.Path.{◌≡◌, refl, sym, ap, subst, ◌∙◌}
use mathlib.Core.Bool.{Bool, true, false, cond}
use mathlib.Core.List.{List, [], ◌∷◌, ◌++◌, append_assoc}
use native.Mathlib.Omega.{arith}
use native.Mathlib.Nat.{pow-suc}
use native.Mathlib.Numerals.{add-one}
use lib.Dec.{ltb}
use lib.ListN.{length, length-append}
use borrow.Author.Tests.{lt-ltb, le-ltb, ltb-true}
use Rattle.meaning.specs.Listing.{decimal_within, decimal}
use Rattle.bytes_out.specs.Filled.{Put}
use Rattle.bytes_out.specs.Laying.{Laying}
use Rattle.write_pieces.specs.Laying.{laying-start, laying-left, laying-put, laying-last, room-first}
use Rattle.write_pieces.specs.Rooms.{Room}
use Rattle.ndl_pieces.specs.Digits.{last_digits}

-- A number between two powers of ten.
digit-count : (j k n : ℕ) → (1 ≤ j → 10 ^ j ≤ n) → n < 10 ^ suc j → j < k → length (decimal_within k n) ≡ suc j
unfolding decimal_within
digit-count j zero n low high room = absurd (omega arith)
digit-count zero (suc k) n low high room = rw (lt-ltb n 10 (omega (arith, high)))
digit-count (suc j) (suc k) n low high room =
    let least : 10 ^ suc j ≤ n = low (omega arith) in
    let ten : 10 ≤ n = omega (arith, least, pow-suc 10 j, some j) in
    let tenth = digit-count j k (n / 10) (λ h. omega (arith, least, pow-suc 10 j)) (omega (arith, high, pow-suc 10 (suc j))) (omega arith) in
    rw (le-ltb n 10 ten, length-append (decimal_within k (n / 10)) ((48 + n % 10) ∷ [])) (omega (arith, tenth))
  where
    some : (j : ℕ) → 1 ≤ 10 ^ j
    some zero = omega arith
    some (suc j) = omega (arith, some j, pow-suc 10 j)

all_digits : (most n : ℕ) → decimal_within most n ≡ last_digits (length (decimal_within most n)) n
unfolding decimal_within last_digits
all_digits zero n = refl
all_digits (suc k) n = go (ltb n 10) refl (all_digits k (n / 10))
  where
    go : (b : Bool) → ltb n 10 ≡ b → decimal_within k (n / 10) ≡ last_digits (length (decimal_within k (n / 10))) (n / 10)
        → cond b ((48 + n) ∷ []) (decimal_within k (n / 10) ++ ((48 + n % 10) ∷ []))
        ≡ last_digits (length (cond b ((48 + n) ∷ []) (decimal_within k (n / 10) ++ ((48 + n % 10) ∷ [])))) n
    go true e h =
        let small = ltb-true n 10 e in
        let same : 48 + n ≡ 48 + n % 10 = omega arith in
        ap (λ (d : ℕ). d ∷ []) same
    go false e h =
        let count : length (decimal_within k (n / 10) ++ ((48 + n % 10) ∷ [])) ≡ suc (length (decimal_within k (n / 10))) =
        length-append (decimal_within k (n / 10)) ((48 + n % 10) ∷ []) ∙ add-one (length (decimal_within k (n / 10))) in
        ap (λ (ds : List ℕ). ds ++ ((48 + n % 10) ∷ [])) h ∙ ap (λ (m : ℕ). last_digits m n) (sym count)

-- All its digits are its last ones, one more at each power of ten.
digits_are : (j n : ℕ) → (1 ≤ j → 10 ^ j ≤ n) → n < 10 ^ suc j → j < 20 → decimal n ≡ last_digits (suc j) n
unfolding decimal
digits_are j n low high room = all_digits 20 n ∙ ap (λ (k : ℕ). last_digits k n) (digit-count j 20 n low high room)

pub one-digit : {n : ℕ} → n < 10 → decimal n ≡ last_digits 1 n
one-digit {n} high = digits_are 0 n (λ h. omega arith) (omega arith) (omega arith)

pub two_digits : {n : ℕ} → 10 ≤ n → n < 100 → decimal n ≡ last_digits 2 n
two_digits {n} low high = digits_are 1 n (λ h. omega arith) (omega arith) (omega arith)

pub three-digits : {n : ℕ} → 100 ≤ n → n < 1000 → decimal n ≡ last_digits 3 n
three-digits {n} low high = digits_are 2 n (λ h. omega arith) (omega arith) (omega arith)

pub four-digits : {n : ℕ} → 1000 ≤ n → n < 10000 → decimal n ≡ last_digits 4 n
four-digits {n} low high = digits_are 3 n (λ h. omega arith) (omega arith) (omega arith)

pub five-digits : {n : ℕ} → 10000 ≤ n → n < 100000 → decimal n ≡ last_digits 5 n
five-digits {n} low high = digits_are 4 n (λ h. omega arith) (omega arith) (omega arith)

-- Room for a number is room for its last digits, where these are all, and they are put with it.
pub same-room : {all ds before : List ℕ} {at : ℕ} → all ≡ ds → Room all before at → Room ds before at
same-room {before = before} {at = at} is room = subst (λ (l : List ℕ). Room l before at) is room

pub same-put : {all ds before after : List ℕ} {at next : ℕ} → all ≡ ds → Put ds before at after next → Put all before at after next
same-put {before = before} {after = after} {at = at} {next = next} is put = subst (λ (l : List ℕ). Put l before at after next) (sym is) put

-- The last two apart.
two-behind : (k n : ℕ) → last_digits (suc (suc k)) n ≡ last_digits k (n / 100) ++ last_digits 2 n
unfolding last_digits
two-behind k n =
    let hundredth : n / 10 / 10 ≡ n / 100 = omega arith in
    append_assoc (last_digits k (n / 10 / 10)) ((48 + n / 10 % 10) ∷ []) ((48 + n % 10) ∷ [])
    ∙ ap (λ (m : ℕ). last_digits k m ++ ((48 + n / 10 % 10) ∷ (48 + n % 10) ∷ [])) hundredth

-- Digits are put, and then the last two.
module _ {whole : List ℕ} (k n : ℕ) (is : whole ≡ last_digits (suc (suc k)) n) {before : List ℕ} {at : ℕ} (room : Room whole before at) where
  begun : Laying whole (last_digits k (n / 100) ++ last_digits 2 n) before at before at
  begun = subst (λ (left : List ℕ). Laying whole left before at before at) (is ∙ two-behind k n) (laying-start room)

  pub front-room : Room (last_digits k (n / 100)) before at
  front-room = room-first (last_digits 2 n) (laying-left begun)

  module _ {after : List ℕ} {next : ℕ} (front : Put (last_digits k (n / 100)) before at after next) where
    fronted : Laying whole (last_digits 2 n) before at after next
    fronted = laying-put {rest = last_digits 2 n} front begun

    pub two-room : Room (last_digits 2 n) after next
    two-room = laying-left fronted

    pub two-last : {later : List ℕ} {end : ℕ} → Put (last_digits 2 n) after next later end → Put whole before at later end
    two-last last = laying-last last fronted
