-- The bits of bases, put one base after the other.
use Prim.Native.Nat.{ℕ, suc, ◌+◌, ◌-◌, ◌*◌, ◌/◌, ◌%◌, ◌≤◌, ◌<◌}
use mathlib.Core.Path.{◌≡◌, refl, sym, ap, ◌∙◌}
use mathlib.Core.Bool.{Bool, true, false}
use mathlib.Core.List.{List, [], ◌∷◌, ◌++◌, map, map-append, append_assoc}
use native.Mathlib.Omega.{arith}
use native.Mathlib.Numerals.{add-one}
use borrow.Author.Tests.{eqb-true, eqb-false}
use lib.Dec.{eqb}
use lib.ListN.{length, drop, get_or, set, length-append, length-map, length-drop}
use lib.Seq.{drop-cons, drop-length, set_at}
use Rattle.meaning.specs.Adder.{bit}
use Rattle.meaning.specs.Filing.{base, base_bits, word_bits}
use Rattle.laws.specs.Filing.Words.{length-of-word_bits}

-- A remainder by 2 is a bit.
bit-of-half : (n : ℕ) → bit (eqb (n % 2) 1) ≡ n % 2
bit-of-half n = go (eqb (n % 2) 1) refl
  where
    go : (b : Bool) → eqb (n % 2) 1 ≡ b → bit b ≡ n % 2
    go true e = sym (eqb-true (n % 2) 1 e)
    go false e = let apart : ¬ (n % 2 ≡ 1) = eqb-false (n % 2) 1 e in omega arith

-- Two entries behind others.
put_two :
    (front rest : List ℕ) (x y at a b : ℕ) → length front ≡ at
    → set (set (front ++ (x ∷ y ∷ rest)) at a) (at + 1) b ≡ (front ++ (a ∷ b ∷ [])) ++ rest
put_two front rest x y at a b long =
    ap (λ (l : List ℕ). set l (at + 1) b) (set_at front x (y ∷ rest) a at long ∙ sym (append_assoc front (a ∷ []) (y ∷ rest)))
    ∙ set_at (front ++ (a ∷ [])) y rest b (at + 1) (length-append front (a ∷ []) ∙ omega arith)
    ∙ append_assoc front (a ∷ []) (b ∷ rest)
    ∙ sym (append_assoc front (a ∷ b ∷ []) rest)

drop-two : (l : List ℕ) (at : ℕ) → at + 2 ≤ length l → drop at l ≡ get_or l at 0 ∷ get_or l (suc at) 0 ∷ drop (at + 2) l
drop-two l at fits =
    let next : suc (suc at) ≡ at + 2 = omega arith in
    drop-cons l at 0 (omega arith)
    ∙ ap (λ (r : List ℕ). get_or l at 0 ∷ r)
    (drop-cons l (suc at) 0 (omega arith) ∙ ap (λ (k : ℕ). get_or l (suc at) 0 ∷ drop k l) next)

pub bits-of-none : (bases bits : List ℕ) → bits ≡ map bit (word_bits (drop (length bases) bases)) ++ drop 0 bits
unfolding word_bits
bits-of-none bases bits = rw (drop-length bases)

one_more :
    (bases : List ℕ) (left : ℕ) → left < length bases
    → map bit (word_bits (drop left bases))
    ≡ map bit (word_bits (drop (left + 1) bases)) ++ (base (get_or bases left 0) % 2 ∷ base (get_or bases left 0) / 2 % 2 ∷ [])
unfolding word_bits
one_more bases left inside =
    rw (add-one left, drop-cons bases left 0 inside)
    (map-append bit (word_bits (drop (suc left) bases)) (base_bits (get_or bases left 0))
    ∙ rw (bit-of-half (base (get_or bases left 0)), bit-of-half (base (get_or bases left 0) / 2)))

pub bits-of-more :
    (bases bits : List ℕ) (left at : ℕ) → left < length bases → at + 2 * (left + 1) ≡ 2 * length bases → 2 * length bases ≤ length bits
    → set (set (map bit (word_bits (drop (left + 1) bases)) ++ drop at bits) at (base (get_or bases left 0) % 2)) (at + 1) (base (get_or bases left 0) / 2 % 2)
    ≡ map bit (word_bits (drop left bases)) ++ drop (at + 2) bits
bits-of-more bases bits left at inside stands fits =
    let b = get_or bases left 0 in
    let front = map bit (word_bits (drop (left + 1) bases)) in
    let long : length front ≡ at =
    length-map (word_bits (drop (left + 1) bases)) bit
    ∙ omega (arith, length-of-word_bits (drop (left + 1) bases), length-drop (left + 1) bases) in
    ap (λ (l : List ℕ). set (set (front ++ l) at (base b % 2)) (at + 1) (base b / 2 % 2)) (drop-two bits at (omega arith))
    ∙ put_two front (drop (at + 2) bits) (get_or bits at 0) (get_or bits (suc at) 0) at (base b % 2) (base b / 2 % 2) long
    ∙ ap (λ (l : List ℕ). l ++ drop (at + 2) bits) (sym (one_more bases left inside))

-- The bases are passed from the last to the first.
pub bits-before : (bases bits : List ℕ) → bits ≡ map bit (word_bits (drop (length bases - 0) bases)) ++ drop 0 bits
bits-before bases bits = let all : length bases - 0 ≡ length bases = omega arith in rw all (bits-of-none bases bits)

pub bits-passed :
    (bases bits₀ bits : List ℕ) (i n : ℕ) → i < length bases → 2 * length bases ≤ length bits₀
    → bits ≡ map bit (word_bits (drop (length bases - i) bases)) ++ drop (2 * i) bits₀
    → n ≡ base (get_or bases (length bases - 1 - i) 0)
    → set (set bits (2 * i) (n % 2)) (2 * i + 1) (n / 2 % 2) ≡ map bit (word_bits (drop (length bases - (i + 1)) bases)) ++ drop (2 * (i + 1)) bits₀
bits-passed bases bits₀ bits i n more fits is read =
    let left = length bases - 1 - i in
    let before : length bases - i ≡ left + 1 = omega arith in
    let after : length bases - (i + 1) ≡ left = omega arith in
    let next : 2 * (i + 1) ≡ 2 * i + 2 = omega arith in
    rw (is, read, before, after, next) (bits-of-more bases bits₀ left (2 * i) (omega arith) (omega arith) fits)
