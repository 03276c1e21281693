-- The names of a printed text are atoms, in capitals.
use Rattle.std.specs.Prelude.{ℕ, ◌≤◌, ◌<◌, ◌≡◌, refl, Bool, true, false, cond, ◌&&◌, ◌||◌, List, [], ◌∷◌, map, eqb, leb, ltb, get_or}
use Rattle.std.proofs.Common.{arith, ap, ap₂, ltb-true, leb-true, eqb-true}
use Rattle.meaning.specs.Gates.{is_gate}
use Rattle.meaning.specs.Listing.{decimal}
use Rattle.meaning.specs.Ndl.{is_digit, every, net_text}
use Rattle.laws.specs.Ndl.Spans.{both}
use Rattle.laws.specs.Ndl.Numerals.{digits}
use Rattle.meaning.specs.ListForm.{Name, Kind, letter, space, Kind.sign as sign_kind, kind_of, capital, Letters, last, then}
use Rattle.meaning.specs.ListNumbers.{spelling, gate_names}
use Rattle.meaning.specs.ListPrint.{module_name, name_of}
use Rattle.laws.specs.Texts.Below.{all_below, below}

pub record Spelled (w : Name) : Type 0 where
  pub letters : Letters w
  pub capitals : map capital w ≡ w

-- A byte that stands in an atom as it is.
abbrev is_letter : Kind → Bool
is_letter letter = true
is_letter space = false
is_letter (sign_kind s) = false

is-letter : (k : Kind) → is_letter k ≡ true → k ≡ letter
is-letter letter e = refl
is-letter space e = absurd (let z : ◌≡◌ {A = ℕ} 0 1 = cc in omega arith)
is-letter (sign_kind s) e = absurd (let z : ◌≡◌ {A = ℕ} 0 1 = cc in omega arith)

abbrev plain : ℕ → Bool
plain b = is_letter (kind_of b) && eqb (capital b) b

-- One or more of them.
spelled : (b : ℕ) (bs : List ℕ) → plain b ≡ true → every plain bs ≡ true → Spelled (b ∷ bs)
unfolding every
spelled b [] e h =
    let p = both (is_letter (kind_of b)) (eqb (capital b) b) e in
    record { letters = last (is-letter (kind_of b) p.0); capitals = ap (λ (c : ℕ). c ∷ []) (eqb-true (capital b) b p.1) }
spelled b (c ∷ bs) e h =
    let p = both (is_letter (kind_of b)) (eqb (capital b) b) e in
    let q = both (plain c) (every plain bs) h in
    let rest = spelled c bs q.0 q.1 in
    record { letters = then (is-letter (kind_of b) p.0) rest.letters; capitals = ap₂ ◌∷◌ (eqb-true (capital b) b p.1) rest.capitals }

-- Digits are such bytes.
digit-plain : (d : ℕ) → is_digit d ≡ true → plain d ≡ true
unfolding all_below kind_of capital
digit-plain d e =
    let p = both (leb 48 d) (leb d 57) e in
    let low : 48 ≤ d = leb-true 48 d p.0 in
    let high : d ≤ 57 = leb-true d 57 p.1 in
    within d (below 58 (λ (b : ℕ). ltb b 48 || plain b) refl d (omega arith)) low
  where
    within : (d : ℕ) → (ltb d 48 || plain d) ≡ true → 48 ≤ d → plain d ≡ true
    within d h low = go (ltb d 48) refl h
      where
        go : (t : Bool) → ltb d 48 ≡ t → (t || plain d) ≡ true → plain d ≡ true
        go true k h = absurd (let l : d < 48 = ltb-true d 48 k in omega arith)
        go false k h = h

digits-plain : (ds : List ℕ) → every is_digit ds ≡ true → every plain ds ≡ true
unfolding every
digits-plain [] e = refl
digits-plain (d ∷ ds) e =
    let p = both (is_digit d) (every is_digit ds) e in
    ap₂ ◌&&◌ (digit-plain d p.0) (digits-plain ds p.1)

pub net-spelled : (n : ℕ) → Spelled (net_text n)
unfolding kind_of capital
net-spelled n = spelled 78 (decimal n) refl (digits-plain (decimal n) (digits n))

pub module_spelled : (n : ℕ) → Spelled (module_name n)
unfolding kind_of capital
module_spelled n = spelled 77 (decimal n) refl (digits-plain (decimal n) (digits n))

-- The gates' names too: one computed test.
wordly : Name → Bool
wordly [] = false
wordly (b ∷ bs) = plain b && every plain bs

word-spelled : (w : Name) → wordly w ≡ true → Spelled w
unfolding wordly
word-spelled [] e = absurd (let z : ◌≡◌ {A = ℕ} 0 1 = cc in omega arith)
word-spelled (b ∷ bs) e = let p = both (plain b) (every plain bs) e in spelled b bs p.0 p.1

gate-spelled : (n : ℕ) → n < 16 → Spelled (get_or gate_names n [])
unfolding all_below wordly every kind_of capital gate_names spelling
gate-spelled n l = word-spelled (get_or gate_names n []) (below 16 (λ (n : ℕ). wordly (get_or gate_names n [])) refl n l)

pub name-spelled : (n : ℕ) → Spelled (name_of n)
unfolding name_of
name-spelled n = go (is_gate n) refl
  where
    go : (b : Bool) → is_gate n ≡ b → Spelled (cond b (get_or gate_names n []) (module_name n))
    go true e = gate-spelled n (ltb-true n 16 e)
    go false e = module_spelled n
