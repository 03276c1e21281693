-- What an occurrence refers to, by name: no gate's name is a module's, so the name determines the number.
use Rattle.std.specs.Prelude.{ℕ, ◌+◌, ◌≤◌, ◌<◌, ◌≡◌, refl, Bool, true, false, cond, ◌||◌, List, [], ◌∷◌, ◌++◌, leb, ltb, length}
use Rattle.std.proofs.Common.{sym, ap, ◌∙◌, true≢false, arith, ltb-true}
use Rattle.std.proofs.lemmas.Bool.{false≢true}
use Rattle.meaning.specs.Ceilings.{Small}
use Rattle.meaning.specs.Gates.{is_gate}
use Rattle.meaning.specs.Listing.{decimal}
use Rattle.meaning.specs.Ndl.{name_at, letters, is_digit, is_capital_or_digit, every, like_module, reference_text}
use Rattle.laws.specs.Ndl.Spans.{both, Stops, span_cut}
use Rattle.laws.specs.Ndl.Numerals.{digits, some-digit, equal_numerals}
use Rattle.laws.specs.Ndl.Names.{GoodNames, name-spelled, name_determines}

-- Digits are capitals or digits.
or-digit : (a b : Bool) → b ≡ true → a || b ≡ true
or-digit true b e = refl
or-digit false b e = e

digits_spell : (ds : List ℕ) → every is_digit ds ≡ true → every is_capital_or_digit ds ≡ true
unfolding every
digits_spell [] e = refl
digits_spell (d ∷ ds) e =
    let b = both (is_digit d) (every is_digit ds) e in
    rw (or-digit _ (is_digit d) b.0) (digits_spell ds b.1)

-- A module's name is like a module's.
like : (ds : List ℕ) → 1 ≤ length ds → every is_digit ds ≡ true → like_module (77 ∷ ds) ≡ true
like [] some e = absurd (omega arith)
like (d ∷ ds) some e = e

-- Any name that is referred to is capitals or digits.
spelled : {names : List ℕ} → GoodNames names → (n : ℕ) → every is_capital_or_digit (reference_text names n) ≡ true
unfolding reference_text every
spelled {names} g n = go (is_gate n) refl
  where
    go : (b : Bool) → is_gate n ≡ b → every is_capital_or_digit (cond b (letters (name_at names n)) (77 ∷ decimal n)) ≡ true
    go true e = (name-spelled g n (ltb-true n 16 e)).spelled
    go false e = digits_spell (decimal n) (digits n)

-- No gate is named as a module is.
no_module : {names : List ℕ} → GoodNames names → (i n : ℕ) → i < 16 → letters (name_at names i) ≡ 77 ∷ decimal n → ⊥
no_module {names} g i n h same =
    true≢false (sym (like (decimal n) (some-digit n) (digits n)) ∙ ap like_module (sym same) ∙ (name-spelled g i h).ownly)

same-reference : {names : List ℕ} → GoodNames names → (a b : ℕ) → Small a → Small b → reference_text names a ≡ reference_text names b → a ≡ b
unfolding reference_text
same-reference {names} g a b few low = go (is_gate a) refl (is_gate b) refl
  where
    go : (x : Bool) → is_gate a ≡ x → (y : Bool) → is_gate b ≡ y
        → cond x (letters (name_at names a)) (77 ∷ decimal a) ≡ cond y (letters (name_at names b)) (77 ∷ decimal b) → a ≡ b
    go true e true f same = name_determines g a b (ltb-true a 16 e) (ltb-true b 16 f) same
    go true e false f same = absurd (no_module g a b (ltb-true a 16 e) same)
    go false e true f same = absurd (no_module g b a (ltb-true b 16 f) (sym same))
    go false e false f same =
        let numerals : decimal a ≡ decimal b = cc in
        equal_numerals a b few low numerals

pub cut-reference :
    {names : List ℕ} → GoodNames names → (a b : ℕ) {r s : List ℕ} → Small a → Small b
    → Stops is_capital_or_digit r → Stops is_capital_or_digit s → reference_text names a ++ r ≡ reference_text names b ++ s → (a ≡ b) × (r ≡ s)
cut-reference {names} g a b few low there also same =
    let cut = span_cut is_capital_or_digit (reference_text names a) (reference_text names b) (spelled g a) (spelled g b) there also same in
    (same-reference g a b few low cut.0, cut.1)
