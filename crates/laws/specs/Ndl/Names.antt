-- Names that are good and used once: each is capitals or digits and then spaces, no two are the same, and so a name's letters determine
-- which of the sixteen it is.
use Rattle.std.specs.Prelude.{ℕ, zero, suc, ◌+◌, ◌*◌, ◌≤◌, ◌<◌, ◌⊎◌, ◌≡◌, refl, Bool, true, false, not, cond, ◌&&◌, ◌||◌, List, [], ◌∷◌, eqb, leb, length, take, drop}
use Rattle.std.proofs.Common.{inl, inr, sym, ap, ◌∙◌, true≢false, arith, length-drop, length-take-le, leb-true, eqb-true, eq-eqb}
use Rattle.std.proofs.lemmas.Bool.{false≢true, not-true}
use Rattle.std.proofs.Math.Decide.{dec_lt}
use Rattle.meaning.specs.Listing.{space}
use Rattle.meaning.specs.Ndl.{name_at, letters, is_space, is_capital_or_digit, every, like_module, good_name, same_name, used_in, first_bad_from, first_bad}
use Rattle.laws.specs.Ndl.Spans.{both}

-- What 29 asks of the names.
pub record GoodNames (names : List ℕ) : Type 0 where
  pub long : length names ≡ 128
  pub all : first_bad names ≡ 16

neither : (a b : Bool) → a || b ≡ false → (a ≡ false) × (b ≡ false)
neither true b e = absurd (true≢false e)
neither false b e = (refl, e)

same_self : (xs : List ℕ) → same_name xs xs ≡ true
unfolding same_name
same_self [] = refl
same_self (x ∷ xs) = rw (eq-eqb x x refl) (same_self xs)

-- A name that is not used before differs from each before it.
unused : (names name : List ℕ) (count j : ℕ) → used_in names count name ≡ false → j < count → name_at names j ≡ name → ⊥
unfolding used_in
unused names name zero j e h same = absurd (omega arith)
unused names name (suc k) j e h same = go (dec_lt j k) (λ before. unused names name k j n.1 before same)
  where
    n : (same_name (name_at names k) name ≡ false) × (used_in names k name ≡ false)
    n = neither (same_name (name_at names k) name) (used_in names k name) e

    go : Dec (j < k) → (j < k → ⊥) → ⊥
    go (yes before) on = on before
    go (no behind) on =
        let last : j ≡ k = omega arith in
        true≢false (sym (same_self name) ∙ ap (λ (xs : List ℕ). same_name xs name) (sym same ∙ ap (name_at names) last) ∙ n.0)

-- What holds of each of the names where no bad one is found.
record Fine (names : List ℕ) (i : ℕ) : Type 0 where
  good : good_name (name_at names i) ≡ true
  new : used_in names i (name_at names i) ≡ false

fine-from : (names : List ℕ) (k count i : ℕ) → first_bad_from names k count ≡ k + count → k ≤ i → i < k + count → Fine names i
unfolding first_bad_from
fine-from names k zero i e low high = absurd (omega arith)
fine-from names k (suc count) i e low high =
    go (good_name (name_at names k)) refl (used_in names k (name_at names k)) refl e
    (λ on above. fine-from names (suc k) count i (omega (arith, on)) above (omega arith))
  where
    go : (a : Bool) → good_name (name_at names k) ≡ a → (b : Bool) → used_in names k (name_at names k) ≡ b
        → cond (a && not b) (first_bad_from names (suc k) count) k ≡ k + suc count
        → (first_bad_from names (suc k) count ≡ k + suc count → suc k ≤ i → Fine names i)
        → Fine names i
    go true good false new e on = here (dec_lt k i)
      where
        here : Dec (k < i) → Fine names i
        here (yes above) = on e (omega arith)
        here (no first) =
            let same : k ≡ i = omega arith in
            let found : Fine names k = record { good = good; new = new } in
            rw same at found
    go true good true used e on = absurd (omega (arith, e))
    go false bad b new e on = absurd (omega (arith, e))

fine : {names : List ℕ} → GoodNames names → (i : ℕ) → i < 16 → Fine names i
unfolding first_bad
fine {names} g i h = fine-from names 0 16 i g.all (omega arith) (omega arith)

-- The parts of what makes a name good.
pub record Spelled (name : List ℕ) : Type 0 where
  pub some : 1 ≤ length (letters name)
  pub spelled : every is_capital_or_digit (letters name) ≡ true
  pub padded : every is_space (drop (length (letters name)) name) ≡ true
  pub ownly : like_module (letters name) ≡ false

spelled-of : (name : List ℕ) → good_name name ≡ true → Spelled name
unfolding good_name
spelled-of name e =
    let word = letters name in
    let some : Bool = leb 1 (length word) in
    let capital : Bool = every is_capital_or_digit word in
    let three = both (some && capital && every is_space (drop (length word) name)) (not (like_module word)) e in
    let two = both (some && capital) (every is_space (drop (length word) name)) three.0 in
    let one = both some capital two.0 in
    record {
      some = leb-true 1 (length word) one.0;
      spelled = one.1;
      padded = two.1;
      ownly = not-true (like_module word) three.1;
    }

pub name-spelled : {names : List ℕ} → GoodNames names → (i : ℕ) → i < 16 → Spelled (name_at names i)
name-spelled {names} g i h = spelled-of (name_at names i) (fine g i h).good

-- Spaces are told by their count, and so a padded name by its letters.
spaces : (xs ys : List ℕ) → length xs ≡ length ys → every is_space xs ≡ true → every is_space ys ≡ true → xs ≡ ys
unfolding every
spaces [] [] e f g = refl
spaces [] (y ∷ ys) e f g = absurd (omega arith)
spaces (x ∷ xs) [] e f g = absurd (omega arith)
spaces (x ∷ xs) (y ∷ ys) e f g =
    let one = both _ _ f in
    let other = both _ _ g in
    let first : x ≡ y = eqb-true x space one.0 ∙ sym (eqb-true y space other.0) in
    let tails : xs ≡ ys = spaces xs ys (omega arith) one.1 other.1 in
    cc

by-letters :
    (xs ys : List ℕ) → length xs ≡ length ys → every is_space (drop (length (letters xs)) xs) ≡ true
    → every is_space (drop (length (letters ys)) ys) ≡ true → letters xs ≡ letters ys → xs ≡ ys
unfolding letters
by-letters [] [] e f g same = refl
by-letters [] (y ∷ ys) e f g same = absurd (omega arith)
by-letters (x ∷ xs) [] e f g same = absurd (omega arith)
by-letters (x ∷ xs) (y ∷ ys) e f g same = go (eqb x space) (eqb y space) f g same (by-letters xs ys (omega arith))
  where
    go : (a b : Bool) → every is_space (drop (length (cond a [] (x ∷ letters xs))) (x ∷ xs)) ≡ true
        → every is_space (drop (length (cond b [] (y ∷ letters ys))) (y ∷ ys)) ≡ true
        → cond a [] (x ∷ letters xs) ≡ cond b [] (y ∷ letters ys)
        → (every is_space (drop (length (letters xs)) xs) ≡ true → every is_space (drop (length (letters ys)) ys) ≡ true
        → letters xs ≡ letters ys → xs ≡ ys)
        → x ∷ xs ≡ y ∷ ys
    go true true f g same on = spaces (x ∷ xs) (y ∷ ys) e f g
    go true false f g same on = absurd (omega (arith, ap length same))
    go false true f g same on = absurd (omega (arith, ap length same))
    go false false f g same on =
        let first : x ≡ y = cc in
        let tails : xs ≡ ys = on f g cc in
        cc

length-of-name : {names : List ℕ} → GoodNames names → (i : ℕ) → i < 16 → length (name_at names i) ≡ 8
length-of-name {names} g i h = length-take-le 8 (drop (8 * i) names) (rw (length-drop (8 * i) names) (omega (arith, g.long)))

-- Of two that are the same the later would be used before.
apart : {names : List ℕ} → GoodNames names → (i j : ℕ) → i < j → j < 16 → name_at names i ≡ name_at names j → ⊥
apart {names} g i j before h same = unused names (name_at names j) j i (fine g j h).new before same

pub name_determines : {names : List ℕ} → GoodNames names → (i j : ℕ) → i < 16 → j < 16
    → letters (name_at names i) ≡ letters (name_at names j) → i ≡ j
name_determines {names} g i j h k same = go (dec_lt i j) (dec_lt j i)
  where
    bytes : name_at names i ≡ name_at names j
    bytes =
        by-letters (name_at names i) (name_at names j) (length-of-name g i h ∙ sym (length-of-name g j k))
        (name-spelled g i h).padded (name-spelled g j k).padded same

    go : Dec (i < j) → Dec (j < i) → i ≡ j
    go (yes before) d = absurd (apart g i j before k bytes)
    go (no a) (yes behind) = absurd (apart g j i behind h (sym bytes))
    go (no a) (no b) = omega arith
