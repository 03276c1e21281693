-- A row of values given from words: the value of each net is read off a digit of its two words.
use Rattle.std.specs.Prelude.{ℕ, zero, suc, ◌+◌, ◌-◌, ◌*◌, ◌/◌, ◌%◌, ◌^◌, ◌≤◌, ◌<◌, List, [], ◌∷◌, map, ◌≡◌, refl, length, get_or, set}
use Rattle.std.proofs.Common.{sym, ap, ap₂, ◌∙◌, mod-lt, zero-lt-suc, arith, length-set, get_or-set_same, get_or-set_other, ext_get_or}
use Rattle.std.proofs.lemmas.List.{length-map}
use Rattle.meaning.specs.Values.{Val, un, code}
use Rattle.gates.specs.ThreeValues.{each}
use Rattle.lanes.specs.Bits.{bit, set as one}
use Rattle.lanes.specs.Lanes.{surely, maybe, Lane}
use Rattle.lanes.specs.Words.{digit}
use Rattle.lanes.specs.Rows.{split}

-- The words hold the values of n nets in the row.
pub record Given (row : ℕ) (low high : List ℕ) (n : ℕ) : Type 0 where
  pub values : List Val
  pub count : length values ≡ n
  pub low-long : n ≤ length low
  pub high-long : n ≤ length high
  pub lanes : (j : ℕ) → j < n → Lane row (get_or low j 0) (get_or high j 0) (get_or values j un)

digit-of : (n : ℕ) → n < 2 → n ≡ digit (one n)
digit-of zero h = refl
digit-of (suc zero) h = refl
digit-of (suc (suc n)) h = absurd (omega arith)

-- A value by its two digits.
pub record Digits (low high : ℕ) (v : Val) : Type 0 where
  pub below : low ≤ high * 2
  pub is : high * 2 - low ≡ code v

pub digits : {row low high : ℕ} {v : Val} → Lane row low high v → Digits (low / 2 ^ row % 2) (high / 2 ^ row % 2) v
unfolding bit
digits {row} {low} {high} {v} l =
    let a : low / 2 ^ row % 2 ≡ digit (surely v) = digit-of (low / 2 ^ row % 2) (mod-lt (low / 2 ^ row) (zero-lt-suc 1)) ∙ ap digit l.low-is in
    let b : high / 2 ^ row % 2 ≡ digit (maybe v) = digit-of (high / 2 ^ row % 2) (mod-lt (high / 2 ^ row) (zero-lt-suc 1)) ∙ ap digit l.high_is in
    record {
      below = omega (arith, (by_cases v).0);
      is = ap₂ (λ (x y : ℕ). y * 2 - x) a b ∙ (by_cases v).1;
    }
  where
    by_cases : (v : Val) → (digit (surely v) ≤ digit (maybe v) * 2) × (digit (maybe v) * 2 - digit (surely v) ≡ code v)
    by_cases = each (λ v. (digit (surely v) ≤ digit (maybe v) * 2) × (digit (maybe v) * 2 - digit (surely v) ≡ code v))
        ((omega arith, refl), (omega arith, refl), (omega arith, refl))

-- The first i values are given.
pub record Giving (values : List Val) (old new : List ℕ) (i : ℕ) : Type 0 where
  pub size : length new ≡ length old
  pub done : (j : ℕ) → j < i → get_or new j 0 ≡ code (get_or values j un)

pub giving-none : {values : List Val} {old : List ℕ} → Giving values old old 0
giving-none = record { size = refl; done = λ j h. absurd (omega arith) }

pub giving-more :
    {values : List Val} {old new : List ℕ} {i : ℕ}
    → Giving values old new i
    → i < length new
    → (b : ℕ)
    → b ≡ code (get_or values i un)
    → Giving values old (set new i b) (i + 1)
giving-more {new = new} {i = i} g h b e =
    record {
      size = length-set new i b ∙ g.size;
      done = split i (get_or-set_same new i b 0 h ∙ e) (λ j k. get_or-set_other new i j b 0 (λ same. omega arith) ∙ g.done j k);
    }

get_d_map : (f : Val → ℕ) (vs : List Val) (i : ℕ) → i < length vs → get_or (map f vs) i 0 ≡ f (get_or vs i un)
get_d_map f [] i h = absurd (omega arith)
get_d_map f (v ∷ vs) zero h = refl
get_d_map f (v ∷ vs) (suc i) h = get_d_map f vs i (omega arith)

pub giving-all : {values : List Val} {old new : List ℕ} → length values ≡ length old → Giving values old new (length old) → new ≡ map code values
giving-all {values} {old} {new} e g =
    ext_get_or 0 new (map code values) (g.size ∙ sym e ∙ sym (length-map values code))
    (λ i h. g.done i (omega (arith, g.size)) ∙ sym (get_d_map code values i (omega (arith, g.size))))
