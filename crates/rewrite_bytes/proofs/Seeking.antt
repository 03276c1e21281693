-- The lowest unused number, sought in the table: while the entry has the stamp the number is used.
use Prim.Native.Nat.{ℕ, zero, suc, ◌+◌, ◌-◌, ◌<◌}
use mathlib.Core.Path.{◌≡◌, refl, sym, ap, ◌∙◌}
use mathlib.Core.Bool.{Bool, true, false}
use mathlib.Core.List.{List, ◌∷◌}
use native.Mathlib.Omega.{arith}
use native.Mathlib.Numerals.{add-one}
use lib.ListN.{get_or}
use Rattle.meaning.specs.Boxlist.{member}
use Rattle.meaning.specs.Adder.{up_from}
use Rattle.meaning.specs.Withdrawn.{without}
use Rattle.rewrite_bytes.specs.Used.{Stamped, unused_from, Seekable, Found}

numbers-from : (from : ℕ) → from < 16384 → up_from from (16384 - from) ≡ from ∷ up_from (from + 1) (16384 - (from + 1))
unfolding up_from
numbers-from from low =
    let one : 16384 - from ≡ suc (16384 - (from + 1)) = omega arith in
    ap (up_from from) one ∙ ap (λ (n : ℕ). from ∷ up_from n (16384 - (from + 1))) (sym (add-one from))

-- There is an unused number only below the end.
pub low_of : (used : List ℕ) (from : ℕ) {first : ℕ} {rest : List ℕ} → unused_from used from ≡ first ∷ rest → from < 16384
unfolding without up_from
low_of used from {first} {rest} e = go (16384 - from) refl e
  where
    go : (n : ℕ) → 16384 - from ≡ n → without used (up_from from n) ≡ first ∷ rest → from < 16384
    go zero is e = absurd (let z : ◌≡◌ {A = ℕ} 0 1 = cc in omega arith)
    go (suc n) is e = omega arith

pub used-here : (used : List ℕ) (from : ℕ) → from < 16384 → member from used ≡ true → unused_from used from ≡ unused_from used (from + 1)
unfolding without
used-here used from low is = rw (numbers-from from low, is)

pub unused-here : (used : List ℕ) (from : ℕ) → from < 16384 → member from used ≡ false → unused_from used from ≡ from ∷ unused_from used (from + 1)
unfolding without
unused-here used from low is = rw (numbers-from from low, is)

-- What the entry tells.
module _ {table : List ℕ} {stamp : ℕ} (used : List ℕ) (s : Stamped table stamp (λ x. member x used)) where
  pub told-used : (x : ℕ) → get_or table x 0 ≡ stamp → member x used ≡ true
  told-used x e = go (member x used) refl
    where
      go : (b : Bool) → member x used ≡ b → b ≡ true
      go true is = refl
      go false is = absurd (omega (arith, s.outside x is))

  pub told-unused : (x : ℕ) → (get_or table x 0 ≡ stamp → ⊥) → member x used ≡ false
  told-unused x h = go (member x used) refl
    where
      go : (b : Bool) → member x used ≡ b → b ≡ false
      go true is = absurd (h (s.inside x is))
      go false is = refl

pub found_here :
    {table : List ℕ} {stamp from : ℕ} (s : Seekable table stamp from) (i : ℕ)
    → unused_from s.used i ≡ s.first ∷ s.rest
    → (get_or table i 0 ≡ stamp → ⊥)
    → Found s i
found_here s i e h =
    let low = low_of s.used i e in
    let is = unused-here s.used i low (told-unused s.used s.stamped i h) in
    let first : i ≡ s.first = cc in
    record { is = first; low = low; rest = let same : unused_from s.used (i + 1) ≡ s.rest = cc in same }
