-- A number's digits: the last one behind those of its tenth.
use Prim.Native.Nat.{ℕ, zero, suc, ◌+◌, ◌/◌, ◌%◌, ◌≤◌, ◌<◌, ◌^◌}
use mathlib.Core.Path.{◌≡◌, refl, ap, ◌∙◌}
use mathlib.Core.Bool.{Bool, true, false, cond}
use mathlib.Core.List.{List, [], ◌∷◌, ◌++◌}
use native.Mathlib.Omega.{arith}
use native.Mathlib.Nat.{pow-suc}
use lib.Dec.{ltb}
use lib.ListN.{length, set, length-append}
use borrow.Author.Tests.{lt-ltb, le-ltb}
use Rattle.meaning.specs.Listing.{decimal_within}
use Rattle.image.specs.Laid.{laid, laid-after, set-laid, length-laid}
use Rattle.list_text.specs.Digits.{Spellable, Spelt}

pub length-of-decimal : (most n : ℕ) → length (decimal_within most n) ≤ most
unfolding decimal_within
length-of-decimal zero n = omega arith
length-of-decimal (suc k) n = go (ltb n 10) (length-of-decimal k (n / 10))
  where
    go : (b : Bool) → length (decimal_within k (n / 10)) ≤ k
        → length (cond b ((48 + n) ∷ []) (decimal_within k (n / 10) ++ ((48 + n % 10) ∷ []))) ≤ suc k
    go true h = omega arith
    go false h = simp length-append (omega arith)

-- One digit.
pub one-digit : (n : ℕ) (out : List ℕ) (at : ℕ) → n < 10 → Spelt n out at (set out at (48 + n % 10)) (at + 1)
unfolding decimal_within
one-digit n out at small = record { spelt = spelt }
  where
    same : 48 + n % 10 ≡ 48 + n
    same = omega arith

    spelt : (most : ℕ) → n < 10 ^ most → 1 ≤ most → at + most ≤ length out
        → (set out at (48 + n % 10) ≡ laid out at (decimal_within most n)) × (at + 1 ≡ at + length (decimal_within most n))
    spelt zero lt some room = absurd (omega (arith, some))
    spelt (suc k) lt some room =
        rw (lt-ltb n 10 small)
        (set-laid out at (48 + n % 10) (omega arith) ∙ ap (λ (d : ℕ). laid out at (d ∷ [])) same, refl)

-- What is asked of a number's tenth.
pub record Tenth (n most : ℕ) : Type 0 where
  pub fewer : ℕ
  pub is : most ≡ suc fewer
  pub small : n / 10 < 10 ^ fewer
  pub some : 1 ≤ fewer

pub tenth : (n most : ℕ) → 10 ≤ n → n < 10 ^ most → 1 ≤ most → Tenth n most
tenth n zero ten lt some = absurd (omega (arith, some))
tenth n (suc zero) ten lt some = absurd (omega (arith, lt))
tenth n (suc (suc k)) ten lt some =
    record { fewer = suc k; is = refl; small = omega (arith, lt, pow-suc 10 (suc k)); some = omega arith }

-- One digit more behind those of the tenth.
pub digit-more :
    (n : ℕ) (out : List ℕ) (at : ℕ) (out₁ : List ℕ) (next : ℕ) → 10 ≤ n → Spelt (n / 10) out at out₁ next
    → Spelt n out at (set out₁ next (48 + n % 10)) (next + 1)
unfolding decimal_within
digit-more n out at out₁ next ten before = record { spelt = spelt }
  where
    spelt : (most : ℕ) → n < 10 ^ most → 1 ≤ most → at + most ≤ length out
        → (set out₁ next (48 + n % 10) ≡ laid out at (decimal_within most n)) × (next + 1 ≡ at + length (decimal_within most n))
    spelt zero lt some room = absurd (omega (arith, some))
    spelt (suc k) lt some room =
        let t = tenth n (suc k) ten lt some in
        let same : t.fewer ≡ k = omega (arith, t.is) in
        let b = before.spelt k (rw same at t.small) (rw same at t.some) (omega arith) in
        rw (le-ltb n 10 ten) (behind k b.0 b.1 (omega arith))
      where
        behind : (k : ℕ) → out₁ ≡ laid out at (decimal_within k (n / 10)) → next ≡ at + length (decimal_within k (n / 10)) → at + suc k ≤ length out
            → (set out₁ next (48 + n % 10) ≡ laid out at (decimal_within k (n / 10) ++ ((48 + n % 10) ∷ [])))
            × (next + 1 ≡ at + length (decimal_within k (n / 10) ++ ((48 + n % 10) ∷ [])))
        behind k e f fits =
            let digits = decimal_within k (n / 10) in
            let few = length-of-decimal k (n / 10) in
            let kept = length-laid out at digits (omega arith) in (
              rw (e, f)
                  (set-laid (laid out at digits) (at + length digits) (48 + n % 10) (omega arith)
                  ∙ laid-after out at digits ((48 + n % 10) ∷ []) (omega arith)),
              simp length-append (omega arith),
            )

-- The place behind the tenth's digits lies inside the room.
pub after-tenth : (n : ℕ) (out : List ℕ) (at : ℕ) (out₁ : List ℕ) (next : ℕ) → 10 ≤ n → Spellable n out at → Spelt (n / 10) out at out₁ next → next < length out
after-tenth n out at out₁ next ten s before =
    let t = tenth n s.most ten s.small s.some in
    let e = t.is in
    let b = before.spelt t.fewer t.small t.some (omega (arith, s.room)) in
    omega (arith, b.1, length-of-decimal t.fewer (n / 10), s.room)

-- The tenth can be spelt where the number can.
pub spellable_tenth : (n : ℕ) (out : List ℕ) (at : ℕ) → 10 ≤ n → Spellable n out at → Spellable (n / 10) out at
spellable_tenth n out at ten s =
    let t = tenth n s.most ten s.small s.some in
    let e = t.is in
    record { most = t.fewer; small = t.small; some = t.some; room = omega (arith, s.room) }
