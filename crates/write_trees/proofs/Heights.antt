-- The search for the least height that is high enough, height by height.
use Prim.Native.Nat.{ℕ, zero, suc, ◌+◌, ◌-◌, ◌<◌, ◌≤◌}
use native.Mathlib.Numerals.{add-one}
use native.Mathlib.Omega.{arith}
use mathlib.Core.Path.{◌≡◌, refl, ap}
use borrow.Author.Tests.{lt-ltb, le-ltb}
use Rattle.meaning.specs.FastAdder.{leaves, grown, spine, height_from, height}
use Rattle.laws.specs.FastAdder.Shape.{spine_tall}
use Rattle.write_trees.proofs.Shapes.{spine-within}

found : (h count n : ℕ) → n < leaves (spine 0 h) → height_from h count n ≡ h
unfolding height_from
found h zero n tall = refl
found h (suc count) n tall = rw (lt-ltb n (leaves (spine 0 h)) tall)

passed : (h count n : ℕ) → leaves (spine 0 h) ≤ n → height_from h (suc count) n ≡ height_from (suc h) count n
unfolding height_from
passed h count n short = rw (le-ltb n (leaves (spine 0 h)) short)

-- The heights below h are too low, and h is at most 5.
pub record Searching (n h : ℕ) : Type 0 where
  pub low : h ≤ 5
  pub search : height_from h (n - h) n ≡ height n

pub searching_start : (n : ℕ) → Searching n 0
unfolding height
searching_start n =
    let all : n - 0 ≡ n = omega arith in
    record { low = omega arith; search = rw all }

leaves-at_5 : leaves (spine 0 5) ≡ 71
unfolding leaves spine grown
leaves-at_5 = refl

pub few-leaves : (h : ℕ) → h ≤ 5 → leaves (spine 0 h) ≤ 71
few-leaves h low =
    let top : h + (5 - h) ≡ 5 = omega arith in
    omega (arith, spine-within h (5 - h), ap (λ (h : ℕ). leaves (spine 0 h)) top, leaves-at_5)

module _ {n h : ℕ} (s : Searching n h) where
  pub searching_more : n ≤ 64 → leaves (spine 0 h) ≤ n → Searching n (h + 1)
  searching_more most short =
      let below-5 : h ≡ 5 → ⊥ = λ e. omega (arith, ap (λ (h : ℕ). leaves (spine 0 h)) e, leaves-at_5) in
      let left : n - h ≡ suc (n - suc h) = omega (arith, spine_tall 0 h) in
      record { low = omega (arith, s.low); search = rw (add-one h, ← s.search, left, passed h (n - suc h) n short) }

  pub searching_end : n < leaves (spine 0 h) → h ≡ height n
  searching_end tall = rw (← s.search, found h (n - h) n tall)

  -- Each width has fewer bits than the spine of height 5.
  pub searching_top : n ≤ 64 → 5 ≤ h → 5 ≡ height n
  searching_top most high =
      let top : h ≡ 5 = omega (arith, s.low) in
      let tall : n < leaves (spine 0 h) = omega (arith, ap (λ (h : ℕ). leaves (spine 0 h)) top, leaves-at_5) in
      omega (arith, top, searching_end tall)
