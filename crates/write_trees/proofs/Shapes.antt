-- What grown trees and spines are made of, and how many bits they have: a tree has more than each of its parts, and a spine no fewer than
-- a lower one.
use Prim.Native.Nat.{ℕ, zero, suc, ◌+◌, ◌*◌, ◌-◌, ◌<◌, ◌≤◌}
use native.Mathlib.Numerals.{add-one}
use native.Mathlib.Omega.{arith}
use mathlib.Core.Path.{◌≡◌, refl}
use Rattle.meaning.specs.FastAdder.{Tree, leaf, node, leaves, grown, spine}
use Rattle.laws.specs.FastAdder.Signals.{some-leaves}

pub early-leaf : (late height : ℕ) → late < 3 → grown late height ≡ leaf
unfolding grown
early-leaf zero height early = refl
early-leaf (suc zero) height early = refl
early-leaf (suc (suc zero)) height early = refl
early-leaf (suc (suc (suc u))) height early = absurd (omega arith)

pub low-leaf : (late : ℕ) → grown late 0 ≡ leaf
unfolding grown
low-leaf zero = refl
low-leaf (suc zero) = refl
low-leaf (suc (suc zero)) = refl
low-leaf (suc (suc (suc u))) = refl

pub grown-node : (late height : ℕ) → 3 ≤ late → (height ≡ 0 → ⊥)
    → grown late height ≡ node (grown (late - 2) height) (grown (late - 2) (height - 1)) (grown (late - 1) (height - 1))
unfolding grown
grown-node (suc (suc (suc u))) (suc h) is-late is-high =
    let two : suc (suc (suc u)) - 2 ≡ suc u = omega arith in
    let one : suc (suc (suc u)) - 1 ≡ suc (suc u) = omega arith in
    let lower : suc h - 1 ≡ h = omega arith in
    rw (two, one, lower)
grown-node (suc (suc (suc u))) zero is-late is-high = absurd (is-high refl)
grown-node zero height is-late is-high = absurd (omega arith)
grown-node (suc zero) height is-late is-high = absurd (omega arith)
grown-node (suc (suc zero)) height is-late is-high = absurd (omega arith)

pub spine-leaf : (step : ℕ) → spine step 0 ≡ leaf
unfolding spine
spine-leaf step = refl

pub spine-node : (step height : ℕ) → (height ≡ 0 → ⊥)
    → spine step height ≡ node (grown (2 * step + 1) height) (grown (2 * step + 2) (height - 1)) (spine (step + 1) (height - 1))
unfolding spine
spine-node step zero is-high = absurd (is-high refl)
spine-node step (suc h) is-high =
    let lower : suc h - 1 ≡ h = omega arith in
    rw (lower, add-one step)

pub one_bit : {t : Tree} → t ≡ leaf → 1 ≡ leaves t
unfolding leaves
one_bit is = rw is

-- The bits of a node are those of its parts, and each part has some.
pub record Counted (t x y z : Tree) : Type 0 where
  pub sum : leaves t ≡ leaves x + leaves y + leaves z
  pub some-low : 1 ≤ leaves x
  pub some-middle : 1 ≤ leaves y
  pub some-high : 1 ≤ leaves z

pub counted : {t : Tree} (x y z : Tree) → t ≡ node x y z → Counted t x y z
unfolding leaves
counted x y z is =
    record { sum = rw is; some-low = some-leaves x; some-middle = some-leaves y; some-high = some-leaves z }

-- A higher tree has no fewer bits.
grown-higher : (late height : ℕ) → leaves (grown late height) ≤ leaves (grown late (suc height))
unfolding grown leaves
grown-higher zero height = omega arith
grown-higher (suc zero) height = omega arith
grown-higher (suc (suc zero)) height = omega arith
grown-higher (suc (suc (suc u))) zero =
    omega (arith, some-leaves (grown (suc u) 1), some-leaves (grown (suc u) 0), some-leaves (grown (suc (suc u)) 0))
grown-higher (suc (suc (suc u))) (suc h) =
    omega (arith, grown-higher (suc u) (suc h), grown-higher (suc u) h, grown-higher (suc (suc u)) h)

spine-higher : (step height : ℕ) → leaves (spine step height) ≤ leaves (spine step (suc height))
unfolding spine leaves
spine-higher step zero =
    omega (
      arith,
      some-leaves (grown (2 * step + 1) 1),
      some-leaves (grown (2 * step + 2) 0),
      some-leaves (spine (suc step) 0),
    )
spine-higher step (suc h) =
    omega (
      arith,
      grown-higher (2 * step + 1) (suc h),
      grown-higher (2 * step + 2) h,
      spine-higher (suc step) h,
    )

pub spine-within : (height more : ℕ) → leaves (spine 0 height) ≤ leaves (spine 0 (height + more))
spine-within height zero =
    let same : height + 0 ≡ height = omega arith in
    rw same (omega arith)
spine-within height (suc more) =
    let next : height + suc more ≡ suc (height + more) = omega arith in
    rw next (omega (arith, spine-within height more, spine-higher 0 (height + more)))
