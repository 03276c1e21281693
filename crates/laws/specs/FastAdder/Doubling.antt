-- The spine doubles with each height: at height h it has at least 2^(h + 1) - 1 bits. So the height of the shape is at most the number
-- of doublings that reach the width.
use Rattle.std.specs.Prelude.{ℕ, zero, suc, ◌+◌, ◌*◌, ◌^◌, ◌≤◌, ◌≡◌, refl}
use Rattle.std.proofs.Common.{pow-suc, arith}
use Rattle.meaning.specs.FastAdder.{leaves, grown, spine, height}
use Rattle.laws.specs.FastAdder.Signals.{some-leaves}
use Rattle.laws.specs.FastAdder.Shape.{height-least}

abbrev bits : (u h : ℕ) → ℕ
bits u h = leaves (grown u h)

-- A tree that has more time has no fewer bits.
grown-later : (u h : ℕ) → bits u h ≤ bits (suc u) h
unfolding grown leaves
grown-later zero h = omega arith
grown-later (suc zero) h = omega arith
grown-later (suc (suc zero)) h = omega (arith, some-leaves (grown (suc (suc (suc zero))) h))
grown-later (suc (suc (suc u))) zero = omega arith
grown-later (suc (suc (suc u))) (suc h) =
    omega (arith, grown-later (suc u) (suc h), grown-later (suc u) h, grown-later (suc (suc u)) h)

-- Two more of time are worth two trees of a height less.
grown_doubles : (u later h : ℕ) → 1 ≤ u → u + 2 ≡ later → bits u (suc h) + 2 * bits u h ≤ bits later (suc h)
unfolding grown leaves
grown_doubles zero later h some is = absurd (omega arith)
grown_doubles (suc u) later h some is =
    let two : later ≡ suc (suc (suc u)) = omega arith in
    rw two (omega (arith, grown-later (suc u) h))

grown-flat : (u : ℕ) → bits u 0 ≡ 1
unfolding grown leaves
grown-flat zero = refl
grown-flat (suc zero) = refl
grown-flat (suc (suc zero)) = refl
grown-flat (suc (suc (suc u))) = refl

-- And so is a step more.
spine-bits : (k h : ℕ) → leaves (spine k (suc h)) ≡ bits (2 * k + 1) (suc h) + bits (2 * k + 2) h + leaves (spine (suc k) h)
unfolding spine leaves
spine-bits k h = refl

spine-flat : (k : ℕ) → leaves (spine k 0) ≡ 1
unfolding spine leaves
spine-flat k = refl

spine_doubles : (k h : ℕ) → leaves (spine k (suc h)) + 2 * leaves (spine k h) ≤ leaves (spine (suc k) (suc h))
spine_doubles k zero =
    omega (
      arith,
      spine-bits k 0,
      spine-bits (suc k) 0,
      spine-flat k,
      spine-flat (suc k),
      spine-flat (suc (suc k)),
      grown_doubles (2 * k + 1) (2 * suc k + 1) 0 (omega arith) (omega arith),
      grown-flat (2 * k + 1),
      grown-flat (2 * k + 2),
      grown-flat (2 * suc k + 2),
    )
spine_doubles k (suc h) =
    omega (
      arith,
      spine-bits k (suc h),
      spine-bits k h,
      spine-bits (suc k) (suc h),
      grown_doubles (2 * k + 1) (2 * suc k + 1) (suc h) (omega arith) (omega arith),
      grown_doubles (2 * k + 2) (2 * suc k + 2) h (omega arith) (omega arith),
      spine_doubles (suc k) h,
    )

first-bits : (h : ℕ) → leaves (spine 0 (suc h)) ≡ 2 + leaves (spine 1 h)
unfolding spine grown leaves
first-bits h = omega arith

-- Two heights at a time.
record Doubled (h : ℕ) : Type 0 where
  here : 2 ^ suc h ≤ leaves (spine 0 h) + 1
  above : 2 ^ suc (suc h) ≤ leaves (spine 0 (suc h)) + 1

doubled : (h : ℕ) → Doubled h
doubled zero = record { here = omega (arith, spine-flat 0); above = omega (arith, first-bits 0, spine-flat 1) }
doubled (suc h) =
    let below = doubled h in
    record {
      here = below.above;
      above =
          omega (
            arith,
            below.here,
            below.above,
            pow-suc 2 (suc (suc h)),
            pow-suc 2 (suc h),
            first-bits (suc h),
            spine_doubles 0 h,
          );
    }

pub height-by_doublings : (n c : ℕ) → 1 ≤ c → n ≤ 2 ^ c → height n ≤ c
height-by_doublings n zero some reached = absurd (omega arith)
height-by_doublings n (suc c) some reached =
    height-least n (suc c) (omega (arith, (doubled (suc c)).here, pow-suc 2 (suc c), pow-suc 2 c, one-least c))
  where
    one-least : (c : ℕ) → 1 ≤ 2 ^ c
    one-least zero = omega arith
    one-least (suc c) = omega (arith, pow-suc 2 c, one-least c)
