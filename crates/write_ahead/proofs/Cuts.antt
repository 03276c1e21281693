-- The steps over the lowest bits of a node, by the part that the last of them lies in.
use Prim.Native.Nat.{ℕ, ◌+◌, ◌*◌, ◌-◌, ◌<◌, ◌≤◌}
use native.Mathlib.Omega.{arith}
use mathlib.Core.Path.{◌≡◌}
use mathlib.Core.Bool.{Bool, true, false, cond}
use mathlib.Core.List.{List, [], ◌∷◌, ◌++◌}
use lib.Dec.{ltb}
use borrow.Author.Tests.{lt-ltb, le-ltb}
use Rattle.meaning.specs.Layout.{each}
use Rattle.meaning.specs.FastAdder.{Tree, leaf, node, leaves, over_one, over_two, p_net, ahead, chain, cut}
use Rattle.laws.specs.Lists.{each_append}
use Rattle.laws.specs.FastAdder.Shape.{cut-width}
use Rattle.laws.specs.FastAdder.Counting.{ones, twos, width-counted}
use Rattle.write_ahead.specs.Carries.{bytes_of, one_bytes, two_bytes}

-- Steps go over no more trees than bits.
pub few-trees : (t : Tree) (m : ℕ) → m < leaves t → ones (cut m t) + 2 * twos (cut m t) ≤ m
few-trees t m low = omega (arith, width-counted (cut m t), cut-width t m low)

pub cut-leaf : {t : Tree} (m : ℕ) → t ≡ leaf → cut m t ≡ []
unfolding cut
cut-leaf m is = rw is

module _ {t : Tree} (m : ℕ) (x y z : Tree) (is : t ≡ node x y z) where
  pub cut_low : m < leaves x → cut m t ≡ cut m x
  unfolding cut
  cut_low low = rw (is, lt-ltb m (leaves x) low)

  pub cut-middle : leaves x ≤ m → m < leaves x + leaves y → cut m t ≡ over_one x ∷ cut (m - leaves x) y
  unfolding cut
  cut-middle past low = rw (is, le-ltb m (leaves x) past, lt-ltb m (leaves x + leaves y) low)

  pub cut_high : leaves x + leaves y ≤ m → cut m t ≡ over_two x y ∷ cut (m - (leaves x + leaves y)) z
  unfolding cut
  cut_high past =
      let past-low : leaves x ≤ m = omega arith in
      rw (is, le-ltb m (leaves x) past-low, le-ltb m (leaves x + leaves y) past)

-- What stands behind the lowest tree, once the steps are past it, and behind the two lowest, once they are past both.
module _ (n m s : ℕ) (x y z : Tree) where
  abbrev pub behind_both : (low end middle : ℕ) → List ℕ
  behind_both low end middle = two_bytes n end s low middle ++ bytes_of (chain n (cut (m - (leaves x + leaves y)) z) end)

  abbrev pub behind_first : (end low : ℕ) → List ℕ
  behind_first end low =
      one_bytes n end s low
      ++ cond (ltb m (leaves x + leaves y))
      (bytes_of (chain n (cut (m - leaves x) y) end))
      (bytes_of (ahead n y end) ++ behind_both low (end + leaves y) (p_net n y end))

  pub bytes-past-low : {t : Tree} → t ≡ node x y z → leaves x ≤ m
      → bytes_of (ahead n x s) ++ behind_first (s + leaves x) (p_net n x s) ≡ bytes_of (chain n (cut m t) s)
  unfolding cut chain each
  bytes-past-low is past = rw (is, le-ltb m (leaves x) past) (go (ltb m (leaves x + leaves y)))
    where
      go : (b : Bool)
          → bytes_of (ahead n x s)
          ++ (one_bytes n (s + leaves x) s (p_net n x s)
          ++ cond b
          (bytes_of (chain n (cut (m - leaves x) y) (s + leaves x)))
          (bytes_of (ahead n y (s + leaves x)) ++ behind_both (p_net n x s) (s + leaves x + leaves y) (p_net n y (s + leaves x))))
          ≡ bytes_of (chain n (cond b (over_one x ∷ cut (m - leaves x) y) (over_two x y ∷ cut (m - (leaves x + leaves y)) z)) s)
      go true = simp each_append
      go false = simp each_append
