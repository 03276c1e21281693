-- A net among the nets of the look-ahead: it is at most one of them, and P or G of at most one tree.
use Rattle.std.specs.Prelude.{ℕ, ◌+◌, ◌*◌, ◌≤◌, ◌≡◌}
use mathlib.Core.List.{List, [], ◌∷◌}
use native.Mathlib.Omega.{arith}
use Rattle.meaning.specs.FastAdder.{Tree, leaf, node, leaves, Step, over_one, over_two, p_net, g_net}
use Rattle.laws.specs.FastAdder.Signals.{width}
use Rattle.laws.specs.FastAdder.Hits.{hits, hits_in, hits_in-append, hits_in-apart, hits_in-most}

module _ (n net : ℕ) where
  -- The net is P or G of a tree; and of how many trees in it.
  abbrev pub hit : ℕ → ℕ
  hit = hits net

  abbrev pub its : Tree → (s : ℕ) → ℕ
  its t s = hit (p_net n t s) + hit (g_net n t s)

  unfoldable pub within : Tree → (s : ℕ) → ℕ
  within leaf s = its leaf s
  within (node x y z) s =
      within x s + within y (s + leaves x) + within z (s + leaves x + leaves y) + its (node x y z) s

  unfoldable pub within_steps : List Step → (s : ℕ) → ℕ
  within_steps [] s = 0
  within_steps (over_one x ∷ steps) s = within x s + within_steps steps (s + leaves x)
  within_steps (over_two x y ∷ steps) s = within x s + within y (s + leaves x) + within_steps steps (s + leaves x + leaves y)

  -- The rows of p, g, P and G from a bit on, as many as said.
  abbrev pub rows : (s count : ℕ) → ℕ
  rows s count =
      hits_in net (n + 1 + s) count
      + hits_in net (n + 1 + s + n) count
      + hits_in net (3 * n + 1 + s) count
      + hits_in net (3 * n + 1 + s + n) count

  rows-further : (s a b : ℕ) → rows s (a + b) ≡ rows s a + rows (s + a) b
  rows-further s a b =
      let on : (k : ℕ) → k + s + a ≡ k + (s + a) = λ k. omega arith in
      let on-n : (k : ℕ) → k + s + n + a ≡ k + (s + a) + n = λ k. omega arith in
      omega (
        arith,
        rw (on (n + 1)) at (hits_in-append net (n + 1 + s) a b),
        rw (on-n (n + 1)) at (hits_in-append net (n + 1 + s + n) a b),
        rw (on (3 * n + 1)) at (hits_in-append net (3 * n + 1 + s) a b),
        rw (on-n (3 * n + 1)) at (hits_in-append net (3 * n + 1 + s + n) a b),
      )

  rows_in_three : (s a b c : ℕ) → rows s (a + b + c) ≡ rows s a + rows (s + a) b + rows (s + a + b) c
  rows_in_three s a b c =
      let place : s + (a + b) ≡ s + a + b = omega arith in
      omega (arith, rw place at (rows-further s (a + b) c), rows-further s a b)

  within-rows : (t : Tree) (s : ℕ) → within t s + hit (3 * n + 1 + s) + hit (3 * n + 1 + s + n) ≤ rows s (leaves t)
  unfolding within leaves p_net hits_in
  within-rows leaf s = omega arith
  within-rows (node x y z) s =
      omega (
        arith,
        rows_in_three s (leaves x) (leaves y) (leaves z),
        within-rows x s,
        within-rows y (s + leaves x),
        within-rows z (s + leaves x + leaves y),
      )

  pub steps-rows : (steps : List Step) (s : ℕ) → within_steps steps s ≤ rows s (width steps)
  unfolding within_steps width
  steps-rows [] s = omega arith
  steps-rows (over_one x ∷ steps) s =
      omega (arith, rows-further s (leaves x) (width steps), within-rows x s, steps-rows steps (s + leaves x))
  steps-rows (over_two x y ∷ steps) s =
      omega (
        arith,
        rows_in_three s (leaves x) (leaves y) (width steps),
        within-rows x s,
        within-rows y (s + leaves x),
        steps-rows steps (s + leaves x + leaves y),
      )

  -- The carries from a bit on.
  pub carries_in_three :
      (s a b c : ℕ) → hits_in net s (a + b + c) ≡ hits_in net s a + hits_in net (s + a) b + hits_in net (s + a + b) c
  carries_in_three s a b c =
      let place : s + (a + b) ≡ s + a + b = omega arith in
      omega (arith, rw place at (hits_in-append net s (a + b) c), hits_in-append net s a b)

  -- All nets of the look-ahead are different, so the net is one of them at most.
  pub one_of_all : hits_in net 0 n + rows 0 n ≤ 1
  one_of_all =
      omega (
        arith,
        hits_in-most net 0 (5 * n + 1),
        hits_in-apart net 0 n (n + 1 + 0) (4 * n) (5 * n + 1) (omega arith) (omega arith),
        hits_in-apart net (n + 1 + 0) n (n + 1 + 0 + n) (3 * n) (4 * n) (omega arith) (omega arith),
        hits_in-apart net (n + 1 + 0 + n) n (3 * n + 1 + 0) (2 * n) (3 * n) (omega arith) (omega arith),
        hits_in-apart net (3 * n + 1 + 0) n (3 * n + 1 + 0 + n) n (2 * n) (omega arith) (omega arith),
      )
