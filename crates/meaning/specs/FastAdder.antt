-- The propagate-generate adder of width n (request M-104; docs/ADDER.md draws it): modules 40, 41, 43 and 42. Each bit has p, the XOR
-- of a and b, which passes a carry on, and g, their AND, which makes one. Module 41 looks ahead: from the carry in and all p and g it
-- gives the carry behind each bit, over trees of bits. In a tree, P says that a carry passes through all its bits and G that they make
-- one; P and G go up from three trees to the tree of the three, carries go down.
use Rattle.std.specs.Prelude.{ℕ, zero, suc, ◌+◌, ◌*◌, ◌-◌, cond, List, [], ◌∷◌, ◌++◌, ltb}
use Rattle.meaning.specs.Syntax.{Occurrence, Module}
use Rattle.meaning.specs.Adder.{up_from}
use Rattle.meaning.specs.Counter.{gate_on, OR, XOR, AND}

-- A gate of three arguments, and the kinds in use.
abbrev pub gate_on3 : (net kind a b c : ℕ) → Occurrence
gate_on3 net kind a b c = record { drives = net ∷ []; refers = kind; takes = a ∷ b ∷ c ∷ [] }

abbrev pub OR3 : ℕ
OR3 = 6

abbrev pub AND3 : ℕ
AND3 = 11

-- The same gate at each bit, as many as said, the three nets one further each time.
unfoldable pub gate_row : (kind net a b count : ℕ) → List Occurrence
gate_row kind net a b zero = []
gate_row kind net a b (suc n) = gate_on net kind a b ∷ gate_row kind (suc net) (suc a) (suc b) n

-- Module 42: the carry behind a tree, from the carry before it and its P and G.
abbrev pub carry_one : Module
carry_one =
    record {
      number = 42;
      inputs = 0 ∷ 1 ∷ 2 ∷ [];
      outputs = 4 ∷ [];
      occurrences = gate_on 3 AND 1 0 ∷ gate_on 4 OR 2 3 ∷ [];
    }

-- Module 43: the carry behind two trees, from the carry before them and P and G of each, the lower first.
abbrev pub carry_two : Module
carry_two =
    record {
      number = 43;
      inputs = 0 ∷ 1 ∷ 2 ∷ 3 ∷ 4 ∷ [];
      outputs = 7 ∷ [];
      occurrences = gate_on 5 AND 3 2 ∷ gate_on3 6 AND3 3 1 0 ∷ gate_on3 7 OR3 4 5 6 ∷ [];
    }

-- A tree over neighbouring bits: one bit, or three trees, the lowest bits in the first.
pub data Tree : Type 0 where
  leaf : Tree
  node : (x y z : Tree) → Tree

unfoldable pub leaves : Tree → ℕ
leaves leaf = 1
leaves (node x y z) = leaves x + leaves y + leaves z

-- A carry goes from the low end in steps, over one tree or over two at once.
pub data Step : Type 0 where
  over_one : (x : Tree) → Step
  over_two : (x y : Tree) → Step

-- The nets of module 41 at width n: 0 is the carry in and 1 to n are the carries behind the bits, so that the carry before bit i is
-- net i; n+1+i and 2n+1+i are p and g of bit i; 3n+1+i and 4n+1+i are P and G of the node whose third tree starts at bit i.
module _ (n : ℕ) where
  -- P and G of the tree whose bits start at s.
  unfoldable pub p_net : Tree → (s : ℕ) → ℕ
  p_net leaf s = n + 1 + s
  p_net (node x y z) s = 3 * n + 1 + (s + leaves x + leaves y)

  abbrev pub g_net : Tree → (s : ℕ) → ℕ
  g_net t s = p_net t s + n

  -- The carry behind the tree x at s, and behind the trees x and y.
  abbrev pub behind_one : (x : Tree) (s : ℕ) → Occurrence
  behind_one x s = record { drives = (s + leaves x) ∷ []; refers = 42; takes = s ∷ p_net x s ∷ g_net x s ∷ [] }

  abbrev pub behind_two : (x y : Tree) (s : ℕ) → Occurrence
  behind_two x y s =
      let sy = s + leaves x in
      record {
        drives = (sy + leaves y) ∷ [];
        refers = 43;
        takes = s ∷ p_net x s ∷ g_net x s ∷ p_net y sy ∷ g_net y sy ∷ [];
      }

  -- P and G of a node: all three pass the carry on; the first makes one and the two others carry it on as they carry any.
  abbrev pub passes : (x y z : Tree) (s : ℕ) → Occurrence
  passes x y z s =
      let sy = s + leaves x in
      gate_on3 (p_net (node x y z) s) AND3 (p_net x s) (p_net y sy) (p_net z (sy + leaves y))

  abbrev pub makes : (x y z : Tree) (s : ℕ) → Occurrence
  makes x y z s =
      let sy = s + leaves x in
      let sz = sy + leaves y in
      record {
        drives = g_net (node x y z) s ∷ [];
        refers = 43;
        takes = g_net x s ∷ p_net y sy ∷ g_net y sy ∷ p_net z sz ∷ g_net z sz ∷ [];
      }

  -- The carries inside a tree, and its P and G.
  unfoldable pub ahead : Tree → (s : ℕ) → List Occurrence
  ahead leaf s = []
  ahead (node x y z) s =
      let sy = s + leaves x in
      ahead x s
      ++ (behind_one x s
      ∷ (ahead y sy ++ (behind_two x y s ∷ (ahead z (sy + leaves y) ++ (passes x y z s ∷ makes x y z s ∷ [])))))

  -- Step after step, from the low end.
  unfoldable pub chain : List Step → (s : ℕ) → List Occurrence
  chain [] s = []
  chain (over_one x ∷ steps) s = ahead x s ++ (behind_one x s ∷ chain steps (s + leaves x))
  chain (over_two x y ∷ steps) s =
      let sy = s + leaves x in
      ahead x s ++ (behind_one x s ∷ (ahead y sy ++ (behind_two x y s ∷ chain steps (sy + leaves y))))

  -- Module 41: inputs the carry in, then all p, then all g; outputs the carries behind the bits. All low bit first.
  unfoldable pub lookahead : List Step → Module
  lookahead steps =
      record {
        number = 41;
        inputs = 0 ∷ up_from (n + 1) (2 * n);
        outputs = up_from 1 n;
        occurrences = chain steps 0;
      }

  -- The carries of module 40, by module 41 on the carry in, all p and all g.
  abbrev pub carries_ahead : Occurrence
  carries_ahead = record { drives = up_from 1 n; refers = 41; takes = 0 ∷ up_from (3 * n + 1) (2 * n) }

  -- Module 40, with inputs and outputs in the order of module 18. Nets: 0 the carry in, 1 to n the carries, and then n each of a, b,
  -- p, g and the sums.
  unfoldable pub fast_module : Module
  fast_module =
      record {
        number = 40;
        inputs = 0 ∷ up_from (n + 1) (2 * n);
        outputs = up_from (5 * n + 1) n ++ (n ∷ []);
        occurrences =
            gate_row XOR (3 * n + 1) (n + 1) (2 * n + 1) n
            ++ (gate_row AND (4 * n + 1) (n + 1) (2 * n + 1) n
            ++ (carries_ahead ∷ gate_row XOR (5 * n + 1) (3 * n + 1) 0 n));
      }

  -- The adder over any steps that have as many leaves as the width.
  unfoldable pub fast_adder_over : List Step → List Module
  fast_adder_over steps = fast_module ∷ lookahead steps ∷ carry_two ∷ carry_one ∷ []

-- The shape. The largest tree whose G is there at time u, and in which a carry passes at most h nodes,
unfoldable pub grown : (u h : ℕ) → Tree
grown zero h = leaf
grown (suc zero) h = leaf
grown (suc (suc zero)) h = leaf
grown (suc (suc (suc u))) zero = leaf
grown (suc (suc (suc u))) (suc h) = node (grown (suc u) (suc h)) (grown (suc u) h) (grown (suc (suc u)) h)

-- and those over which a carry goes from step k on: it comes to that step at time 2k + 1, so the trees there may be as late.
unfoldable pub spine : (k h : ℕ) → Tree
spine k zero = leaf
spine k (suc h) = node (grown (2 * k + 1) (suc h)) (grown (2 * k + 2) h) (spine (suc k) h)

-- The lowest m bits of a tree that has more, as steps.
unfoldable pub cut : (m : ℕ) → Tree → List Step
cut m leaf = []
cut m (node x y z) =
    cond (ltb m (leaves x)) (cut m x)
    (cond (ltb m (leaves x + leaves y)) (over_one x ∷ cut (m - leaves x) y) (over_two x y ∷ cut (m - (leaves x + leaves y)) z))

-- The least height from h on at which the spine has more than n bits, sought in so many heights.
unfoldable pub height_from : (h count n : ℕ) → ℕ
height_from h zero n = h
height_from h (suc count) n = let higher = height_from (suc h) count n in cond (ltb n (leaves (spine 0 h))) h higher

unfoldable pub height : ℕ → ℕ
height n = height_from 0 n n

unfoldable pub steps : ℕ → List Step
steps n = cut n (spine 0 (height n))

unfoldable pub fast_adder : ℕ → List Module
fast_adder n = fast_adder_over n (steps n)
