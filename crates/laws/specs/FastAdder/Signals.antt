-- Which nets of the look-ahead are there, and which are not yet, before bit s, after the occurrences of a tree, and after the carry
-- behind it.
use Rattle.std.specs.Prelude.{ℕ, suc, ◌+◌, ◌*◌, ◌<◌, ◌≤◌, ◌≡◌, true, false, List, [], ◌∷◌}
use Rattle.std.proofs.Common.{arith}
use Rattle.meaning.specs.Boxlist.{member}
use Rattle.meaning.specs.FastAdder.{Tree, leaf, node, leaves, Step, over_one, over_two, p_net, g_net}
use Rattle.laws.specs.Adder.Distinct.{member-cons}
use Rattle.laws.specs.FastAdder.Runs.{behind, not_behind}

pub some-leaves : (t : Tree) → 1 ≤ leaves t
unfolding leaves
some-leaves leaf = omega arith
some-leaves (node x y z) = omega (arith, some-leaves x)

-- How many bits some steps go over.
unfoldable pub width : List Step → ℕ
width [] = 0
width (over_one x ∷ steps) = leaves x + width steps
width (over_two x y ∷ steps) = leaves x + leaves y + width steps

module _ (n : ℕ) where
  -- A net that is none of the carries past one on and before another, and no P or G of nodes in such a range.
  pub record Spared (from carries nodes net : ℕ) : Type 0 where
    pub carry : (i : ℕ) → from < i → i < carries → net ≡ i → ⊥
    pub node_p : (i : ℕ) → from < i → i < nodes → net ≡ 3 * n + 1 + i → ⊥
    pub node_g : (i : ℕ) → from < i → i < nodes → net ≡ 3 * n + 1 + i + n → ⊥

  -- Only such nets have been added.
  pub record Adds (from carries nodes : ℕ) (old new : List ℕ) : Type 0 where
    pub kept : (net : ℕ) → member net old ≡ true → member net new ≡ true
    pub spared : (net : ℕ) → Spared from carries nodes net → member net old ≡ false → member net new ≡ false

  pub adds-both :
      {from carries nodes : ℕ} {old mid new : List ℕ} (middle : ℕ)
      → from ≤ middle
      → middle < carries
      → middle ≤ nodes
      → Adds from (suc middle) middle old mid
      → Adds middle carries nodes mid new
      → Adds from carries nodes old new
  adds-both middle low below under first second =
      record {
        kept = λ net held. second.kept net (first.kept net held);
        spared = λ net s out.
            second.spared net
            (record {
              carry = λ i a b. s.carry i (omega arith) b;
              node_p = λ i a b. s.node_p i (omega arith) b;
              node_g = λ i a b. s.node_g i (omega arith) b;
            })
            (first.spared net
            (record {
              carry = λ i a b. s.carry i a (omega arith);
              node_p = λ i a b. s.node_p i a (omega arith);
              node_g = λ i a b. s.node_g i a (omega arith);
            })
            out);
      }

  -- Before bit s: the carries up to it are there, none further up to `past`, and no node's P and G there; every p and g is.
  pub record Ready (s past : ℕ) (signals : List ℕ) : Type 0 where
    pub carries : (i : ℕ) → i ≤ s → member i signals ≡ true
    pub bit_p : (i : ℕ) → i < n → member (n + 1 + i) signals ≡ true
    pub bit_g : (i : ℕ) → i < n → member (n + 1 + i + n) signals ≡ true
    pub no_carry : (i : ℕ) → s < i → i ≤ past → member i signals ≡ false
    pub no_p : (i : ℕ) → s < i → i < past → member (3 * n + 1 + i) signals ≡ false
    pub no_g : (i : ℕ) → s < i → i < past → member (3 * n + 1 + i + n) signals ≡ false

  -- After the occurrences of a tree: its P and G and the carries inside it are there too.
  pub record Ran (t : Tree) (s : ℕ) (old new : List ℕ) : Type 0 where
    pub adds : Adds s (s + leaves t) (s + leaves t) old new
    pub carries : (i : ℕ) → i < s + leaves t → member i new ≡ true
    pub has_p : member (p_net n t s) new ≡ true
    pub has_g : member (g_net n t s) new ≡ true

  -- After the carry behind it too.
  pub record Over (t : Tree) (s past : ℕ) (old new : List ℕ) : Type 0 where
    pub ready : Ready (s + leaves t) past new
    pub adds : Adds s (suc (s + leaves t)) (s + leaves t) old new
    pub has_p : member (p_net n t s) new ≡ true
    pub has_g : member (g_net n t s) new ≡ true

  pub over_tree :
      {t : Tree} {s past : ℕ} {old new : List ℕ}
      → s + leaves t ≤ past
      → past ≤ n
      → Ready s past old
      → Ran t s old new
      → Over t s past old ((s + leaves t) ∷ new)
  over_tree {t} {s} {past} {old} {new} fits most r ran =
      let end = s + leaves t in
      let some = some-leaves t in
      record {
        ready =
            record {
              carries = λ i low. member-cons i end new (λ other. ran.carries i (omega arith));
              bit_p = λ i low. behind (n + 1 + i) end new (ran.adds.kept (n + 1 + i) (r.bit_p i low));
              bit_g = λ i low. behind (n + 1 + i + n) end new (ran.adds.kept (n + 1 + i + n) (r.bit_g i low));
              no_carry = λ i low high.
                  not_behind i end new (omega arith) (ran.adds.spared i (omega arith) (r.no_carry i (omega arith) high));
              no_p = λ i low high.
                  not_behind (3 * n + 1 + i) end new (omega arith)
                  (ran.adds.spared (3 * n + 1 + i) (omega arith) (r.no_p i (omega arith) high));
              no_g = λ i low high.
                  not_behind (3 * n + 1 + i + n) end new (omega arith)
                  (ran.adds.spared (3 * n + 1 + i + n) (omega arith) (r.no_g i (omega arith) high));
            };
        adds =
            record {
              kept = λ net held. behind net end new (ran.adds.kept net held);
              spared = λ net s' out.
                  not_behind net end new (s'.carry end (omega arith) (omega arith))
                  (ran.adds.spared net
                  (record {
                    carry = λ i a b. s'.carry i a (omega arith);
                    node_p = λ i a b. s'.node_p i a (omega arith);
                    node_g = λ i a b. s'.node_g i a (omega arith);
                  })
                  out);
            };
        has_p = behind (p_net n t s) end new ran.has_p;
        has_g = behind (g_net n t s) end new ran.has_g;
      }

  -- After two trees and the carry behind both.
  pub record OverTwo (x y : Tree) (s past : ℕ) (old new : List ℕ) : Type 0 where
    pub ready : Ready (s + leaves x + leaves y) past new
    pub adds : Adds s (suc (s + leaves x + leaves y)) (s + leaves x + leaves y) old new
    pub low_p : member (p_net n x s) new ≡ true
    pub low_g : member (g_net n x s) new ≡ true
    pub high_p : member (p_net n y (s + leaves x)) new ≡ true
    pub high_g : member (g_net n y (s + leaves x)) new ≡ true

  pub over-two :
      {x y : Tree} {s past : ℕ} {old mid new : List ℕ}
      → s + leaves x + leaves y ≤ past
      → past ≤ n
      → Over x s past old mid
      → Ran y (s + leaves x) mid new
      → OverTwo x y s past old ((s + leaves x + leaves y) ∷ new)
  over-two {x} {y} {s} {past} {old} {mid} {new} fits most over ran =
      let sy = s + leaves x in
      let sz = sy + leaves y in
      let second = over_tree fits most over.ready ran in
      let some = some-leaves y in
      record {
        ready = second.ready;
        adds = adds-both sy (omega arith) (omega arith) (omega arith) over.adds second.adds;
        low_p = behind (p_net n x s) sz new (ran.adds.kept (p_net n x s) over.has_p);
        low_g = behind (g_net n x s) sz new (ran.adds.kept (g_net n x s) over.has_g);
        high_p = second.has_p;
        high_g = second.has_g;
      }
