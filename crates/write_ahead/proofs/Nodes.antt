-- The bytes inside a tree, as they are laid: those of a node's parts one after the other, and behind each what its end and the net of its P
-- decide.
use Prim.Native.Nat.{ℕ, ◌+◌, ◌*◌, ◌≤◌}
use native.Mathlib.Omega.{arith}
use mathlib.Core.Path.{◌≡◌}
use mathlib.Core.List.{List, ◌++◌}
use lib.ListN.{length}
use Rattle.meaning.specs.Layout.{each}
use Rattle.meaning.specs.FastAdder.{Tree, leaf, node, leaves, p_net, ahead}
use Rattle.laws.specs.Lists.{each_append}
use Rattle.laws.specs.FastAdder.Signals.{some-leaves}
use Rattle.bytes_out.specs.Filled.{Put}
use Rattle.bytes_out.specs.Puts.{put-none, length-put}
use Rattle.bytes_out.specs.Laying.{Laying}
use Rattle.write_pieces.specs.Rooms.{Room}
use Rattle.write_pieces.specs.Laying.{laying-none, laying-left, laying-put, laying-last, room-first}
use Rattle.write_trees.specs.Trees.{tree_of, Joined}
use Rattle.write_trees.specs.declared.Tree.{Tree as Named}
use Rattle.write_trees.proofs.Shapes.{Counted, counted}
use Rattle.write_ahead.specs.Carries.{bytes_of, one_bytes, two_bytes, join_bytes}
use Rattle.write_ahead.specs.Laid.{Layable, TreeLaid}
use Rattle.write_ahead.specs.declared.trees.Laid.{Laid}

-- The net of P is within the nets of module 41.
pub net-within : (n : ℕ) (t : Tree) (s : ℕ) → s + leaves t ≤ n → p_net n t s ≤ 4 * n
unfolding p_net leaves
net-within n leaf s within = omega arith
net-within n (node x y z) s within = omega (arith, some-leaves z)

-- A tree is laid, and what its end and its net decide is left.
pub laid_then :
    {n s at next : ℕ} {tree : Named} {whole before middle after : List ℕ} {r : Laid} (rest : ℕ → ℕ → List ℕ)
    → Laying whole (bytes_of (ahead n (tree_of tree) s) ++ rest (s + leaves (tree_of tree)) (p_net n (tree_of tree) s)) before at middle next
    → TreeLaid n tree s middle next after r
    → Laying whole (rest r.end r.p) before at after r.at
laid_then rest l laid = rw (laid.end, laid.net) (laying-put laid.put l)

-- The net of a tree that is laid within the width.
pub laid-nets :
    {n s next : ℕ} {tree : Named} {middle after : List ℕ} {r : Laid}
    → TreeLaid n tree s middle next after r
    → s + leaves (tree_of tree) ≤ n
    → (r.end ≤ n) × (r.p ≤ 4 * n)
laid-nets {n} {s} {tree = tree} laid within =
    (omega (arith, laid.end), omega (arith, laid.net, net-within n (tree_of tree) s within))

pub laid-length :
    {n s at : ℕ} {tree : Named} {before after : List ℕ} {r : Laid}
    → Layable n tree s before at
    → TreeLaid n tree s before at after r
    → length after ≡ length before
laid-length able laid =
    length-put laid.put (omega (arith, able.room.fits)) (omega (arith, able.room.fits, laid.put.place))

pub leaf-laid :
    (n : ℕ) (tree : Named) (s : ℕ) (before : List ℕ) (at : ℕ)
    → tree_of tree ≡ leaf
    → TreeLaid n tree s before at before (record { at = at; end = s + 1; p = n + 1 + s })
unfolding ahead p_net leaves each
leaf-laid n tree s before at is = record { put = rw is (put-none before at); end = rw is; net = rw is }

net-of-joined : (n : ℕ) {t : Tree} (x y z : Tree) (s end : ℕ) → t ≡ node x y z → end ≡ s + leaves x + leaves y
    → 3 * n + 1 + end ≡ p_net n t s
unfolding p_net
net-of-joined n x y z s end is e = rw (is, e)

-- What stands behind the lowest tree of a node, behind the middle one and behind the highest.
abbrev behind_high : (n low middle end high : ℕ) → List ℕ
behind_high n low middle end high = join_bytes n (3 * n + 1 + end) low middle high

abbrev behind_middle : (n : ℕ) (z : Tree) (s low end middle : ℕ) → List ℕ
behind_middle n z s low end middle =
    two_bytes n end s low middle ++ (bytes_of (ahead n z end) ++ behind_high n low middle end (p_net n z end))

abbrev behind_low : (n : ℕ) (y z : Tree) (s end low : ℕ) → List ℕ
behind_low n y z s end low =
    one_bytes n end s low ++ (bytes_of (ahead n y end) ++ behind_middle n z s low (end + leaves y) (p_net n y end))

bytes-of-node : (n : ℕ) (x y z : Tree) (s : ℕ)
    → bytes_of (ahead n (node x y z) s) ≡ bytes_of (ahead n x s) ++ behind_low n y z s (s + leaves x) (p_net n x s)
unfolding ahead p_net each
bytes-of-node n x y z s = simp each_append

bytes-of-joined : (n : ℕ) {t : Tree} (x y z : Tree) (s : ℕ) → t ≡ node x y z
    → bytes_of (ahead n x s) ++ behind_low n y z s (s + leaves x) (p_net n x s) ≡ bytes_of (ahead n t s)
bytes-of-joined n x y z s is = rw (is, bytes-of-node n x y z s)

module _
    {n s at : ℕ} {tree x y z : Named} {before : List ℕ} (joined : Joined tree x y z) (able : Layable n tree s before at)
  where
    abbrev whole : List ℕ
    whole = bytes_of (ahead n (tree_of tree) s)

    bits : Counted (tree_of tree) (tree_of x) (tree_of y) (tree_of z)
    bits = counted _ _ _ joined.is

    low-within : s + leaves (tree_of x) ≤ n
    low-within = omega (arith, bits, able.within)

    low-left : Laying whole
        (bytes_of (ahead n (tree_of x) s) ++ behind_low n (tree_of y) (tree_of z) s (s + leaves (tree_of x)) (p_net n (tree_of x) s))
        before at before at
    low-left = laying-none before at (bytes-of-joined n (tree_of x) (tree_of y) (tree_of z) s joined.is) able.room.fits

    pub low_able : Layable n x s before at
    low_able =
        record { narrow = able.narrow; sound = joined.low; within = low-within; room = room-first _ (laying-left low-left) }

    module _ {one : List ℕ} {low : Laid} (first : TreeLaid n x s before at one low) where
      pub one_left : Laying whole (behind_low n (tree_of y) (tree_of z) s low.end low.p) before at one low.at
      one_left = laid_then (behind_low n (tree_of y) (tree_of z) s) low-left first

      pub one_able : (n ≤ 64) × (low.end ≤ 2000) × (s ≤ 2000) × (low.p ≤ 1000) × Room (one_bytes n low.end s low.p) one low.at
      one_able =
          let nets = laid-nets first low-within in
          (able.narrow, omega (arith, able.narrow), omega (arith, able.narrow, able.within), omega (arith, able.narrow), room-first _ (laying-left one_left))

      middle-within : low.end + leaves (tree_of y) ≤ n
      middle-within = omega (arith, first.end, bits, able.within)

      module _ {two : List ℕ} {next : ℕ} (second : Put (one_bytes n low.end s low.p) one low.at two next) where
        middle-left : Laying whole
            (bytes_of (ahead n (tree_of y) low.end)
            ++ behind_middle n (tree_of z) s low.p (low.end + leaves (tree_of y)) (p_net n (tree_of y) low.end))
            before at two next
        middle-left = laying-put second one_left

        pub middle_able : Layable n y low.end two next
        middle_able =
            record { narrow = able.narrow; sound = joined.middle; within = middle-within; room = room-first _ (laying-left middle-left) }

        module _ {three : List ℕ} {middle : Laid} (third : TreeLaid n y low.end two next three middle) where
          two-left : Laying whole (behind_middle n (tree_of z) s low.p middle.end middle.p) before at three middle.at
          two-left = laid_then (behind_middle n (tree_of z) s low.p) middle-left third

          pub two_able :
              (n ≤ 64) × (middle.end ≤ 2000) × (s ≤ 2000) × (low.p ≤ 1000) × (middle.p ≤ 1000)
              × Room (two_bytes n middle.end s low.p middle.p) three middle.at
          two_able =
              let nets = laid-nets third middle-within in (
                able.narrow,
                omega (arith, able.narrow),
                one_able.2,
                one_able.3,
                omega (arith, able.narrow),
                room-first _ (laying-left two-left),
              )

          high-within : middle.end + leaves (tree_of z) ≤ n
          high-within = omega (arith, first.end, third.end, bits, able.within)

          module _ {four : List ℕ} {later : ℕ} (fourth : Put (two_bytes n middle.end s low.p middle.p) three middle.at four later) where
            high-left : Laying whole
                (bytes_of (ahead n (tree_of z) middle.end)
                ++ behind_high n low.p middle.p middle.end (p_net n (tree_of z) middle.end))
                before at four later
            high-left = laying-put fourth two-left

            pub high_able : Layable n z middle.end four later
            high_able =
                record { narrow = able.narrow; sound = joined.high; within = high-within; room = room-first _ (laying-left high-left) }

            module _ {five : List ℕ} {high : Laid} (fifth : TreeLaid n z middle.end four later five high) where
              join-left : Laying whole (behind_high n low.p middle.p middle.end high.p) before at five high.at
              join-left = laid_then (λ end p. behind_high n low.p middle.p middle.end p) high-left fifth

              pub join_able :
                  (n ≤ 64) × (3 * n + 1 + middle.end ≤ 1000) × (low.p ≤ 1000) × (middle.p ≤ 1000) × (high.p ≤ 1000)
                  × Room (join_bytes n (3 * n + 1 + middle.end) low.p middle.p high.p) five high.at
              join_able =
                  let nets = laid-nets fifth high-within in (
                    able.narrow,
                    omega (arith, able.narrow, high-within),
                    one_able.3,
                    two_able.4,
                    omega (arith, able.narrow),
                    laying-left join-left,
                  )

              pub node-laid : {six : List ℕ} {end : ℕ}
                  → Put (join_bytes n (3 * n + 1 + middle.end) low.p middle.p high.p) five high.at six end
                  → TreeLaid n tree s before at six (record { at = end; end = high.end; p = 3 * n + 1 + middle.end })
              node-laid sixth =
                  record {
                    put = laying-last sixth join-left;
                    end = omega (arith, first.end, third.end, fifth.end, bits);
                    net =
                        net-of-joined n (tree_of x) (tree_of y) (tree_of z) s middle.end joined.is
                        (omega (arith, first.end, third.end));
                  }
