-- The steps over the lowest bits of a node, as they are laid: those inside its lowest tree, or that tree, the carry behind it, and the rest.
use Prim.Native.Nat.{ℕ, ◌+◌, ◌-◌, ◌<◌, ◌≤◌}
use native.Mathlib.Omega.{arith}
use mathlib.Core.Path.{◌≡◌}
use mathlib.Core.Bool.{cond}
use mathlib.Core.List.{List, ◌++◌}
use lib.Dec.{ltb}
use borrow.Author.Tests.{lt-ltb, le-ltb}
use lib.ListN.{length}
use Rattle.meaning.specs.Layout.{each}
use Rattle.meaning.specs.FastAdder.{leaf, leaves, p_net, ahead, chain, cut}
use Rattle.laws.specs.FastAdder.Counting.{ones, twos}
use Rattle.bytes_out.specs.Filled.{Put}
use Rattle.bytes_out.specs.Puts.{put-none, length-put}
use Rattle.bytes_out.specs.Laying.{Laying}
use Rattle.write_pieces.specs.Rooms.{Room}
use Rattle.write_pieces.specs.Laying.{laying-none, laying-left, laying-put, laying-last, room-first}
use Rattle.write_trees.specs.Trees.{tree_of, Joined}
use Rattle.write_trees.specs.declared.Tree.{Tree}
use Rattle.write_trees.proofs.Shapes.{Counted, counted}
use Rattle.write_ahead.specs.Carries.{bytes_of, one_bytes, two_bytes}
use Rattle.write_ahead.specs.Laid.{Layable, TreeLaid, Chainable, ChainLaid}
use Rattle.write_ahead.specs.declared.trees.Laid.{Laid}
use Rattle.write_ahead.specs.declared.chain.Steps.{Steps}
use Rattle.write_ahead.proofs.Nodes.{laid_then, laid-nets}
use Rattle.write_ahead.proofs.Cuts.{few-trees, cut-leaf, cut_low, cut-middle, cut_high, behind_both, behind_first, bytes-past-low}

pub no_steps :
    (n : ℕ) (tree : Tree) (left s : ℕ) (before : List ℕ) (at : ℕ)
    → tree_of tree ≡ leaf
    → ChainLaid n tree left s before at before (record { at = at; trees = 0 })
unfolding chain each ones twos
no_steps n tree left s before at is = record { put = rw (cut-leaf left is) (put-none before at); trees = rw (cut-leaf left is) }

pub chained-length :
    {n left s at : ℕ} {tree : Tree} {before after : List ℕ} {r : Steps}
    → Chainable n tree left s before at
    → ChainLaid n tree left s before at after r
    → length after ≡ length before
chained-length able laid =
    length-put laid.put (omega (arith, able.room.fits)) (omega (arith, able.room.fits, laid.put.place))

pub laid-few : {n left s at : ℕ} {tree : Tree} {before after : List ℕ} {r : Steps}
    → Chainable n tree left s before at
    → ChainLaid n tree left s before at after r
    → (r.trees ≤ left) × (left ≤ 64)
laid-few {left = left} {tree = tree} able laid =
    (omega (arith, laid.trees, few-trees (tree_of tree) left able.more), omega (arith, able.within, able.narrow))

module _
    {n left s at : ℕ} {tree x y z : Tree} {before : List ℕ} (joined : Joined tree x y z) (able : Chainable n tree left s before at)
  where
    bits : Counted (tree_of tree) (tree_of x) (tree_of y) (tree_of z)
    bits = counted _ _ _ joined.is

    pub parts-few : (leaves (tree_of x) ≤ 71) × (leaves (tree_of y) ≤ 71)
    parts-few = (omega (arith, bits, able.few), omega (arith, bits, able.few))

    -- The steps lie inside the lowest tree.
    module _ (inside : left < leaves (tree_of x)) where
      same : cut left (tree_of tree) ≡ cut left (tree_of x)
      same = cut_low left _ _ _ joined.is inside

      pub low_chainable : Chainable n x left s before at
      low_chainable =
          record {
            narrow = able.narrow;
            sound = joined.low;
            few = parts-few.0;
            more = inside;
            within = able.within;
            room = rw same at able.room;
          }

      pub low-chained : {after : List ℕ} {r : Steps} → ChainLaid n x left s before at after r → ChainLaid n tree left s before at after r
      low-chained laid = record { put = rw same laid.put; trees = rw same laid.trees }

    -- They are past it.
    module _ (past : leaves (tree_of x) ≤ left) where
      abbrev whole : List ℕ
      whole = bytes_of (chain n (cut left (tree_of tree)) s)

      low-left : Laying whole
          (bytes_of (ahead n (tree_of x) s)
          ++ behind_first n left s (tree_of x) (tree_of y) (tree_of z) (s + leaves (tree_of x)) (p_net n (tree_of x) s))
          before at before at
      low-left =
          laying-none before at (bytes-past-low n left s (tree_of x) (tree_of y) (tree_of z) joined.is past) able.room.fits

      pub low_able : Layable n x s before at
      low_able =
          record {
            narrow = able.narrow;
            sound = joined.low;
            within = omega (arith, able.within);
            room = room-first _ (laying-left low-left);
          }

      module _ {one : List ℕ} {low : Laid} (first : TreeLaid n x s before at one low) where
        one_left : Laying whole (behind_first n left s (tree_of x) (tree_of y) (tree_of z) low.end low.p) before at one low.at
        one_left = laid_then (behind_first n left s (tree_of x) (tree_of y) (tree_of z)) low-left first

        pub one_able : (n ≤ 64) × (low.end ≤ 2000) × (s ≤ 2000) × (low.p ≤ 1000) × Room (one_bytes n low.end s low.p) one low.at
        one_able =
            let nets = laid-nets first low_able.within in (
              able.narrow,
              omega (arith, able.narrow),
              omega (arith, able.narrow, able.within),
              omega (arith, able.narrow),
              room-first _ (laying-left one_left),
            )

        module _ {two : List ℕ} {next : ℕ} (second : Put (one_bytes n low.end s low.p) one low.at two next) where
          rest-left : Laying whole
              (cond (ltb left (leaves (tree_of x) + leaves (tree_of y)))
              (bytes_of (chain n (cut (left - leaves (tree_of x)) (tree_of y)) low.end))
              (bytes_of (ahead n (tree_of y) low.end)
              ++ behind_both n left s (tree_of x) (tree_of y) (tree_of z) low.p (low.end + leaves (tree_of y))
              (p_net n (tree_of y) low.end)))
              before at two next
          rest-left = laying-put second one_left

          -- The rest lies inside the middle tree.
          module _ (inside : left < leaves (tree_of x) + leaves (tree_of y)) where
            middle-left : Laying whole (bytes_of (chain n (cut (left - leaves (tree_of x)) (tree_of y)) low.end)) before at two next
            middle-left = rw (lt-ltb left (leaves (tree_of x) + leaves (tree_of y)) inside) at rest-left

            pub middle_chainable : (size : ℕ) → size ≡ leaves (tree_of x) → Chainable n y (left - size) low.end two next
            middle_chainable size is =
                record {
                  narrow = able.narrow;
                  sound = joined.middle;
                  few = parts-few.1;
                  more = omega arith;
                  within = omega (arith, first.end, able.within);
                  room = rw is (laying-left middle-left);
                }

            pub middle-chained : (size : ℕ) {after : List ℕ} {r : Steps} → size ≡ leaves (tree_of x)
                → ChainLaid n y (left - size) low.end two next after r
                → ChainLaid n tree left s before at after (record { at = r.at; trees = r.trees + 1 })
            unfolding ones twos
            middle-chained size is laid =
                record {
                  put = laying-last (rw is at laid.put) middle-left;
                  trees =
                      rw (cut-middle left _ _ _ joined.is past inside, ← is)
                      (omega (arith, laid.trees));
                }

          -- The rest is past the middle tree too.
          module _ (beyond : leaves (tree_of x) + leaves (tree_of y) ≤ left) where
            both_left : Laying whole
                (bytes_of (ahead n (tree_of y) low.end)
                ++ behind_both n left s (tree_of x) (tree_of y) (tree_of z) low.p (low.end + leaves (tree_of y))
                (p_net n (tree_of y) low.end))
                before at two next
            both_left = rw (le-ltb left (leaves (tree_of x) + leaves (tree_of y)) beyond) at rest-left

            pub middle_able : Layable n y low.end two next
            middle_able =
                record {
                  narrow = able.narrow;
                  sound = joined.middle;
                  within = omega (arith, first.end, able.within);
                  room = room-first _ (laying-left both_left);
                }

            module _ {three : List ℕ} {middle : Laid} (third : TreeLaid n y low.end two next three middle) where
              two-left : Laying whole
                  (behind_both n left s (tree_of x) (tree_of y) (tree_of z) low.p middle.end middle.p)
                  before at three middle.at
              two-left = laid_then (behind_both n left s (tree_of x) (tree_of y) (tree_of z) low.p) both_left third

              pub two_able :
                  (n ≤ 64) × (middle.end ≤ 2000) × (s ≤ 2000) × (low.p ≤ 1000) × (middle.p ≤ 1000)
                  × Room (two_bytes n middle.end s low.p middle.p) three middle.at
              two_able =
                  let nets = laid-nets third middle_able.within in (
                    able.narrow,
                    omega (arith, able.narrow),
                    one_able.2,
                    one_able.3,
                    omega (arith, able.narrow),
                    room-first _ (laying-left two-left),
                  )

              module _ {four : List ℕ} {later : ℕ}
                  (fourth : Put (two_bytes n middle.end s low.p middle.p) three middle.at four later) where
                high-left : Laying whole
                    (bytes_of (chain n (cut (left - (leaves (tree_of x) + leaves (tree_of y))) (tree_of z)) middle.end))
                    before at four later
                high-left = laying-put fourth two-left

                pub high_chainable : (size : ℕ) → size ≡ leaves (tree_of x) + leaves (tree_of y)
                    → Chainable n z (left - size) middle.end four later
                high_chainable size is =
                    record {
                      narrow = able.narrow;
                      sound = joined.high;
                      few = omega (arith, bits, able.few);
                      more = omega (arith, bits, able.more);
                      within = omega (arith, first.end, third.end, able.within);
                      room = rw is (laying-left high-left);
                    }

                pub high-chained : (size : ℕ) {after : List ℕ} {r : Steps} → size ≡ leaves (tree_of x) + leaves (tree_of y)
                    → ChainLaid n z (left - size) middle.end four later after r
                    → ChainLaid n tree left s before at after (record { at = r.at; trees = r.trees + 2 })
                unfolding ones twos
                high-chained size is laid =
                    record {
                      put = laying-last (rw is at laid.put) high-left;
                      trees = rw (cut_high left _ _ _ joined.is beyond, ← is) (omega (arith, laid.trees));
                    }
