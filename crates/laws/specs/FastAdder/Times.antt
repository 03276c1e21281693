-- When nets of the look-ahead arrive, by unit delay: over two gates a carry passes a tree, or two trees, whose P and G are there in
-- time; so the trees of the shape, which are as late as they may be, hold up no carry.
use Rattle.std.specs.Prelude.{ℕ, suc, ◌+◌, ◌-◌, ◌<◌, ◌≤◌, ◌≡◌, Bool, cond, List, [], ◌∷◌}
use Rattle.std.proofs.Math.Path.{refl}
use Rattle.std.proofs.Math.Bool.{true, false}
use Rattle.std.proofs.Math.Decide.{dec_lt}
use Rattle.std.proofs.Common.{arith, ltb-true, ltb-false}
use Rattle.std.proofs.Math.Dec.{ltb}
use Rattle.meaning.specs.Figures.{largest}
use Rattle.meaning.specs.Counter.{AND, OR}
use Rattle.meaning.specs.FastAdder.{AND3, OR3, Tree, leaf, node, leaves, over_one, over_two, p_net, g_net, cut}
use Rattle.laws.specs.Adder.Delay.{arrival}
use Rattle.laws.specs.FastAdder.Lattice.{over, over_both}
use Rattle.laws.specs.FastAdder.Looks.{CarryOne, CarryTwo, NodeP, NodeG, Looks, looks-node, Chained, chained-one, chained-two}

abbrev pub unit : ℕ → List ℕ → ℕ
unit = arrival (λ kind. 1)

-- A gate of two or three arguments, and the carry behind a tree and behind two.
pub after_two : (kind t a b : ℕ) → a ≤ t → b ≤ t → unit kind (a ∷ b ∷ []) ≤ suc t
unfolding largest
after_two kind t a b a-by b-by = omega arith

pub after-three : (kind t a b c : ℕ) → a ≤ t → b ≤ t → c ≤ t → unit kind (a ∷ b ∷ c ∷ []) ≤ suc t
unfolding largest
after-three kind t a b c a-by b-by c-by = omega arith

after-over : (t c p g : ℕ) → c ≤ t → p ≤ t → g ≤ suc t → over unit c p g ≤ suc (suc t)
after-over t c p g c-by p-by g-by = after_two OR (suc t) g (unit AND (p ∷ c ∷ [])) g-by (after_two AND t p c p-by c-by)

pub after_both :
    (t c p g p' g' : ℕ) → c ≤ t → p ≤ t → g ≤ t → p' ≤ t → g' ≤ suc t → over_both unit c p g p' g' ≤ suc (suc t)
after_both t c p g p' g' c-by p-by g-by p'-by g'-by =
    after-three OR3 (suc t) g' (unit AND (p' ∷ g ∷ [])) (unit AND3 (p' ∷ p ∷ c ∷ [])) g'-by
    (after_two AND t p' g p'-by g-by)
    (after-three AND3 t p' p c p'-by p-by c-by)

module _ (n : ℕ) (at : ℕ → ℕ) where
  -- P and G of a tree are there by these times, wherever the tree stands.
  pub record Timely (t : Tree) (latest_p latest_g : ℕ) : Type 0 where
    pub timely : (s : ℕ) → s + leaves t ≤ n → Looks unit n at t s → (at (p_net n t s) ≤ latest_p) × (at (g_net n t s) ≤ latest_g)

  -- All carries past one net and before another are there by a time.
  pub record By (from past bound : ℕ) : Type 0 where
    pub by : (i : ℕ) → from < i → i < past → at i ≤ bound

  by-further :
      {from past bound : ℕ} (middle : ℕ) → By from middle bound → at middle ≤ bound → By middle past bound → By from past bound
  by-further {from} {past} {bound} middle low here high = record { by = λ i f p. go i f p (dec_lt i middle) (dec_lt middle i) }
    where
      go : (i : ℕ) → from < i → i < past → Dec (i < middle) → Dec (middle < i) → at i ≤ bound
      go i f p (yes below) d = low.by i f below
      go i f p (no least) (yes above) = high.by i above p
      go i f p (no least) (no most) = let same : i ≡ middle = omega arith in rw same here

  by_up_to : {from past past' bound : ℕ} → past ≡ past' → By from past bound → By from past' bound
  by_up_to same h = rw (← same) h

  -- A carry that comes to a tree in time gives all carries inside it by a bound, and all over its lowest bits.
  pub record Quick (t : Tree) (time bound : ℕ) : Type 0 where
    pub inside : (s : ℕ) → s + leaves t ≤ n → Looks unit n at t s → at s ≤ time → By s (s + leaves t) bound
    pub lowest :
        (m s : ℕ) → m < leaves t → s + m ≤ n → Chained unit n at (cut m t) s → at s ≤ time → By s (suc (s + m)) bound

  pub leaf_quick : (time bound : ℕ) → Quick leaf time bound
  unfolding leaves
  leaf_quick time bound =
      record {
        inside = λ s fits looks start. record { by = λ i low high. absurd (omega arith) };
        lowest = λ m s fits room chained start. record { by = λ i low high. absurd (omega arith) };
      }

  -- The parts of a node.
  pub record Parts (x y z : Tree) (s : ℕ) : Type 0 where
    pub in_x : Looks unit n at x s
    pub at_x : CarryOne unit n at x s
    pub in_y : Looks unit n at y (s + leaves x)
    pub at_y : CarryTwo unit n at x y s
    pub in_z : Looks unit n at z (s + leaves x + leaves y)
    pub its-p : NodeP unit n at x y z s
    pub its-g : NodeG unit n at x y z s

  pub parts : {x y z : Tree} {s : ℕ} → Looks unit n at (node x y z) s → Parts x y z s
  parts (looks-node in_x at_x in_y at_y in_z its-p its-g) =
      record { in_x = in_x; at_x = at_x; in_y = in_y; at_y = at_y; in_z = in_z; its-p = its-p; its-g = its-g }

  module _ {x y : Tree} (time : ℕ) (soon-x : Timely x time time) (soon-y : Timely y time (suc time)) where
    behind-x : (s : ℕ) → s + leaves x ≤ n → Looks unit n at x s → CarryOne unit n at x s → at s ≤ time → at (s + leaves x) ≤ suc (suc time)
    behind-x s fits in_x at_x start =
        let soon = soon-x.timely s fits in_x in
        rw at_x (after-over time (at s) _ _ start soon.0 (omega arith))

    behind-y :
        (s : ℕ) → s + leaves x + leaves y ≤ n → Looks unit n at x s → Looks unit n at y (s + leaves x)
        → CarryTwo unit n at x y s → at s ≤ time → at (s + leaves x + leaves y) ≤ suc (suc time)
    behind-y s fits in_x in_y at_y start =
        let soon = soon-x.timely s (omega arith) in_x in
        let soon' = soon-y.timely (s + leaves x) fits in_y in
        rw at_y (after_both time (at s) _ _ _ _ start soon.0 soon.1 soon'.0 soon'.1)

    module _ {z : Tree} (bound : ℕ) (late : suc (suc time) ≤ bound)
        (quick-x : Quick x time bound) (quick-y : Quick y (suc (suc time)) bound) (quick-z : Quick z (suc (suc time)) bound) where
      -- Behind x and on, and behind both and on.
      over-x :
          {s past : ℕ} → s + leaves x ≤ n → Looks unit n at x s → CarryOne unit n at x s → at s ≤ time
          → (at (s + leaves x) ≤ suc (suc time) → By (s + leaves x) past bound) → By s past bound
      over-x {s} fits in_x at_x start further =
          let here = behind-x s fits in_x at_x start in
          by-further (s + leaves x) (quick-x.inside s fits in_x start) (omega arith) (further here)

      over-y :
          {s past : ℕ} → s + leaves x + leaves y ≤ n → Looks unit n at x s → CarryOne unit n at x s → Looks unit n at y (s + leaves x)
          → CarryTwo unit n at x y s → at s ≤ time
          → (at (s + leaves x + leaves y) ≤ suc (suc time) → By (s + leaves x + leaves y) past bound) → By s past bound
      over-y {s} fits in_x at_x in_y at_y start further =
          let here = behind-y s fits in_x in_y at_y start in
          over-x (omega arith) in_x at_x start (λ low.
          by-further (s + leaves x + leaves y) (quick-y.inside (s + leaves x) fits in_y low) (omega arith) (further here))

      node-inside :
          (s : ℕ) → s + leaves (node x y z) ≤ n → Looks unit n at (node x y z) s → at s ≤ time → By s (s + leaves (node x y z)) bound
      unfolding leaves
      node-inside s fits looks start =
          let p = parts looks in
          over-y (omega arith) p.in_x p.at_x p.in_y p.at_y start (λ low.
          by_up_to (omega arith) (quick-z.inside (s + leaves x + leaves y) (omega arith) p.in_z low))

      -- Lowest bits: within x, behind x and within y, or behind both and within z.
      one :
          (m s : ℕ) → leaves x ≤ m → m < leaves x + leaves y → s + m ≤ n → at s ≤ time
          → Chained unit n at (over_one x ∷ cut (m - leaves x) y) s → By s (suc (s + m)) bound
      one m s past below room start (chained-one in_x at_x rest) =
          over-x (omega arith) in_x at_x start (λ low.
          by_up_to (omega arith) (quick-y.lowest (m - leaves x) (s + leaves x) (omega arith) (omega arith) rest low))

      two :
          (m s : ℕ) → leaves x + leaves y ≤ m → m < leaves x + leaves y + leaves z → s + m ≤ n → at s ≤ time
          → Chained unit n at (over_two x y ∷ cut (m - (leaves x + leaves y)) z) s → By s (suc (s + m)) bound
      two m s past below room start (chained-two in_x at_x in_y at_y rest) =
          over-y (omega arith) in_x at_x in_y at_y start (λ low.
          by_up_to (omega arith)
          (quick-z.lowest (m - (leaves x + leaves y)) (s + leaves x + leaves y) (omega arith) (omega arith) rest low))

      node-lowest :
          (m s : ℕ) → m < leaves (node x y z) → s + m ≤ n → Chained unit n at (cut m (node x y z)) s → at s ≤ time
          → By s (suc (s + m)) bound
      unfolding leaves cut
      node-lowest m s fits room chained start =
          go (ltb m (leaves x)) refl (ltb m (leaves x + leaves y)) refl chained
        where
          go :
              (b : Bool) → ltb m (leaves x) ≡ b → (b' : Bool) → ltb m (leaves x + leaves y) ≡ b'
              → Chained unit n at
              (cond b (cut m x) (cond b' (over_one x ∷ cut (m - leaves x) y) (over_two x y ∷ cut (m - (leaves x + leaves y)) z)))
              s
              → By s (suc (s + m)) bound
          go true e b' e' steps = quick-x.lowest m s (ltb-true m (leaves x) e) room steps start
          go false e true e' steps =
              one m s (ltb-false m (leaves x) e) (ltb-true m (leaves x + leaves y) e') room start steps
          go false e false e' steps = two m s (ltb-false m (leaves x + leaves y) e') fits room start steps

      pub node_quick : Quick (node x y z) time bound
      node_quick = record { inside = node-inside; lowest = node-lowest }
