-- On three values the look-ahead gives the carries of the chain of full adders: each carry is made from the one before it and its bit's
-- p and g, whatever the shape. By one induction over trees.
use Prim.Native.Nat.{ℕ, zero, suc, ◌+◌, ◌-◌, ◌<◌}
use Rattle.std.specs.Prelude.{◌≡◌, List}
use Rattle.std.proofs.Math.Path.{refl, sym, ap}
use Rattle.std.proofs.Common.{◌∙◌, zero-add, add-one}
use Rattle.std.proofs.Math.Decide.{dec_lt}
use Rattle.std.proofs.Math.Nat.{add-zero}
use native.Mathlib.Omega.{arith}
use Rattle.meaning.specs.Values.{Val}
use Rattle.meaning.specs.Gates.{gate_value}
use Rattle.meaning.specs.FastAdder.{Tree, leaves, Step, p_net, g_net}
use Rattle.laws.specs.FastAdder.Lattice.{over, over_in_turn, over-node}
use Rattle.laws.specs.FastAdder.Looks.{CarryOne, CarryTwo, Looks, looks-leaf, looks-node, Chained, chained-end, chained-one, chained-two}
use Rattle.laws.specs.FastAdder.Signals.{width}

module _ (n : ℕ) (value : ℕ → Val) where
  -- A carry over some bits in turn, from bit s on.
  unfoldable rippled : (c : Val) (s count : ℕ) → Val
  rippled c s zero = c
  rippled c s (suc count) = rippled (over gate_value c (value (n + 1 + s)) (value (n + 1 + s + n))) (suc s) count

  rippled-further : (c : Val) (s a b : ℕ) → rippled c s (a + b) ≡ rippled (rippled c s a) (s + a) b
  unfolding rippled
  rippled-further c s zero b =
      let none : zero + b ≡ b = omega arith in
      rw (none, add-zero s)
  rippled-further c s (suc a) b =
      let more : suc a + b ≡ suc (a + b) = omega arith in
      let on : s + suc a ≡ suc s + a = omega arith in
      rw (more, on) (rippled-further (over gate_value c (value (n + 1 + s)) (value (n + 1 + s + n))) (suc s) a b)

  rippled-last :
      (c : Val) (s k : ℕ)
      → rippled c s (suc k) ≡ over gate_value (rippled c s k) (value (n + 1 + (s + k))) (value (n + 1 + (s + k) + n))
  unfolding rippled
  rippled-last c s k = ap (rippled c s) (sym (add-one k)) ∙ rippled-further c s k 1

  -- Some nets from s on hold the carry before them, and what it becomes over the bits.
  record Reaches (s count : ℕ) : Type 0 where
    holds : (k : ℕ) → k < count → value (s + k) ≡ rippled (value s) s k

  reaches-first : (s : ℕ) → Reaches s 1
  unfolding rippled
  reaches-first s = record { holds = go }
    where
      go : (k : ℕ) → k < 1 → value (s + k) ≡ rippled (value s) s k
      go zero low = ap value (add-zero s)
      go (suc k) low = absurd (omega arith)

  reaches-further :
      {s a b : ℕ} → Reaches s a → value (s + a) ≡ rippled (value s) s a → Reaches (s + a) b → Reaches s (a + b)
  reaches-further {s} {a} {b} low_part meet high_part = record { holds = λ k below. go k below (dec_lt k a) }
    where
      go : (k : ℕ) → k < a + b → Dec (k < a) → value (s + k) ≡ rippled (value s) s k
      go k below (yes low) = low_part.holds k low
      go k below (no high) =
          let rest = k - a in
          let sum : a + rest ≡ k = omega arith in
          let place : s + a + rest ≡ s + k = omega arith in
          rw (place, meet, ← rippled-further (value s) s a rest, sum) at (high_part.holds rest (omega arith))

  -- A P and a G do to any carry what some bits do in turn.
  record Spans (s count : ℕ) (p g : Val) : Type 0 where
    spans : (c : Val) → rippled c s count ≡ over gate_value c p g

  over-two-spans :
      {s a b : ℕ} {p g p' g' : Val}
      → Spans s a p g
      → Spans (s + a) b p' g'
      → (c : Val) → rippled c s (a + b) ≡ over gate_value (over gate_value c p g) p' g'
  over-two-spans {s} {a} {b} {p} {g} low high c =
      rippled-further c s a b ∙ ap (λ (d : Val). rippled d (s + a) b) (low.spans c) ∙ high.spans (over gate_value c p g)

  over-three-spans :
      {s a b d : ℕ} {p g p' g' p'' g'' : Val}
      → Spans s a p g
      → Spans (s + a) b p' g'
      → Spans (s + a + b) d p'' g''
      → (c : Val) → rippled c s (a + b + d) ≡ over gate_value (over gate_value (over gate_value c p g) p' g') p'' g''
  over-three-spans {s} {a} {b} {d} {p} {g} {p'} {g'} low middle high c =
      let place : s + (a + b) ≡ s + a + b = omega arith in
      rippled-further c s (a + b) d
      ∙ rw (place, over-two-spans low middle c) (high.spans (over gate_value (over gate_value c p g) p' g'))

  -- A tree's P and G do, and the carries inside it are those of its bits in turn.
  record Spanned (t : Tree) (s : ℕ) : Type 0 where
    whole : Spans s (leaves t) (value (p_net n t s)) (value (g_net n t s))
    inside : Reaches s (leaves t)

  behind-one :
      {x : Tree} {s : ℕ} → Spanned x s → CarryOne gate_value n value x s → value (s + leaves x) ≡ rippled (value s) s (leaves x)
  behind-one {x} {s} sx at_x = at_x ∙ sym (sx.whole.spans (value s))

  behind-two :
      {x y : Tree} {s : ℕ}
      → Spanned x s
      → Spanned y (s + leaves x)
      → CarryTwo gate_value n value x y s
      → value (s + leaves x + leaves y) ≡ rippled (value s) s (leaves x + leaves y)
  behind-two {x} {y} {s} sx sy at_y =
      at_y ∙ over_in_turn (value s) _ _ _ _ ∙ sym (over-two-spans sx.whole sy.whole (value s))

  -- The carries up to those behind two trees, and further.
  reaches-both :
      {x y : Tree} {s count : ℕ}
      → Spanned x s
      → CarryOne gate_value n value x s
      → Spanned y (s + leaves x)
      → CarryTwo gate_value n value x y s
      → Reaches (s + leaves x + leaves y) count
      → Reaches s (leaves x + leaves y + count)
  reaches-both {x} {y} {s} {count} sx at_x sy at_y rest =
      let place : s + leaves x + leaves y ≡ s + (leaves x + leaves y) = omega arith in
      reaches-further
      (reaches-further sx.inside (behind-one sx at_x) sy.inside)
      (rw place at (behind-two sx sy at_y))
      (rw place at rest)

  spanned : {t : Tree} {s : ℕ} → Looks gate_value n value t s → Spanned t s
  unfolding leaves rippled p_net
  spanned (looks-leaf {s = s}) = record { whole = record { spans = λ c. refl }; inside = reaches-first s }
  spanned (looks-node in_x at_x in_y at_y in_z node-p node-g) =
      let sx = spanned in_x in
      let sy = spanned in_y in
      let sz = spanned in_z in
      record {
        whole =
            record {
              spans = λ c.
                  over-three-spans sx.whole sy.whole sz.whole c
                  ∙ sym (over-node c _ _ _ _ _ _)
                  ∙ rw (node-p, node-g);
            };
        inside = reaches-both sx at_x sy at_y sz.inside;
      }

  chain-reaches : {steps : List Step} {s : ℕ} → Chained gate_value n value steps s → Reaches s (width steps + 1)
  unfolding width
  chain-reaches (chained-end {s = s}) = reaches-first s
  chain-reaches (chained-one {x = x} {steps = steps} in_x at_x rest) =
      let sx = spanned in_x in
      let more : leaves x + (width steps + 1) ≡ leaves x + width steps + 1 = omega arith in
      rw more at (reaches-further sx.inside (behind-one sx at_x) (chain-reaches rest))
  chain-reaches (chained-two {x = x} {y = y} {steps = steps} in_x at_x in_y at_y rest) =
      let more : leaves x + leaves y + (width steps + 1) ≡ leaves x + leaves y + width steps + 1 = omega arith in
      rw more at (reaches-both (spanned in_x) at_x (spanned in_y) at_y (chain-reaches rest))

  -- Each carry from the one before it.
  pub carry-by-carry :
      {steps : List Step}
      → width steps ≡ n
      → Chained gate_value n value steps 0
      → (i : ℕ)
      → i < n
      → value (suc i) ≡ over gate_value (value i) (value (n + 1 + i)) (value (n + 1 + i + n))
  carry-by-carry {steps} fits chained i low =
      let reach = (chain-reaches chained).holds in
      let here : value i ≡ rippled (value 0) 0 i = rw (zero-add i) at (reach i (omega arith)) in
      let behind : value (suc i) ≡ rippled (value 0) 0 (suc i) = rw (zero-add (suc i)) at (reach (suc i) (omega arith)) in
      behind ∙ rippled-last (value 0) 0 i ∙ rw (zero-add i, ← here)
