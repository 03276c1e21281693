-- A tree stays one when a node is hung below another, and when a root comes.
use Rattle.std.specs.Prelude.{ℕ, ◌+◌, ◌≤◌, ◌<◌, List, [], ◌∷◌, ◌++◌}
use native.Mathlib.Omega.{arith}
use Rattle.std.proofs.Math.Decide.{ℕ_discrete}
use Rattle.std.proofs.Math.Path.{◌≡◌, sym, ap}
use Rattle.std.proofs.Common.{◌∙◌}
use Rattle.std.proofs.Math.ListN.{length}
use Rattle.text_names.specs.Tree.{Word, root, longer, root_of, word_at, first_of, next_of, letter_of, Led, Rise, own, child, Tree}
use Rattle.text_names.specs.Growing.{grown-length, old-word, new_word, Which, old, new, which, still_one, still-rise, Hung}

module _ (tree : List ℕ) (nodes : List Word) (t : Tree tree nodes) (n c : ℕ) (here : n < length nodes)
    (unknown : (k : ℕ) → k < length nodes → word_at nodes k ≡ longer (word_at nodes n) c → ⊥)
    (tree' : List ℕ) (h : Hung tree tree' (length nodes) n c) where
  w' : Word
  w' = longer (word_at nodes n) c

  nodes' : List Word
  nodes' = nodes ++ (longer (word_at nodes n) c ∷ [])

  more : length nodes' ≡ length nodes + 1
  unfolding nodes'
  more = grown-length nodes (longer (word_at nodes n) c)

  kept-is : (w : Word) (v : ℕ) → v < length nodes → word_at nodes v ≡ longer w (letter_of tree v) → word_at nodes' v ≡ longer w (letter_of tree' v)
  unfolding nodes'
  kept-is w v l e =
      old-word nodes (longer (word_at nodes n) c) v l ∙ e ∙ ap (longer w) (sym (h.letter-other v (λ z. omega arith)))

  first_below : (v : ℕ) → Led tree' nodes' (word_at nodes n) (length nodes') (length nodes)
  unfolding nodes'
  first_below v =
      let m : length nodes' ≡ length nodes + 1 = more in
      record {
        below = omega arith;
        is = λ p. new_word nodes (longer (word_at nodes n) c) ∙ ap (longer (word_at nodes n)) (sym h.letter-here);
        all = λ k d l e. omega arith;
      }

  first-old : (i : ℕ) → i < length nodes → Dec (i ≡ n) → Led tree' nodes' (word_at nodes i) (length nodes') (first_of tree' i)
  unfolding nodes'
  first-old i l (yes same) = rw (same, h.first-here) (first_below 0)
  first-old i l (no apart) =
      let m : length nodes' ≡ length nodes + 1 = more in
      let f : Led tree nodes (word_at nodes i) (length nodes) (first_of tree i) = t.first i l in
      let b : first_of tree i < length nodes = f.below in
      rw (h.first-other i apart)
      (record {
        below = omega arith;
        is = λ p. kept-is (word_at nodes i) (first_of tree i) b (f.is p);
        all = λ k d bound e. go k d e (which nodes (longer (word_at nodes n) c) k bound);
      })
    where
      go : (k d : ℕ) → word_at nodes' k ≡ longer (word_at nodes i) d → Which nodes (longer (word_at nodes n) c) k → k ≤ first_of tree i
      go k d e (old b f) = (t.first i l).all k d b (sym f ∙ e)
      go k d e (new b f) =
          let both : longer (word_at nodes n) c ≡ longer (word_at nodes i) d = sym f ∙ e in
          let same : word_at nodes i ≡ word_at nodes n = cc in
          absurd (apart (t.one i n l here same))

  first-new : Led tree' nodes' w' (length nodes') (first_of tree' (length nodes))
  unfolding nodes' w'
  first-new =
      let m : length nodes' ≡ length nodes + 1 = more in
      let apart : length nodes ≡ n → ⊥ = λ z. omega arith in
      rw (h.first-other (length nodes) apart, t.unled (length nodes) (omega arith))
      (record {
        below = omega arith;
        is = λ p. absurd (omega arith);
        all = λ k d bound e. absurd (go k d e (which nodes (longer (word_at nodes n) c) k bound));
      })
    where
      lower : (k d : ℕ) → k < length nodes → word_at nodes k ≡ longer (longer (word_at nodes n) c) d → Rise nodes k → ⊥
      lower k d b e (own f) =
          let both : root k ≡ longer (longer (word_at nodes n) c) d = sym f ∙ e in
          let z : ◌≡◌ {A = ℕ} 0 1 = cc in
          omega arith
      lower k d b e (child m a l f) =
          let both : longer (word_at nodes m) a ≡ longer (longer (word_at nodes n) c) d = sym f ∙ e in
          let same : word_at nodes m ≡ longer (word_at nodes n) c = cc in
          unknown m (omega arith) same

      go : (k d : ℕ) → word_at nodes' k ≡ longer (longer (word_at nodes n) c) d → Which nodes (longer (word_at nodes n) c) k → ⊥
      go k d e (old b f) = lower k d b (sym f ∙ e) (t.rise k b)
      go k d e (new b f) =
          let both : longer (word_at nodes n) c ≡ longer (longer (word_at nodes n) c) d = sym f ∙ e in
          let same : word_at nodes n ≡ longer (word_at nodes n) c = cc in
          unknown n here same

  next-old : (i : ℕ) (w : Word) (d : ℕ) → i < length nodes → word_at nodes i ≡ longer w d → Led tree' nodes' w i (next_of tree' i)
  unfolding nodes'
  next-old i w d l e =
      let f : Led tree nodes w i (next_of tree i) = t.next i w d l e in
      let b : next_of tree i < i = f.below in
      rw (h.next-other i (λ z. omega arith))
      (record {
        below = f.below;
        is = λ p. kept-is w (next_of tree i) (omega arith) (f.is p);
        all = λ k a bound g. f.all k a bound (sym (old-word nodes (longer (word_at nodes n) c) k (omega arith)) ∙ g);
      })

  next-new : Led tree' nodes' (word_at nodes n) (length nodes) (next_of tree' (length nodes))
  unfolding nodes'
  next-new =
      let f : Led tree nodes (word_at nodes n) (length nodes) (first_of tree n) = t.first n here in
      rw h.next_here
      (record {
        below = f.below;
        is = λ p. kept-is (word_at nodes n) (first_of tree n) f.below (f.is p);
        all = λ k a bound g. f.all k a bound (sym (old-word nodes (longer (word_at nodes n) c) k bound) ∙ g);
      })

  pub hung_tree : Tree tree' (nodes ++ (longer (word_at nodes n) c ∷ []))
  unfolding nodes' w'
  hung_tree =
      let m : length nodes' ≡ length nodes + 1 = more in
      let s : 0 < length nodes = t.some in
      record {
        some = omega arith;
        front = old-word nodes (longer (word_at nodes n) c) 0 s ∙ t.front;
        one = still_one nodes (longer (word_at nodes n) c) t.one unknown;
        rise = still-rise nodes (longer (word_at nodes n) c) t.rise
            (child n c here
            (new_word nodes (longer (word_at nodes n) c)
            ∙ ap (λ v. longer v c) (sym (old-word nodes (longer (word_at nodes n) c) n here))));
        roots = λ i l. root_below i (which nodes (longer (word_at nodes n) c) i l);
        first = λ i l. first-child i (which nodes (longer (word_at nodes n) c) i l);
        next = λ i w d l e. next-child i w d e (which nodes (longer (word_at nodes n) c) i l);
        unled = λ i l. h.first-other i (λ z. omega arith) ∙ t.unled i (omega arith);
        unnumbered = λ i l. h.numbers i ∙ t.unnumbered i (omega arith);
      }
    where
      root_below : (i : ℕ) → Which nodes (longer (word_at nodes n) c) i → root_of (word_at nodes' i) ≤ i
      root_below i (old b e) = rw e (t.roots i b)
      root_below i (new b e) = let l : root_of (word_at nodes n) ≤ n = t.roots n here in rw e (omega arith)

      first-child : (i : ℕ) → Which nodes (longer (word_at nodes n) c) i → Led tree' nodes' (word_at nodes' i) (length nodes') (first_of tree' i)
      first-child i (old b e) = rw e (first-old i b (ℕ_discrete i n))
      first-child i (new b e) = rw (e, b) first-new

      next-child : (i : ℕ) (w : Word) (d : ℕ) → word_at nodes' i ≡ longer w d → Which nodes (longer (word_at nodes n) c) i
          → Led tree' nodes' w i (next_of tree' i)
      next-child i w d g (old b e) = next-old i w d b (sym e ∙ g)
      next-child i w d g (new b e) =
          let both : longer (word_at nodes n) c ≡ longer w d = sym e ∙ g in
          let is : w ≡ word_at nodes n = cc in
          rw (is, b) next-new
