-- A root more: the next node, which nothing leads to. Its entries are 0 as they are, so nothing is written.
use Rattle.std.specs.Prelude.{ℕ, ◌≤◌, ◌<◌, ◌≡◌, List, [], ◌∷◌, ◌++◌, length}
use Rattle.std.proofs.Common.{arith, sym, ◌∙◌, ap}
use Rattle.text_names.specs.Tree.{Word, root, longer, root_of, word_at, first_of, next_of, Led, own, Tree}
use Rattle.text_names.specs.Growing.{grown-length, old-word, new_word, Which, old, new, which, still_one, still-rise}

module _ (tree : List ℕ) (nodes : List Word) (t : Tree tree nodes) where
  -- Nothing has a root that is not there yet.
  pub root_unknown : (k : ℕ) → k < length nodes → root_of (word_at nodes k) ≡ length nodes → ⊥
  root_unknown k l e = let b : root_of (word_at nodes k) ≤ k = t.roots k l in omega arith

  first-old : (w : Word) (v : ℕ) → Led tree nodes w (length nodes) v
      → Led tree (nodes ++ (root (length nodes) ∷ [])) w (length (nodes ++ (root (length nodes) ∷ []))) v
  first-old w v f =
      let m : _ = grown-length nodes (root (length nodes)) in
      let b : v < length nodes = f.below in
      record {
        below = omega arith;
        is = λ p. old-word nodes (root (length nodes)) v b ∙ f.is p;
        all = λ k d l e. go k d e (which nodes (root (length nodes)) k l);
      }
    where
      go : (k d : ℕ) → word_at (nodes ++ (root (length nodes) ∷ [])) k ≡ longer w d → Which nodes (root (length nodes)) k → k ≤ v
      go k d e (old b g) = f.all k d b (sym g ∙ e)
      go k d e (new b g) =
          let both : root (length nodes) ≡ longer w d = sym g ∙ e in
          let z : ◌≡◌ {A = ℕ} 0 1 = cc in
          absurd (omega arith)

  first-new : Led tree (nodes ++ (root (length nodes) ∷ [])) (root (length nodes)) (length (nodes ++ (root (length nodes) ∷ []))) 0
  first-new =
      let m : _ = grown-length nodes (root (length nodes)) in
      record {
        below = omega arith;
        is = λ p. absurd (omega arith);
        all = λ k d l e. absurd (go k d e (which nodes (root (length nodes)) k l));
      }
    where
      go : (k d : ℕ) → word_at (nodes ++ (root (length nodes) ∷ [])) k ≡ longer (root (length nodes)) d → Which nodes (root (length nodes)) k → ⊥
      go k d e (old b g) = root_unknown k b (ap root_of (sym g ∙ e))
      go k d e (new b g) =
          let both : root (length nodes) ≡ longer (root (length nodes)) d = sym g ∙ e in
          let z : ◌≡◌ {A = ℕ} 0 1 = cc in
          omega arith

  next-old : (i : ℕ) (w : Word) (v : ℕ) → i < length nodes → Led tree nodes w i v → Led tree (nodes ++ (root (length nodes) ∷ [])) w i v
  next-old i w v l f =
      let b : v < i = f.below in
      record {
        below = b;
        is = λ p. old-word nodes (root (length nodes)) v (omega arith) ∙ f.is p;
        all = λ k d h e. f.all k d h (sym (old-word nodes (root (length nodes)) k (omega arith)) ∙ e);
      }

  pub root_tree : Tree tree (nodes ++ (root (length nodes) ∷ []))
  root_tree =
      let m : _ = grown-length nodes (root (length nodes)) in
      let s : 0 < length nodes = t.some in
      record {
        some = omega arith;
        front = old-word nodes (root (length nodes)) 0 s ∙ t.front;
        one = still_one nodes (root (length nodes)) t.one (λ k l e. root_unknown k l (ap root_of e));
        rise = still-rise nodes (root (length nodes)) t.rise (own (new_word nodes (root (length nodes))));
        roots = λ i l. root_below i (which nodes (root (length nodes)) i l);
        first = λ i l. first-child i (which nodes (root (length nodes)) i l);
        next = λ i w d l e. next-child i w d e (which nodes (root (length nodes)) i l);
        unled = λ i l. t.unled i (omega arith);
        unnumbered = λ i l. t.unnumbered i (omega arith);
      }
    where
      root_below : (i : ℕ) → Which nodes (root (length nodes)) i → root_of (word_at (nodes ++ (root (length nodes) ∷ [])) i) ≤ i
      root_below i (old b e) = rw e (t.roots i b)
      root_below i (new b e) = rw e (omega arith)

      first-child : (i : ℕ) → Which nodes (root (length nodes)) i
          → Led tree (nodes ++ (root (length nodes) ∷ [])) (word_at (nodes ++ (root (length nodes) ∷ [])) i)
          (length (nodes ++ (root (length nodes) ∷ []))) (first_of tree i)
      first-child i (old b e) = rw e (first-old (word_at nodes i) (first_of tree i) (t.first i b))
      first-child i (new b e) = rw (e, b, t.unled (length nodes) (omega arith)) first-new

      next-child : (i : ℕ) (w : Word) (d : ℕ) → word_at (nodes ++ (root (length nodes) ∷ [])) i ≡ longer w d → Which nodes (root (length nodes)) i
          → Led tree (nodes ++ (root (length nodes) ∷ [])) w i (next_of tree i)
      next-child i w d g (old b e) = next-old i w (next_of tree i) b (t.next i w d b (sym e ∙ g))
      next-child i w d g (new b e) =
          let both : root (length nodes) ≡ longer w d = sym e ∙ g in
          let z : ◌≡◌ {A = ℕ} 0 1 = cc in
          absurd (omega arith)
