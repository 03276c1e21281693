-- Going along a chain of children finds the child with a letter.
use Rattle.std.specs.Prelude.{ℕ, ◌≤◌, ◌<◌, ◌≡◌, List, length}
use Rattle.std.proofs.Common.{arith, sym, ◌∙◌, ap}
use Rattle.std.proofs.Math.Decide.{ℕ_discrete}
use Rattle.text_names.specs.Tree.{Word, root, longer, word_at, first_of, next_of, letter_of, Led, Tree, Sought, Seeking}

module _ (tree : List ℕ) (nodes : List Word) (t : Tree tree nodes) where
  pub seek-first : (n c : ℕ) → n < length nodes → Seeking tree nodes (word_at nodes n) c (first_of tree n)
  seek-first n c l =
      let f : Led tree nodes (word_at nodes n) (length nodes) (first_of tree n) = t.first n l in
      record { within = f.below; is = f.is; left = λ k h e. f.all k c h e }

  -- What the code asks of a chain: it leads lower.
  pub falls : (w : Word) (c u : ℕ) → 0 < u → Seeking tree nodes w c u → next_of tree u < u
  falls w c u pos s = (t.next u w (letter_of tree u) s.within (s.is pos)).below

  pub seek-next : (w : Word) (c u : ℕ) → 0 < u → (letter_of tree u ≡ c → ⊥) → Seeking tree nodes w c u → Seeking tree nodes w c (next_of tree u)
  seek-next w c u pos other s =
      let f : Led tree nodes w u (next_of tree u) = t.next u w (letter_of tree u) s.within (s.is pos) in
      let b : next_of tree u < u = f.below in
      let here : u < length nodes = s.within in
      record {
        within = omega arith;
        is = f.is;
        left = λ k h e. go k h e (ℕ_discrete k u) (s.left k h e);
      }
    where
      go : (k : ℕ) → k < length nodes → word_at nodes k ≡ longer w c → Dec (k ≡ u) → k ≤ u → k ≤ next_of tree u
      go k h e (yes same) l =
          let is : word_at nodes u ≡ longer w (letter_of tree u) = s.is pos in
          let at : word_at nodes u ≡ longer w c = ap (word_at nodes) (sym same) ∙ e in
          let letter : letter_of tree u ≡ c = cc in
          absurd (other letter)
      go k h e (no apart) l = (t.next u w (letter_of tree u) s.within (s.is pos)).all k c (lower apart l) e
        where
          lower : (k ≡ u → ⊥) → k ≤ u → k < u
          lower a b = omega arith

  pub seek_found : (w : Word) (c u : ℕ) → letter_of tree u ≡ c → 0 < u → Seeking tree nodes w c u → Sought nodes w c u
  seek_found w c u same pos s =
      record {
        within = s.within;
        found = λ p. s.is p ∙ ap (longer w) same;
        none = λ z. absurd (omega arith);
      }

  pub seek-none : (w : Word) (c : ℕ) → Seeking tree nodes w c 0 → Sought nodes w c 0
  seek-none w c s =
      record {
        within = t.some;
        found = λ p. absurd (omega arith);
        none = λ z k h e.
            let l : k ≤ 0 = s.left k h e in
            let at : k ≡ 0 = omega arith in
            let front : word_at nodes 0 ≡ root 0 = t.front in
            let is : word_at nodes 0 ≡ longer w c = ap (word_at nodes) (sym at) ∙ e in
            let o : ◌≡◌ {A = ℕ} 0 1 = cc in
            omega arith;
      }
