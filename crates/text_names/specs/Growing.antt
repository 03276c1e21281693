-- A node more: a child of another node, or a root.
use Rattle.std.specs.Prelude.{ℕ, ◌+◌, ◌*◌, ◌<◌, ◌≡◌, List, [], ◌∷◌, ◌++◌, length, get_or, set}
use Rattle.std.proofs.Common.{arith, sym, ◌∙◌, ap, length-append, length-set, get_or-set_same, get_or-set_other}
use Rattle.std.proofs.Math.Decide.{dec_lt}
use Rattle.std.proofs.Math.ListN.{get_or-append}
use Rattle.std.proofs.Math.Seq.{get_or-append_seam}
use Rattle.text_names.specs.Tree.{Word, root, longer, word_at, first_of, next_of, letter_of, number_of, Rise, own, child}

-- The words with one more.
module _ (nodes : List Word) (w : Word) where
  pub grown-length : length (nodes ++ (w ∷ [])) ≡ length nodes + 1
  grown-length = length-append nodes (w ∷ [])

  pub old-word : (i : ℕ) → i < length nodes → word_at (nodes ++ (w ∷ [])) i ≡ word_at nodes i
  old-word i l = get_or-append nodes (w ∷ []) (root 0) i l

  pub new_word : word_at (nodes ++ (w ∷ [])) (length nodes) ≡ w
  new_word = get_or-append_seam nodes w [] (root 0)

  -- A node of the longer list is an old one or the new one.
  pub data Which (i : ℕ) : Type 0 where
    old : i < length nodes → word_at (nodes ++ (w ∷ [])) i ≡ word_at nodes i → Which i
    new : i ≡ length nodes → word_at (nodes ++ (w ∷ [])) i ≡ w → Which i

  pub which : (i : ℕ) → i < length (nodes ++ (w ∷ [])) → Which i
  which i l = go (dec_lt i (length nodes))
    where
      go : Dec (i < length nodes) → Which i
      go (yes h) = old h (old-word i h)
      go (no h) =
          let n : _ = grown-length in
          let is : i ≡ length nodes = omega arith in
          new is (ap (word_at (nodes ++ (w ∷ []))) is ∙ new_word)

  -- No word stands twice, if the new one is new.
  pub still_one : ((i j : ℕ) → i < length nodes → j < length nodes → word_at nodes i ≡ word_at nodes j → i ≡ j)
      → ((k : ℕ) → k < length nodes → word_at nodes k ≡ w → ⊥)
      → (i j : ℕ) → i < length (nodes ++ (w ∷ [])) → j < length (nodes ++ (w ∷ []))
      → word_at (nodes ++ (w ∷ [])) i ≡ word_at (nodes ++ (w ∷ [])) j → i ≡ j
  still_one one unknown i j l m same = go (which i l) (which j m)
    where
      go : Which i → Which j → i ≡ j
      go (old h e) (old k f) = one i j h k (sym e ∙ same ∙ f)
      go (old h e) (new k f) = absurd (unknown i h (sym e ∙ same ∙ f))
      go (new h e) (old k f) = absurd (unknown j k (sym f ∙ sym same ∙ e))
      go (new h e) (new k f) = h ∙ sym k

  pub still-rise : ((i : ℕ) → i < length nodes → Rise nodes i) → Rise (nodes ++ (w ∷ [])) (length nodes)
      → (i : ℕ) → i < length (nodes ++ (w ∷ [])) → Rise (nodes ++ (w ∷ [])) i
  still-rise rise last i l = go (which i l)
    where
      lift : i < length nodes → Rise nodes i → Rise (nodes ++ (w ∷ [])) i
      lift h (own e) = own (old-word i h ∙ e)
      lift h (child n c below e) = child n c below (old-word i h ∙ e ∙ ap (λ v. longer v c) (sym (old-word n (omega arith))))

      go : Which i → Rise (nodes ++ (w ∷ [])) i
      go (old h e) = lift h (rise i h)
      go (new h e) = rw h last

-- How the entries of a list change when node u becomes the first child of node n, with letter c.
pub record Hung (tree tree' : List ℕ) (u n c : ℕ) : Type 0 where
  pub first-here : first_of tree' n ≡ u
  pub first-other : (i : ℕ) → (i ≡ n → ⊥) → first_of tree' i ≡ first_of tree i
  pub next_here : next_of tree' u ≡ first_of tree n
  pub next-other : (i : ℕ) → (i ≡ u → ⊥) → next_of tree' i ≡ next_of tree i
  pub letter-here : letter_of tree' u ≡ c
  pub letter-other : (i : ℕ) → (i ≡ u → ⊥) → letter_of tree' i ≡ letter_of tree i
  pub numbers : (i : ℕ) → number_of tree' i ≡ number_of tree i

pub hang : (tree : List ℕ) (u n c : ℕ) → (u ≡ n → ⊥) → 4 * u + 3 < length tree → 4 * n + 3 < length tree
    → Hung tree (set (set (set tree (4 * u + 2) c) (4 * u + 1) (first_of tree n)) (4 * n) u) u n c
hang tree u n c apart l m =
    let one : length (set tree (4 * u + 2) c) ≡ length tree = length-set tree (4 * u + 2) c in
    let two : length (set (set tree (4 * u + 2) c) (4 * u + 1) (first_of tree n)) ≡ length tree
    = length-set (set tree (4 * u + 2) c) (4 * u + 1) (first_of tree n) ∙ one in
    record {
      first-here = get_or-set_same (set (set tree (4 * u + 2) c) (4 * u + 1) (first_of tree n)) (4 * n) u 0 (omega arith);
      first-other = λ i h. third (4 * i) (omega arith) ∙ second (4 * i) (omega arith) ∙ first (4 * i) (omega arith);
      next_here = third (4 * u + 1) (omega arith) ∙ get_or-set_same (set tree (4 * u + 2) c) (4 * u + 1) (first_of tree n) 0 (omega arith);
      next-other = λ i h. third (4 * i + 1) (omega arith) ∙ second (4 * i + 1) (omega arith) ∙ first (4 * i + 1) (omega arith);
      letter-here = third (4 * u + 2) (omega arith) ∙ second (4 * u + 2) (omega arith) ∙ get_or-set_same tree (4 * u + 2) c 0 (omega arith);
      letter-other = λ i h. third (4 * i + 2) (omega arith) ∙ second (4 * i + 2) (omega arith) ∙ first (4 * i + 2) (omega arith);
      numbers = λ i. third (4 * i + 3) (omega arith) ∙ second (4 * i + 3) (omega arith) ∙ first (4 * i + 3) (omega arith);
    }
  where
    first : (j : ℕ) → (j ≡ 4 * u + 2 → ⊥) → get_or (set tree (4 * u + 2) c) j 0 ≡ get_or tree j 0
    first j h = get_or-set_other tree (4 * u + 2) j c 0 h

    second : (j : ℕ) → (j ≡ 4 * u + 1 → ⊥)
        → get_or (set (set tree (4 * u + 2) c) (4 * u + 1) (first_of tree n)) j 0 ≡ get_or (set tree (4 * u + 2) c) j 0
    second j h = get_or-set_other (set tree (4 * u + 2) c) (4 * u + 1) j (first_of tree n) 0 h

    third : (j : ℕ) → (j ≡ 4 * n → ⊥)
        → get_or (set (set (set tree (4 * u + 2) c) (4 * u + 1) (first_of tree n)) (4 * n) u) j 0
        ≡ get_or (set (set tree (4 * u + 2) c) (4 * u + 1) (first_of tree n)) j 0
    third j h = get_or-set_other (set (set tree (4 * u + 2) c) (4 * u + 1) (first_of tree n)) (4 * n) j u 0 h
