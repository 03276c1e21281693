-- From a node along the letters of a name.
use Rattle.std.specs.Prelude.{ℕ, ◌+◌, ◌*◌, ◌≤◌, ◌<◌, ◌≡◌, refl, cond, List, [], ◌∷◌, ◌++◌, eqb, length, set}
use Rattle.std.proofs.Common.{arith, sym, ◌∙◌, ap, append-nil, append_assoc, length-set, eq-eqb, ne_eqb}
use Rattle.meaning.specs.ListForm.{Name}
use Rattle.text_names.specs.Tree.{Word, longer, word_at, first_of, Tree, Book, Sought, Reached}
use Rattle.text_names.specs.Growing.{grown-length, new_word, hang}
use Rattle.text_names.specs.Hanging.{hung_tree}

-- The word that is longer by a name.
unfoldable pub pushed : Word → Name → Word
pushed w [] = w
pushed w (c ∷ a) = pushed (longer w c) a

pub pushed-and : (w : Word) (a : Name) (c : ℕ) → pushed w (a ++ (c ∷ [])) ≡ longer (pushed w a) c
unfolding pushed
pushed-and w [] c = refl
pushed-and w (d ∷ a) c = pushed-and (longer w d) a c

-- The nodes after a step: one more, if the step gives the next one.
abbrev pub grown_by : (count node : ℕ) → ℕ
grown_by count node = cond (eqb node count) (count + 1) count

module _ (tree : List ℕ) (count : ℕ) (b : Book tree count) where
  pub reached-itself : (n : ℕ) → n < count → Reached tree b.nodes (word_at b.nodes n) tree count n
  reached-itself n l =
      record { book = b; more = []; stay = sym (append-nil b.nodes); numbers = λ i. refl; within = l; word = refl; room = refl }

  pub step-found : (n c u : ℕ) → 0 < u → Sought b.nodes (word_at b.nodes n) c u
      → Reached tree b.nodes (longer (word_at b.nodes n) c) tree (grown_by count u) u
  step-found n c u pos s =
      let is : length b.nodes ≡ count = b.counted in
      let l : u < length b.nodes = s.within in
      let apart : u ≡ count → ⊥ = λ z. omega arith in
      rw (ne_eqb u count apart)
      (record {
        book = b;
        more = [];
        stay = sym (append-nil b.nodes);
        numbers = λ i. refl;
        within = omega arith;
        word = s.found pos;
        room = refl;
      })

  pub step-new : (n c : ℕ) → n < count → 4 * count + 4 ≤ length tree → Sought b.nodes (word_at b.nodes n) c 0
      → Reached tree b.nodes (longer (word_at b.nodes n) c)
      (set (set (set tree (4 * count + 2) c) (4 * count + 1) (first_of tree n)) (4 * n) count) (grown_by count count) count
  step-new n c l room s = go count b.counted l room
    where
      go : (u : ℕ) → length b.nodes ≡ u → n < u → 4 * u + 4 ≤ length tree
          → Reached tree b.nodes (longer (word_at b.nodes n) c)
          (set (set (set tree (4 * u + 2) c) (4 * u + 1) (first_of tree n)) (4 * n) u) (grown_by u u) u
      go u is l r =
          let h : _ = hang tree u n c (λ z. omega arith) (omega arith) (omega arith) in
          let same : length b.nodes ≡ u = is in
          let t : Tree (set (set (set tree (4 * u + 2) c) (4 * u + 1) (first_of tree n)) (4 * n) u) (b.nodes ++ (longer (word_at b.nodes n) c ∷ []))
          = hung_tree tree b.nodes b.holds n c (omega arith) (s.none refl)
          (set (set (set tree (4 * u + 2) c) (4 * u + 1) (first_of tree n)) (4 * n) u) (rw is h) in
          rw (eq-eqb u u refl)
          (record {
            book = record { nodes = b.nodes ++ (longer (word_at b.nodes n) c ∷ []); counted = grown-length b.nodes (longer (word_at b.nodes n) c) ∙ ap (λ x. x + 1) is; holds = t };
            more = longer (word_at b.nodes n) c ∷ [];
            stay = refl;
            numbers = h.numbers;
            within = omega arith;
            word = ap (word_at (b.nodes ++ (longer (word_at b.nodes n) c ∷ []))) (sym is) ∙ new_word b.nodes (longer (word_at b.nodes n) c);
            room = length-set (set (set tree (4 * u + 2) c) (4 * u + 1) (first_of tree n)) (4 * n) u
                ∙ length-set (set tree (4 * u + 2) c) (4 * u + 1) (first_of tree n) ∙ length-set tree (4 * u + 2) c;
          })

  -- As the code has it.
  pub step-grown : (n c x u : ℕ) → n < count → 4 * count + 4 ≤ length tree → u ≡ 0 → x ≡ c → Sought b.nodes (word_at b.nodes n) c u
      → Reached tree b.nodes (longer (word_at b.nodes n) c)
      (set (set (set tree (4 * count + 2) x) (4 * count + 1) (first_of tree n)) (4 * n) count) (grown_by count count) count
  step-grown n c x u l room z e s = rw e (step-new n c l room (rw z at s))

-- One step after another.
pub reached-on : (tree : List ℕ) (nodes : List Word) (w v : Word) (tree' : List ℕ) (count' n : ℕ) (tree'' : List ℕ) (count'' u : ℕ)
    → (r : Reached tree nodes w tree' count' n) → Reached tree' r.book.nodes v tree'' count'' u → Reached tree nodes v tree'' count'' u
reached-on tree nodes w v tree' count' n tree'' count'' u r s =
    record {
      book = s.book;
      more = r.more ++ s.more;
      stay = s.stay ∙ ap (λ l. l ++ s.more) r.stay ∙ append_assoc nodes r.more s.more;
      numbers = λ i. s.numbers i ∙ r.numbers i;
      within = s.within;
      word = s.word;
      room = s.room ∙ r.room;
    }
