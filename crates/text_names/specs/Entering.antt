-- The three ends of numbering a name: it is known, there is no number left, or it gets the next one.
use Rattle.std.specs.Prelude.{ℕ, suc, ◌+◌, ◌*◌, ◌-◌, ◌≤◌, ◌<◌, ◌≡◌, refl, Bool, true, false, cond, List, ◌++◌, length, set}
use Rattle.std.proofs.Common.{arith, sym, ◌∙◌, ap, length-set, length-append}
use Rattle.std.proofs.Math.ListN.{get_or-append}
use Rattle.meaning.specs.ListForm.{Name}
use Rattle.meaning.specs.ListNumbers.{among, position}
use Rattle.text_names.specs.Tree.{Word, root, number_of, Tree, Book, Reached}
use Rattle.text_names.specs.Walking.{pushed}
use Rattle.text_names.specs.Numbers.{number_in, Numbers, numbers_stay, given_tree, given-other}
use Rattle.text_names.specs.Giving.{Rooted, Given, met, new, full, given-own}
use Rattle.text_names.specs.Needs.{name_of, Walked, Numberable, Numbered, Walkable}

pub walkable : (name tree : List ℕ) (t known count : ℕ) → Numberable name tree t known count → Walkable name tree t count
walkable name tree t known count n =
    let is : length n.book.nodes ≡ count = n.book.counted in
    let l : t < length n.book.nodes = n.rooted.within in
    record { book = n.book; here = omega arith; room = n.room; few = n.few }

module _ (tree : List ℕ) (nodes : List Word) (t : Tree tree nodes) (w : Word) (tree' : List ℕ) (count' node : ℕ)
    (r : Reached tree nodes w tree' count' node) where
  still-numbers : (q : ℕ) (known : List Name) → Numbers tree nodes q known → Numbers tree' r.book.nodes q known
  still-numbers q known n = go r.book.nodes r.stay r.book.holds
    where
      go : (all : List Word) → all ≡ nodes ++ r.more → Tree tree' all → Numbers tree' all q known
      go all e t' = rw e (numbers_stay tree nodes r.more t tree' (rw e at t') r.numbers q known n)

  still-rooted : (q : ℕ) → Rooted nodes q → Rooted r.book.nodes q
  still-rooted q ro = go r.book.nodes r.stay
    where
      go : (all : List Word) → all ≡ nodes ++ r.more → Rooted all q
      go all e =
          let m : _ = length-append nodes r.more in
          let l : q < length nodes = ro.within in
          rw e (record { within = omega arith; is = get_or-append nodes r.more (root 0) q l ∙ ro.is })

-- What the number at a name's node says.
heard : (known : List Name) (a : Name) (v : ℕ) → v ≡ number_in known a → 0 < v → (tree : List ℕ) (nodes : List Word) (t : ℕ) → Numbers tree nodes t known
    → Given known a (v - 1) tree nodes t
heard known a v e pos tree nodes t n = go (among a known) refl
  where
    go : (u : Bool) → among a known ≡ u → Given known a (v - 1) tree nodes t
    go true h = let is : v ≡ suc (position a known) = e ∙ ap (λ u. cond u (suc (position a known)) 0) h in met h (omega arith) n
    go false h = let is : v ≡ 0 = e ∙ ap (λ u. cond u (suc (position a known)) 0) h in absurd (omega arith)

unheard : (known : List Name) (a : Name) (v : ℕ) → v ≡ number_in known a → v ≡ 0 → among a known ≡ false
unheard known a v e z = go (among a known) refl
  where
    go : (u : Bool) → among a known ≡ u → u ≡ false
    go true h = let is : v ≡ suc (position a known) = e ∙ ap (λ u. cond u (suc (position a known)) 0) h in absurd (omega arith)
    go false h = refl

module _ (name tree : List ℕ) (t known count : ℕ) (n : Numberable name tree t known count) (tree' : List ℕ) (count' node : ℕ)
    (w : Walked name tree t count tree' count' node) where
  -- The walk from the root.
  ends : (b : Book tree count) → Rooted b.nodes t → Reached tree b.nodes (pushed (root t) (name_of name)) tree' count' node
  ends b ro = rw ro.is at (w.reached b)

  shows : (b : Book tree count) (ro : Rooted b.nodes t) (names : List Name) → Numbers tree b.nodes t names
      → number_of tree' node ≡ number_in names (name_of name)
  shows b ro names h =
      let r : _ = ends b ro in
      let c : length r.book.nodes ≡ count' = r.book.counted in
      let l : node < count' = r.within in
      (still-numbers tree b.nodes b.holds _ tree' count' node r t names h).at node (name_of name) (omega arith) r.word

  -- What the code asks to read the number, and to give it.
  pub record Ended : Type 0 where
    pub within : node < count'
    pub room : 4 * node + 4 ≤ length tree'

  pub ended : Ended
  ended =
      let r : _ = w.reached n.book in
      let same : length tree' ≡ length tree = r.room in
      let l : node < count' = r.within in
      let most : count' ≤ count + length name = w.most in
      let room : 4 * (count + length name) ≤ length tree = n.room in
      record { within = l; room = omega arith }

  pub was-known : (v : ℕ) → v ≡ number_of tree' node → 0 < v → Numbered name tree t known count tree' count' (v - 1)
  was-known v e pos =
      record {
        entered = λ b ro.
            let r : _ = ends b ro in
            record {
              book = r.book;
              stay = still-rooted tree b.nodes b.holds _ tree' count' node r;
              own = λ names c h.
                  heard names (name_of name) v (e ∙ shows b ro names h) pos tree' r.book.nodes t
                  (still-numbers tree b.nodes b.holds _ tree' count' node r t names h);
              other = λ q names apart h. still-numbers tree b.nodes b.holds _ tree' count' node r q names h;
              room = r.room;
            };
        least = w.least;
        most = w.most;
      }

  pub none_left : (v : ℕ) → v ≡ number_of tree' node → v ≡ 0 → 16384 ≤ known → Numbered name tree t known count tree' count' 16384
  none_left v e z l =
      let most : known ≤ 16384 = n.most in
      record {
        entered = λ b ro.
            let r : _ = ends b ro in
            record {
              book = r.book;
              stay = still-rooted tree b.nodes b.holds _ tree' count' node r;
              own = λ names c h. full (unheard names (name_of name) v (e ∙ shows b ro names h) z) refl (omega arith);
              other = λ q names apart h. still-numbers tree b.nodes b.holds _ tree' count' node r q names h;
              room = r.room;
            };
        least = w.least;
        most = w.most;
      }

  pub next-given : (v : ℕ) → v ≡ number_of tree' node → v ≡ 0 → known < 16384
      → Numbered name tree t known count (set tree' (4 * node + 3) (known + 1)) count' known
  next-given v e z l =
      record {
        entered = λ b ro.
            let r : _ = ends b ro in
            let here : node < length r.book.nodes = inside r in
            record {
              book = record { nodes = r.book.nodes; counted = r.book.counted; holds = given_tree tree' r.book.nodes r.book.holds node (known + 1) here ended.room };
              stay = still-rooted tree b.nodes b.holds _ tree' count' node r;
              own = λ names c h. newly b ro names c h r here;
              other = λ q names apart h.
                  given-other tree' r.book.nodes r.book.holds node (known + 1) here ended.room t q (name_of name) names apart r.word
                  (still-numbers tree b.nodes b.holds _ tree' count' node r q names h);
              room = length-set tree' (4 * node + 3) (known + 1) ∙ r.room;
            };
        least = w.least;
        most = w.most;
      }
    where
      inside : {nodes : List Word} → (r : Reached tree nodes (pushed (root t) (name_of name)) tree' count' node) → node < length r.book.nodes
      inside r = let c : length r.book.nodes ≡ count' = r.book.counted in let l : node < count' = r.within in omega arith

      newly : (b : Book tree count) → Rooted b.nodes t → (names : List Name) → length names ≡ known → Numbers tree b.nodes t names
          → (r : Reached tree b.nodes (pushed (root t) (name_of name)) tree' count' node) → node < length r.book.nodes
          → Given names (name_of name) known (set tree' (4 * node + 3) (known + 1)) r.book.nodes t
      newly b ro names c h r here =
          let no : among (name_of name) names ≡ false = unheard names (name_of name) v (e ∙ shows b ro names h) z in
          new no (sym c) l
          (rw c at
          (given-own tree' r.book.nodes r.book.holds node t here ended.room (name_of name) r.word names no
          (still-numbers tree b.nodes b.holds _ tree' count' node r t names h)))
