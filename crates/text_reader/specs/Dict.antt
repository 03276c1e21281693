-- The two lists of names in the tree: the gates and modules below root 1, the nets of the module below a root of its own.
use Rattle.std.specs.Prelude.{ℕ, ◌+◌, ◌≤◌, ◌<◌, ◌≡◌, refl, true, false, cond, not, ◌&&◌, List, [], ◌∷◌, ◌++◌, leb, length}
use Rattle.std.proofs.Common.{arith, sym, ◌∙◌, ap, length-append, eq-eqb, ne_eqb, le-leb}
use Rattle.std.proofs.lemmas.Bool.{lt-leb}
use Rattle.meaning.specs.ListForm.{Name}
use Rattle.meaning.specs.ListNumbers.{position, entered}
use Rattle.laws.specs.Texts.Numbering.{same-itself, position-below}
use Rattle.text_names.specs.Tree.{Word, root, Tree, Book}
use Rattle.text_names.specs.Growing.{grown-length, old-word, new_word}
use Rattle.text_names.specs.Roots.{root_tree}
use Rattle.text_names.specs.Walking.{grown_by}
use Rattle.text_names.specs.Numbers.{Numbers, numbers_stay, numbers-fresh}
use Rattle.text_names.specs.Giving.{Rooted, Given, met, new, full, Entered, position-new}
use Rattle.text_names.specs.Needs.{name_of, Numbered}
use Rattle.text_desk.specs.Limits.{none_left}

pub record Dict (tree : List ℕ) (names nets r count : ℕ) (known heard : List Name) : Type 0 where
  pub book : Book tree count
  pub first : Rooted book.nodes 1
  pub second : Rooted book.nodes r
  pub apart : r ≡ 1 → ⊥
  pub named : Numbers tree book.nodes 1 known
  pub netted : Numbers tree book.nodes r heard
  pub names-are : length known ≡ names
  pub nets-are : length heard ≡ nets
  pub names-most : names ≤ 16384
  pub nets-most : nets ≤ 16384

-- What became of a list of names when one was given a number.
pub data Grew (known : List Name) (a : Name) (number : ℕ) (tree : List ℕ) (nodes : List Word) (t : ℕ) (count : ℕ) : Type 0 where
  over : number ≡ 16384 → none_left known a ≡ true → Grew known a number tree nodes t count
  on : number < 16384 → none_left known a ≡ false → number ≡ position a (entered known (a ∷ [])) → Numbers tree nodes t (entered known (a ∷ []))
      → length (entered known (a ∷ [])) ≡ grown_by count number → grown_by count number ≤ 16384 → Grew known a number tree nodes t count

pub grew : (known : List Name) (a : Name) (number : ℕ) (tree : List ℕ) (nodes : List Word) (t count : ℕ) → length known ≡ count → count ≤ 16384
    → Given known a number tree nodes t → Grew known a number tree nodes t count
unfolding entered
grew known a number tree nodes t count c few (met h e n) =
    let l : position a known < length known = position-below a known h in
    let apart : number ≡ count → ⊥ = λ z. omega arith in
    on (omega arith)
    (ap (λ u. not u && leb 16384 (length known)) h)
    (e ∙ sym (ap (λ u. position a (cond u known (known ++ (a ∷ [])))) h))
    (rw h n)
    (ap (λ u. length (cond u known (known ++ (a ∷ [])))) h ∙ c ∙ sym (ap (λ u. cond u (count + 1) count) (ne_eqb number count apart)))
    (rw (ne_eqb number count apart) few)
grew known a number tree nodes t count c few (new h e small n) =
    let same : number ≡ count = e ∙ c in
    let long : length (known ++ (a ∷ [])) ≡ length known + 1 = length-append known (a ∷ []) in
    on small
    (ap (λ u. not u && leb 16384 (length known)) h ∙ lt-leb 16384 (length known) (omega arith))
    (e ∙ sym (position-new a a known h (same-itself a)) ∙ sym (ap (λ u. position a (cond u known (known ++ (a ∷ [])))) h))
    (rw h n)
    (ap (λ u. length (cond u known (known ++ (a ∷ [])))) h ∙ long ∙ ap (λ k. k + 1) c ∙ sym (ap (λ u. cond u (count + 1) count) (eq-eqb number count same)))
    (rw (eq-eqb number count same) (omega arith))
grew known a number tree nodes t count c few (full h e f) =
    over e (ap (λ u. not u && leb 16384 (length known)) h ∙ le-leb 16384 (length known) (omega arith))

module _ (name tree : List ℕ) (names nets r count : ℕ) (known heard : List Name) (d : Dict tree names nets r count known heard) where
  -- The name of a module.
  pub data Named (tree' : List ℕ) (count' number : ℕ) : Type 0 where
    none : number ≡ 16384 → none_left known (name_of name) ≡ true → Named tree' count' number
    some : number < 16384 → none_left known (name_of name) ≡ false → number ≡ position (name_of name) (entered known (name_of name ∷ []))
        → Dict tree' (grown_by names number) nets r count' (entered known (name_of name ∷ [])) heard → Named tree' count' number

  pub named_so : (tree' : List ℕ) (count' number : ℕ) → Numbered name tree 1 names count tree' count' number → Named tree' count' number
  named_so tree' count' number n = go (n.entered d.book d.first)
    where
      step : (e : Entered tree d.book.nodes 1 (name_of name) names tree' count' number)
          → Grew known (name_of name) number tree' e.book.nodes 1 names → Named tree' count' number
      step e (over f z) = none f z
      step e (on small left is numbers long most) =
          some small left is
          (record {
            book = e.book;
            first = e.stay 1 d.first;
            second = e.stay r d.second;
            apart = d.apart;
            named = numbers;
            netted = e.other r heard d.apart d.netted;
            names-are = long;
            nets-are = d.nets-are;
            names-most = most;
            nets-most = d.nets-most;
          })

      go : Entered tree d.book.nodes 1 (name_of name) names tree' count' number → Named tree' count' number
      go e =
          step e
          (grew known (name_of name) number tree' e.book.nodes 1 names d.names-are d.names-most (e.own known d.names-are d.named))

  -- A net.
  pub data Netted (tree' : List ℕ) (count' number : ℕ) : Type 0 where
    none : number ≡ 16384 → none_left heard (name_of name) ≡ true → Netted tree' count' number
    some : number < 16384 → none_left heard (name_of name) ≡ false → number ≡ position (name_of name) (entered heard (name_of name ∷ []))
        → Dict tree' names (grown_by nets number) r count' known (entered heard (name_of name ∷ [])) → Netted tree' count' number

  pub netted_so : (tree' : List ℕ) (count' number : ℕ) → Numbered name tree r nets count tree' count' number → Netted tree' count' number
  netted_so tree' count' number n = go (n.entered d.book d.second)
    where
      step : (e : Entered tree d.book.nodes r (name_of name) nets tree' count' number)
          → Grew heard (name_of name) number tree' e.book.nodes r nets → Netted tree' count' number
      step e (over f z) = none f z
      step e (on small left is numbers long most) =
          some small left is
          (record {
            book = e.book;
            first = e.stay 1 d.first;
            second = e.stay r d.second;
            apart = d.apart;
            named = e.other 1 known (λ z. d.apart (sym z)) d.named;
            netted = numbers;
            names-are = d.names-are;
            nets-are = long;
            names-most = d.names-most;
            nets-most = most;
          })

      go : Entered tree d.book.nodes r (name_of name) nets tree' count' number → Netted tree' count' number
      go e =
          step e
          (grew heard (name_of name) number tree' e.book.nodes r nets d.nets-are d.nets-most (e.own heard d.nets-are d.netted))

-- A root more: a module begins with no nets.
module _ (tree : List ℕ) (nodes : List Word) (t : Tree tree nodes) where
  pub rooted-still : (w : Word) (q : ℕ) → Rooted nodes q → Rooted (nodes ++ (w ∷ [])) q
  rooted-still w q ro =
      let m : _ = grown-length nodes w in
      let l : q < length nodes = ro.within in
      record { within = omega arith; is = old-word nodes w q l ∙ ro.is }

  pub rooted-new : Rooted (nodes ++ (root (length nodes) ∷ [])) (length nodes)
  rooted-new =
      let m : _ = grown-length nodes (root (length nodes)) in
      record { within = omega arith; is = new_word nodes (root (length nodes)) }

  pub numbers-root : (q : ℕ) (known : List Name) → Numbers tree nodes q known → Numbers tree (nodes ++ (root (length nodes) ∷ [])) q known
  numbers-root q known n = numbers_stay tree nodes (root (length nodes) ∷ []) t tree (root_tree tree nodes t) (λ i. refl) q known n

pub fresh : (tree : List ℕ) (names nets r count : ℕ) (known heard : List Name) → Dict tree names nets r count known heard
    → Dict tree names 0 count (count + 1) known []
fresh tree names nets r count known heard d = go count d.book.counted
  where
    go : (u : ℕ) → length d.book.nodes ≡ u → Dict tree names 0 u (u + 1) known []
    go u e =
        let nodes : List Word = d.book.nodes in
        let l : 1 < length d.book.nodes = d.first.within in
        rw (← e)
        (record {
          book = record {
            nodes = d.book.nodes ++ (root (length d.book.nodes) ∷ []);
            counted = grown-length d.book.nodes (root (length d.book.nodes));
            holds = root_tree tree d.book.nodes d.book.holds;
          };
          first = rooted-still tree d.book.nodes d.book.holds (root (length d.book.nodes)) 1 d.first;
          second = rooted-new tree d.book.nodes d.book.holds;
          apart = λ z. omega arith;
          named = numbers-root tree d.book.nodes d.book.holds 1 known d.named;
          netted = numbers-fresh tree d.book.nodes d.book.holds;
          names-are = d.names-are;
          nets-are = refl;
          names-most = d.names-most;
          nets-most = omega arith;
        })
