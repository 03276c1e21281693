-- The numbers given to the names below a root: each name has its position in the list of those known, in order of first appearance.
use Rattle.std.specs.Prelude.{ℕ, suc, ◌+◌, ◌*◌, ◌≤◌, ◌<◌, ◌≡◌, refl, Bool, true, false, cond, List, [], ◌∷◌, ◌++◌, length, get_or, set}
use Rattle.std.proofs.Common.{arith, sym, ◌∙◌, ap, append-nil, length-append, get_or-set_other}
use Rattle.std.proofs.Math.Decide.{dec_lt}
use Rattle.std.proofs.Math.ListN.{get_or-append}
use Rattle.meaning.specs.ListForm.{Name}
use Rattle.meaning.specs.ListNumbers.{among, position}
use Rattle.text_names.specs.Tree.{Word, root, longer, root_of, word_at, first_of, next_of, number_of, Led, Tree}
use Rattle.text_names.specs.Growing.{Which, old, new, which}
use Rattle.text_names.specs.Roots.{root_unknown}
use Rattle.text_names.specs.Walking.{pushed}

-- One more than the number of a name among those known; 0 if it is new.
abbrev pub number_in : List Name → Name → ℕ
number_in known a = cond (among a known) (suc (position a known)) 0

pub record Placed (nodes : List Word) (w : Word) : Type 0 where
  pub place : ℕ
  pub within : place < length nodes
  pub is : word_at nodes place ≡ w

pub record Numbers (tree : List ℕ) (nodes : List Word) (t : ℕ) (known : List Name) : Type 0 where
  pub at : (i : ℕ) (a : Name) → i < length nodes → word_at nodes i ≡ pushed (root t) a → number_of tree i ≡ number_in known a
  pub has : (a : Name) → among a known ≡ true → Placed nodes (pushed (root t) a)

-- A word has one root and one name.
pub pushed-root : (w : Word) (a : Name) → root_of (pushed w a) ≡ root_of w
unfolding pushed
pushed-root w [] = refl
pushed-root w (c ∷ a) = pushed-root (longer w c) a

unfoldable spelt : Word → Name → Name
spelt (root t) a = a
spelt (longer w c) a = spelt w (c ∷ a)

spelt-pushed : (w : Word) (a b : Name) → spelt (pushed w a) b ≡ spelt w (a ++ b)
unfolding pushed spelt
spelt-pushed w [] b = refl
spelt-pushed w (c ∷ a) b = spelt-pushed (longer w c) a b

pub one_name : (t : ℕ) (a b : Name) → pushed (root t) a ≡ pushed (root t) b → a ≡ b
unfolding spelt
one_name t a b e =
    sym (append-nil a) ∙ sym (spelt-pushed (root t) a []) ∙ ap (λ w. spelt w []) e ∙ spelt-pushed (root t) b [] ∙ append-nil b

pub other-root : (t u : ℕ) (a b : Name) → (u ≡ t → ⊥) → pushed (root u) a ≡ pushed (root t) b → ⊥
other-root t u a b apart e = apart (sym (pushed-root (root u) a) ∙ ap root_of e ∙ pushed-root (root t) b)

unnamed : (known : List Name) (a : Name) → among a known ≡ false → number_in known a ≡ 0
unnamed known a e = ap (λ t. cond t (suc (position a known)) 0) e

-- Numbers stay while words are added.
module _ (tree : List ℕ) (nodes more : List Word) (t : Tree tree nodes) (tree' : List ℕ) (t' : Tree tree' (nodes ++ more))
    (same : (i : ℕ) → number_of tree' i ≡ number_of tree i) where
  kept : (i : ℕ) → i < length nodes → word_at (nodes ++ more) i ≡ word_at nodes i
  kept i l = get_or-append nodes more (root 0) i l

  pub numbers_stay : (r : ℕ) (known : List Name) → Numbers tree nodes r known → Numbers tree' (nodes ++ more) r known
  numbers_stay r known n =
      record {
        at = λ i a l e. here i a l e (dec_lt i (length nodes));
        has = λ a h.
            let p : Placed nodes (pushed (root r) a) = n.has a h in
            let few : p.place < length nodes = p.within in
            let m : _ = length-append nodes more in
            record { place = p.place; within = omega arith; is = kept p.place few ∙ p.is };
      }
    where
      unheard : (i : ℕ) (a : Name) → i < length (nodes ++ more) → word_at (nodes ++ more) i ≡ pushed (root r) a → (i < length nodes → ⊥)
          → (u : Bool) → among a known ≡ u → number_in known a ≡ 0
      unheard i a l e h false k = unnamed known a k
      unheard i a l e h true k =
          let p : Placed nodes (pushed (root r) a) = n.has a k in
          let few : p.place < length nodes = p.within in
          let m : _ = length-append nodes more in
          let both : p.place ≡ i = t'.one p.place i (omega arith) l (kept p.place few ∙ p.is ∙ sym e) in
          absurd (h (omega arith))

      here : (i : ℕ) (a : Name) → i < length (nodes ++ more) → word_at (nodes ++ more) i ≡ pushed (root r) a → Dec (i < length nodes)
          → number_of tree' i ≡ number_in known a
      here i a l e (yes h) = same i ∙ n.at i a h (sym (kept i h) ∙ e)
      here i a l e (no h) = same i ∙ t.unnumbered i (omega arith) ∙ sym (unheard i a l e h (among a known) refl)

-- A root that comes knows no name.
pub numbers-fresh : (tree : List ℕ) (nodes : List Word) → Tree tree nodes → Numbers tree (nodes ++ (root (length nodes) ∷ [])) (length nodes) []
unfolding among
numbers-fresh tree nodes t =
    record {
      at = λ i a l e. here i a e (which nodes (root (length nodes)) i l);
      has = λ a h. absurd (let z : ◌≡◌ {A = ℕ} 0 1 = cc in omega arith);
    }
  where
    here : (i : ℕ) (a : Name) → word_at (nodes ++ (root (length nodes) ∷ [])) i ≡ pushed (root (length nodes)) a → Which nodes (root (length nodes)) i
        → number_of tree i ≡ 0
    here i a e (old b g) = absurd (root_unknown tree nodes t i b (ap root_of (sym g ∙ e) ∙ pushed-root (root (length nodes)) a))
    here i a e (new b g) = t.unnumbered i (omega arith)

-- A number is given.
module _ (tree : List ℕ) (nodes : List Word) (t : Tree tree nodes) (u v : ℕ) (here : u < length nodes) (room : 4 * u + 4 ≤ length tree) where
  tree' : List ℕ
  tree' = set tree (4 * u + 3) v

  apart-entry : (j : ℕ) → (j ≡ 4 * u + 3 → ⊥) → get_or (set tree (4 * u + 3) v) j 0 ≡ get_or tree j 0
  apart-entry j h = get_or-set_other tree (4 * u + 3) j v 0 h

  led_still : (w : Word) (limit x : ℕ) → Led tree nodes w limit x → Led (set tree (4 * u + 3) v) nodes w limit x
  led_still w limit x f =
      record {
        below = f.below;
        is = λ p. f.is p ∙ ap (longer w) (sym (apart-entry (4 * x + 2) (λ z. omega arith)));
        all = f.all;
      }

  pub given_tree : Tree (set tree (4 * u + 3) v) nodes
  given_tree =
      record {
        some = t.some;
        front = t.front;
        one = t.one;
        rise = t.rise;
        roots = t.roots;
        first = λ i l. rw (apart-entry (4 * i) (λ z. omega arith)) (led_still (word_at nodes i) (length nodes) (first_of tree i) (t.first i l));
        next = λ i w c l e. rw (apart-entry (4 * i + 1) (λ z. omega arith)) (led_still w i (next_of tree i) (t.next i w c l e));
        unled = λ i l. apart-entry (4 * i) (λ z. omega arith) ∙ t.unled i l;
        unnumbered = λ i l. apart-entry (4 * i + 3) (λ z. omega arith) ∙ t.unnumbered i l;
      }

  -- Names below another root keep theirs.
  pub given-other : (r q : ℕ) (a : Name) (known : List Name) → (q ≡ r → ⊥) → word_at nodes u ≡ pushed (root r) a → Numbers tree nodes q known
      → Numbers (set tree (4 * u + 3) v) nodes q known
  given-other r q a known apart is n =
      record {
        at = λ i b l e. apart-entry (4 * i + 3) (λ z. elsewhere i b e (omega arith)) ∙ n.at i b l e;
        has = n.has;
      }
    where
      elsewhere : (i : ℕ) (b : Name) → word_at nodes i ≡ pushed (root q) b → i ≡ u → ⊥
      elsewhere i b e same = other-root r q b a apart (sym e ∙ ap (word_at nodes) same ∙ is)
