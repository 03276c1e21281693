-- The loop along the letters of a name.
use Rattle.std.specs.Prelude.{ℕ, ◌+◌, ◌*◌, ◌≤◌, ◌<◌, ◌≡◌, Bool, true, false, cond, List, [], ◌∷◌, eqb, length, take, get_or}
use Rattle.std.proofs.Common.{add-one, sym, ◌∙◌, ap, take-suc, take_all}
use native.Mathlib.Omega.{arith}
use Rattle.std.proofs.lemmas.List.{map-append}
use Rattle.meaning.specs.ListForm.{capital}
use Rattle.text_names.specs.Tree.{Word, longer, word_at, Book, Reached}
use Rattle.text_names.specs.Walking.{pushed, pushed-and, grown_by, reached-itself, reached-on}
use Rattle.text_names.specs.Needs.{name_of, Steppable, Walkable, Walked}

-- A step adds no node or one.
grown-least : (count node : ℕ) → count ≤ grown_by count node
grown-least count node = go (eqb node count)
  where
    go : (t : Bool) → count ≤ cond t (count + 1) count
    go true = omega arith
    go false = omega arith

grown-most : (count node : ℕ) → grown_by count node ≤ count + 1
grown-most count node = go (eqb node count)
  where
    go : (t : Bool) → cond t (count + 1) count ≤ count + 1
    go true = omega arith
    go false = omega arith

pub record Stepping (name tree : List ℕ) (root count : ℕ) (tree' : List ℕ) (node all i : ℕ) : Type 0 where
  pub few : i ≤ length name
  pub reached : (b : Book tree count) → Reached tree b.nodes (pushed (word_at b.nodes root) (name_of (take i name))) tree' all node
  pub least : count ≤ all
  pub most : all ≤ count + i

module _ (name tree : List ℕ) (root count : ℕ) (w : Walkable name tree root count) where
  pub stepping-first : Stepping name tree root count tree root count 0
  unfolding pushed
  stepping-first =
      record { few = omega arith; reached = λ b. reached-itself tree count b root w.here; least = omega arith; most = omega arith }

  pub steppable : (tree' : List ℕ) (node all i : ℕ) → i < length name → Stepping name tree root count tree' node all i → Steppable tree' all node
  steppable tree' node all i l s =
      let r : _ = s.reached w.book in
      let m : all ≤ count + i = s.most in
      let same : length tree' ≡ length tree = r.room in
      let room : 4 * (count + length name) ≤ length tree = w.room in
      let few : count + length name < 1048576 = w.few in
      record { book = r.book; here = r.within; room = omega arith; few = omega arith }

  one-letter : (v : Word) (i : ℕ) → i < length name
      → longer (pushed v (name_of (take i name))) (capital (get_or name i 0)) ≡ pushed v (name_of (take (i + 1) name))
  one-letter v i l =
      sym (pushed-and v (name_of (take i name)) (capital (get_or name i 0)))
      ∙ ap (pushed v) (sym (map-append capital (take i name) (get_or name i 0 ∷ [])))
      ∙ ap (λ x. pushed v (name_of x)) (sym (take-suc name i 0 l) ∙ ap (λ j. take j name) (sym (add-one i)))

  pub stepping-next : (tree' : List ℕ) (node all i x : ℕ) (tree'' : List ℕ) (r all' : ℕ) → i < length name → x ≡ capital (get_or name i 0)
      → all' ≡ grown_by all r
      → ((b : Book tree' all) → Reached tree' b.nodes (longer (word_at b.nodes node) x) tree'' (grown_by all r) r)
      → Stepping name tree root count tree' node all i → Stepping name tree root count tree'' r all' (i + 1)
  stepping-next tree' node all i x tree'' r all' l e g f s =
      let least : count ≤ all = s.least in
      let most : all ≤ count + i = s.most in
      let more : _ = grown-least all r in
      let less : _ = grown-most all r in
      record {
        few = omega arith;
        reached = λ b. rw g (on b (s.reached b));
        least = omega arith;
        most = omega arith;
      }
    where
      on : (b : Book tree count) → Reached tree b.nodes (pushed (word_at b.nodes root) (name_of (take i name))) tree' all node
          → Reached tree b.nodes (pushed (word_at b.nodes root) (name_of (take (i + 1) name))) tree'' (grown_by all r) r
      on b q =
          let word : longer (word_at q.book.nodes node) x ≡ pushed (word_at b.nodes root) (name_of (take (i + 1) name))
          = ap (λ v. longer v x) q.word ∙ ap (longer (pushed (word_at b.nodes root) (name_of (take i name)))) e
          ∙ one-letter (word_at b.nodes root) i l in
          reached-on tree b.nodes (pushed (word_at b.nodes root) (name_of (take i name)))
          (pushed (word_at b.nodes root) (name_of (take (i + 1) name))) tree' all node tree'' (grown_by all r) r q
          (rw word at (f q.book))

  pub stepping-last : (tree' : List ℕ) (node all i : ℕ) → length name ≤ i → Stepping name tree root count tree' node all i
      → Walked name tree root count tree' all node
  stepping-last tree' node all i l s =
      let few : i ≤ length name = s.few in
      let most : all ≤ count + i = s.most in
      let whole : take i name ≡ name = take_all i name l in
      record { reached = λ b. rw whole at (s.reached b); least = s.least; most = omega arith }
