-- A name that is new gets the next number.
use Rattle.std.specs.Prelude.{ℕ, suc, ◌+◌, ◌*◌, ◌≤◌, ◌<◌, ◌≡◌, refl, Bool, true, false, cond, ◌||◌, List, [], ◌∷◌, ◌++◌, length, get_or, set}
use Rattle.std.proofs.Common.{arith, sym, ◌∙◌, ap, get_or-set_same, get_or-set_other}
use Rattle.std.proofs.Math.Decide.{ℕ_discrete}
use Rattle.meaning.specs.ListForm.{Name}
use Rattle.meaning.specs.ListNumbers.{same_name, among, position}
use Rattle.laws.specs.Texts.Numbering.{or-false, same-name, same-itself, among-append, position-front}
use Rattle.text_names.specs.Tree.{Word, root, word_at, number_of, Tree, Book}
use Rattle.text_names.specs.Walking.{pushed}
use Rattle.text_names.specs.Numbers.{number_in, Placed, Numbers, one_name}

pub position-new : (a x : Name) (xs : List Name) → among a xs ≡ false → same_name a x ≡ true → position a (xs ++ (x ∷ [])) ≡ length xs
unfolding position among
position-new a x [] h e = rw e
position-new a x (y ∷ ys) h e = go (same_name a y) h (λ k. position-new a x ys k e)
  where
    go : (t : Bool) → (t || among a ys) ≡ false → (among a ys ≡ false → position a (ys ++ (x ∷ [])) ≡ length ys)
        → cond t 0 (suc (position a (ys ++ (x ∷ [])))) ≡ suc (length ys)
    go true k rest = absurd (let z : ◌≡◌ {A = ℕ} 0 1 = cc in omega arith)
    go false k rest = ap suc (rest k)

among-and : (b a : Name) (known : List Name) → among b (known ++ (a ∷ [])) ≡ (among b known || same_name b a)
unfolding among
among-and b a known = among-append b known (a ∷ []) ∙ ap (λ t. among b known || t) (or-false (same_name b a))

number-new : (a : Name) (known : List Name) → among a known ≡ false → number_in (known ++ (a ∷ [])) a ≡ suc (length known)
number-new a known e =
    let here : among a (known ++ (a ∷ [])) ≡ true = among-and a a known ∙ rw (e, same-itself a) in
    rw (here, position-new a a known e (same-itself a))

number-old : (b a : Name) (known : List Name) → same_name b a ≡ false → number_in (known ++ (a ∷ [])) b ≡ number_in known b
number-old b a known e = go (among b known) refl
  where
    go : (t : Bool) → among b known ≡ t → number_in (known ++ (a ∷ [])) b ≡ number_in known b
    go true h =
        let here : among b (known ++ (a ∷ [])) ≡ true = among-and b a known ∙ rw h in
        rw (here, h, position-front b known (a ∷ []) h)
    go false h =
        let gone : among b (known ++ (a ∷ [])) ≡ false = among-and b a known ∙ rw (h, e) in
        rw (gone, h)

module _ (tree : List ℕ) (nodes : List Word) (t : Tree tree nodes) (u r : ℕ) (here : u < length nodes) (room : 4 * u + 4 ≤ length tree)
    (a : Name) (is : word_at nodes u ≡ pushed (root r) a) (known : List Name) (unheard : among a known ≡ false) where
  tree' : List ℕ
  tree' = set tree (4 * u + 3) (length known + 1)

  pub given-own : Numbers tree nodes r known → Numbers (set tree (4 * u + 3) (length known + 1)) nodes r (known ++ (a ∷ []))
  given-own n =
      record {
        at = λ i b l e. numbered i b l e (ℕ_discrete i u);
        has = λ b h. placed b (among b known) refl (sym (among-and b a known) ∙ h);
      }
    where
      unlike : (i : ℕ) (b : Name) → word_at nodes i ≡ pushed (root r) b → (i ≡ u → ⊥) → i < length nodes → (t : Bool) → same_name b a ≡ t → t ≡ false
      unlike i b e apart l false h = refl
      unlike i b e apart l true h =
          absurd (apart (t.one i u l here (e ∙ ap (pushed (root r)) (same-name b a h) ∙ sym is)))

      numbered : (i : ℕ) (b : Name) → i < length nodes → word_at nodes i ≡ pushed (root r) b → Dec (i ≡ u)
          → number_of (set tree (4 * u + 3) (length known + 1)) i ≡ number_in (known ++ (a ∷ [])) b
      numbered i b l e (yes same) =
          let alike : b ≡ a = one_name r b a (sym e ∙ ap (word_at nodes) same ∙ is) in
          let one : length known + 1 ≡ suc (length known) = omega arith in
          ap (λ j. get_or (set tree (4 * u + 3) (length known + 1)) (4 * j + 3) 0) same
          ∙ get_or-set_same tree (4 * u + 3) (length known + 1) 0 (omega arith)
          ∙ one
          ∙ sym (number-new a known unheard)
          ∙ ap (number_in (known ++ (a ∷ []))) (sym alike)
      numbered i b l e (no apart) =
          get_or-set_other tree (4 * u + 3) (4 * i + 3) (length known + 1) 0 (λ z. apart (omega arith))
          ∙ n.at i b l e
          ∙ sym (number-old b a known (unlike i b e apart l (same_name b a) refl ∙ refl))

      placed : (b : Name) (t : Bool) → among b known ≡ t → (among b known || same_name b a) ≡ true → Placed nodes (pushed (root r) b)
      placed b true h k = n.has b h
      placed b false h k =
          let alike : same_name b a ≡ true = sym (ap (λ t. t || same_name b a) h) ∙ k in
          record { place = u; within = here; is = is ∙ ap (pushed (root r)) (sym (same-name b a alike)) }

pub record Rooted (nodes : List Word) (t : ℕ) : Type 0 where
  pub within : t < length nodes
  pub is : word_at nodes t ≡ root t

-- What a name is given among the known ones below a root: its number, or the next one; 16,384 if there is no room for one more.
pub data Given (known : List Name) (a : Name) (number : ℕ) (tree : List ℕ) (nodes : List Word) (t : ℕ) : Type 0 where
  met : among a known ≡ true → number ≡ position a known → Numbers tree nodes t known → Given known a number tree nodes t
  new : among a known ≡ false → number ≡ length known → number < 16384 → Numbers tree nodes t (known ++ (a ∷ [])) → Given known a number tree nodes t
  full : among a known ≡ false → number ≡ 16384 → length known ≡ 16384 → Given known a number tree nodes t

-- The list after a name was given its number.
pub record Entered (tree : List ℕ) (nodes : List Word) (t : ℕ) (a : Name) (known : ℕ) (tree' : List ℕ) (count' number : ℕ) : Type 0 where
  pub book : Book tree' count'
  pub stay : (q : ℕ) → Rooted nodes q → Rooted book.nodes q
  pub own : (names : List Name) → length names ≡ known → Numbers tree nodes t names → Given names a number tree' book.nodes t
  pub other : (q : ℕ) (names : List Name) → (q ≡ t → ⊥) → Numbers tree nodes q names → Numbers tree' book.nodes q names
  pub room : length tree' ≡ length tree
