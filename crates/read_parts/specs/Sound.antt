-- Each reader of a file goes from a place to a place: what it hands back is the numbers that it passed.
use Rattle.std.specs.Prelude.{ℕ, zero, suc, ◌≡◌, refl, List, [], ◌∷◌, ◌++◌, length, drop}
use Rattle.std.proofs.Common.{ap, sym, subst, ◌∙◌, append_assoc, append-nil}
use Rattle.meaning.specs.Layout.{each, list_numbers, occurrence_numbers, module_numbers, file_numbers}
use Rattle.meaning.specs.Reading.{Step, got, refused, Reader, onward, bind, give, read_number, read_count, read_many, read_nets, read_occurrence, read_module, read_modules, most_nets, most_occurrences, most_modules}
use Rattle.laws.specs.Reading.{refused_not_got}
use Rattle.read_parts.specs.Numbers.{before}
use Rattle.read_parts.specs.Places.{Front, Further}
use Rattle.read_parts.specs.Single.{Single, single-number, single-count}

-- What a step from a place keeps, where a thing read stands for the numbers that f says.
pub data Kept {A : Type 0} (f : A → List ℕ) (bytes : List ℕ) (p : ℕ) : Step A → Type 0 where
  on : {a : A} {q : ℕ} {rest : List ℕ} → Further bytes p q (f a) rest → Kept f bytes p (got a q rest)
  ended : {number q : ℕ} → Kept f bytes p (refused number q)

-- A reader that does so from every place.
pub record Sound {A : Type 0} (f : A → List ℕ) (r : Reader A) : Type 0 where
  pub keeps : (bytes : List ℕ) (p : ℕ) → Front bytes p → Kept f bytes p (r p (drop p bytes))

-- Nothing is read between a place and itself.
here : {bytes : List ℕ} {p : ℕ} → Front bytes p → Further bytes p p [] (drop p bytes)
here {bytes} {p} front = record { front = front; left = refl; numbers = sym (append-nil (before bytes p)) }

-- Where xs lie behind already, one thing more is read.
beyond : {A : Type 0} {f : A → List ℕ} {r : Reader A} {bytes xs : List ℕ} {o p : ℕ}
    → Sound f r → Further bytes o p xs (drop p bytes) → Kept (λ a. xs ++ f a) bytes o (r p (drop p bytes))
beyond {A} {f} {r} {bytes} {xs} {o} {p} sound w = go (sound.keeps bytes p w.front)
  where
    go : {s : Step A} → Kept f bytes p s → Kept (λ a. xs ++ f a) bytes o s
    go (on {a} {q} v) =
        let numbers : before bytes q ≡ before bytes o ++ (xs ++ f a) = rw (v.numbers, w.numbers, append_assoc) in
        on (record { front = v.front; left = v.left; numbers = numbers })
    go ended = ended

module _ {A B : Type 0} {f : A → List ℕ} {h : B → List ℕ} {r : Reader A} {bytes xs : List ℕ} {o p : ℕ} where
  -- One thing, and then what depends on it.
  after : (next : A → Reader B) → Sound f r → Further bytes o p xs (drop p bytes)
      → ((a : A) (q : ℕ) → r p (drop p bytes) ≡ got a q (drop q bytes) → Further bytes o q (xs ++ f a) (drop q bytes)
      → Kept h bytes o (next a q (drop q bytes)))
      → Kept h bytes o (bind r next p (drop p bytes))
  after next sound w k = go (r p (drop p bytes)) refl (beyond sound w)
    where
      go : (s : Step A) → r p (drop p bytes) ≡ s → Kept (λ a. xs ++ f a) bytes o s → Kept h bytes o (onward next s)
      go (got a q rest) e (on v) =
          let same = v.left in
          rw same
          (k a q (e ∙ ap (λ (t : List ℕ). got a q t) same) (subst (λ (t : List ℕ). Further bytes o q (xs ++ f a) t) same v))
      go (refused number q) e ended = ended

-- What is handed back stands for all that was read.
done : {A : Type 0} {h : A → List ℕ} {bytes xs : List ℕ} {o p : ℕ} {a : A}
    → Further bytes o p xs (drop p bytes) → xs ≡ h a → Kept h bytes o (give a p (drop p bytes))
done {h} {bytes} {xs} {o} {p} {a} w e = on (subst (λ (t : List ℕ). Further bytes o p t (drop p bytes)) e w)

-- A number by itself.
abbrev pub one : ℕ → List ℕ
one value = value ∷ []

single : {bytes : List ℕ} {p : ℕ} (s : Step ℕ) → Single bytes p s → Kept one bytes p s
single (got value q rest) w = on w
single (refused number q) e = ended

pub sound-number : Sound one read_number
sound-number = record { keeps = λ bytes p front. single (read_number p (drop p bytes)) (single-number bytes p front) }

pub sound-count : (ceiling : ℕ) → Sound one (read_count ceiling)
sound-count ceiling =
    record { keeps = λ bytes p front. single (read_count ceiling p (drop p bytes)) (single-count bytes p front ceiling) }

pub sound-many : {A : Type 0} {f : A → List ℕ} {r : Reader A} → Sound f r → (n : ℕ) → Sound (each f) (read_many r n)
unfolding read_many each
sound-many {f} {r} sound zero = record { keeps = λ bytes p front. done (here front) refl }
sound-many {f} {r} sound (suc n) =
    record {
      keeps = λ bytes p front.
          after (λ x. bind (read_many r n) (λ xs. give (x ∷ xs))) sound (here front)
          (λ x q _ w. after (λ xs. give (x ∷ xs)) (sound-many sound n) w (λ xs q' _ w'. done w' refl));
    }

-- As many things are read as the count says.
pub many-length : {A : Type 0} (r : Reader A) (n p : ℕ) (bytes : List ℕ) (xs : List A) (q : ℕ) (rest : List ℕ)
    → read_many r n p bytes ≡ got xs q rest → length xs ≡ n
unfolding read_many
many-length r zero p bytes xs q rest e = cc
many-length {A} r (suc n) p bytes xs q rest e = first (r p bytes) (many-length r n) e
  where
    Shorter : Step (List A) → Type 0
    Shorter s = (ys : List A) (o : ℕ) (left : List ℕ) → s ≡ got ys o left → length ys ≡ n

    more : (x : A) (s : Step (List A)) → Shorter s → onward (λ ys. give (x ∷ ys)) s ≡ got xs q rest → length xs ≡ suc n
    more x (got ys o left) ih e = let l = ih ys o left refl in let m : xs ≡ x ∷ ys = cc in rw (m, l)
    more x (refused number place) ih e = absurd (refused_not_got e)

    first : (s : Step A) → ((o : ℕ) (left : List ℕ) → Shorter (read_many r n o left))
        → onward (λ x. bind (read_many r n) (λ ys. give (x ∷ ys))) s ≡ got xs q rest → length xs ≡ suc n
    first (got x o left) ih e = more x (read_many r n o left) (ih o left) e
    first (refused number place) ih e = absurd (refused_not_got e)

-- A count, and as many things.
pub sound-list : {A : Type 0} {f : A → List ℕ} {r : Reader A} (ceiling : ℕ) → Sound f r
    → Sound (λ xs. length xs ∷ each f xs) (bind (read_count ceiling) (read_many r))
sound-list {A} {f} {r} ceiling sound =
    record {
      keeps = λ bytes p front.
          after (read_many r) (sound-count ceiling) (here front)
          (λ n q _ w. counted bytes p q n (read_many r n q (drop q bytes)) refl (beyond (sound-many sound n) w));
    }
  where
    counted : (bytes : List ℕ) (o p n : ℕ) (s : Step (List A)) → read_many r n p (drop p bytes) ≡ s
        → Kept (λ xs. n ∷ each f xs) bytes o s → Kept (λ xs. length xs ∷ each f xs) bytes o s
    counted bytes o p n (got xs q rest) e (on v) =
        let count = many-length r n p (drop p bytes) xs q rest e in
        let v' : Further bytes o q (length xs ∷ each f xs) rest = rw count v in
        on v'
    counted bytes o p n (refused number q) e ended = ended

each-one : (xs : List ℕ) → each one xs ≡ xs
unfolding each
each-one [] = refl
each-one (x ∷ xs) = ap (λ (t : List ℕ). x ∷ t) (each-one xs)

-- The same reader, where a thing stands for the same numbers said otherwise.
means : {A : Type 0} {f g : A → List ℕ} {r : Reader A} → ((a : A) → f a ≡ g a) → Sound f r → Sound g r
means {A} {f} {g} e sound = record { keeps = λ bytes p front. go (sound.keeps bytes p front) }
  where
    go : {bytes : List ℕ} {p : ℕ} {s : Step A} → Kept f bytes p s → Kept g bytes p s
    go (on {a} w) = on (rw (e a) at w)
    go ended = ended

pub sound-nets : Sound list_numbers read_nets
unfolding read_nets
sound-nets = means (λ nets. ap (λ (t : List ℕ). length nets ∷ t) (each-one nets)) (sound-list most_nets sound-number)

pub sound-occurrence : Sound occurrence_numbers read_occurrence
unfolding read_occurrence occurrence_numbers
sound-occurrence =
    record {
      keeps = λ bytes p front.
          after _ sound-nets (here front)
          (λ drives q _ w. after _ sound-number w
          (λ refers q _ w. after _ sound-nets w
          (λ takes q _ w. done w (simp append_assoc))));
    }

pub sound_module : Sound module_numbers read_module
unfolding read_module module_numbers
sound_module =
    record {
      keeps = λ bytes p front.
          after _ sound-number (here front)
          (λ number q _ w. after _ sound-nets w
          (λ inputs q _ w. after _ sound-nets w
          (λ outputs q _ w. after _ (sound-count most_occurrences) w
          (λ n q _ w. after _ (sound-many sound-occurrence n) w
          (λ occurrences o e v.
          let l = many-length read_occurrence n q (drop q bytes) occurrences o (drop o bytes) e in
          done v (rw l (simp append_assoc)))))));
    }

pub sound-modules : Sound file_numbers read_modules
unfolding read_modules file_numbers
sound-modules = sound-list most_modules sound_module
