-- Two relations between a reader and what is written, each closed under the combinators that readers are made of:
-- a reader undoes some bytes where it reads them as the thing they were written for, and it is exact where whatever it reads is
-- what would be written for it.
use Rattle.std.specs.Prelude.{ℕ, zero, suc, ◌+◌, ◌≡◌, refl, List, [], ◌∷◌, ◌++◌, length}
use Rattle.std.proofs.Common.{add-zero, add_assoc, add_comm, arith, subst, ap, append-nil, append_assoc, length-append}
use Rattle.meaning.specs.Lists.{All, none, more}
use Rattle.meaning.specs.Ceilings.{Bytes}
use Rattle.meaning.specs.Layout.{each}
use Rattle.meaning.specs.Reading.{Step, got, refused, Reader, onward, bind, give, read_many}
use Rattle.laws.specs.Lists.{all-behind}

-- In front of any bytes, these bytes are read as `a`, and the place moves by their length.
pub record Undoes {A : Type 0} (r : Reader A) (a : A) (bytes : List ℕ) : Type 0 where
  pub reads : (p : ℕ) (rest : List ℕ) → r p (bytes ++ rest) ≡ got a (p + length bytes) rest

pub undoes_give : {A : Type 0} (a : A) → Undoes (give a) a []
undoes_give a = record { reads = λ p rest. rw add-zero }

pub undoes_bind : {A B : Type 0} (r : Reader A) (next : A → Reader B) {a : A} {b : B} {xs ys : List ℕ}
    → Undoes r a xs → Undoes (next a) b ys → Undoes (bind r next) b (xs ++ ys)
undoes_bind r next {xs = xs} {ys = ys} h k =
    record { reads = λ p rest. rw (append_assoc xs ys rest, h.reads p (ys ++ rest), k.reads, length-append, add_assoc) }

pub undoes_many : {A : Type 0} {r : Reader A} {e : A → List ℕ} {xs : List A}
    → All (λ x. Undoes r x (e x)) xs → Undoes (read_many r (length xs)) xs (each e xs)
unfolding read_many each
undoes_many none = undoes_give []
undoes_many {r = r} {e = e} (more {x = x} {xs = xs} h hs) =
    undoes_bind _ _ h
    (rw (← append-nil (each e xs)) (undoes_bind _ _ (undoes_many hs) (undoes_give (x ∷ xs))))

-- A refusal is no thing.
pub refused_not_got : {A : Type 0} {number place : ℕ} {a : A} {q : ℕ} {rest : List ℕ}
    → refused number place ≡ got a q rest → ⊥
refused_not_got h = let z : ◌≡◌ {A = ℕ} 0 1 = cc in omega arith

-- What reading `a` tells: its bytes were taken off the front, the place moved by their length, and `a` is good. `front` is what was
-- taken before, for the same thing.
pub record Took {A : Type 0} (front : List ℕ) (e : A → List ℕ) (Good : A → Type 0)
    (p : ℕ) (bytes : List ℕ) (a : A) (q : ℕ) (rest : List ℕ) : Type 0 where
  pub bytes-are : front ++ bytes ≡ e a ++ rest
  pub place_is : length front + q ≡ p + length (e a)
  pub good : Good a

pub record ExactAfter {A : Type 0} (front : List ℕ) (r : Reader A) (e : A → List ℕ) (Good : A → Type 0) : Type 0 where
  pub took : (p : ℕ) (bytes : List ℕ) → Bytes bytes → (a : A) (q : ℕ) (rest : List ℕ)
      → r p bytes ≡ got a q rest → Took front e Good p bytes a q rest

abbrev pub Exact : {A : Type 0} → Reader A → (A → List ℕ) → (A → Type 0) → Type 0
Exact = ExactAfter []

pub exact-give : {A : Type 0} (front : List ℕ) (a : A) (e : A → List ℕ) (Good : A → Type 0)
    → front ≡ e a → Good a → ExactAfter front (give a) e Good
exact-give front a e Good written good =
    record {
      took = λ p bytes ok a' q rest h.
          let same : a ≡ a' = cc in
          let place : p ≡ q = cc in
          record {
            bytes-are = cc;
            place_is = rw (place, written, same) (add_comm (length (e a')) q);
            good = subst Good same good;
          };
    }

pub exact-refused : {A : Type 0} {front : List ℕ} {number place : ℕ} {e : A → List ℕ} {Good : A → Type 0}
    → ExactAfter front (λ p bytes. refused number place) e Good
exact-refused = record { took = λ p bytes ok a q rest h. absurd (refused_not_got h) }

pub exact-bind : {A B : Type 0} (front : List ℕ) (r : Reader A) (next : A → Reader B)
    {e : A → List ℕ} {f : B → List ℕ} {Good : A → Type 0} {Fine : B → Type 0}
    → Exact r e Good → ((a : A) → Good a → ExactAfter (front ++ e a) (next a) f Fine)
    → ExactAfter front (bind r next) f Fine
exact-bind {A = A} {B} front r next {e} {f} {Good} {Fine} h k =
    record { took = λ p bytes ok b q rest. go p bytes ok b q rest (r p bytes) refl }
  where
    go : (p : ℕ) (bytes : List ℕ) → Bytes bytes → (b : B) (q : ℕ) (rest : List ℕ) (s : Step A) → r p bytes ≡ s
        → onward next s ≡ got b q rest → Took front f Fine p bytes b q rest
    go p bytes ok b q rest (got a q₁ rest₁) first second =
        let t : Took [] e Good p bytes a q₁ rest₁ = h.took p bytes ok a q₁ rest₁ first in
        let ok₁ : Bytes rest₁ = all-behind (e a) (rw t.bytes-are at ok) in
        let u : Took (front ++ e a) f Fine q₁ rest₁ b q rest = (k a t.good).took q₁ rest₁ ok₁ b q rest second in
        record {
          bytes-are = rw (t.bytes-are, ← append_assoc front (e a) rest₁) u.bytes-are;
          place_is = omega (arith, length-append front (e a));
          good = u.good;
        }
    go p bytes ok b q rest (refused number place) first second = absurd (refused_not_got second)

-- The last reader of a row gives the whole.
pub exact-last : {A : Type 0} {front : List ℕ} {r : Reader A} {e f : A → List ℕ} {Good Fine : A → Type 0}
    → Exact r e Good → ((a : A) → Good a → front ++ e a ≡ f a) → ((a : A) → Good a → Fine a)
    → ExactAfter front r f Fine
exact-last {front = front} {e = e} h whole fine =
    record {
      took = λ p bytes ok a q rest got-a.
          let t : Took [] e _ p bytes a q rest = h.took p bytes ok a q rest got-a in
          record {
            bytes-are = rw (t.bytes-are, ← append_assoc front (e a) rest, whole a t.good);
            place_is = rw (← whole a t.good, length-append) (omega arith);
            good = fine a t.good;
          };
    }

-- As many things as the count says, each of them good.
pub record ManyOf {A : Type 0} (n : ℕ) (Good : A → Type 0) (xs : List A) : Type 0 where
  pub count : length xs ≡ n
  pub entries : All Good xs

pub exact-many : {A : Type 0} {r : Reader A} {e : A → List ℕ} {Good : A → Type 0}
    → Exact r e Good → (n : ℕ) → Exact (read_many r n) (each e) (ManyOf n Good)
unfolding read_many each
exact-many {e = e} {Good} h zero =
    exact-give [] [] (each e) (ManyOf zero Good) refl (record { count = refl; entries = none })
exact-many {r = r} {e} {Good} h (suc n) =
    exact-bind [] r _ h (λ x fine.
    exact-bind (e x) (read_many r n) _ (exact-many h n) (λ xs counted.
    exact-give (e x ++ each e xs) (x ∷ xs) (each e) (ManyOf (suc n) Good) refl
    (record { count = ap suc counted.count; entries = more fine counted.entries })))
