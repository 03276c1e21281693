-- What a refusal of reading tells: a front stands in front of the place, and at it what is no number that is due. This is closed under
-- the combinators that readers are made of.
use Rattle.std.specs.Prelude.{ℕ, zero, suc, ◌+◌, ◌<◌, ◌≡◌, refl, List, [], ◌∷◌, ◌++◌, length}
use Rattle.std.proofs.Common.{arith, sym, ap, ◌∙◌, append_assoc, length-append}
use Rattle.meaning.specs.Lists.{All, none, more}
use Rattle.meaning.specs.Layout.{each, number_bytes}
use Rattle.meaning.specs.Reading.{Step, got, refused, Reader, onward, bind, give, read_many}
use Rattle.meaning.specs.Ceilings.{Bytes}
use Rattle.meaning.specs.Fronts.{Unread}
use Rattle.laws.specs.Lists.{each_append, each-of-each, all-behind}
use Rattle.laws.specs.Reading.{Exact, exact-last, exact-many, ManyOf}

pub record RefusedAt (Front : List ℕ → ℕ → Type 0) (p : ℕ) (bytes : List ℕ) (number place : ℕ) : Type 0 where
  pub before : List ℕ
  pub rest : List ℕ
  pub most : ℕ
  pub behind : ℕ
  pub front : Front before most
  pub unread : Unread most rest number behind
  pub bytes-are : bytes ≡ each number_bytes before ++ rest
  pub place_is : place ≡ p + length (each number_bytes before) + behind

pub record Refuses {A : Type 0} (r : Reader A) (Front : List ℕ → ℕ → Type 0) : Type 0 where
  pub told : (p : ℕ) (bytes : List ℕ) → Bytes bytes → (n q : ℕ) → r p bytes ≡ refused n q → RefusedAt Front p bytes n q

pub got_not_refused : {A : Type 0} {number place : ℕ} {a : A} {q : ℕ} {rest : List ℕ} → got a q rest ≡ refused number place → ⊥
got_not_refused h = let z : ◌≡◌ {A = ℕ} 0 1 = cc in omega arith

-- A reader of things that are laid out as numbers: exact, and telling where it refuses.
pub record Laid {A : Type 0} (r : Reader A) (numbers : A → List ℕ) (Good : A → Type 0) (Front : List ℕ → ℕ → Type 0) : Type 0 where
  pub exact : Exact r (λ a. each number_bytes (numbers a)) Good
  pub refuses : Refuses r Front

pub refuses-give : {A : Type 0} {a : A} {Front : List ℕ → ℕ → Type 0} → Refuses (give a) Front
refuses-give = record { told = λ p bytes ok n q h. absurd (got_not_refused h) }

-- A front of one thing is a front of another.
refused_as :
    {First Front : List ℕ → ℕ → Type 0} {p n q : ℕ} {bytes : List ℕ}
    → ((before : List ℕ) (most : ℕ) → First before most → Front before most)
    → RefusedAt First p bytes n q
    → RefusedAt Front p bytes n q
refused_as is t =
    record {
      before = t.before;
      rest = t.rest;
      most = t.most;
      behind = t.behind;
      front = is t.before t.most t.front;
      unread = t.unread;
      bytes-are = t.bytes-are;
      place_is = t.place_is;
    }

pub refuses_as :
    {A : Type 0} {r : Reader A} {First Front : List ℕ → ℕ → Type 0}
    → Refuses r First
    → ((before : List ℕ) (most : ℕ) → First before most → Front before most)
    → Refuses r Front
refuses_as h is = record { told = λ p bytes ok n q e. refused_as is (h.told p bytes ok n q e) }

-- The first of two readers refuses, or reads its thing, and then the second refuses behind it.
pub refuses-bind :
    {A B : Type 0} {numbers : A → List ℕ} {Good : A → Type 0} {First Front : List ℕ → ℕ → Type 0} (r : Reader A) (next : A → Reader B)
    → Laid r numbers Good First
    → ((before : List ℕ) (most : ℕ) → First before most → Front before most)
    → ((a : A) → Good a → Refuses (next a) (λ before most. Front (numbers a ++ before) most))
    → Refuses (bind r next) Front
refuses-bind {A} {B} {numbers} {Good} {First} {Front} r next laid now later =
    record { told = λ p bytes ok n q. go p bytes ok n q (r p bytes) refl }
  where
    go :
        (p : ℕ) (bytes : List ℕ)
        → Bytes bytes
        → (n q : ℕ) (s : Step A)
        → r p bytes ≡ s
        → onward next s ≡ refused n q
        → RefusedAt Front p bytes n q
    go p bytes ok n q (refused n' q') first h =
        refused_as now (laid.refuses.told p bytes ok n q (first ∙ (cc)))
    go p bytes ok n q (got a q₁ rest₁) first h =
        let e = each number_bytes (numbers a) in
        let t = laid.exact.took p bytes ok a q₁ rest₁ first in
        let ok₁ : Bytes rest₁ = all-behind e (rw t.bytes-are at ok) in
        let u = (later a t.good).told q₁ rest₁ ok₁ n q h in
        record {
          before = numbers a ++ u.before;
          rest = u.rest;
          most = u.most;
          behind = u.behind;
          front = u.front;
          unread = u.unread;
          bytes-are =
              rw (each_append number_bytes (numbers a) u.before, append_assoc e (each number_bytes u.before) u.rest)
              (t.bytes-are ∙ ap (λ (l : List ℕ). e ++ l) u.bytes-are);
          place_is =
              rw (each_append number_bytes (numbers a) u.before, length-append e (each number_bytes u.before))
              (omega (arith, t.place_is, u.place_is));
        }

-- Of many things some stand whole in front, each good, and then a front of the next.
pub data Among {A : Type 0} (numbers : A → List ℕ) (Good : A → Type 0) (Front : List ℕ → ℕ → Type 0) (n : ℕ) :
    List ℕ → ℕ → Type 0 where
  among :
      (xs : List A) {before : List ℕ} {most : ℕ}
      → All Good xs
      → length xs < n
      → Front before most
      → Among numbers Good Front n (each numbers xs ++ before) most

many-exact :
    {A : Type 0} {r : Reader A} {numbers : A → List ℕ} {Good : A → Type 0} {Front : List ℕ → ℕ → Type 0}
    → Laid r numbers Good Front
    → (n : ℕ)
    → Exact (read_many r n) (λ xs. each number_bytes (each numbers xs)) (ManyOf n Good)
many-exact {numbers = numbers} laid n = exact-last (exact-many laid.exact n) (λ xs g. sym (each-of-each number_bytes numbers xs)) (λ xs g. g)

pub many-refuses :
    {A : Type 0} {r : Reader A} {numbers : A → List ℕ} {Good : A → Type 0} {Front : List ℕ → ℕ → Type 0}
    → Laid r numbers Good Front
    → (n : ℕ)
    → Refuses (read_many r n) (Among numbers Good Front n)
unfolding read_many each
many-refuses laid zero = refuses-give
many-refuses {A} {r} {numbers} {Good} {Front} laid (suc n) =
    refuses-bind r _ laid (λ before most f. among [] none (omega arith) f) (λ x good.
    refuses-bind {numbers = each numbers} (read_many r n) _ (record { exact = many-exact laid n; refuses = many-refuses laid n }) (more-among x good) (λ xs counted.
    refuses-give))
  where
    more-among :
        (x : A)
        → Good x
        → (before : List ℕ) (most : ℕ)
        → Among numbers Good Front n before most
        → Among numbers Good Front (suc n) (numbers x ++ before) most
    more-among x good before most (among xs {before = b} all few f) =
        rw (← append_assoc (numbers x) (each numbers xs) b) (among (x ∷ xs) (more good all) (omega arith) f)

pub many-laid :
    {A : Type 0} {r : Reader A} {numbers : A → List ℕ} {Good : A → Type 0} {Front : List ℕ → ℕ → Type 0}
    → Laid r numbers Good Front
    → (n : ℕ)
    → Laid (read_many r n) (each numbers) (ManyOf n Good) (Among numbers Good Front n)
many-laid laid n = record { exact = many-exact laid n; refuses = many-refuses laid n }
