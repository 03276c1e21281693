-- Which later module a number means. While no module up to position k has a number that stands on a later one, the nearest later
-- module of a number is the first of all that have it, where that lies behind k; else there is none.
use Rattle.std.specs.Prelude.{ℕ, zero, suc, ◌+◌, ◌≤◌, ◌<◌, ◌≡◌, refl, Bool, true, false, cond, List, [], ◌∷◌, eqb, length, drop}
use Rattle.std.proofs.Common.{sym, ap, ◌∙◌, true≢false, arith, add-one, eqb-true}
use Rattle.meaning.specs.Syntax.{Module}
use Rattle.meaning.specs.Boxlist.{assoc, is_box, box, F, Found}
use Rattle.image.specs.Resolved.{position_of}
use Rattle.image.specs.Positions.{found_at}
use Rattle.check_sizes.specs.Behind.{inside}
use Rattle.check_lists.specs.Filed.{At}
use Rattle.check_lists.specs.Numbering.{shifted, first_of, first_repeat}
use Rattle.check_lists.specs.Numbers.{first_of-some}

found_none : (f : Found) → is_box f ≡ false → f ≡ F
found_none (box m) e = absurd (true≢false e)
found_none F e = refl

-- A number that is not in the table is on no module.
unlisted : (x : ℕ) (ms : List Module) → first_of x ms ≡ 0 → assoc x ms ≡ F
unlisted x ms e = found_none (assoc x ms) (go (is_box (assoc x ms)) refl)
  where
    go : (b : Bool) → is_box (assoc x ms) ≡ b → b ≡ false
    go true t = absurd (omega (arith, e, first_of-some x ms t))
    go false t = refl

pub gone-after : (x : ℕ) (ms : List Module) (k : ℕ) → assoc x ms ≡ F → assoc x (drop k ms) ≡ F
unfolding assoc
gone-after x [] zero e = refl
gone-after x [] (suc k) e = refl
gone-after x (m ∷ ms) zero e = e
gone-after x (m ∷ ms) (suc k) e = gone-after x ms k (tail (eqb x m.number) e)
  where
    tail : (b : Bool) → cond b (box m) (assoc x ms) ≡ F → assoc x ms ≡ F
    tail true e' = absurd (true≢false (ap is_box e'))
    tail false e' = e'

-- The module in front has a number of its own, and the rest has no repeat up to where it had.
record Front (m : Module) (ms : List Module) (k : ℕ) : Type 0 where
  own : assoc m.number ms ≡ F
  rest : k ≤ first_repeat ms

front : (m : Module) (ms : List Module) (k : ℕ) → k < first_repeat (m ∷ ms) → Front m ms k
unfolding first_repeat
front m ms k h = go (is_box (assoc m.number ms)) refl h
  where
    go : (b : Bool) → is_box (assoc m.number ms) ≡ b → k < cond b 0 (suc (first_repeat ms)) → Front m ms k
    go true e h' = absurd (omega (arith, h'))
    go false e h' = record { own = found_none (assoc m.number ms) e; rest = omega arith }

nearer : (place k : ℕ) → shifted 1 place ≤ suc k → place ≤ k
nearer zero k h = omega arith
nearer (suc j) k h = omega arith

none-behind : (ms : List Module) (k x : ℕ) → k < first_repeat ms → first_of x ms ≤ suc k → assoc x (drop (suc k) ms) ≡ F
unfolding first_of assoc
none-behind [] k x h le = refl
none-behind (m ∷ ms) k x h le = go k (eqb x m.number) refl (front m ms k h) le (none-behind ms)
  where
    go : (k : ℕ) (b : Bool) → eqb x m.number ≡ b → Front m ms k → cond b 1 (shifted 1 (first_of x ms)) ≤ suc k
        → ((k x : ℕ) → k < first_repeat ms → first_of x ms ≤ suc k → assoc x (drop (suc k) ms) ≡ F)
        → assoc x (drop k ms) ≡ F
    go k true e f le' ih = gone-after x ms k (ap (λ (n : ℕ). assoc n ms) (eqb-true x m.number e) ∙ f.own)
    go zero false e f le' ih = let first = nearer (first_of x ms) 0 le' in unlisted x ms (omega arith)
    go (suc k) false e f le' ih = ih k x f.rest (nearer (first_of x ms) (suc k) le')

pub later-none : (ms : List Module) (k x : ℕ) → k < first_repeat ms → first_of x ms ≤ k + 1 → assoc x (drop (k + 1) ms) ≡ F
later-none ms k x h le = rw (add-one k) (none-behind ms k x h (omega arith))

-- A number in the table is that of the module at its place.
record Listed (ms : List Module) (x j : ℕ) : Type 0 where
  m : Module
  later : List Module
  here : At ms j m later
  found : assoc x ms ≡ box m
  placed : position_of x ms ≡ j

one_further : (place j : ℕ) → shifted 1 place ≡ suc j → (i : ℕ) × (place ≡ suc i) × (j ≡ suc i)
one_further zero j e = absurd (omega (arith, e))
one_further (suc i) j e = (i, refl, omega (arith, e))

listed : (ms : List Module) (x j : ℕ) → first_of x ms ≡ suc j → Listed ms x j
unfolding first_of assoc position_of
listed [] x j e = absurd (omega (arith, e))
listed (m ∷ ms) x j e = go (eqb x m.number) refl e (listed ms x)
  where
    go : (b : Bool) → eqb x m.number ≡ b → cond b 1 (shifted 1 (first_of x ms)) ≡ suc j
        → ((j : ℕ) → first_of x ms ≡ suc j → Listed ms x j) → Listed (m ∷ ms) x j
    go true t e' ih =
        let none : j ≡ 0 = omega (arith, e') in
        record {
          m = m;
          later = ms;
          here = ap (λ (n : ℕ). drop n (m ∷ ms)) none;
          found = rw t;
          placed = rw t (sym none);
        }
    go false t e' ih =
        let f = one_further (first_of x ms) j e' in
        let l = ih f.0 f.1 in
        record {
          m = l.m;
          later = l.later;
          here = ap (λ (n : ℕ). drop n (m ∷ ms)) f.2 ∙ l.here;
          found = rw t l.found;
          placed = rw t (ap suc l.placed ∙ sym f.2);
        }

-- Where the number's first module lies behind k it is the one meant.
pub record Meant (ms : List Module) (k x j : ℕ) : Type 0 where
  pub m : Module
  pub later : List Module
  pub here : At ms j m later
  pub found : assoc x (drop (k + 1) ms) ≡ box m
  pub placed : position_of x ms ≡ j

found-behind : (ms : List Module) (k x : ℕ) → k < first_repeat ms → (j : ℕ) → first_of x ms ≡ suc j → k < j → (m : Module) → assoc x ms ≡ box m
    → assoc x (drop (suc k) ms) ≡ box m
unfolding first_of assoc
found-behind [] k x h j e lt m a = a
found-behind (m ∷ ms) k x h j e lt n a = go k (eqb x m.number) refl (front m ms k h) e lt a (found-behind ms)
  where
    go : (k : ℕ) (b : Bool) → eqb x m.number ≡ b → Front m ms k → cond b 1 (shifted 1 (first_of x ms)) ≡ suc j → k < j
        → cond b (box m) (assoc x ms) ≡ box n
        → ((k x : ℕ) → k < first_repeat ms → (j : ℕ) → first_of x ms ≡ suc j → k < j → (n : Module) → assoc x ms ≡ box n
        → assoc x (drop (suc k) ms) ≡ box n)
        → assoc x (drop k ms) ≡ box n
    go k true t f e' lt' a' ih = absurd (omega (arith, e'))
    go zero false t f e' lt' a' ih = a'
    go (suc k) false t f e' lt' a' ih =
        let g = one_further (first_of x ms) j e' in
        let s = g.2 in
        ih k x f.rest g.0 g.1 (omega arith) n a'

pub later-found : (ms : List Module) (k x j : ℕ) → k < first_repeat ms → first_of x ms ≡ suc j → k < j → Meant ms k x j
later-found ms k x j h e lt =
    let l = listed ms x j e in
    record {
      m = l.m;
      later = l.later;
      here = l.here;
      found = rw (add-one k) (found-behind ms k x h j e lt l.m l.found);
      placed = l.placed;
    }

-- A number that some of the modules have has its position among all.
pub position-inside : (x : ℕ) (ms : List Module) (k : ℕ) → is_box (assoc x (drop k ms)) ≡ true → position_of x ms < length ms
position-inside x ms k e = go (assoc x ms) refl
  where
    go : (f : Found) → assoc x ms ≡ f → position_of x ms < length ms
    go (box m) found = inside ms (position_of x ms) (found_at x ms found)
    go F none = absurd (true≢false (sym e ∙ ap is_box (gone-after x ms k none)))

-- The first repeat lies within the list.
pub repeat_inside : (ms : List Module) → first_repeat ms ≤ length ms
unfolding first_repeat
repeat_inside [] = omega arith
repeat_inside (m ∷ ms) = go (is_box (assoc m.number ms)) (repeat_inside ms)
  where
    go : (b : Bool) → first_repeat ms ≤ length ms → cond b 0 (suc (first_repeat ms)) ≤ suc (length ms)
    go true h = omega arith
    go false h = omega arith
