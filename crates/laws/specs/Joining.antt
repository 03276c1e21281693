-- The joined list of two shelves: what it finds for a number, that it stays within the ceilings, and what the house's modules cannot see in it.
use Rattle.std.specs.Prelude.{ℕ, ◌≤◌, ◌≡◌, refl, Bool, true, false, cond, List, [], ◌∷◌, ◌++◌, eqb, length}
use Rattle.std.proofs.Common.{sym, ap, ◌∙◌, true≢false, eqb-true}
use Rattle.meaning.specs.Lists.{All, none, more}
use Rattle.meaning.specs.Syntax.{Module}
use Rattle.meaning.specs.Boxlist.{Found, box, F, assoc, is_box}
use Rattle.meaning.specs.Layout.{encode}
use Rattle.meaning.specs.Ceilings.{Within}
use Rattle.meaning.specs.Reading.{most_modules, most_bytes}
use Rattle.meaning.specs.Shelves.{lacking, joined}

-- The first of two that is something.
abbrev pub or_found : Found → Found → Found
or_found (box m) other = box m
or_found F other = other

pub found-append : (number : ℕ) (own others : List Module) → assoc number (own ++ others) ≡ or_found (assoc number own) (assoc number others)
unfolding assoc
found-append number [] others = refl
found-append number (m ∷ own) others = go (eqb number m.number) (found-append number own others)
  where
    go :
        (b : Bool)
        → assoc number (own ++ others) ≡ or_found (assoc number own) (assoc number others)
        → cond b (box m) (assoc number (own ++ others)) ≡ or_found (cond b (box m) (assoc number own)) (assoc number others)
    go true e = refl
    go false e = e

-- Of a number that the group lacks the house's modules in the joined list say what the house's file says,
pub found-lacking :
    (number : ℕ) (own others : List Module) → assoc number own ≡ F → assoc number (lacking own others) ≡ assoc number others
unfolding lacking assoc
found-lacking number own [] lacks = refl
found-lacking number own (m ∷ others) lacks =
    go (eqb number m.number) refl (is_box (assoc m.number own)) refl (found-lacking number own others lacks)
  where
    absent : eqb number m.number ≡ true → assoc m.number own ≡ F
    absent e = let same : number ≡ m.number = eqb-true number m.number e in rw (← same) lacks

    go :
        (t : Bool)
        → eqb number m.number ≡ t
        → (b : Bool)
        → is_box (assoc m.number own) ≡ b
        → assoc number (lacking own others) ≡ assoc number others
        → assoc number (cond b (lacking own others) (m ∷ lacking own others)) ≡ cond t (box m) (assoc number others)
    go true e true h rest = absurd (true≢false (sym h ∙ ap is_box (absent e)))
    go true e false h rest = rw e
    go false e true h rest = rest
    go false e false h rest = rw e rest

-- and of a number that the group has they say nothing: the group's module is in front of them all.
pub overridden :
    (number : ℕ) (own others : List Module) {m : Module} → assoc number own ≡ box m → assoc number (lacking own others) ≡ F
unfolding lacking assoc
overridden number own [] found = refl
overridden number own (m ∷ others) found =
    go (eqb number m.number) refl (is_box (assoc m.number own)) refl (overridden number own others found)
  where
    present : eqb number m.number ≡ true → is_box (assoc m.number own) ≡ true
    present e = let same : number ≡ m.number = eqb-true number m.number e in rw (← same) (ap is_box found)

    go :
        (t : Bool)
        → eqb number m.number ≡ t
        → (b : Bool)
        → is_box (assoc m.number own) ≡ b
        → assoc number (lacking own others) ≡ F
        → assoc number (cond b (lacking own others) (m ∷ lacking own others)) ≡ F
    go t e true h rest = rest
    go true e false h rest = absurd (true≢false (sym (present e) ∙ h))
    go false e false h rest = rw e rest

-- The joined list has of each number what the look-up finds.
pub found-joined : (number : ℕ) (own others : List Module) → assoc number (joined own others) ≡ or_found (assoc number own) (assoc number others)
unfolding joined
found-joined number own others = found-append number own (lacking own others) ∙ go (assoc number own) refl
  where
    go : (f : Found) → assoc number own ≡ f → or_found f (assoc number (lacking own others)) ≡ or_found f (assoc number others)
    go (box m) e = refl
    go F e = found-lacking number own others e

-- Within the ceilings.
all_append : {A : Type 0} {P : A → Type 0} {xs ys : List A} → All P xs → All P ys → All P (xs ++ ys)
all_append none ys = ys
all_append (more x xs) ys = more x (all_append xs ys)

all-lacking : {P : Module → Type 0} (own : List Module) {others : List Module} → All P others → All P (lacking own others)
unfolding lacking
all-lacking own none = none
all-lacking {P} own (more {x = m} {xs = others} p rest) = go (is_box (assoc m.number own)) (all-lacking own rest)
  where
    go : (b : Bool) → All P (lacking own others) → All P (cond b (lacking own others) (m ∷ lacking own others))
    go true all = all
    go false all = more p all

pub joined-within :
    {own others : List Module}
    → Within own
    → Within others
    → length (joined own others) ≤ most_modules
    → length (encode (joined own others)) ≤ most_bytes
    → Within (joined own others)
unfolding joined
joined-within {own} w v few short =
    record {
      modules = record { count = few; modules = all_append w.modules.modules (all-lacking own v.modules.modules) };
      bytes = short;
    }
