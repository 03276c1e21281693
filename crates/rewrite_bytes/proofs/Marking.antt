-- The nets of occurrences marked one occurrence after the other: what is marked and what the occurrences ahead have are all.
use Prim.Native.Nat.{ℕ, zero, suc, ◌+◌, ◌-◌, ◌≤◌, ◌<◌}
use mathlib.Core.Path.{◌≡◌, refl, sym, ◌∙◌}
use mathlib.Core.Bool.{Bool, ◌||◌, or_assoc, or-false}
use mathlib.Core.List.{List, [], ◌∷◌, ◌++◌}
use native.Mathlib.Omega.{arith}
use lib.ListN.{length, take, drop}
use Rattle.meaning.specs.Lists.{All}
use Rattle.meaning.specs.Syntax.{Occurrence}
use Rattle.meaning.specs.Boxlist.{member}
use Rattle.meaning.specs.Ceilings.{Small}
use Rattle.meaning.specs.Layout.{each, occurrence_numbers}
use Rattle.meaning.specs.Withdrawn.{body_nets}
use Rattle.laws.specs.Lists.{all-at}
use Rattle.laws.specs.Adder.Distinct.{member-append}
use Rattle.image.specs.Stands.{Stands, stands-front, stands-skip, stands-part}
use Rattle.image.specs.Pieces.{moved, occurrence-at}
use Rattle.image.specs.Places.{OccurrenceThere, PlaceOf}
use Rattle.image.specs.declared.places.Place.{Place}
use Rattle.rewrite_bytes.specs.Used.{Indexed, Stamped}
use Rattle.rewrite_bytes.proofs.Stamping.{stamped-same}

-- A list that stands in the numbers of a file.
all-front : (xs ys : List ℕ) → All Small (xs ++ ys) → All Small xs
all-front [] ys h = All.none
all-front (x ∷ xs) ys (All.more small h) = All.more small (all-front xs ys h)

all_drop : (n : ℕ) {xs : List ℕ} → All Small xs → All Small (drop n xs)
all_drop zero h = h
all_drop (suc n) All.none = All.none
all_drop (suc n) (All.more small h) = all_drop n h

pub small-part : {numbers : List ℕ} (at : ℕ) (xs : List ℕ) → All Small numbers → Stands numbers at xs → All Small xs
small-part at xs small s = all-front xs s.rest (rw s.here at (all_drop at small))

all_take : (n : ℕ) {xs : List ℕ} → All Small xs → All Small (take n xs)
all_take zero h = All.none
all_take (suc n) All.none = All.none
all_take (suc n) (All.more small h) = All.more small (all_take n h)

pub part_small : (n m : ℕ) {numbers : List ℕ} → All Small numbers → All Small (take n (drop m numbers))
part_small n m small = all_take n (all_drop m small)

pub indexed : (xs : List ℕ) {bound : ℕ} → All Small xs → bound ≡ 16384 → Indexed xs bound
indexed xs small wide = record { below = λ i h. omega (arith, all-at small i 0 h) }

-- The occurrences ahead.
pub record Ahead (numbers : List ℕ) (at left : ℕ) (os : List Occurrence) : Type 0 where
  pub stands : Stands numbers at (each occurrence_numbers os)
  pub many : left ≡ length os

pub record Turn (numbers : List ℕ) (at left : ℕ) (os : List Occurrence) (place : Place) : Type 0 where
  pub o : Occurrence
  pub rest : List Occurrence
  pub is : os ≡ o ∷ rest
  pub here : Stands numbers at (occurrence_numbers o)
  pub read : PlaceOf numbers at o place
  pub next : Ahead numbers place.to (left - 1) rest

pub there : {numbers : List ℕ} {at left : ℕ} (os : List Occurrence) → 0 < left → Ahead numbers at left os → OccurrenceThere numbers at
unfolding each
there [] some a = absurd (omega (arith, a.many))
there (o ∷ os) some a = record { o = o; stands = stands-front (each occurrence_numbers os) a.stands }

pub turn :
    {numbers : List ℕ} {at left : ℕ} (os : List Occurrence) {place : Place}
    → 0 < left
    → Ahead numbers at left os
    → ((o : Occurrence) → Stands numbers at (occurrence_numbers o) → PlaceOf numbers at o place)
    → Turn numbers at left os place
unfolding each
turn [] some a read = absurd (omega (arith, a.many))
turn {numbers} {at} (o ∷ os) some a read =
    let here = stands-front (each occurrence_numbers os) a.stands in
    let place = read o here in
    record {
      o = o;
      rest = os;
      is = refl;
      here = here;
      read = place;
      next =
          record {
            stands = moved (at + length (occurrence_numbers o)) place.next (stands-skip (occurrence_numbers o) a.stands);
            many = omega (arith, a.many);
          };
    }

-- The lists of nets of the occurrence, as parts of the numbers.
module _ {numbers : List ℕ} {at left : ℕ} {os : List Occurrence} {place : Place} (t : Turn numbers at left os place) where
  pub drives-stand : Stands numbers (at + 1) t.o.drives
  drives-stand = (occurrence-at t.o t.here).drives (at + 1) refl

  pub drives-part : (n m : ℕ) → n ≡ place.drives → m ≡ at + 1 → take n (drop m numbers) ≡ t.o.drives
  drives-part n m count from = rw (count, from, t.read.drives) (stands-part drives-stand)

  pub takes_part : (n m : ℕ) → n ≡ place.to - place.from → m ≡ place.from → take n (drop m numbers) ≡ t.o.takes
  takes_part n m is from =
      let count : n ≡ length t.o.takes = omega (arith, t.read.to) in
      rw (count, from) (stands-part t.read.takes)

  pub drives-within : at + 1 + place.drives ≤ length numbers
  drives-within = omega (arith, t.read.drives, drives-stand.within)

  pub takes-within : place.to ≤ length numbers
  takes-within = omega (arith, t.read.to, t.read.takes.within)

-- What is marked now, and what is ahead.
pub record Marking (os : List Occurrence) (table₀ : List ℕ) (stamp : ℕ) (rest : List Occurrence) (table : List ℕ) : Type 0 where
  pub marked :
      (used : ℕ → Bool) → Stamped table₀ stamp used
      → (now : ℕ → Bool) × Stamped table stamp now
      × ((x : ℕ) → (now x || member x (body_nets rest)) ≡ (used x || member x (body_nets os)))

pub none-marked : (os : List Occurrence) (table : List ℕ) (stamp : ℕ) → Marking os table stamp os table
none-marked os table stamp = record { marked = λ used s. (used, s, λ x. refl) }

pub more-marked :
    {os : List Occurrence} {table₀ : List ℕ} {stamp : ℕ} {o : Occurrence} {ahead rest : List Occurrence} {table middle table' : List ℕ}
    → ahead ≡ o ∷ rest
    → Marking os table₀ stamp ahead table
    → (xs ys : List ℕ)
    → xs ≡ o.drives
    → ys ≡ o.takes
    → ((used : ℕ → Bool) → Stamped table stamp used → Stamped middle stamp (λ x. used x || member x xs))
    → ((used : ℕ → Bool) → Stamped middle stamp used → Stamped table' stamp (λ x. used x || member x ys))
    → Marking os table₀ stamp rest table'
unfolding body_nets
more-marked {stamp = stamp} {o = o} {rest = rest} {table = table} {middle = middle} {table' = table'} is m xs ys is_x is_y marks more =
    let first : (used : ℕ → Bool) → Stamped table stamp used → Stamped middle stamp (λ x. used x || member x o.drives) = rw is_x at marks in
    let second : (used : ℕ → Bool) → Stamped middle stamp used → Stamped table' stamp (λ x. used x || member x o.takes) = rw is_y at more in
    record {
      marked = λ used s.
          let sofar = m.marked used s in (
            (λ x. (sofar.0 x || member x o.drives) || member x o.takes),
            second _ (first sofar.0 sofar.1),
            λ x.
                rw (
                  or_assoc (sofar.0 x || member x o.drives) (member x o.takes) (member x (body_nets rest)),
                  or_assoc (sofar.0 x) (member x o.drives) (member x o.takes || member x (body_nets rest)),
                  ← member-append x o.takes (body_nets rest),
                  ← member-append x o.drives (o.takes ++ body_nets rest),
                )
                (rw is at (sofar.2 x)),
          );
    }

pub all-marked :
    {os : List Occurrence} {table₀ : List ℕ} {stamp : ℕ} {table : List ℕ} {rest : List Occurrence} → rest ≡ [] → Marking os table₀ stamp rest table
    → (used : ℕ → Bool) → Stamped table₀ stamp used → Stamped table stamp (λ x. used x || member x (body_nets os))
unfolding body_nets member
all-marked {os} none m used s =
    let sofar = rw none at (m.marked used s) in
    stamped-same sofar.0 (λ x. used x || member x (body_nets os)) (λ x. sym (sofar.2 x) ∙ or-false (sofar.0 x)) sofar.1
