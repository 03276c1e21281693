-- What the tests on lists of nets tell: MEMBER is membership, DUPLICATES? a net listed twice, DISJOINT that no net stands in both
-- lists, SUBSET that no net of the first list is lacking in the second.
use Rattle.std.specs.Prelude.{ℕ, ◌⊎◌, ◌≡◌, refl, true, false, List, [], ◌∷◌}
use Rattle.std.proofs.Common.{inl, inr, sym}
pub use mathlib.Core.List.Memᴰ.{head as here}
pub use mathlib.Core.List.Memᴰ.{not-nil as in-none}
pub use mathlib.Core.List.Memᴰ.{tail as there}
pub use mathlib.Core.List.Memᴰ.{append_cases as in_either}
pub use mathlib.Core.List.Memᴰ.{append_left as in_left}
pub use mathlib.Core.List.Memᴰ.{append_right as in_right}
pub use mathlib.Core.List.Memᴰ.{cast as same_in}
use Rattle.meaning.specs.Members.{◌∈◌, Twice, again, further, Common, Lacking}
use Rattle.meaning.specs.Boxlist.{member, disjoint, duplicates, subset}
use Rattle.laws.specs.Tests.{Tells, tells_true, tells_false, if_true, is_false, otherwise}
use Rattle.laws.specs.Tests.{tells, tells_not, tells-and, tells-or, eqb_tells}

pub member-tells : (x : ℕ) (ys : List ℕ) → Tells (x ∈ ys) (¬ (x ∈ ys)) (member x ys)
unfolding member
member-tells x [] = tells_false in-none
member-tells x (y ∷ ys) = tells either neither (tells-or (eqb_tells x y) (member-tells x ys))
  where
    either : (x ≡ y) ⊎ (x ∈ ys) → x ∈ (y ∷ ys)
    either (inl e) = here e
    either (inr i) = there i

    neither : (¬ (x ≡ y)) × (¬ (x ∈ ys)) → ¬ (x ∈ (y ∷ ys))
    neither h (here e) = h.0 e
    neither h (there i) = h.1 i

pub twice-none : ¬ (Twice [])
twice-none t = elim t [ ]

pub twice-one : {x : ℕ} → ¬ (Twice (x ∷ []))
twice-one (again i) = in-none i
twice-one (further t) = twice-none t

pub duplicates-tells : (xs : List ℕ) → Tells (Twice xs) (¬ (Twice xs)) (duplicates xs)
unfolding duplicates
duplicates-tells [] = tells_false twice-none
duplicates-tells (x ∷ xs) = tells either neither (tells-or (member-tells x xs) (duplicates-tells xs))
  where
    either : (x ∈ xs) ⊎ Twice xs → Twice (x ∷ xs)
    either (inl i) = again i
    either (inr t) = further t

    neither : (¬ (x ∈ xs)) × (¬ (Twice xs)) → ¬ (Twice (x ∷ xs))
    neither h (again i) = h.0 i
    neither h (further t) = h.1 t

pub disjoint-tells : (xs ys : List ℕ) → Tells (¬ (Common xs ys)) (Common xs ys) (disjoint xs ys)
unfolding disjoint
disjoint-tells [] ys = tells_true (λ c. in-none c.in_first)
disjoint-tells (x ∷ xs) ys = tells neither either (tells-and (tells_not (member-tells x ys)) (disjoint-tells xs ys))
  where
    either : (x ∈ ys) ⊎ Common xs ys → Common (x ∷ xs) ys
    either (inl i) = record { net = x; in_first = here refl; in_second = i }
    either (inr c) = record { net = c.net; in_first = there c.in_first; in_second = c.in_second }

    at : (net : ℕ) → (¬ (x ∈ ys)) × (¬ (Common xs ys)) → net ∈ (x ∷ xs) → net ∈ ys → ⊥
    at net h (here e) i = h.0 (same_in (sym e) i)
    at net h (there k) i = h.1 (record { net = net; in_first = k; in_second = i })

    neither : (¬ (x ∈ ys)) × (¬ (Common xs ys)) → ¬ (Common (x ∷ xs) ys)
    neither h c = at c.net h c.in_first c.in_second

pub subset-tells : (xs ys : List ℕ) → Tells (¬ (Lacking xs ys)) (Lacking xs ys) (subset xs ys)
unfolding subset
subset-tells [] ys = tells_true (λ l. in-none l.listed)
subset-tells (x ∷ xs) ys = tells neither either (tells-and (member-tells x ys) (subset-tells xs ys))
  where
    either : (¬ (x ∈ ys)) ⊎ Lacking xs ys → Lacking (x ∷ xs) ys
    either (inl h) = record { net = x; listed = here refl; missing = h }
    either (inr l) = record { net = l.net; listed = there l.listed; missing = l.missing }

    at : (net : ℕ) → (x ∈ ys) × (¬ (Lacking xs ys)) → net ∈ (x ∷ xs) → ¬ (net ∈ ys) → ⊥
    at net h (here e) out = out (same_in e h.0)
    at net h (there k) out = h.1 (record { net = net; listed = k; missing = out })

    neither : (x ∈ ys) × (¬ (Lacking xs ys)) → ¬ (Lacking (x ∷ xs) ys)
    neither h l = at l.net h l.listed l.missing

-- The last two as implications, for proofs that start from a list that passed.
pub member_in : (x : ℕ) (ys : List ℕ) → member x ys ≡ true → x ∈ ys
member_in x ys = if_true (member-tells x ys)

pub out-member : (x : ℕ) (ys : List ℕ) → ¬ (x ∈ ys) → member x ys ≡ false
out-member x ys = is_false (member-tells x ys)

pub disjoint-out : (xs ys : List ℕ) → disjoint xs ys ≡ true → {x : ℕ} → x ∈ xs → ¬ (x ∈ ys)
disjoint-out xs ys e {x} i j = if_true (disjoint-tells xs ys) e (record { net = x; in_first = i; in_second = j })

pub subset_in : (xs ys : List ℕ) → subset xs ys ≡ true → {x : ℕ} → x ∈ xs → x ∈ ys
subset_in xs ys e {x} i =
    otherwise (member-tells x ys) (λ out. if_true (subset-tells xs ys) e (record { net = x; listed = i; missing = out }))
