-- Pairs of equal nets in a list, sought from its front: what each comparison says.
use Rattle.std.proofs.Common.{◌≡◌, ℕ, ◌+◌, ◌<◌, ◌≤◌, Bool, true, false, List, length, get_or, drop, eq-eqb, ne_eqb}
use Rattle.meaning.specs.Boxlist.{member, duplicates}
use Rattle.nets.specs.Walks.{member-here, member-end, duplicates-here}

-- The nets before place i are in no pair.
pub record Passed (list : List ℕ) (met : Bool) (i : ℕ) : Type 0 where
  pub unmet : met ≡ false
  pub left : duplicates list ≡ duplicates (drop i list)

-- Nor is the net at i with one before place j.
pub record Compared (list : List ℕ) (i : ℕ) (met : Bool) (j : ℕ) : Type 0 where
  pub unmet : met ≡ false
  pub left : member (get_or list i 0) (drop (i + 1) list) ≡ member (get_or list i 0) (drop j list)

-- The entry at j differs from the net at i: the net is to be sought from the next place on.
pub pair-passed :
    (l : List ℕ) (i j : ℕ) → j < length l → (get_or l i 0 ≡ get_or l j 0 → ⊥)
    → member (get_or l i 0) (drop j l) ≡ member (get_or l i 0) (drop (j + 1) l)
pair-passed l i j h ne = rw (member-here l j h (get_or l i 0), ne_eqb (get_or l i 0) (get_or l j 0) ne)

-- The net at i was sought to the list's end: repeats are to be sought from the next place on.
pub net-passed :
    (l : List ℕ) (i j : ℕ) → i < length l → length l ≤ j
    → member (get_or l i 0) (drop (i + 1) l) ≡ member (get_or l i 0) (drop j l)
    → duplicates (drop i l) ≡ duplicates (drop (i + 1) l)
net-passed l i j h end left = rw (duplicates-here l i h, left, member-end l j end (get_or l i 0))

-- The entry at j is the net at i: it repeats.
pub pair-met :
    (l : List ℕ) (i j : ℕ) → i < length l → j < length l
    → member (get_or l i 0) (drop (i + 1) l) ≡ member (get_or l i 0) (drop j l)
    → get_or l i 0 ≡ get_or l j 0
    → duplicates (drop i l) ≡ true
pair-met l i j hi hj left same =
    rw (duplicates-here l i hi, left, member-here l j hj (get_or l i 0), eq-eqb (get_or l i 0) (get_or l j 0) same)
