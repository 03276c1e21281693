-- Membership, repeats, disjoint lists and sublists, over lists that are joined or grow at their end: the nets of a module are such a
-- list, and what the rules ask of it depends only on which nets it has.
use Rattle.std.specs.Prelude.{◌≡◌, ℕ, suc, ◌<◌, Bool, true, false, not, ◌&&◌, ◌||◌, List, [], ◌∷◌, ◌++◌, map, length, take, drop, ◌==◌, slice_index}
use Rattle.std.proofs.Math.Path.{refl}
use Rattle.std.proofs.Common.{sym, ap, ap₂, ◌∙◌, eq-eqb, take-append-drop, take-suc}
use Rattle.std.proofs.Math.Bool.{or_assoc, or_comm}
use Rattle.meaning.specs.Boxlist.{member, disjoint, duplicates, subset}
use Rattle.nets.specs.Booleans.{or_left, or_right, and_left, and_right, eqb_sym}

-- A net stands in two joined lists if it stands in one of them.
pub member-append : (x : ℕ) (xs ys : List ℕ) → member x (xs ++ ys) ≡ (member x xs || member x ys)
unfolding member
member-append x [] ys = refl
member-append x (y ∷ xs) ys =
    ap (λ (b : Bool). (x == y) || b) (member-append x xs ys) ∙ sym (or_assoc (x == y) (member x xs) (member x ys))

-- The order in which two lists are joined does not matter.
pub member-swap : (x : ℕ) (xs ys : List ℕ) → member x (xs ++ ys) ≡ member x (ys ++ xs)
member-swap x xs ys = member-append x xs ys ∙ or_comm (member x xs) (member x ys) ∙ sym (member-append x ys xs)

-- Whether lists are disjoint, and whether one is a sublist, depends only on which nets the second has.
module _ (ns ms : List ℕ) (same : (x : ℕ) → member x ns ≡ member x ms) where
  pub disjoint-same : (l : List ℕ) → disjoint l ns ≡ disjoint l ms
  unfolding disjoint
  disjoint-same [] = refl
  disjoint-same (x ∷ l) = rw (same x, disjoint-same l)

  pub subset-same : (l : List ℕ) → subset l ns ≡ subset l ms
  unfolding subset
  subset-same [] = refl
  subset-same (x ∷ l) = rw (same x, subset-same l)

-- A sublist stays one when the list grows, at its end or at its front.
pub subset_append_left : (l ns ms : List ℕ) → subset l ns ≡ true → subset l (ns ++ ms) ≡ true
unfolding subset
subset_append_left [] ns ms s = refl
subset_append_left (x ∷ l) ns ms s =
    rw (member-append x ns ms, and_left (member x ns) (subset l ns) s)
    (subset_append_left l ns ms (and_right (member x ns) (subset l ns) s))

pub subset_append_right : (l ns ms : List ℕ) → subset l ms ≡ true → subset l (ns ++ ms) ≡ true
subset_append_right l ns ms s =
    subset-same (ns ++ ms) (ms ++ ns) (λ x. member-swap x ns ms) l ∙ subset_append_left l ms ns s

-- Every list is a sublist of itself.
pub subset_self : (l : List ℕ) → subset l l ≡ true
unfolding subset member
subset_self [] = refl
subset_self (x ∷ l) = rw (eq-eqb x x refl) (subset_append_right l (x ∷ []) l (subset_self l))

-- What is said alike of each net of a list is said alike of a sublist, net by net.
pub map-subset :
    (f g : ℕ → ℕ) (ns : List ℕ) → ((x : ℕ) → member x ns ≡ true → f x ≡ g x)
    → (l : List ℕ) → subset l ns ≡ true → map f l ≡ map g l
unfolding subset
map-subset f g ns alike [] s = refl
map-subset f g ns alike (x ∷ l) s =
    ap₂ ◌∷◌ (alike x (and_left (member x ns) (subset l ns) s)) (map-subset f g ns alike l (and_right (member x ns) (subset l ns) s))

-- A list is disjoint from one that grows by a net if it was and lacks the net.
pub disjoint_snoc : (l ns : List ℕ) (x : ℕ) → disjoint l (ns ++ (x ∷ [])) ≡ (disjoint l ns && not (member x l))
unfolding disjoint member
disjoint_snoc [] ns x = refl
disjoint_snoc (y ∷ l) ns x =
    rw (member-append y ns (x ∷ []), disjoint_snoc l ns x, eqb_sym y x) (regroup (member y ns) (x == y) (disjoint l ns) (member x l))
  where
    regroup : (n e j m : Bool) → (not (n || (e || false)) && (j && not m)) ≡ ((not n && j) && not (e || m))
    regroup true e j m = refl
    regroup false true true m = refl
    regroup false true false m = refl
    regroup false false j m = refl

-- A list that grows by one net repeats one if it did, or if it had the net.
pub duplicates_snoc : (xs : List ℕ) (x : ℕ) → duplicates (xs ++ (x ∷ [])) ≡ (member x xs || duplicates xs)
unfolding duplicates member
duplicates_snoc [] x = refl
duplicates_snoc (y ∷ xs) x =
    rw (member-append y xs (x ∷ []), duplicates_snoc xs x, eqb_sym y x)
    (regroup (x == y) (member y xs) (member x xs) (duplicates xs))
  where
    regroup : (e m n d : Bool) → ((m || (e || false)) || (n || d)) ≡ ((e || n) || (m || d))
    regroup true true n d = refl
    regroup true false n d = refl
    regroup false true true d = refl
    regroup false true false d = refl
    regroup false false n d = refl

-- A list without repeats has none at its front.
pub duplicates-front : (xs ys : List ℕ) → duplicates (xs ++ ys) ≡ false → duplicates xs ≡ false
unfolding duplicates
duplicates-front [] ys e = refl
duplicates-front (x ∷ xs) ys e =
    rw
    (or_left (member x xs) (member x ys)
    (sym (member-append x xs ys) ∙ or_left (member x (xs ++ ys)) (duplicates (xs ++ ys)) e))
    (duplicates-front xs ys (or_right (member x (xs ++ ys)) (duplicates (xs ++ ys)) e))

-- In a list without repeats no entry stands before its place.
pub entry-fresh :
    (xs : List ℕ) (i : ℕ) → i < length xs → duplicates xs ≡ false → member (slice_index xs i) (take i xs) ≡ false
entry-fresh xs i h e =
    or_left (member (slice_index xs i) (take i xs)) (duplicates (take i xs))
    (sym (duplicates_snoc (take i xs) (slice_index xs i))
    ∙ ap duplicates (sym (take-suc xs i 0 h))
    ∙ duplicates-front (take (suc i) xs) (drop (suc i) xs) (ap duplicates (take-append-drop (suc i) xs) ∙ e))
