-- Sums in 64 bits: what is added to a number's low bits has the low bits of the sum.
use Rattle.std.proofs.Common.{◌≡◌, ℕ, zero, suc, ◌+◌, ◌^◌, ◌<◌, List, [], ◌∷◌, map, length, get_or, sym, refl, ap, ◌∙◌, arith, ext_get_or}
use native.Mathlib.Nat.{mod-add-mod}
use lib.ListN.{length-map, get_or-map}
use Rattle.fasta.specs.Sums.{add_tables}
use Rattle.fasta.specs.Steps.{low}

pub low-add : (a b : ℕ) → low (low a + b) ≡ low (a + b)
low-add a b = mod-add-mod a (2 ^ 64) b

length-add_tables : (xs ys : List ℕ) → length (add_tables xs ys) ≡ length xs
unfolding add_tables
length-add_tables [] ys = refl
length-add_tables (x ∷ xs) [] = refl
length-add_tables (x ∷ xs) (y ∷ ys) = ap suc (length-add_tables xs ys)

entry-added : (xs ys : List ℕ) (k : ℕ) → length xs ≡ length ys → k < length xs → get_or (add_tables xs ys) k 0 ≡ get_or xs k 0 + get_or ys k 0
unfolding add_tables
entry-added [] ys k same h = absurd (omega arith)
entry-added (x ∷ xs) [] k same h = absurd (omega arith)
entry-added (x ∷ xs) (y ∷ ys) zero same h = refl
entry-added (x ∷ xs) (y ∷ ys) (suc k) same h = entry-added xs ys k (omega arith) (omega arith)

-- A table that was added to, entry by entry.
pub added :
    (start counts table sums : List ℕ) → length table ≡ length start → length start ≡ length counts
    → ((k : ℕ) → k < length start → get_or table k 0 ≡ low (get_or start k 0 + get_or counts k 0))
    → start ≡ map low sums → table ≡ map low (add_tables sums counts)
added start counts table sums same whole each is =
    let long : length start ≡ length sums = ap length is ∙ length-map sums low in
    ext_get_or 0 table (map low (add_tables sums counts))
    (same ∙ long ∙ sym (length-map (add_tables sums counts) low ∙ length-add_tables sums counts))
    λ k h.
    let inside : k < length start = omega arith in
    each k inside
    ∙ ap (λ (x : ℕ). low (x + get_or counts k 0)) (ap (λ (l : List ℕ). get_or l k 0) is ∙ get_or-map low sums k 0)
    ∙ low-add (get_or sums k 0) (get_or counts k 0)
    ∙ sym (get_or-map low (add_tables sums counts) k 0 ∙ ap low (entry-added sums counts k (omega arith) (omega arith)))
