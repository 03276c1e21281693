-- Reading one number from a place: where it gets to, and that a number that is refused leaves the numbers in front as they are.
use Rattle.std.specs.Prelude.{ℕ, zero, suc, ◌+◌, ◌*◌, ◌-◌, ◌≤◌, ◌≡◌, Bool, cond, ◌||◌}
use Rattle.std.proofs.Math.Path.{refl}
use Rattle.std.proofs.Math.Bool.{true, false}
use mathlib.Core.List.{List, [], ◌∷◌, ◌++◌}
use Rattle.std.proofs.Common.{arith}
use Rattle.std.proofs.Math.Numerals.{add-one}
use borrow.Author.Tests.{ltb-true, ltb-false, leb-false, eqb-false, le-ltb}
use Rattle.std.proofs.Math.Dec.{leb, ltb, eqb}
use Rattle.std.proofs.Math.ListN.{take, drop}
use Rattle.std.proofs.Math.Seq.{take-add}
use Rattle.meaning.specs.Reading.{Step, got, refused, onward, read_number, second_group, read_count}
use Rattle.read_parts.specs.Numbers.{followed, at_most, before}
use Rattle.read_parts.specs.Spelled.{none, short, long, numbers_in-spelled}
use Rattle.read_parts.specs.Places.{Front, Further, further}

-- A number that reads is the next; a refusal passes none.
abbrev pub Single : List ℕ → ℕ → Step ℕ → Type 0
Single bytes p (got value q rest) = Further bytes p q (value ∷ []) rest
Single bytes p (refused number q) = before bytes q ≡ before bytes p

-- A first byte with nothing behind it is no number.
cut : (first k : ℕ) → 128 ≤ first → at_most k (first ∷ []) ≡ []
unfolding at_most followed read_number second_group
cut first zero h = refl
cut first (suc k) h = rw (le-ltb first 128 h)

module _ (bytes : List ℕ) (p : ℕ) (f : Front bytes p) where
  cut-before : (first : ℕ) → drop p bytes ≡ first ∷ [] → 128 ≤ first → before bytes (suc p) ≡ before bytes p
  unfolding before
  cut-before first e h =
      let taken : take (suc p) bytes ≡ take p bytes ++ (first ∷ []) = rw (← add-one, take-add, e) in
      rw taken (numbers_in-spelled (first ∷ []) f.spells (λ k. cut first k h))

  single-second : (first : ℕ) (rest : List ℕ) → drop p bytes ≡ first ∷ rest → 128 ≤ first
      → Single bytes p (second_group (first - 128) p rest)
  unfolding second_group
  single-second first [] e h = cut-before first e h
  single-second first (second ∷ rest) e h = go (eqb second 0) (leb 128 second) refl refl
    where
      go : (z l : Bool) → eqb second 0 ≡ z → leb 128 second ≡ l
          → Single bytes p (cond (z || l) (refused 3 p) (got (first - 128 + 128 * second) (suc (suc p)) rest))
      go true l z≡ l≡ = refl
      go false true z≡ l≡ = refl
      go false false z≡ l≡ =
          let n = eqb-false second 0 z≡ in
          let m = leb-false 128 second l≡ in
          further bytes p (suc (suc p)) ((first - 128 + 128 * second) ∷ []) (first ∷ second ∷ []) rest f e (omega arith)
          (long h (omega arith) (omega arith) none)

  pub single-number : Single bytes p (read_number p (drop p bytes))
  unfolding read_number
  single-number = go (drop p bytes) refl
    where
      split : (first : ℕ) (rest : List ℕ) (t : Bool) → drop p bytes ≡ first ∷ rest → ltb first 128 ≡ t
          → Single bytes p (cond t (got first (suc p) rest) (second_group (first - 128) p rest))
      split first rest true e t =
          further bytes p (suc p) (first ∷ []) (first ∷ []) rest f e (omega arith) (short (ltb-true first 128 t) none)
      split first rest false e t = single-second first rest e (ltb-false first 128 t)

      go : (rest : List ℕ) → drop p bytes ≡ rest → Single bytes p (read_number p rest)
      go [] e = refl
      go (first ∷ rest) e = split first rest (ltb first 128) e refl

  pub single-count : (ceiling : ℕ) → Single bytes p (read_count ceiling p (drop p bytes))
  unfolding read_count
  single-count ceiling = go (read_number p (drop p bytes)) single-number
    where
      split : (t : Bool) (value q : ℕ) (rest : List ℕ) → Further bytes p q (value ∷ []) rest
          → Single bytes p (cond t (got value q rest) (refused 4 p))
      split true value q rest s = s
      split false value q rest s = refl

      go : (s : Step ℕ) → Single bytes p s
          → Single bytes p (onward (λ n q rest'. cond (leb n ceiling) (got n q rest') (refused 4 p)) s)
      go (got value q rest) s = split (leb value ceiling) value q rest s
      go (refused number q) s = s
