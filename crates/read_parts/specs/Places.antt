-- Places of a file where a number may begin, and how reading goes from one to the next.
use Rattle.std.specs.Prelude.{ℕ, zero, suc, ◌+◌, ◌-◌, ◌≤◌, ◌≡◌, refl, List, [], ◌++◌, length, take, drop}
use Rattle.std.proofs.Common.{ap, sym, ◌∙◌, append-nil, arith, length-append, length-take, length-drop, take-add, drop-drop}
use Rattle.std.proofs.Math.Seq.{take-append_seam, drop-append_seam}
use Rattle.meaning.specs.Reading.{Step, got, refused, read_number}
use Rattle.read_parts.specs.Numbers.{followed, at_most, numbers_in, before}
use Rattle.read_parts.specs.Spelled.{Spells, none, spells-append, numbers_in-spelled}

-- What stands in front of the place is spelled by whole numbers.
pub record Front (bytes : List ℕ) (p : ℕ) : Type 0 where
  pub within : p ≤ length bytes
  pub spells : Spells (take p bytes) (before bytes p)

pub at-start : (bytes : List ℕ) → Front bytes 0
unfolding before numbers_in at_most
at-start bytes = record { within = omega arith; spells = none }

-- From place p to place q the numbers xs are read, and these bytes are left.
pub record Further (bytes : List ℕ) (p q : ℕ) (xs rest : List ℕ) : Type 0 where
  pub front : Front bytes q
  pub left : rest ≡ drop q bytes
  pub numbers : before bytes q ≡ before bytes p ++ xs

-- Nothing stands behind the last byte.
none_left : (k : ℕ) → at_most k [] ≡ []
unfolding at_most followed read_number
none_left zero = refl
none_left (suc k) = refl

-- A place behind bytes that are spelled.
spelled-before : (bytes : List ℕ) (p : ℕ) (xs : List ℕ) → Spells (take p bytes) xs → before bytes p ≡ xs
unfolding before
spelled-before bytes p xs s = rw append-nil at (numbers_in-spelled [] s none_left)

-- A place behind bytes that spell xs.
pub further : (bytes : List ℕ) (p q : ℕ) (xs cs rest : List ℕ)
    → Front bytes p → drop p bytes ≡ cs ++ rest → q ≡ p + length cs → Spells cs xs → Further bytes p q xs rest
further bytes p q xs cs rest f d e s =
    let taken : take q bytes ≡ take p bytes ++ cs = rw (e, take-add, d, take-append_seam) in
    let left : rest ≡ drop q bytes = rw (e, ← drop-drop (length cs) p bytes, d, drop-append_seam) in
    let joined : Spells (take q bytes) (before bytes p ++ xs) = rw taken (spells-append f.spells s) in
    let new : before bytes q ≡ before bytes p ++ xs = spelled-before bytes q (before bytes p ++ xs) joined in
    let counted : length bytes - p ≡ length cs + length rest = sym (length-drop p bytes) ∙ ap length d ∙ length-append cs rest in
    record {
      front = record { within = omega (arith, f.within); spells = rw new joined };
      left = left;
      numbers = new;
    }

-- There are no more numbers in front of a place than bytes in the file.
at_most-length : (k : ℕ) (bytes : List ℕ) → length (at_most k bytes) ≤ k
unfolding at_most followed
at_most-length zero bytes = omega arith
at_most-length (suc k) bytes = step (read_number 0 bytes) (at_most-length k)
  where
    step : (s : Step ℕ) → ((rest : List ℕ) → length (at_most k rest) ≤ k) → length (followed (at_most k) s) ≤ suc k
    step (got value p rest) h = let i = h rest in omega arith
    step (refused number p) h = omega arith

pub before-length : (bytes : List ℕ) (p : ℕ) → length (before bytes p) ≤ length bytes
unfolding before numbers_in
before-length bytes p =
    let a = at_most-length (length (take p bytes)) (take p bytes) in
    let b = length-take p bytes in
    omega arith
