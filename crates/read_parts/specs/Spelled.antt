-- The bytes that spell a list of numbers, each in one byte or two, and what greedy reading makes of them.
use Prim.Native.Nat.{ℕ, zero, suc, ◌+◌, ◌*◌, ◌-◌, ◌≤◌, ◌<◌}
use Rattle.std.specs.Prelude.{◌≡◌}
use Rattle.std.proofs.Math.Path.{ap}
use Rattle.std.proofs.Common.{◌∙◌, lt-ltb, le-ltb, ne_eqb}
use mathlib.Core.List.{List, [], ◌∷◌, ◌++◌, append-nil}
use native.Mathlib.Omega.{arith}
use Rattle.std.proofs.lemmas.Bool.{lt-leb}
use Rattle.std.proofs.Math.ListN.{length, length-append}
use Rattle.meaning.specs.Reading.{got, read_number, second_group}
use Rattle.read_parts.specs.Numbers.{followed, at_most, numbers_in}

-- A byte below 128 is a number by itself; one of 128 or more has a second behind it, which is 1 to 127.
pub data Spells : List ℕ → List ℕ → Type 0 where
  none : Spells [] []
  short : {b : ℕ} {bytes numbers : List ℕ} → b < 128 → Spells bytes numbers → Spells (b ∷ bytes) (b ∷ numbers)
  long : {a b : ℕ} {bytes numbers : List ℕ}
      → 128 ≤ a → 1 ≤ b → b < 128 → Spells bytes numbers → Spells (a ∷ b ∷ bytes) ((a - 128 + 128 * b) ∷ numbers)

pub spells-append : {bs xs cs ys : List ℕ} → Spells bs xs → Spells cs ys → Spells (bs ++ cs) (xs ++ ys)
spells-append none t = t
spells-append (short h s) t = short h (spells-append s t)
spells-append (long h i j s) t = long h i j (spells-append s t)

-- There are no more numbers than bytes.
pub spells-length : {bytes numbers : List ℕ} → Spells bytes numbers → length numbers ≤ length bytes
spells-length none = omega arith
spells-length (short h s) = let i = spells-length s in omega arith
spells-length (long h i j s) = let k = spells-length s in omega arith

-- A number in front is the first that reads.
read_short : (p b : ℕ) (rest : List ℕ) → b < 128 → read_number p (b ∷ rest) ≡ got b (suc p) rest
unfolding read_number
read_short p b rest h = rw (lt-ltb b 128 h)

read-long : (p a b : ℕ) (rest : List ℕ) → 128 ≤ a → 1 ≤ b → b < 128
    → read_number p (a ∷ b ∷ rest) ≡ got (a - 128 + 128 * b) (suc (suc p)) rest
unfolding read_number second_group
read-long p a b rest h i j =
    let n : b ≡ 0 → ⊥ = λ e. omega arith in
    rw (le-ltb a 128 h, ne_eqb b 0 n, lt-leb 128 b j)

-- Greedy reading of what is spelled, with something behind it.
module _ (tail : List ℕ) where
  pub at_most-spelled : {bytes numbers : List ℕ} (m k : ℕ) → m ≡ length numbers + k → Spells bytes numbers
      → at_most m (bytes ++ tail) ≡ numbers ++ at_most k tail
  unfolding at_most followed
  at_most-spelled m k e none = let n : m ≡ k = omega arith in ap (λ (n : ℕ). at_most n tail) n
  at_most-spelled zero k e (short h s) = absurd (omega arith)
  at_most-spelled (suc m) k e (short {b} {bytes} {numbers} h s) =
      rw (read_short 0 b (bytes ++ tail) h) (ap (λ (t : List ℕ). b ∷ t) (at_most-spelled m k (omega arith) s))
  at_most-spelled zero k e (long h i j s) = absurd (omega arith)
  at_most-spelled (suc m) k e (long {a} {b} {bytes} {numbers} h i j s) =
      rw (read-long 0 a b (bytes ++ tail) h i j) (ap (λ (t : List ℕ). (a - 128 + 128 * b) ∷ t) (at_most-spelled m k (omega arith) s))

  -- Where nothing reads behind it, it is all.
  pub numbers_in-spelled : {bytes numbers : List ℕ} → Spells bytes numbers → ((k : ℕ) → at_most k tail ≡ [])
      → numbers_in (bytes ++ tail) ≡ numbers
  unfolding numbers_in
  numbers_in-spelled {bytes} {numbers} s stop =
      let h = spells-length s in
      let l = length-append bytes tail in
      let k : ℕ = length (bytes ++ tail) - length numbers in
      at_most-spelled (length (bytes ++ tail)) k (omega arith) s ∙ ap (λ (t : List ℕ). numbers ++ t) (stop k) ∙ append-nil numbers
