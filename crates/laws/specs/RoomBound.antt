-- Room is small: each net of a module stands in the file as a number of its own, and along a chain of references each module comes at
-- most once. So the room of a module is at most the count of the numbers in its file.
use Rattle.std.specs.Prelude.{ℕ, ◌+◌, ◌≤◌, ◌≡◌, Bool, true, false, cond, List, [], ◌∷◌, ◌++◌, eqb, length}
use Rattle.std.proofs.Common.{arith, length-append}
use Rattle.meaning.specs.Syntax.{Occurrence, Module}
use Rattle.meaning.specs.Layout.{each, occurrence_numbers, module_numbers, file_numbers, number_bytes, encode}
use Rattle.meaning.specs.Limits.{driven, net_count}
use Rattle.meaning.specs.Reading.{most_bytes}
use Rattle.meaning.specs.Ceilings.{Within}
use Rattle.meaning.specs.Figures.{largest_referred, room}
use Rattle.laws.specs.Bounds.{largest-within}
use Rattle.laws.specs.Written.{some_byte}
use Rattle.laws.specs.FastAdder.Numbers.{module-numbers}

occurrence-numbers : (o : Occurrence) → length (occurrence_numbers o) ≡ 3 + length o.drives + length o.takes
unfolding occurrence_numbers
occurrence-numbers o = simp length-append (omega arith)

driven-numbers : (os : List Occurrence) → length (driven os) ≤ length (each occurrence_numbers os)
unfolding driven each
driven-numbers [] = omega arith
driven-numbers (o ∷ os) =
    omega (
      arith,
      length-append o.drives (driven os),
      length-append (occurrence_numbers o) (each occurrence_numbers os),
      occurrence-numbers o,
      driven-numbers os,
    )

net-numbers : (m : Module) → net_count m ≤ length (module_numbers m)
unfolding net_count
net-numbers m = omega (arith, module-numbers m, driven-numbers m.occurrences)

pub room-numbers : (ms : List Module) (x : ℕ) → room ms x ≤ length (each module_numbers ms)
unfolding room each
room-numbers [] x = omega arith
room-numbers (m ∷ later) x =
    go (eqb x m.number) (room-numbers later x) (largest-within (room later) _ (room-numbers later) m.occurrences)
  where
    both : length (module_numbers m ++ each module_numbers later) ≡ length (module_numbers m) + length (each module_numbers later)
    both = length-append (module_numbers m) (each module_numbers later)

    go :
        (b : Bool)
        → room later x ≤ length (each module_numbers later)
        → largest_referred (room later) m.occurrences ≤ length (each module_numbers later)
        → cond b (net_count m + largest_referred (room later) m.occurrences) (room later x)
        ≤ length (module_numbers m ++ each module_numbers later)
    go true below largest = omega (arith, both, net-numbers m)
    go false below largest = omega (arith, both)

-- Each of a file's numbers has a byte at least.
numbers-bytes : (xs : List ℕ) → length xs ≤ length (each number_bytes xs)
unfolding each
numbers-bytes [] = omega arith
numbers-bytes (x ∷ xs) = omega (arith, length-append (number_bytes x) (each number_bytes xs), some_byte x, numbers-bytes xs)

pub room-of-bytes : {ms : List Module} → Within ms → (x : ℕ) → room ms x ≤ most_bytes
unfolding encode file_numbers
room-of-bytes {ms} w x = omega (arith, room-numbers ms x, numbers-bytes (file_numbers ms), w.bytes)
