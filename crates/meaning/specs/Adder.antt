-- The written adder of width n (document 01, 'Written modules'): modules 18, 17 and 16.
use Rattle.std.specs.Prelude.{ℕ, zero, suc, ◌+◌, ◌*◌, Bool, cond, List, [], ◌∷◌, ◌++◌}
use Rattle.meaning.specs.Syntax.{Occurrence, Module}

-- The numbers from one on, as many as said.
unfoldable pub up_from : (first count : ℕ) → List ℕ
up_from first zero = []
up_from first (suc n) = first ∷ up_from (suc first) n

-- Module 16, the half adder of document 000: sum and carry of two bits.
abbrev pub half_adder : Module
half_adder =
    record {
      number = 16;
      inputs = 0 ∷ 1 ∷ [];
      outputs = 2 ∷ 3 ∷ [];
      occurrences =
          record { drives = 2 ∷ []; refers = 9; takes = 0 ∷ 1 ∷ [] }
          ∷ record { drives = 3 ∷ []; refers = 10; takes = 0 ∷ 1 ∷ [] }
          ∷ [];
    }

-- Module 17, the full adder of document 000: two half adders and an OR.
abbrev pub full_adder : Module
full_adder =
    record {
      number = 17;
      inputs = 0 ∷ 1 ∷ 2 ∷ [];
      outputs = 3 ∷ 4 ∷ [];
      occurrences =
          record { drives = 5 ∷ 6 ∷ []; refers = 16; takes = 0 ∷ 1 ∷ [] }
          ∷ record { drives = 3 ∷ 7 ∷ []; refers = 16; takes = 5 ∷ 2 ∷ [] }
          ∷ record { drives = 4 ∷ []; refers = 5; takes = 6 ∷ 7 ∷ [] }
          ∷ [];
    }

-- The cells of the adder from a bit on, as many as said: at each bit the nets of a, b, sum and carry are one further, and the
-- carry before is the net that the cell before drives.
unfoldable pub adder_cells : (a b sum carry before count : ℕ) → List Occurrence
adder_cells a b sum carry before zero = []
adder_cells a b sum carry before (suc n) =
    record { drives = sum ∷ carry ∷ []; refers = 17; takes = a ∷ b ∷ before ∷ [] }
    ∷ adder_cells (suc a) (suc b) (suc sum) (suc carry) carry n

-- Module 18: inputs 0 (carry in), 1 to n (a, low bit first), n+1 to 2n (b); it drives 2n+1+i (sum) and 3n+1+i (carry) for bit i by
-- module 17 on a's bit, b's bit and the carry before. Outputs: the sums, low first, then the last carry.
unfoldable pub ripple_adder : ℕ → Module
ripple_adder n =
    record {
      number = 18;
      inputs = up_from 0 (2 * n + 1);
      outputs = up_from (2 * n + 1) n ++ ((4 * n) ∷ []);
      occurrences = adder_cells 1 (n + 1) (2 * n + 1) (3 * n + 1) 0 n;
    }

unfoldable pub adder : ℕ → List Module
adder n = ripple_adder n ∷ full_adder ∷ half_adder ∷ []

-- Bits, low first, as a number.
abbrev pub bit : Bool → ℕ
bit b = cond b 1 0

unfoldable pub binary : List Bool → ℕ
binary [] = 0
binary (b ∷ bs) = bit b + 2 * binary bs
