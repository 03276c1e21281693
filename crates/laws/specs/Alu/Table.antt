-- The table of the sixteen operations: what the control's lines make of each bit. The first eight are sums of two numbers that are made
-- of a and of b bit by bit; the others make no carry. By trying all bits.
use Rattle.std.specs.Prelude.{◌≡◌, refl, Bool, true, false, not, ◌&&◌, [], ◌∷◌}
use Rattle.std.proofs.Math.Bool.{and-eq-true_iff}
use Rattle.meaning.specs.Gates.{gate, gates, B-EQV, B-XOR, B-OR, B-AND}
use Rattle.meaning.specs.Counter.{XOR, AND}
use Rattle.laws.specs.Adder.Sum.{gate_bit}
use Rattle.laws.specs.Alu.Lines.{negate_line, ones_line, generate_line, pass_pline, pass_and_line, shift_line, carry_line, flip_line, cell_p, cell_g, cell_q}

-- A law of six bits, by trying all.
abbrev every : (Bool → Bool) → Bool
every f = f false && f true

every_holds : (f : Bool → Bool) → every f ≡ true → (b : Bool) → f b ≡ true
every_holds f passed true = ((and-eq-true_iff (f false) (f true)).0 passed).1
every_holds f passed false = ((and-eq-true_iff (f false) (f true)).0 passed).0

same_bit : (x y : Bool) → B-EQV x y ≡ true → x ≡ y
same_bit true true e = refl
same_bit true false e = cc
same_bit false true e = cc
same_bit false false e = refl

abbrev Six : Type 0
Six = (u v w x y z : Bool) → Bool

abbrev agree : Six → Six → Bool
agree f g = every (λ u. every (λ v. every (λ w. every (λ x. every (λ y. every (λ z. B-EQV (f u v w x y z) (g u v w x y z)))))))

by_bits : (f g : Six) → agree f g ≡ true → (u v w x y z : Bool) → f u v w x y z ≡ g u v w x y z
by_bits f g passed u v w x y z =
    same_bit _ _
    (every_holds (λ z. B-EQV (f u v w x y z) (g u v w x y z))
    (every_holds (λ y. every (λ z. B-EQV (f u v w x y z) (g u v w x y z)))
    (every_holds (λ x. every (λ y. every (λ z. B-EQV (f u v w x y z) (g u v w x y z))))
    (every_holds (λ w. every (λ x. every (λ y. every (λ z. B-EQV (f u v w x y z) (g u v w x y z)))))
    (every_holds (λ v. every (λ w. every (λ x. every (λ y. every (λ z. B-EQV (f u v w x y z) (g u v w x y z))))))
    (every_holds (λ u. every (λ v. every (λ w. every (λ x. every (λ y. every (λ z. B-EQV (f u v w x y z) (g u v w x y z)))))))
    passed u) v) w) x) y) z)

-- The cell under the lines of an operation.
module _ (o0 o1 o2 o3 : Bool) where
  abbrev Cell : Type 0
  Cell = (a next b negate ones generate pass_p pass_and shift : Bool) → Bool

  abbrev pub under : Cell → (a next b : Bool) → Bool
  under cell a next b =
      cell a next b
      (negate_line gate_bit false false false o0 o1 o2 o3)
      (ones_line gate_bit false false false o0 o1 o2 o3)
      (generate_line gate_bit false false false o0 o1 o2 o3)
      (pass_pline gate_bit false false false o0 o1 o2 o3)
      (pass_and_line gate_bit false false false o0 o1 o2 o3)
      (shift_line gate_bit false false false o0 o1 o2 o3)

-- The first eight: two bits to be added, the carry in, and whether the carry out is flipped.
unfoldable pub first_of : (o0 o1 o2 a : Bool) → Bool
first_of o0 o1 false a = a
first_of false o1 true a = not a
first_of true false true a = a
first_of true true true a = not a

unfoldable pub second_of : (o0 o1 o2 b : Bool) → Bool
second_of o0 true o2 b = b
second_of false false o2 b = false
second_of true false false b = false
second_of true false true b = true

unfoldable pub start_of : (o0 o1 o2 c : Bool) → Bool
start_of false false false c = false
start_of true false false c = true
start_of false true false c = c
start_of true true false c = false
start_of false false true c = true
start_of true false true c = false
start_of false true true c = not c
start_of true true true c = true

pub adding-p :
    (o0 o1 o2 a next b : Bool)
    → under o0 o1 o2 false (cell_p gate_bit) a next b ≡ gate_bit XOR (first_of o0 o1 o2 a ∷ second_of o0 o1 o2 b ∷ [])
unfolding gate gates first_of second_of
adding-p = by_bits _ _ refl

pub adding-g :
    (o0 o1 o2 a next b : Bool)
    → under o0 o1 o2 false (cell_g gate_bit) a next b ≡ gate_bit AND (first_of o0 o1 o2 a ∷ second_of o0 o1 o2 b ∷ [])
unfolding gate gates first_of second_of
adding-g = by_bits _ _ refl

pub adding-q :
    (o0 o1 o2 a next b : Bool)
    → under o0 o1 o2 false (cell_q gate_bit) a next b ≡ gate_bit XOR (first_of o0 o1 o2 a ∷ second_of o0 o1 o2 b ∷ [])
unfolding gate gates first_of second_of
adding-q = by_bits _ _ refl

pub adding-start : (o0 o1 o2 c lowest highest : Bool) → carry_line gate_bit c lowest highest o0 o1 o2 false ≡ start_of o0 o1 o2 c
unfolding gate gates start_of
adding-start = by_bits _ _ refl

pub adding-flip : (o0 o1 o2 c lowest highest : Bool) → flip_line gate_bit c lowest highest o0 o1 o2 false ≡ o2
unfolding gate gates
adding-flip = by_bits _ _ refl

-- The last eight: a bit of the result, the carry, and what is shifted in.
unfoldable pub other_of : (o0 o1 o2 a next b : Bool) → Bool
other_of false o1 false a next b = next
other_of true false false a next b = next
other_of true true false a next b = B-XOR b a
other_of false false true a next b = B-OR b a
other_of true false true a next b = B-AND b a
other_of false true true a next b = not a
other_of true true true a next b = a

unfoldable pub flip_of : (o0 o1 o2 lowest : Bool) → Bool
flip_of o0 o1 true lowest = false
flip_of false o1 false lowest = lowest
flip_of true false false lowest = lowest
flip_of true true false lowest = false

pub other-g : (o0 o1 o2 a next b : Bool) → under o0 o1 o2 true (cell_g gate_bit) a next b ≡ false
unfolding gate gates
other-g = by_bits _ _ refl

pub other-q : (o0 o1 o2 a next b : Bool) → under o0 o1 o2 true (cell_q gate_bit) a next b ≡ other_of o0 o1 o2 a next b
unfolding gate gates other_of
other-q = by_bits _ _ refl

pub other-start : (o0 o1 o2 c lowest highest : Bool) → carry_line gate_bit c lowest highest o0 o1 o2 true ≡ false
unfolding gate gates
other-start = by_bits _ _ refl

pub other-flip : (o0 o1 o2 c lowest highest : Bool) → flip_line gate_bit c lowest highest o0 o1 o2 true ≡ flip_of o0 o1 o2 lowest
unfolding gate gates flip_of
other-flip = by_bits _ _ refl
