-- Each of the sixteen operations, by the numbers that its sum is of, or by its bits.
use Prim.Native.Nat.{ℕ, suc, ◌+◌, ◌*◌, ◌^◌}
use Rattle.std.specs.Prelude.{◌≡◌, Bool, not, List, [], ◌∷◌}
use Rattle.std.proofs.Math.Path.{refl, ap}
use Rattle.std.proofs.Common.{◌∙◌, arith}
use Rattle.std.proofs.Math.Bool.{true, false}
use Rattle.meaning.specs.Gates.{gate, gates, B-XOR, B-OR, B-AND, B-NOT}
use Rattle.meaning.specs.Adder.{bit, binary}
use Rattle.meaning.specs.FastAdder.{Step}
use Rattle.meaning.specs.Operations.{whole, plus, less, operations, operation, outcome}
use Rattle.laws.specs.Adder.Sum.{gate_bit}
use Rattle.laws.specs.FastAdder.Signals.{width}
use Rattle.laws.specs.Alu.Nets.{Nets}
use Rattle.laws.specs.Alu.Worth.{worth, up_to, worth_not, up_to-none, up_to-all, up_to_not}
use Rattle.laws.specs.Alu.Sums.{back-of-signed}
use Rattle.laws.specs.Alu.Table.{first_of, second_of, start_of, other_of, flip_of}
use Rattle.laws.specs.Alu.Bits.{at, Op, carries, adding-begins}
use Rattle.laws.specs.Alu.Quiet.{moving_result, moving_out, moving_over, other_result, other-out, other-over, other-shifted}
use Rattle.laws.specs.Alu.Answers.{a_bits, b_bits, a, b, Answers, adding-answers, subtracting-answers, bitwise-answers, shifting-answers}

bit_not : (c : Bool) → bit (not c) + bit c ≡ 1
bit_not true = refl
bit_not false = refl

twice : (k : ℕ) → worth (2 ^ suc k) true ≡ 2 * 2 ^ k
twice k = let same : 2 ^ suc k ≡ 2 * 2 ^ k = omega arith in same

module _ {k copied : ℕ} {steps : List Step} {vs : List Bool} (whole-width : width steps ≡ suc k)
    (ns : Nets false gate_bit (suc k) copied steps vs) where
  abbrev net : ℕ → Bool
  net = at whole-width ns

  abbrev Is : (o0 o1 o2 o3 : Bool) → Type 0
  Is = Op whole-width ns

  abbrev Gives : (o0 o1 o2 o3 : Bool) → Type 0
  Gives o0 o1 o2 o3 =
      Answers whole-width ns
      (outcome (net 0) (a_bits whole-width ns) (b_bits whole-width ns) (operation (binary (o0 ∷ o1 ∷ o2 ∷ o3 ∷ []))))

  abbrev number : (ℕ → Bool) → ℕ
  number f = up_to f (suc k)

  abbrev top : Bool → ℕ
  top = worth (2 ^ k)

  abbrev x : ℕ → Bool
  x = a whole-width ns

  abbrev y : ℕ → Bool
  y = b whole-width ns

  moves : Is false false false false → Gives false false false false
  unfolding operation operations binary
  moves op =
      bitwise-answers whole-width ns (λ a b. a) (moving_out whole-width ns op) (moving_over whole-width ns op k refl)
      (moving_result whole-width ns op)

  -- Sums: what the two numbers, the carry in and the top bits come to.
  increments : Is true false false false → Gives true false false false
  unfolding first_of second_of start_of operation operations binary
  increments op =
      let start : bit (carries whole-width ns 0) ≡ 1 = ap (λ (c : Bool). bit c) (adding-begins whole-width ns op) in
      let none : number (λ i. false) ≡ 0 = up_to-none (suc k) in
      let zero : top false ≡ 0 = refl in
      adding-answers whole-width ns op (λ c a b. plus a (whole 1)) refl (omega arith) (omega (arith, back-of-signed x k))

  adds_with_carry : Is false true false false → Gives false true false false
  unfolding first_of second_of start_of operation operations binary
  adds_with_carry op =
      let start : bit (carries whole-width ns 0) ≡ bit (net 0) = ap (λ (c : Bool). bit c) (adding-begins whole-width ns op) in
      adding-answers whole-width ns op (λ c a b. plus (plus b a) c) refl (omega arith)
      (omega (arith, back-of-signed x k, back-of-signed y k))

  adds : Is true true false false → Gives true true false false
  unfolding first_of second_of start_of operation operations binary
  adds op =
      let start : bit (carries whole-width ns 0) ≡ 0 = ap (λ (c : Bool). bit c) (adding-begins whole-width ns op) in
      adding-answers whole-width ns op (λ c a b. plus b a) refl (omega arith)
      (omega (arith, back-of-signed x k, back-of-signed y k))

  negates : Is false false true false → Gives false false true false
  unfolding first_of second_of start_of operation operations binary
  negates op =
      let start : bit (carries whole-width ns 0) ≡ 1 = ap (λ (c : Bool). bit c) (adding-begins whole-width ns op) in
      let none : number (λ i. false) ≡ 0 = up_to-none (suc k) in
      let zero : top false ≡ 0 = refl in
      let inverse = up_to_not x (suc k) in
      let modulus = twice k in
      subtracting-answers whole-width ns op (λ c a b. less (whole 0) a) refl (omega arith)
      (omega (arith, back-of-signed x k, worth_not (2 ^ k) (x k)))

  decrements : Is true false true false → Gives true false true false
  unfolding first_of second_of start_of operation operations binary
  decrements op =
      let start : bit (carries whole-width ns 0) ≡ 0 = ap (λ (c : Bool). bit c) (adding-begins whole-width ns op) in
      let all : number (λ i. true) + 1 ≡ 2 ^ suc k = up_to-all (suc k) in
      let one : top true ≡ 2 ^ k = refl in
      let modulus = twice k in
      subtracting-answers whole-width ns op (λ c a b. less a (whole 1)) refl (omega arith) (omega (arith, back-of-signed x k))

  subtracts_with_borrow : Is false true true false → Gives false true true false
  unfolding first_of second_of start_of operation operations binary
  subtracts_with_borrow op =
      let start : bit (carries whole-width ns 0) ≡ bit (not (net 0)) =
      ap (λ (c : Bool). bit c) (adding-begins whole-width ns op)
      in
      let borrow = bit_not (net 0) in
      let inverse = up_to_not x (suc k) in
      let modulus = twice k in
      subtracting-answers whole-width ns op (λ c a b. less (less b a) c) refl (omega arith)
      (omega (arith, back-of-signed x k, back-of-signed y k, worth_not (2 ^ k) (x k)))

  subtracts : Is true true true false → Gives true true true false
  unfolding first_of second_of start_of operation operations binary
  subtracts op =
      let start : bit (carries whole-width ns 0) ≡ 1 = ap (λ (c : Bool). bit c) (adding-begins whole-width ns op) in
      let inverse = up_to_not x (suc k) in
      let modulus = twice k in
      subtracting-answers whole-width ns op (λ c a b. less b a) refl (omega arith)
      (omega (arith, back-of-signed x k, back-of-signed y k, worth_not (2 ^ k) (x k)))

  -- Shifts: what comes in at the top.
  rotates : Is false false false true → Gives false false false true
  unfolding other_of flip_of operation operations binary gate gates
  rotates op =
      shifting-answers whole-width ns (λ c highest. c) (other-out whole-width ns op) (other-over whole-width ns op k refl)
      (other_result whole-width ns op)
      (other-shifted whole-width ns op ∙ in_carry (net 0) (net (suc k)))
    where
      in_carry : (c highest : Bool) → gate_bit 5 (gate_bit 10 (c ∷ true ∷ []) ∷ gate_bit 10 (highest ∷ false ∷ []) ∷ []) ≡ c
      in_carry true true = refl
      in_carry true false = refl
      in_carry false true = refl
      in_carry false false = refl

  shifts_signed : Is true false false true → Gives true false false true
  unfolding other_of flip_of operation operations binary gate gates
  shifts_signed op =
      shifting-answers whole-width ns (λ c highest. highest) (other-out whole-width ns op) (other-over whole-width ns op k refl)
      (other_result whole-width ns op)
      (other-shifted whole-width ns op ∙ in_top (net 0) (net (suc k)))
    where
      in_top : (c highest : Bool) → gate_bit 5 (gate_bit 10 (c ∷ false ∷ []) ∷ gate_bit 10 (highest ∷ true ∷ []) ∷ []) ≡ highest
      in_top true true = refl
      in_top true false = refl
      in_top false true = refl
      in_top false false = refl

  shifts : Is false true false true → Gives false true false true
  unfolding other_of flip_of operation operations binary gate gates
  shifts op =
      shifting-answers whole-width ns (λ c highest. false) (other-out whole-width ns op) (other-over whole-width ns op k refl)
      (other_result whole-width ns op)
      (other-shifted whole-width ns op ∙ in_zero (net 0) (net (suc k)))
    where
      in_zero : (c highest : Bool) → gate_bit 5 (gate_bit 10 (c ∷ false ∷ []) ∷ gate_bit 10 (highest ∷ false ∷ []) ∷ []) ≡ false
      in_zero true true = refl
      in_zero true false = refl
      in_zero false true = refl
      in_zero false false = refl

  -- Bit by bit.
  pub answers : (o0 o1 o2 o3 : Bool) → Is o0 o1 o2 o3 → Gives o0 o1 o2 o3
  unfolding other_of flip_of operation operations binary
  answers false false false false op = moves op
  answers true false false false op = increments op
  answers false true false false op = adds_with_carry op
  answers true true false false op = adds op
  answers false false true false op = negates op
  answers true false true false op = decrements op
  answers false true true false op = subtracts_with_borrow op
  answers true true true false op = subtracts op
  answers false false false true op = rotates op
  answers true false false true op = shifts_signed op
  answers false true false true op = shifts op
  answers true true false true op =
      bitwise-answers whole-width ns (λ a b. B-XOR b a) (other-out whole-width ns op) (other-over whole-width ns op k refl)
      (other_result whole-width ns op)
  answers false false true true op =
      bitwise-answers whole-width ns (λ a b. B-OR b a) (other-out whole-width ns op) (other-over whole-width ns op k refl)
      (other_result whole-width ns op)
  answers true false true true op =
      bitwise-answers whole-width ns (λ a b. B-AND b a) (other-out whole-width ns op) (other-over whole-width ns op k refl)
      (other_result whole-width ns op)
  answers false true true true op =
      bitwise-answers whole-width ns (λ a b. B-NOT a) (other-out whole-width ns op) (other-over whole-width ns op k refl)
      (other_result whole-width ns op)
  answers true true true true op =
      bitwise-answers whole-width ns (λ a b. a) (other-out whole-width ns op) (other-over whole-width ns op k refl)
      (other_result whole-width ns op)
