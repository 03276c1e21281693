-- What a counter's answers mean, for values of any kind and whatever a gate makes of them. A law says it of one bit and of a pair, and
-- is kept where two blocks are joined and where a block stands above a shorter counter; then it holds of every counter (Parts.antt).
-- What the counter computes is one law (Zeros.antt), when it arrives another (Delay.antt).
use Prim.Native.Nat.{ℕ, suc, ◌^◌, ◌≤◌}
use Rattle.std.specs.Prelude.{◌≡◌, length}
use Rattle.std.proofs.Math.Path.{refl, ap}
use mathlib.Core.List.{List, [], ◌∷◌, ◌++◌}
use Rattle.std.proofs.Common.{arith, length-append}
use Rattle.meaning.specs.Evaluation.{Meaning}
use Rattle.meaning.specs.Counter.{NOT, OR, XOR, AND, NOR}

module _ {A : Type 0} (gate_result : ℕ → List A → A) where
  abbrev pub single : Meaning A
  single number vs = gate_result number vs ∷ []

  -- Count bits chosen between a high part and a shorter low one.
  unfoldable pub chosen : A → (high low : List A) → List A
  chosen e [] ls = []
  chosen e (h ∷ hs) [] = h ∷ hs
  chosen e (h ∷ hs) (l ∷ ls) = gate_result OR (h ∷ gate_result AND (e ∷ l ∷ []) ∷ []) ∷ chosen e hs ls

  pub length-chosen : (e : A) (hs ls : List A) → length (chosen e hs ls) ≡ length hs
  unfolding chosen
  length-chosen e [] ls = refl
  length-chosen e (h ∷ hs) [] = refl
  length-chosen e (h ∷ hs) (l ∷ ls) = ap suc (length-chosen e hs ls)

  pub length-joined : (e : A) (hs ls : List A) (top : A) → length (chosen e hs ls ++ (top ∷ [])) ≡ suc (length hs)
  length-joined e hs ls top = omega (arith, length-append (chosen e hs ls) (top ∷ []), length-chosen e hs ls)

  pub chosen-append : (e : A) (hs more ls : List A) → length hs ≡ length ls → chosen e (hs ++ more) ls ≡ chosen e hs ls ++ more
  unfolding chosen
  chosen-append e [] [] [] same = refl
  chosen-append e [] (m ∷ more) [] same = refl
  chosen-append e [] more (l ∷ ls) same = absurd (omega arith)
  chosen-append e (h ∷ hs) more [] same = absurd (omega arith)
  chosen-append e (h ∷ hs) more (l ∷ ls) same = rw (chosen-append e hs more ls (omega arith))

  pub chosen-end : (e : A) (hs : List A) → chosen e hs [] ≡ hs
  unfolding chosen
  chosen-end e [] = refl
  chosen-end e (h ∷ hs) = refl

  -- Whether two halves are empty together, and the top count bit of the block that they make.
  abbrev pub both_empty : (high low : A) → A
  both_empty high low = gate_result AND (high ∷ low ∷ [])

  abbrev pub top_bit : (high low : A) → A
  top_bit high low = gate_result XOR (high ∷ both_empty high low ∷ [])

  pub record Law : Type 1 where
    -- A block of a level answers count bits and "empty" of its bits; a counter answers so many count bits.
    pub Block : (level : ℕ) → (bits outs : List A) → A → Type 0
    pub Counter : (count : ℕ) → (bits outs : List A) → Type 0
    pub block-count : {j : ℕ} {xs outs : List A} {e : A} → Block j xs outs e → length outs ≡ j
    pub counter-count : {n : ℕ} {xs outs : List A} → Counter n xs outs → length outs ≡ n
    pub bit : (x : A) → Block 0 (x ∷ []) [] (gate_result NOT (x ∷ []))
    pub pair : (x y : A)
        → Block 1 (x ∷ y ∷ []) (gate_result NOR (y ∷ gate_result NOR (x ∷ y ∷ []) ∷ []) ∷ []) (gate_result NOR (x ∷ y ∷ []))
    pub halves : {j : ℕ} {xs ys ls hs : List A} {el eh : A} → 1 ≤ j → length ys ≡ 2 ^ j → Block j xs ls el → Block j ys hs eh
        → Block (suc j) (xs ++ ys) (chosen eh hs ls ++ (top_bit eh el ∷ [])) (both_empty eh el)
    pub nothing : Counter 0 [] []
    pub above : {n j : ℕ} {lows xs ls hs : List A} {e : A} → n ≤ j → length xs ≡ 2 ^ j → Counter n lows ls → Block j xs hs e
        → Counter (suc j) (lows ++ xs) (chosen e hs ls ++ (e ∷ []))
