-- On every list of three values module 40 gives what module 18 of the ripple adder of the same width gives. So on known bits it is the
-- binary sum with carry, and its lowest bits are known as early.
use Prim.Native.Nat.{ℕ, zero, suc, ◌+◌, ◌*◌, ◌<◌, ◌≤◌}
use Rattle.std.specs.Prelude.{◌≡◌, refl, Bool, false, take, drop}
use Rattle.std.proofs.Common.{sym, ◌∙◌, suc-add, length-append, take-append-drop, length-take, length-drop}
use Rattle.std.proofs.Math.Path.{ap₂}
use mathlib.Core.List.{List, [], ◌∷◌, ◌++◌, map}
use Rattle.std.proofs.Math.Nat.{add-zero, zero-add}
use native.Mathlib.Omega.{arith}
use Rattle.std.proofs.Math.ListN.{length}
use Rattle.std.proofs.lemmas.List.{length-map}
use Rattle.meaning.specs.Values.{Val, known}
use Rattle.meaning.specs.Gates.{gate_value}
use Rattle.meaning.specs.Evaluation.{Env, look, look_all, run, evaluate}
use Rattle.meaning.specs.Adder.{up_from, adder}
use Rattle.meaning.specs.FastAdder.{Step, fast_adder_over, steps, fast_adder}
use Rattle.laws.specs.Adder.Ripple.{ripple, full_sum, full_carry}
use Rattle.laws.specs.Adder.Outputs.{one_output, adder-outputs}
use Rattle.laws.specs.Adder.Sum.{BinarySum, adder-adds}
use Rattle.laws.specs.Adder.Early.{LowestOfSum, adder-known-early}
use Rattle.laws.specs.FastAdder.Signals.{width}
use Rattle.laws.specs.FastAdder.Shape.{steps-width}
use Rattle.laws.specs.FastAdder.Carries.{carry-by-carry}
use Rattle.laws.specs.FastAdder.Adder.{Nets, nets}

module _ {A : Type 0} (unset : A) (sum carry : A → A → A → A) (env : Env A) where
  abbrev value : ℕ → A
  value net = look unset net env

  -- Nets that are bit by bit those of a chain of full adders hold the chain.
  chain_held :
      (s k a b count : ℕ)
      → ((i : ℕ) → i < count → value (s + i) ≡ sum (value (a + i)) (value (b + i)) (value (k + i)))
      → ((i : ℕ) → i < count → value (suc (k + i)) ≡ carry (value (a + i)) (value (b + i)) (value (k + i)))
      → look_all unset (up_from s count ++ ((k + count) ∷ [])) env
      ≡ ripple sum carry (value k) (look_all unset (up_from a count) env) (look_all unset (up_from b count) env)
  unfolding look_all up_from ripple
  chain_held s k a b zero sums carries = rw (add-zero k)
  chain_held s k a b (suc count) sums carries =
      let on : (x i : ℕ) → x + suc i ≡ suc x + i = λ x i. omega arith in
      let here : value s ≡ sum (value a) (value b) (value k) =
      rw (add-zero s, add-zero a, add-zero b, add-zero k) at (sums 0 (omega arith))
      in
      let behind : value (suc k) ≡ carry (value a) (value b) (value k) =
      rw (add-zero a, add-zero b, add-zero k) at (carries 0 (omega arith))
      in
      ap₂ ◌∷◌ here
      (rw (on k count, ← behind)
      (chain_held (suc s) (suc k) (suc a) (suc b) count
      (λ i low. rw (← on s i, ← on a i, ← on b i, ← on k i) (sums (suc i) (omega arith)))
      (λ i low. rw (← on a i, ← on b i, ← on k i) (carries (suc i) (omega arith)))))

  -- What a row of nets holds, in two parts.
  held_in_parts :
      (a k : ℕ) (xs ys : List A)
      → look_all unset (up_from a (length xs + k)) env ≡ xs ++ ys
      → (look_all unset (up_from a (length xs)) env ≡ xs) × (look_all unset (up_from (a + length xs) k) env ≡ ys)
  unfolding look_all up_from
  held_in_parts a k [] ys held = (refl, rw (add-zero a, ← zero-add k) held)
  held_in_parts a k (x ∷ xs) ys held =
      let cons : look unset a env ∷ look_all unset (up_from (suc a) (length xs + k)) env ≡ x ∷ (xs ++ ys) =
      rw (suc-add (length xs) k) at held
      in
      let both = held_in_parts (suc a) k xs ys (cc) in
      let place : suc a + length xs ≡ a + suc (length xs) = omega arith in
      (cc both.0, rw place at both.1)

-- The outputs of module 40 over any steps, on the carry in, a's values and b's.
module _ (n : ℕ) (steps : List Step) (some : 1 ≤ n) (whole : width steps ≡ n) where
  abbrev sum : Val → Val → Val → Val
  sum = full_sum gate_value

  abbrev carry : Val → Val → Val → Val
  carry = full_carry gate_value

  module _ {vs : List Val} (ns : Nets (known false) gate_value n steps vs) where
    abbrev at : ℕ → Val
    at net = look (known false) net ns.env

    sum-at : (i : ℕ) → i < n → at (5 * n + 1 + i) ≡ sum (at (n + 1 + i)) (at (2 * n + 1 + i)) (at (0 + i))
    sum-at i low = rw (zero-add i, ← ns.bit_p i low) (ns.sum i low)

    carry-at : (i : ℕ) → i < n → at (suc (0 + i)) ≡ carry (at (n + 1 + i)) (at (2 * n + 1 + i)) (at (0 + i))
    carry-at i low =
        rw (
          zero-add i,
          ← ns.bit_p i low,
          ← ns.bit_g i low,
          ← ns.inner_p i low,
          ← ns.inner_g i low,
          ← ns.inner_carry i (omega arith),
          ← ns.inner_carry (suc i) (omega arith),
        )
        (carry-by-carry n ns.inner whole ns.chained i low)

  module _ (c : Val) (xs ys : List Val) (xs-fits : length xs ≡ n) (ys-fits : length ys ≡ n) where
    outputs-of :
        Nets (known false) gate_value n steps (c ∷ (xs ++ ys))
        → run (known false) (one_output gate_value) (fast_adder_over n steps) 40 (c ∷ (xs ++ ys)) ≡ ripple sum carry c xs ys
    unfolding look_all
    outputs-of ns =
        let env = ns.env in
        let count : length xs + n ≡ 2 * n = omega arith in
        let second : n + 1 + length xs ≡ 2 * n + 1 = omega arith in
        let carry_in : look (known false) 0 env ≡ c = cc ns.inputs in
        let rows : look_all (known false) (up_from (n + 1) (2 * n)) env ≡ xs ++ ys = cc ns.inputs in
        let both = held_in_parts (known false) sum carry env (n + 1) n xs ys (rw count rows) in
        let xs-held : look_all (known false) (up_from (n + 1) n) env ≡ xs = rw xs-fits at both.0 in
        let ys-held : look_all (known false) (up_from (2 * n + 1) n) env ≡ ys = rw second at both.1 in
        ns.outputs
        ∙ (rw (zero-add n, carry_in, xs-held, ys-held) at
        (chain_held (known false) sum carry env (5 * n + 1) 0 (n + 1) (2 * n + 1) n (sum-at ns) (carry-at ns)))

    pub outputs-over :
        run (known false) (one_output gate_value) (fast_adder_over n steps) 40 (c ∷ (xs ++ ys)) ≡ ripple sum carry c xs ys
    outputs-over =
        outputs-of (nets (known false) gate_value n steps some whole (c ∷ (xs ++ ys)) (omega (arith, length-append xs ys)))

-- The law, for any list of three values.
pub fast_adder-over-is-ripple :
    (n : ℕ) (steps : List Step)
    → 1 ≤ n
    → width steps ≡ n
    → (vs : List Val)
    → length vs ≡ 2 * n + 1
    → evaluate (fast_adder_over n steps) 40 vs ≡ evaluate (adder n) 18 vs
unfolding evaluate
fast_adder-over-is-ripple n steps some whole [] fits = absurd (omega arith)
fast_adder-over-is-ripple n steps some whole (c ∷ vs) fits =
    let xs-fits : length (take n vs) ≡ n = omega (arith, length-take n vs) in
    let ys-fits : length (drop n vs) ≡ n = omega (arith, length-drop n vs) in
    rw (take-append-drop n vs) at
    (outputs-over n steps some whole c (take n vs) (drop n vs) xs-fits ys-fits
    ∙ sym (adder-outputs gate_value (known false) n c (take n vs) (drop n vs) xs-fits ys-fits))

pub fast_adder-is-ripple :
    (n : ℕ) → 1 ≤ n → (vs : List Val) → length vs ≡ 2 * n + 1 → evaluate (fast_adder n) 40 vs ≡ evaluate (adder n) 18 vs
unfolding fast_adder
fast_adder-is-ripple n some = fast_adder-over-is-ripple n (steps n) some (steps-width n)

-- On known bits the evaluation of module 40 is the binary sum with carry.
pub fast_adder-adds :
    (n : ℕ) → 1 ≤ n
    → (c : Bool) (xs ys : List Bool)
    → length xs ≡ n
    → length ys ≡ n
    → BinarySum c xs ys (evaluate (fast_adder n) 40 (known c ∷ map known (xs ++ ys)))
fast_adder-adds n some c xs ys xs-fits ys-fits =
    rw (fast_adder-is-ripple n some (known c ∷ map known (xs ++ ys)) (omega (arith, length-map (xs ++ ys) known, length-append xs ys)))
    (adder-adds n c xs ys xs-fits ys-fits)

-- Where the carry in and the lowest k values of both numbers are known, the lowest k sums are known and right, whatever the others are.
pub fast_adder-known-early : (n k : ℕ) → 1 ≤ n → (c : Bool) (xs ys : List Bool) (vs ws : List Val)
    → length xs ≡ n → length ys ≡ n → length vs ≡ n → length ws ≡ n
    → take k vs ≡ take k (map known xs) → take k ws ≡ take k (map known ys)
    → LowestOfSum k c xs ys (evaluate (fast_adder n) 40 (known c ∷ (vs ++ ws)))
fast_adder-known-early n k some c xs ys vs ws fits-x fits-y fits-v fits-w known-v known-w =
    rw (fast_adder-is-ripple n some (known c ∷ (vs ++ ws)) (omega (arith, length-append vs ws)))
    (adder-known-early n k c xs ys vs ws fits-x fits-y fits-v fits-w known-v known-w)
