-- On known bits the outputs of module 48 are carry, overflow and result of the operation, for every width and all sixteen operations.
use Prim.Native.Nat.{ℕ, zero, suc, ◌+◌, ◌≤◌}
use Rattle.std.specs.Prelude.{◌≡◌, refl, Bool, List, [], ◌∷◌, ◌++◌, map, length}
use Rattle.std.proofs.Common.{ap, ◌∙◌, add-zero, zero-add, suc-add, length-append}
use Rattle.std.proofs.Math.Path.{subst}
use Rattle.std.proofs.Math.Bool.{false}
use native.Mathlib.Omega.{arith}
use Rattle.meaning.specs.Values.{Val, known}
use Rattle.meaning.specs.Evaluation.{Env, look, look_all, run, evaluate}
use Rattle.meaning.specs.Heval.{happly}
use Rattle.meaning.specs.Adder.{up_from, binary}
use Rattle.meaning.specs.FastAdder.{Step, steps}
use Rattle.meaning.specs.Operations.{Outcome, operation, outcome, alu_outcome}
use Rattle.meaning.specs.Alu.{b_net, op_net, out_net, result_net, copy_count, alu_over, alu}
use Rattle.laws.specs.Known.{evaluate-on-known}
use Rattle.laws.specs.OutputCount.{length-of-look_all}
use Rattle.laws.specs.Adder.Nets.{length-up_from}
use Rattle.laws.specs.Adder.Sum.{gate_bit}
use Rattle.laws.specs.FastAdder.Signals.{width}
use Rattle.laws.specs.FastAdder.Shape.{steps-width}
use Rattle.laws.specs.Alu.Nets.{Nets, nets}
use Rattle.laws.specs.Alu.Worth.{binary-held}
use Rattle.laws.specs.Alu.Bits.{at}
use Rattle.laws.specs.Alu.Answers.{a_bits, b_bits, Answers}
use Rattle.laws.specs.Alu.Sixteen.{answers}

-- A row of nets in two parts.
row_in_parts : (s m k : ℕ) → up_from s (m + k) ≡ up_from s m ++ up_from (s + m) k
unfolding up_from
row_in_parts s zero k = rw (zero-add k, add-zero s)
row_in_parts s (suc m) k =
    let place : suc s + m ≡ s + suc m = omega arith in
    rw (suc-add m k) (ap (λ (nets : List ℕ). s ∷ nets) (row_in_parts (suc s) m k ∙ rw place))

-- What a row of nets holds, and others behind it.
held_in_parts :
    (env : Env Bool) (s m : ℕ) (others : List ℕ) (xs ys : List Bool)
    → length xs ≡ m
    → look_all false (up_from s m ++ others) env ≡ xs ++ ys
    → (look_all false (up_from s m) env ≡ xs) × (look_all false others env ≡ ys)
unfolding look_all up_from
held_in_parts env s zero others [] ys fits held = (refl, held)
held_in_parts env s zero others (x ∷ xs) ys fits held = absurd (omega arith)
held_in_parts env s (suc m) others [] ys fits held = absurd (omega arith)
held_in_parts env s (suc m) others (x ∷ xs) ys fits held =
    let both = held_in_parts env (suc s) m others xs ys (omega arith) (cc) in
    (cc both.0, both.1)

-- Bits that are an outcome at a width: carry, overflow and the result, low bit first.
pub record Shows (n : ℕ) (o : Outcome) (outputs : List Bool) : Type 0 where
  pub bits : List Bool
  pub all : outputs ≡ o.carry ∷ o.overflow ∷ bits
  pub count : length bits ≡ n
  pub reads : binary bits ≡ o.result

module _ (k copied : ℕ) (steps : List Step) (whole : width steps ≡ suc k) (c : Bool) (a b : List Bool) (o0 o1 o2 o3 : Bool)
    (a-fits : length a ≡ suc k) (b-fits : length b ≡ suc k) where
  abbrev n : ℕ
  n = suc k

  abbrev op : List Bool
  op = o0 ∷ o1 ∷ o2 ∷ o3 ∷ []

  abbrev given : List Bool
  given = c ∷ (a ++ (b ++ op))

  -- What the input nets hold.
  record Held (env : Env Bool) : Type 0 where
    carry : look false 0 env ≡ c
    first : look_all false (up_from 1 n) env ≡ a
    second : look_all false (up_from (b_net n) n) env ≡ b
    operation-bits : look_all false (up_from (op_net n) 4) env ≡ op

  held : (env : Env Bool) → look_all false (up_from 0 (n + 1) ++ up_from (b_net n) (n + 4)) env ≡ given → Held env
  unfolding look_all up_from
  held env holds =
      let one_more : n + 1 ≡ suc n = omega arith in
      let op-place : b_net n + n ≡ op_net n = omega arith in
      let rows = rw (one_more, row_in_parts (b_net n) n 4, op-place) at holds in
      let low = held_in_parts env 1 n (up_from (b_net n) n ++ up_from (op_net n) 4) a (b ++ op) a-fits (cc rows) in
      let high = held_in_parts env (b_net n) n (up_from (op_net n) 4) b op b-fits low.1 in
      record { carry = cc rows; first = low.0; second = high.0; operation-bits = high.1 }

  shown : Nets false gate_bit n copied steps given → Shows n (alu_outcome c a b op) (run false happly (alu_over n copied steps) 48 given)
  unfolding alu_outcome look_all up_from happly
  shown ns =
      let env = ns.env in
      let inputs = held env ns.given in
      let bits = inputs.operation-bits in
      let given-answers =
      answers whole ns o0 o1 o2 o3 (record { at0 = cc bits; at1 = cc bits; at2 = cc bits; at3 = cc bits })
      in
      let same : outcome (look false 0 env) (a_bits whole ns) (b_bits whole ns) (operation (binary op)) ≡ alu_outcome c a b op =
      rw (inputs.carry, inputs.first, inputs.second)
      in
      let final = subst (Answers whole ns) same given-answers in
      let outs : n + 2 ≡ suc (suc n) = omega arith in
      let results : suc (suc (out_net n)) ≡ result_net n = omega arith in
      record {
        bits = look_all false (up_from (result_net n) n) env;
        all = ns.outputs ∙ rw (outs, results, final.carry, final.overflow);
        count = length-of-look_all false (up_from (result_net n) n) env ∙ length-up_from (result_net n) n;
        reads = binary-held env (result_net n) n ∙ final.number;
      }

-- Values that are known bits and show an outcome.
pub record Computes (n : ℕ) (o : Outcome) (outputs : List Val) : Type 0 where
  pub bits : List Bool
  pub known-bits : outputs ≡ map known (o.carry ∷ o.overflow ∷ bits)
  pub count : length bits ≡ n
  pub reads : binary bits ≡ o.result

pub alu-over-computes :
    (n copied : ℕ) (steps : List Step)
    → 1 ≤ n
    → width steps ≡ n
    → (c : Bool) (a b op : List Bool)
    → length a ≡ n
    → length b ≡ n
    → length op ≡ 4
    → Computes n (alu_outcome c a b op) (evaluate (alu_over n copied steps) 48 (map known (c ∷ (a ++ (b ++ op)))))
alu-over-computes zero copied steps some whole c a b op a-fits b-fits op_fits = absurd (omega arith)
alu-over-computes (suc k) copied steps some whole c a b op a-fits b-fits op_fits = go op op_fits
  where
    known-answer :
        (op : List Bool) → Shows (suc k) (alu_outcome c a b op) (run false happly (alu_over (suc k) copied steps) 48 (c ∷ (a ++ (b ++ op))))
        → Computes (suc k) (alu_outcome c a b op) (evaluate (alu_over (suc k) copied steps) 48 (map known (c ∷ (a ++ (b ++ op)))))
    known-answer op shows =
        record {
          bits = shows.bits;
          known-bits = evaluate-on-known (alu_over (suc k) copied steps) 48 (c ∷ (a ++ (b ++ op))) ∙ ap (map known) shows.all;
          count = shows.count;
          reads = shows.reads;
        }

    go :
        (op : List Bool) → length op ≡ 4
        → Computes (suc k) (alu_outcome c a b op) (evaluate (alu_over (suc k) copied steps) 48 (map known (c ∷ (a ++ (b ++ op)))))
    go [] fits = absurd (omega arith)
    go (o0 ∷ []) fits = absurd (omega arith)
    go (o0 ∷ o1 ∷ []) fits = absurd (omega arith)
    go (o0 ∷ o1 ∷ o2 ∷ []) fits = absurd (omega arith)
    go (o0 ∷ o1 ∷ o2 ∷ o3 ∷ []) fits =
        known-answer (o0 ∷ o1 ∷ o2 ∷ o3 ∷ [])
        (shown k copied steps whole c a b o0 o1 o2 o3 a-fits b-fits
        (nets false gate_bit (suc k) copied steps some whole (c ∷ (a ++ (b ++ (o0 ∷ o1 ∷ o2 ∷ o3 ∷ []))))
        (omega (arith, length-append a (b ++ (o0 ∷ o1 ∷ o2 ∷ o3 ∷ [])), length-append b (o0 ∷ o1 ∷ o2 ∷ o3 ∷ [])))))
    go (o0 ∷ o1 ∷ o2 ∷ o3 ∷ o4 ∷ more) fits = absurd (omega arith)

-- The law, at every width.
pub alu-computes :
    (n : ℕ) → 1 ≤ n
    → (c : Bool) (a b op : List Bool)
    → length a ≡ n
    → length b ≡ n
    → length op ≡ 4
    → Computes n (alu_outcome c a b op) (evaluate (alu n) 48 (map known (c ∷ (a ++ (b ++ op)))))
unfolding alu
alu-computes n some = alu-over-computes n (copy_count n) (steps n) some (steps-width n)
