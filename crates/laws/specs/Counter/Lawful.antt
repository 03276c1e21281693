-- Every counter keeps the law, whatever the law says: for every width from 1 on, on any values.
use Rattle.std.specs.Prelude.{ℕ, ◌-◌, ◌≤◌, ◌≡◌, refl}
use mathlib.Core.List.{List, []}
use Rattle.std.proofs.Common.{zero-add, arith}
use Rattle.std.proofs.Math.ListN.{length}
use Rattle.meaning.specs.Evaluation.{Env, look_all, run_module, run}
use Rattle.meaning.specs.Adder.{up_from}
use Rattle.meaning.specs.Counter.{digits, blocks, counter_module, counter}
use Rattle.laws.specs.Counter.Nets.{end, look-row, holds-inputs}
use Rattle.laws.specs.Counter.Digits.{binary-digits, highest-digit}
use Rattle.laws.specs.Counter.Law.{Law, single}
use Rattle.laws.specs.Counter.Blocks.{run-first, blocks-answer}
use Rattle.laws.specs.Counter.Part.{Stands}
use Rattle.laws.specs.Counter.Parts.{parts}

module _ {A : Type 0} (none : A) {gate_result : ℕ → List A → A} (law : Law gate_result) where
  -- What stands at the end is read off its nets.
  read_off : {n below : ℕ} {vs : List A} {env : Env A} (count : ℕ) → n ≡ count → Stands none law n below vs env
      → law.Counter count vs (look_all none (up_from below count) env)
  read_off {n} count same stands =
      rw (← same, look-row n (law.counter-count stands.answer) stands.held) stands.answer

  pub counter_lawful : (n : ℕ) → 1 ≤ n → (vs : List A) → length vs ≡ n
      → law.Counter (length (digits n)) vs (run none (single gate_result) (counter n) 32 vs)
  unfolding counter run_module counter_module
  counter_lawful n some vs full =
      let k = length (digits n) - 1 in
      rw (run-first none law (counter_module n) (blocks k) 32 vs refl)
      (read_off (length (digits n)) (zero-add (length (digits n)))
      (parts none law (run none (single gate_result) (blocks k)) k (λ j. blocks-answer none law j k) (highest-digit n some) 0 n [] vs _
      (omega arith) (omega arith) (omega (arith, binary-digits n)) (holds-inputs n vs full) (omega arith)
      (record { outs = []; held = end; answer = law.nothing })).stands)
