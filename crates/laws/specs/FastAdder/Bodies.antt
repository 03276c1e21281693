-- The bodies of modules 41 and 40 pass the check, and drive the outputs. For any width and any steps that go over it.
use Rattle.std.specs.Prelude.{ℕ, ◌+◌, ◌*◌, ◌<◌, ◌≤◌, ◌≡◌}
use Rattle.std.proofs.Math.Path.{refl}
use Rattle.std.proofs.Math.Bool.{true, false}
use mathlib.Core.List.{List, [], ◌∷◌, ◌++◌, append-nil}
use Rattle.std.proofs.Math.Decide.{ℕ_discrete}
use Rattle.std.proofs.Common.{arith}
use borrow.Author.Tests.{ne_eqb}
use Rattle.meaning.specs.Syntax.{Module}
use Rattle.meaning.specs.Gates.{gate, gates}
use Rattle.meaning.specs.Boxlist.{member, disjoint, duplicates, subset, assoc}
use Rattle.meaning.specs.Limits.{driven}
use Rattle.meaning.specs.Adder.{up_from}
use Rattle.meaning.specs.Counter.{XOR, AND}
use Rattle.meaning.specs.FastAdder.{Step, chain, lookahead, carries_ahead, fast_module}
use Rattle.laws.specs.WellFormed.{to_module, OccurrenceOk, Body}
use Rattle.laws.specs.Adder.Nets.{length-up_from}
use Rattle.laws.specs.Adder.Distinct.{member-cons, member-append, member-of-run, not_of-run, duplicates-after-run, duplicates-of-run, disjoint-run, subset-after-run}
use Rattle.laws.specs.FastAdder.Runs.{Runs, ends, next, runs-body, runs_drive, behind, not_behind}
use Rattle.laws.specs.FastAdder.Signals.{width, Ready}
use Rattle.laws.specs.FastAdder.Passing.{carriers}
use Rattle.laws.specs.FastAdder.Wiring.{chain_runs}
use Rattle.laws.specs.FastAdder.GateRows.{run-added, added-both, row-runs}

-- The modules behind module 40.
abbrev pub after_first : (n : ℕ) → List Step → List Module
after_first n steps = lookahead n steps ∷ carriers

module _ (n : ℕ) where
  -- Inputs of both modules: the carry in, and two rows.
  abbrev inputs : List ℕ
  inputs = 0 ∷ up_from (n + 1) (2 * n)

  pub inputs-distinct : duplicates inputs ≡ false
  unfolding duplicates
  inputs-distinct = rw (not_of-run 0 (n + 1) (2 * n) (λ y low high. omega arith), duplicates-of-run (n + 1) (2 * n))

  input : (x : ℕ) → n + 1 ≤ x → x < 3 * n + 1 → member x inputs ≡ true
  input x low high = behind x 0 (up_from (n + 1) (2 * n)) (member-of-run x (n + 1) (2 * n) low (omega arith))

  no_input : (x : ℕ) → ((y : ℕ) → n + 1 ≤ y → y < n + 1 + 2 * n → x ≡ y → ⊥) → (x ≡ 0 → ⊥) → member x inputs ≡ false
  no_input x apart other = not_behind x 0 (up_from (n + 1) (2 * n)) other (not_of-run x (n + 1) (2 * n) apart)

  carry_in : member 0 inputs ≡ true
  carry_in = member-cons 0 0 (up_from (n + 1) (2 * n)) (λ other. absurd (other refl))

  -- Module 41.
  inputs-ready : Ready n 0 n inputs
  inputs-ready =
      record {
        carries = λ i low. member-cons i 0 (up_from (n + 1) (2 * n)) (λ other. absurd (other (omega arith)));
        bit_p = λ i low. input (n + 1 + i) (omega arith) (omega arith);
        bit_g = λ i low. input (n + 1 + i + n) (omega arith) (omega arith);
        no_carry = λ i low high. no_input i (λ y least most. omega arith) (omega arith);
        no_p = λ i low high. no_input (3 * n + 1 + i) (λ y least most. omega arith) (omega arith);
        no_g = λ i low high. no_input (3 * n + 1 + i + n) (λ y least most. omega arith) (omega arith);
      }

  module _ (steps : List Step) (whole : width steps ≡ n) where
    lookahead-runs :
        (Final : List ℕ → Type 0)
        → ((new : List ℕ) → ((i : ℕ) → i ≤ n → member i new ≡ true) → Final new)
        → Runs carriers Final inputs (chain n steps 0)
    lookahead-runs Final then = chain_runs n Final steps 0 inputs (omega arith) inputs-ready then

    pub lookahead-body : Body carriers inputs (chain n steps 0)
    lookahead-body = runs-body (lookahead-runs (λ new. Unit {0}) (λ new held. tt))

    pub lookahead-drives : subset (up_from 1 n) (driven (chain n steps 0)) ≡ true
    unfolding subset
    lookahead-drives =
        rw append-nil at
        (subset-after-run 1 n [] (driven (chain n steps 0)) (λ x low high.
        runs_drive x (no_input x (λ y least most. omega arith) (omega arith))
        (lookahead-runs (λ new. member x new ≡ true) (λ new held. held x (omega arith)))))

    -- Module 40.
    refer_ok :
        (signals : List ℕ)
        → member 0 signals ≡ true
        → ((x : ℕ) → 3 * n + 1 ≤ x → x < 5 * n + 1 → member x signals ≡ true)
        → ((x : ℕ) → 1 ≤ x → x < 1 + n → member x signals ≡ false)
        → OccurrenceOk (after_first n steps) signals (carries_ahead n)
    unfolding subset assoc lookahead
    refer_ok signals carry bits fresh =
        record {
          distinct = duplicates-of-run 1 n;
          fresh = disjoint-run 1 n signals fresh;
          bound =
              rw carry (rw append-nil at (subset-after-run (3 * n + 1) (2 * n) [] signals (λ x low high. bits x low (omega arith))));
          reference =
              to_module (lookahead n steps) refl refl
              (omega (arith, length-up_from (3 * n + 1) (2 * n), length-up_from (n + 1) (2 * n)))
              refl;
        }

    module _ (some : 1 ≤ n) where
      fast_runs :
          (Final : List ℕ → Type 0)
          → ((new : List ℕ) → member n new ≡ true → ((x : ℕ) → 5 * n + 1 ≤ x → x < 6 * n + 1 → member x new ≡ true) → Final new)
          → Runs (after_first n steps) Final inputs (fast_module n).occurrences
      unfolding fast_module gate gates
      fast_runs Final then =
          row-runs (after_first n steps) Final XOR refl refl (3 * n + 1) (n + 1) (2 * n + 1) n inputs _
          (λ x low high. input x (omega arith) (omega arith))
          (λ x low high. input x (omega arith) (omega arith))
          (λ x low high. no_input x (λ y least most. omega arith) (omega arith))
          (λ with_p p.
          row-runs (after_first n steps) Final AND refl refl (4 * n + 1) (n + 1) (2 * n + 1) n with_p _
          (λ x low high. p.kept x (input x (omega arith) (omega arith)))
          (λ x low high. p.kept x (input x (omega arith) (omega arith)))
          (λ x low high. p.other x (λ i least most. omega arith) (no_input x (λ y least most. omega arith) (omega arith)))
          (λ with_g g.
          let bits = added-both (omega arith) p g in
          let carries = run-added 1 n with_g in
          let unset : (x : ℕ) → (x ≡ 0 → ⊥) → ((y : ℕ) → n + 1 ≤ y → y < 5 * n + 1 → x ≡ y → ⊥) → member x with_g ≡ false =
          λ x other apart.
          bits.other x (λ i least most. apart i (omega arith) (omega arith))
          (no_input x (λ y least most. apart y (omega arith) (omega arith)) other)
          in
          let carry : member 0 with_g ≡ true = bits.kept 0 carry_in in
          next
          (refer_ok with_g carry (λ x low high. bits.added x low (omega arith))
          (λ x low high. unset x (omega arith) (λ y least most. omega arith)))
          (rw append-nil at
          (row-runs (after_first n steps) Final XOR refl refl (5 * n + 1) (3 * n + 1) 0 n (up_from 1 n ++ with_g) []
          (λ x low high. carries.kept x (bits.added x low (omega arith)))
          (λ x low high. up_to with_g carry x (omega arith) (ℕ_discrete x 0))
          (λ x low high.
          carries.other x (λ i least most. omega arith) (unset x (omega arith) (λ y least most. omega arith)))
          (λ all sums.
          ends
          (then all (sums.kept n (carries.added n (omega arith) (omega arith)))
          (λ x low high. sums.added x low (omega arith))))))))
        where
          up_to : (signals : List ℕ) → member 0 signals ≡ true → (x : ℕ) → x < n → Dec (x ≡ 0)
              → member x (up_from 1 n ++ signals) ≡ true
          up_to signals carry x low (yes first) = rw first ((run-added 1 n signals).kept 0 carry)
          up_to signals carry x low (no later) = (run-added 1 n signals).added x (omega arith) (omega arith)

      pub fast_body : Body (after_first n steps) inputs (fast_module n).occurrences
      fast_body = runs-body (fast_runs (λ new. Unit {0}) (λ new last sums. tt))

      pub fast_drives : subset (up_from (5 * n + 1) n ++ (n ∷ [])) (driven (fast_module n).occurrences) ≡ true
      unfolding subset
      fast_drives =
          rw (
            subset-after-run (5 * n + 1) n (n ∷ []) (driven (fast_module n).occurrences) (λ x low high.
                runs_drive x (no_input x (λ y least most. omega arith) (omega arith))
                (fast_runs (λ new. member x new ≡ true) (λ new last sums. sums x low (omega arith)))),
            runs_drive n (no_input n (λ y least most. omega arith) (omega arith))
                (fast_runs (λ new. member n new ≡ true) (λ new last sums. last)),
          )

  -- Outputs.
  pub carries-apart : disjoint inputs (up_from 1 n) ≡ true
  unfolding disjoint
  carries-apart =
      rw (
        not_of-run 0 1 n (λ y low high. omega arith),
        disjoint-run (n + 1) (2 * n) (up_from 1 n) (λ y low high. not_of-run y 1 n (λ x least most. omega arith)),
      )

  module _ (some : 1 ≤ n) where
    pub outputs-distinct : duplicates (up_from (5 * n + 1) n ++ (n ∷ [])) ≡ false
    unfolding duplicates member
    outputs-distinct =
        duplicates-after-run (5 * n + 1) n (n ∷ []) (λ y low high. not_behind y n [] (omega arith) refl)

    no_output : (x : ℕ) → (x ≡ n → ⊥) → x < 5 * n + 1 → member x (up_from (5 * n + 1) n ++ (n ∷ [])) ≡ false
    unfolding member
    no_output x other low =
        rw (member-append x (up_from (5 * n + 1) n) (n ∷ []), not_of-run x (5 * n + 1) n (λ y least most. omega arith), ne_eqb x n other)

    pub outputs-apart : disjoint inputs (up_from (5 * n + 1) n ++ (n ∷ [])) ≡ true
    unfolding disjoint
    outputs-apart =
        rw (
          no_output 0 (omega arith) (omega arith),
          disjoint-run (n + 1) (2 * n) (up_from (5 * n + 1) n ++ (n ∷ [])) (λ y low high. no_output y (omega arith) (omega arith)),
        )
