-- The control, the cells and the carry network pass the check where module 48 refers to them.
use Prim.Native.Nat.{ℕ, zero, suc, ◌+◌, ◌*◌, ◌/◌, ◌<◌, ◌≤◌, min}
use Rattle.std.specs.Prelude.{◌≡◌, false}
use Rattle.std.proofs.Math.Path.{refl}
use Rattle.std.proofs.Common.{◌∙◌}
use Rattle.std.proofs.Math.Bool.{true}
use mathlib.Core.List.{List, [], ◌∷◌, ◌++◌, append-nil}
use Rattle.std.proofs.Math.Decide.{dec_lt}
use native.Mathlib.Omega.{arith}
use borrow.Author.Tests.{ne_eqb}
use Rattle.meaning.specs.Syntax.{Occurrence, Module}
use Rattle.meaning.specs.Boxlist.{member, disjoint, duplicates, subset, assoc}
use Rattle.meaning.specs.Adder.{up_from}
use Rattle.meaning.specs.FastAdder.{Step, lookahead}
use Rattle.meaning.specs.Alu.{shifted_in, b_net, op_net, carry_net, p_net, g_net, q_net, out_net, flip_net, lines_net, lines_of, control, cell, controlled, carries_ahead, cell_at, cells}
use Rattle.laws.specs.WellFormed.{to_module, OccurrenceOk}
use Rattle.laws.specs.Adder.Nets.{length-up_from}
use Rattle.laws.specs.Adder.Distinct.{duplicates-after-run, duplicates-of-run, not_of-run, disjoint-run, subset-after-run}
use Rattle.laws.specs.FastAdder.Runs.{Runs, next, not_behind}
use Rattle.laws.specs.FastAdder.Passing.{carriers}
use Rattle.laws.specs.Alu.Signals.{disjoint-after-run, inputs, low-input, high-input, no_input, Ready, ready-cell}

-- The modules behind module 48.
abbrev pub after_alu : (n : ℕ) → List Step → List Module
after_alu n steps = control ∷ cell ∷ lookahead n steps ∷ carriers

module _ (n : ℕ) where
  pub inputs-distinct : duplicates (inputs n) ≡ false
  inputs-distinct =
      duplicates-after-run 0 (n + 1) (up_from (b_net n) (n + 4)) (λ y low high.
      not_of-run y (b_net n) (n + 4) (λ x least most. omega arith))
      ∙ duplicates-of-run (b_net n) (n + 4)

  pub outputs-apart : disjoint (inputs n) (up_from (out_net n) (n + 2)) ≡ true
  outputs-apart =
      disjoint-after-run 0 (n + 1) (up_from (b_net n) (n + 4)) (up_from (out_net n) (n + 2))
      (λ y low high. not_of-run y (out_net n) (n + 2) (λ x least most. omega arith))
      ∙ disjoint-run (b_net n) (n + 4) (up_from (out_net n) (n + 2))
      (λ y low high. not_of-run y (out_net n) (n + 2) (λ x least most. omega arith))

  -- The control.
  abbrev three : List ℕ
  three = carry_net n ∷ shifted_in n ∷ flip_net n ∷ []

  three-distinct : duplicates three ≡ false
  unfolding duplicates member
  three-distinct =
      rw (
        ne_eqb (carry_net n) (shifted_in n) (omega arith),
        ne_eqb (carry_net n) (flip_net n) (omega arith),
        ne_eqb (shifted_in n) (flip_net n) (omega arith),
      )

  not_three : (y : ℕ) → lines_net n ≤ y → member y three ≡ false
  unfolding member
  not_three y least =
      not_behind y (carry_net n) (shifted_in n ∷ flip_net n ∷ []) (omega arith)
      (not_behind y (shifted_in n) (flip_net n ∷ []) (omega arith) (not_behind y (flip_net n) [] (omega arith) refl))

  three-fresh : disjoint three (inputs n) ≡ true
  unfolding disjoint
  three-fresh =
      rw (
        no_input n (carry_net n) (λ y most. omega arith) (λ y least most. omega arith),
        no_input n (shifted_in n) (λ y most. omega arith) (λ y least most. omega arith),
        no_input n (flip_net n) (λ y most. omega arith) (λ y least most. omega arith),
      )

  pub controlled-ok : (steps : List Step) → 1 ≤ n → OccurrenceOk (after_alu n steps) (inputs n) (controlled n)
  unfolding subset assoc up_from
  controlled-ok steps some =
      record {
        distinct = duplicates-after-run (lines_net n) 6 three (λ y low high. not_three y low) ∙ three-distinct;
        fresh =
            disjoint-after-run (lines_net n) 6 three (inputs n)
            (λ y low high. no_input n y (λ x most. omega arith) (λ x least most. omega arith))
            ∙ three-fresh;
        bound =
            rw (
              low-input n 0 (omega arith),
              low-input n 1 some,
              low-input n n (omega arith),
              high-input n (op_net n) (omega arith) (omega arith),
              high-input n (suc (op_net n)) (omega arith) (omega arith),
              high-input n (suc (suc (op_net n))) (omega arith) (omega arith),
              high-input n (suc (suc (suc (op_net n)))) (omega arith) (omega arith),
            );
        reference = to_module control refl refl refl refl;
      }

  -- A cell.
  module _ (copied : ℕ) (steps : List Step) where
    cell-ok :
        {i : ℕ} {signals : List ℕ} → Ready n copied i signals → i < n
        → OccurrenceOk (after_alu n steps) signals (cell_at n copied i)
    unfolding duplicates disjoint subset member assoc
    cell-ok {i} {signals} ready more =
        let copy : 6 * min copied (i / 8 + 1) ≤ 6 * copied = omega arith in
        record {
          distinct =
              rw (
                ne_eqb (p_net n + i) (g_net n + i) (omega arith),
                ne_eqb (p_net n + i) (q_net n + i) (omega arith),
                ne_eqb (g_net n + i) (q_net n + i) (omega arith),
              );
          fresh =
              rw (
                ready.no_p (p_net n + i) (omega arith) (omega arith),
                ready.no_g (g_net n + i) (omega arith) (omega arith),
                ready.no_q (q_net n + i) (omega arith) (omega arith),
              );
          bound =
              rw (
                ready.low (1 + i) (omega arith),
                ready.low (2 + i) (omega arith),
                ready.low (b_net n + i) (omega arith),
              )
              (rw append-nil at
              (subset-after-run (lines_of n copied i) 6 [] signals (λ y low high. ready.lines y (omega arith) (omega arith))));
          reference = to_module cell refl refl (omega (arith, length-up_from (lines_of n copied i) 6)) refl;
        }

    pub cells-run :
        (Final : List ℕ → Type 0) (i count : ℕ) (signals : List ℕ) (rest : List Occurrence)
        → i + count ≡ n
        → Ready n copied i signals
        → ((new : List ℕ) → Ready n copied n new → Runs (after_alu n steps) Final new rest)
        → Runs (after_alu n steps) Final signals (cells n copied i count ++ rest)
    unfolding cells
    cells-run Final i zero signals rest whole ready then =
        let all : i ≡ n = omega arith in
        then signals (rw all at ready)
    cells-run Final i (suc count) signals rest whole ready then =
        next (cell-ok ready (omega arith))
        (cells-run Final (suc i) count _ rest (omega arith) (ready-cell n ready (omega arith)) then)

    -- The carries.
    pub ahead-ok : {signals : List ℕ} → Ready n copied n signals → OccurrenceOk (after_alu n steps) signals (carries_ahead n)
    unfolding subset assoc lookahead
    ahead-ok {signals} ready =
        record {
          distinct = duplicates-of-run (suc (carry_net n)) n;
          fresh = disjoint-run (suc (carry_net n)) n signals (λ y low high. ready.no_carry y (omega arith) (omega arith));
          bound =
              rw (ready.low (carry_net n) (omega arith))
              (rw append-nil at
              (subset-after-run (p_net n) (2 * n) [] signals (λ y low high. p-or-g ready y low (omega arith) (dec_lt y (g_net n)))));
          reference =
              to_module (lookahead n steps) refl refl
              (omega (arith, length-up_from (p_net n) (2 * n), length-up_from (n + 1) (2 * n)))
              (omega (arith, length-up_from (suc (carry_net n)) n, length-up_from 1 n));
        }
      where
        p-or-g :
            Ready n copied n signals → (y : ℕ) → p_net n ≤ y → y < q_net n → Dec (y < g_net n) → member y signals ≡ true
        p-or-g ready y low high (yes p) = ready.has_p y low (omega arith)
        p-or-g ready y low high (no g) = ready.has_g y (omega arith) (omega arith)
