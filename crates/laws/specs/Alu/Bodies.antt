-- The body of module 48 passes the check, and drives the outputs. For any width, any count of copies and any steps that go over the
-- width.
use Prim.Native.Nat.{ℕ, suc, ◌+◌, ◌*◌, ◌<◌, ◌≤◌}
use Rattle.std.specs.Prelude.{◌≡◌}
use Rattle.std.proofs.Math.Path.{refl}
use Rattle.std.proofs.Math.Bool.{true, false}
use mathlib.Core.List.{List, [], ◌∷◌, ◌++◌, append-nil}
use Rattle.std.proofs.Math.Decide.{dec_lt}
use Rattle.std.proofs.Common.{arith}
use Rattle.meaning.specs.Gates.{gate, gates}
use Rattle.meaning.specs.Boxlist.{member, subset}
use Rattle.meaning.specs.Limits.{driven}
use Rattle.meaning.specs.Adder.{up_from}
use Rattle.meaning.specs.Counter.{XOR}
use Rattle.meaning.specs.FastAdder.{Step}
use Rattle.meaning.specs.Alu.{carry_net, q_net, out_net, result_net, flip_net, lines_net, alu_module}
use Rattle.laws.specs.WellFormed.{Body}
use Rattle.laws.specs.Adder.Distinct.{member-cons, subset-after-run}
use Rattle.laws.specs.FastAdder.Runs.{Runs, ends, next, runs-body, runs_drive, not_behind, behind}
use Rattle.laws.specs.FastAdder.GateRows.{Added, run-added, gate-ok, row-runs}
use Rattle.laws.specs.Alu.Signals.{inputs, no_input, Ready, ready-first, ready-copied}
use Rattle.laws.specs.Alu.Copies.{copies-run}
use Rattle.laws.specs.Alu.Occurrences.{after_alu, controlled-ok, cells-run, ahead-ok}

module _ (n copied : ℕ) (steps : List Step) where
  module _ (some : 1 ≤ n) where
    alu-runs :
        (Final : List ℕ → Type 0)
        → ((new : List ℕ) → ((x : ℕ) → out_net n ≤ x → x < flip_net n → member x new ≡ true) → Final new)
        → Runs (after_alu n steps) Final (inputs n) (alu_module n copied).occurrences
    unfolding alu_module gate gates
    alu-runs Final then =
        next (controlled-ok n steps some)
        (copies-run (after_alu n steps) Final (lines_net n) (lines_net n + 6) copied _ _
        (λ x low high. (ready-first n).lines x (omega arith) (omega arith))
        (λ x low high. (ready-first n).no_copy x (omega arith))
        (λ copied-nets copies.
        cells-run n copied steps Final 0 n copied-nets _ (omega arith) (ready-copied n (ready-first n) copies) (λ nets ready.
        let carries = run-added (suc (carry_net n)) n nets in
        let with-carries = up_from (suc (carry_net n)) n ++ nets in
        let out : (x : ℕ) → out_net n ≤ x → x < flip_net n → member x with-carries ≡ false =
        λ x low high. carries.other x (λ y least most. omega arith) (ready.no_out x low high)
        in
        let last : (x : ℕ) → 2 * n + 6 ≤ x → x < 3 * n + 7 → member x with-carries ≡ true =
        λ x low high. go nets ready x low high (dec_lt (carry_net n) x)
        in
        let with-carry = out_net n ∷ with-carries in
        let with-both = suc (out_net n) ∷ with-carry in
        next (ahead-ok n copied steps ready)
        (next
        (gate-ok (after_alu n steps) Final XOR refl refl (out_net n) (3 * n + 6) (flip_net n) with-carries
        (last (3 * n + 6) (omega arith) (omega arith))
        (carries.kept (flip_net n) (ready.lines (flip_net n) (omega arith) (omega arith)))
        (out (out_net n) (omega arith) (omega arith)))
        (next
        (gate-ok (after_alu n steps) Final XOR refl refl (suc (out_net n)) (3 * n + 6) (3 * n + 5) with-carry
        (behind (3 * n + 6) (out_net n) with-carries (last (3 * n + 6) (omega arith) (omega arith)))
        (behind (3 * n + 5) (out_net n) with-carries (last (3 * n + 5) (omega arith) (omega arith)))
        (not_behind (suc (out_net n)) (out_net n) with-carries (omega arith) (out (suc (out_net n)) (omega arith) (omega arith))))
        (rw append-nil at
        (row-runs (after_alu n steps) Final XOR refl refl (result_net n) (q_net n) (carry_net n) n with-both []
        (λ x low high.
        behind x (suc (out_net n)) with-carry
        (behind x (out_net n) with-carries (carries.kept x (ready.has_q x low high))))
        (λ x low high.
        behind x (suc (out_net n)) with-carry (behind x (out_net n) with-carries (last x low (omega arith))))
        (λ x low high.
        not_behind x (suc (out_net n)) with-carry (omega arith)
        (not_behind x (out_net n) with-carries (omega arith) (out x (omega arith) (omega arith))))
        (λ all results.
        ends (then all (λ x low high. at_out with-carries results x low high (dec_lt x (result_net n)) (dec_lt (out_net n) x)))))))))))
      where
        go : (nets : List ℕ) → Ready n copied n nets → (x : ℕ) → 2 * n + 6 ≤ x → x < 3 * n + 7 → Dec (carry_net n < x)
            → member x (up_from (suc (carry_net n)) n ++ nets) ≡ true
        go nets ready x low high (yes above) = (run-added (suc (carry_net n)) n nets).added x above (omega arith)
        go nets ready x low high (no first) = (run-added (suc (carry_net n)) n nets).kept x (ready.low x (omega arith))

        at_out :
            {all : List ℕ} (nets : List ℕ) → Added (result_net n) n (suc (out_net n) ∷ out_net n ∷ nets) all
            → (x : ℕ) → out_net n ≤ x → x < flip_net n → Dec (x < result_net n) → Dec (out_net n < x)
            → member x all ≡ true
        at_out nets results x low high (no result) d = results.added x (omega arith) (omega arith)
        at_out nets results x low high (yes early) (yes second) =
            results.kept x (member-cons x (suc (out_net n)) _ (λ other. absurd (other (omega arith))))
        at_out nets results x low high (yes early) (no first) =
            results.kept x
            (behind x (suc (out_net n)) _ (member-cons x (out_net n) nets (λ other. absurd (other (omega arith)))))

    pub alu-body : Body (after_alu n steps) (inputs n) (alu_module n copied).occurrences
    alu-body = runs-body (alu-runs (λ new. Unit {0}) (λ new held. tt))

    pub alu-drives : subset (up_from (out_net n) (n + 2)) (driven (alu_module n copied).occurrences) ≡ true
    unfolding subset
    alu-drives =
        rw append-nil at
        (subset-after-run (out_net n) (n + 2) [] (driven (alu_module n copied).occurrences) (λ x low high.
        runs_drive x (no_input n x (λ y most. omega arith) (λ y least most. omega arith))
        (alu-runs (λ new. member x new ≡ true) (λ new held. held x low (omega arith)))))
