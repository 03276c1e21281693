-- Copies of the control lines pass the check where the lines are there and the nets of the copies are not.
use Prim.Native.Nat.{ℕ, zero, suc, ◌+◌, ◌*◌, ◌<◌, ◌≤◌}
use Rattle.std.specs.Prelude.{◌≡◌, true, false, List, ◌∷◌, ◌++◌}
use Rattle.std.proofs.Math.Path.{refl}
use Rattle.std.proofs.Common.{append_assoc}
use native.Mathlib.Omega.{arith}
use Rattle.meaning.specs.Syntax.{Occurrence, Module}
use Rattle.meaning.specs.Gates.{gate, gates}
use Rattle.meaning.specs.Boxlist.{member, disjoint, duplicates, subset}
use Rattle.meaning.specs.Alu.{gate_on1, BUF, copy_row, copies}
use Rattle.laws.specs.WellFormed.{to_gate, OccurrenceOk}
use Rattle.laws.specs.FastAdder.Runs.{Runs, next, behind, not_behind}
use Rattle.laws.specs.FastAdder.GateRows.{Added, added-both, added-first}

none-added : (first : ℕ) (signals : List ℕ) → Added first 0 signals signals
none-added first signals =
    record { kept = λ x held. held; other = λ x apart out. out; added = λ x low high. absurd (omega arith) }

module _ (later : List Module) (Final : List ℕ → Type 0) where
  buffer_ok :
      (net a : ℕ) (signals : List ℕ)
      → member a signals ≡ true
      → member net signals ≡ false
      → OccurrenceOk later signals (gate_on1 net BUF a)
  unfolding duplicates disjoint subset member gate gates
  buffer_ok net a signals on-a out =
      record { distinct = refl; fresh = rw out; bound = rw on-a; reference = to_gate refl refl refl }

  row-runs :
      (net a count : ℕ) (signals : List ℕ) (rest : List Occurrence)
      → ((x : ℕ) → a ≤ x → x < a + count → member x signals ≡ true)
      → ((x : ℕ) → net ≤ x → x < net + count → member x signals ≡ false)
      → ((new : List ℕ) → Added net count signals new → Runs later Final new rest)
      → Runs later Final signals (copy_row net a count ++ rest)
  unfolding copy_row
  row-runs net a zero signals rest on-a fresh then = then signals (none-added net signals)
  row-runs net a (suc count) signals rest on-a fresh then =
      next
      (buffer_ok net a signals (on-a a (omega arith) (omega arith)) (fresh net (omega arith) (omega arith)))
      (row-runs (suc net) (suc a) count (net ∷ signals) rest
      (λ x low high. behind x net signals (on-a x (omega arith) (omega arith)))
      (λ x low high. not_behind x net signals (omega arith) (fresh x (omega arith) (omega arith)))
      (λ new rest-added. then new (added-first rest-added)))

  pub copies-run :
      (lines net count : ℕ) (signals : List ℕ) (rest : List Occurrence)
      → ((x : ℕ) → lines ≤ x → x < lines + 6 → member x signals ≡ true)
      → ((x : ℕ) → net ≤ x → x < net + 6 * count → member x signals ≡ false)
      → ((new : List ℕ) → Added net (6 * count) signals new → Runs later Final new rest)
      → Runs later Final signals (copies lines net count ++ rest)
  unfolding copies
  copies-run lines net zero signals rest on-lines fresh then = then signals (none-added net signals)
  copies-run lines net (suc count) signals rest on-lines fresh then =
      let more : 6 + 6 * count ≡ 6 * suc count = omega arith in
      rw (append_assoc (copy_row net lines 6) (copies lines (net + 6) count) rest)
      (row-runs net lines 6 signals (copies lines (net + 6) count ++ rest) on-lines
      (λ x low high. fresh x low (omega arith))
      (λ mid first.
      copies-run lines (net + 6) count mid rest
      (λ x low high. first.kept x (on-lines x low high))
      (λ x low high. first.other x (λ y least most. omega arith) (fresh x (omega arith) (omega arith)))
      (λ new others. then new (rw more at (added-both refl first others)))))
