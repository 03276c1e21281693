-- A row of the same gate at each bit passes the check where its arguments are there and its nets are not.
use Prim.Native.Nat.{ℕ, zero, suc, ◌+◌, ◌<◌, ◌≤◌}
use Rattle.std.specs.Prelude.{◌≡◌, true, false, List, ◌∷◌, ◌++◌}
use Rattle.std.proofs.Math.Path.{refl}
use Rattle.std.proofs.Math.Bool.{or-true}
use Rattle.std.proofs.Math.Decide.{ℕ_discrete, dec_lt}
use Rattle.std.proofs.Common.{arith}
use Rattle.meaning.specs.Syntax.{Occurrence, Module}
use Rattle.meaning.specs.Gates.{is_gate, gate}
use Rattle.meaning.specs.Boxlist.{member, disjoint, duplicates, subset}
use Rattle.meaning.specs.Adder.{up_from}
use Rattle.meaning.specs.Counter.{gate_on}
use Rattle.meaning.specs.FastAdder.{gate_row}
use Rattle.laws.specs.WellFormed.{to_gate, OccurrenceOk}
use Rattle.laws.specs.Adder.Distinct.{member-cons, member-append, member-of-run, not_of-run}
use Rattle.laws.specs.FastAdder.Runs.{Runs, next, behind, not_behind}

-- A run of nets has been added, and no other.
pub record Added (first count : ℕ) (old new : List ℕ) : Type 0 where
  pub kept : (net : ℕ) → member net old ≡ true → member net new ≡ true
  pub other : (net : ℕ) → ((i : ℕ) → first ≤ i → i < first + count → net ≡ i → ⊥) → member net old ≡ false → member net new ≡ false
  pub added : (net : ℕ) → first ≤ net → net < first + count → member net new ≡ true

pub run-added : (first count : ℕ) (old : List ℕ) → Added first count old (up_from first count ++ old)
run-added first count old =
    record {
      kept = λ net held. rw (member-append net (up_from first count) old, held, or-true (member net (up_from first count)));
      other = λ net apart out. rw (member-append net (up_from first count) old, not_of-run net first count apart) out;
      added = λ net low high. rw (member-append net (up_from first count) old, member-of-run net first count low high);
    }

pub added-both :
    {first middle a b : ℕ} {old mid new : List ℕ}
    → first + a ≡ middle
    → Added first a old mid
    → Added middle b mid new
    → Added first (a + b) old new
added-both {first} {middle} {a} {b} {old} {mid} {new} meet low_part high_part =
    record {
      kept = λ net held. high_part.kept net (low_part.kept net held);
      other = λ net apart out.
          high_part.other net (λ i low high. apart i (omega arith) (omega arith))
          (low_part.other net (λ i low high. apart i (omega arith) (omega arith)) out);
      added = λ net low high. go net low high (dec_lt net middle);
    }
  where
    go : (net : ℕ) → first ≤ net → net < first + (a + b) → Dec (net < middle) → member net new ≡ true
    go net low high (yes below) = high_part.kept net (low_part.added net low (omega arith))
    go net low high (no above) = high_part.added net (omega arith) (omega arith)

pub added-first : {first count : ℕ} {old new : List ℕ} → Added (suc first) count (first ∷ old) new → Added first (suc count) old new
added-first {first} {count} {old} {new} rest =
    record {
      kept = λ net held. rest.kept net (behind net first old held);
      other = λ net apart out.
          rest.other net (λ i low high. apart i (omega arith) (omega arith))
          (not_behind net first old (apart first (omega arith) (omega arith)) out);
      added = λ net low high. go net low high (ℕ_discrete net first);
    }
  where
    go : (net : ℕ) → first ≤ net → net < first + suc count → Dec (net ≡ first) → member net new ≡ true
    go net low high (yes same) = rest.kept net (member-cons net first old (λ other. absurd (other same)))
    go net low high (no other) = rest.added net (omega arith) (omega arith)

-- A row of the same gate of two arguments.
module _ (later : List Module) (Final : List ℕ → Type 0) (kind : ℕ) (is-gate : is_gate kind ≡ true) (two : (gate kind).arity ≡ 2) where
  pub gate-ok :
      (net a b : ℕ) (signals : List ℕ)
      → member a signals ≡ true
      → member b signals ≡ true
      → member net signals ≡ false
      → OccurrenceOk later signals (gate_on net kind a b)
  unfolding duplicates disjoint subset member
  gate-ok net a b signals on-a on-b out =
      record { distinct = refl; fresh = rw out; bound = rw (on-a, on-b); reference = to_gate is-gate two refl }

  pub row-runs :
      (net a b count : ℕ) (signals : List ℕ) (rest : List Occurrence)
      → ((x : ℕ) → a ≤ x → x < a + count → member x signals ≡ true)
      → ((x : ℕ) → b ≤ x → x < b + count → member x signals ≡ true)
      → ((x : ℕ) → net ≤ x → x < net + count → member x signals ≡ false)
      → ((new : List ℕ) → Added net count signals new → Runs later Final new rest)
      → Runs later Final signals (gate_row kind net a b count ++ rest)
  unfolding gate_row
  row-runs net a b zero signals rest on-a on-b fresh then =
      then signals
      (record { kept = λ x held. held; other = λ x apart out. out; added = λ x low high. absurd (omega arith) })
  row-runs net a b (suc count) signals rest on-a on-b fresh then =
      next
      (gate-ok net a b signals (on-a a (omega arith) (omega arith)) (on-b b (omega arith) (omega arith))
      (fresh net (omega arith) (omega arith)))
      (row-runs (suc net) (suc a) (suc b) count (net ∷ signals) rest
      (λ x low high. behind x net signals (on-a x (omega arith) (omega arith)))
      (λ x low high. behind x net signals (on-b x (omega arith) (omega arith)))
      (λ x low high. not_behind x net signals (omega arith) (fresh x (omega arith) (omega arith)))
      (λ new rest-added. then new (added-first rest-added)))
