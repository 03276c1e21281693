-- What a refusal can be: its number is one of 6 to 17, and its place is the position of a module.
use Rattle.std.specs.Prelude.{ℕ, suc, ◌+◌, ◌≤◌, ◌<◌, ◌≡◌, List, [], ◌∷◌, ◌++◌, length}
use native.Mathlib.Omega.{arith}
use Rattle.meaning.specs.Syntax.{Occurrence, Module}
use Rattle.meaning.specs.Verdict.{refused, file_verdict}
use Rattle.meaning.specs.Rules.{rule, occurrence_rules, module_rules, modules_rules, size_rules, file_rules, Outcome, broken, kept}
use Rattle.laws.specs.Outcomes.{refused-either}
use Rattle.laws.specs.Refusals.{verdict-outcome}

-- A refusal of a list of so many modules.
pub record InRange (modules number place : ℕ) : Type 0 where
  pub least : 6 ≤ number
  pub most : number ≤ 17
  pub position : place < modules

module _ (k : ℕ) where
  occurrences_range :
      {n q : ℕ} (p : ℕ) (os : List Occurrence) (signals : List ℕ) (later : List Module)
      → p < k
      → Outcome (occurrence_rules p os signals later) (refused n q)
      → InRange k n q
  unfolding occurrence_rules
  occurrences_range p [] signals later h o = elim o [ ]
  occurrences_range p (o ∷ os) signals later h (broken b) = omega arith
  occurrences_range p (o ∷ os) signals later h (kept _ (broken b)) = omega arith
  occurrences_range p (o ∷ os) signals later h (kept _ (kept _ (broken b))) = omega arith
  occurrences_range p (o ∷ os) signals later h (kept _ (kept _ (kept _ (broken b)))) = omega arith
  occurrences_range p (o ∷ os) signals later h (kept _ (kept _ (kept _ (kept _ r)))) =
      occurrences_range p os (o.drives ++ signals) later h r

  module_range :
      {n q : ℕ} (p : ℕ) (m : Module) (later : List Module)
      → p < k
      → Outcome (module_rules p m later) (refused n q)
      → InRange k n q
  unfolding module_rules
  module_range p m later h (broken b) = omega arith
  module_range p m later h (kept _ (broken b)) = omega arith
  module_range p m later h (kept _ (kept _ (broken b))) = omega arith
  module_range p m later h (kept _ (kept _ (kept _ (broken b)))) = omega arith
  module_range p m later h (kept _ (kept _ (kept _ (kept _ (broken b))))) = omega arith
  module_range p m later h (kept _ (kept _ (kept _ (kept _ (kept _ o))))) =
      refused-either (occurrence_rules p m.occurrences m.inputs later) _
      (occurrences_range p m.occurrences m.inputs later h)
      last
      o
    where
      last : {n q : ℕ} {A B : Type 0} → Outcome (rule 15 p A ∷ rule 16 p B ∷ []) (refused n q) → InRange k n q
      last (broken b) = omega arith
      last (kept _ (broken b)) = omega arith
      last (kept _ (kept _ o)) = elim o [ ]

  modules_range :
      {n q : ℕ} (p : ℕ) (ms : List Module) → p + length ms ≤ k → Outcome (modules_rules p ms) (refused n q) → InRange k n q
  unfolding modules_rules
  modules_range p [] h o = elim o [ ]
  modules_range p (m ∷ later) h o =
      refused-either (module_rules p m later) (modules_rules (suc p) later)
      (module_range p m later (omega arith))
      (modules_range (suc p) later (omega arith))
      o

  sizes_range :
      {n q : ℕ} (p : ℕ) (ms : List Module) → p + length ms ≤ k → Outcome (size_rules p ms) (refused n q) → InRange k n q
  unfolding size_rules
  sizes_range p [] h o = elim o [ ]
  sizes_range p (m ∷ later) h o = refused-either (size_rules (suc p) later) _ (sizes_range (suc p) later (omega arith)) last o
    where
      last : {n q : ℕ} {A : Type 0} → Outcome (rule 17 p A ∷ []) (refused n q) → InRange k n q
      last (broken b) = omega arith
      last (kept _ o) = elim o [ ]

pub refusal_in_range : (ms : List Module) {n p : ℕ} → file_verdict ms ≡ refused n p → InRange (length ms) n p
unfolding file_rules
refusal_in_range ms {n} {p} e =
    refused-either (modules_rules 0 ms) (size_rules 0 ms)
    (modules_range (length ms) 0 ms (omega arith))
    (sizes_range (length ms) 0 ms (omega arith))
    ((verdict-outcome ms (refused n p)).0 e)
