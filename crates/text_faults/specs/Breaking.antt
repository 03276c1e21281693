-- What it means that an occurrence is at fault, in the words of the rules 11 to 14 (document 01, 'Refusal numbers'), and that it is the first of
-- its module.
use Rattle.std.specs.Prelude.{ℕ, ◌+◌, ◌⊎◌, ◌≡◌, List, [], ◌∷◌, ◌++◌, length, drop}
use Rattle.meaning.specs.Syntax.{Occurrence, Module}
use Rattle.meaning.specs.Members.{◌∈◌}
use Rattle.meaning.specs.Verdict.{good, body_verdict}
use Rattle.meaning.specs.Rules.{Unresolved, Mismatch}
use Rattle.text_faults.specs.declared.Fault.{Fault}

-- The entry of an occurrence that breaks a rule, by how many entries stand in front of it: the nets that it drives come first, then what it
-- refers to, then its arguments. The nets `signals` are inputs or driven earlier.
pub data Breaks (o : Occurrence) (signals : List ℕ) (later : List Module) : (number entry : ℕ) → Type 0 where
  driven_again :
      (front rest : List ℕ) (net : ℕ)
      → o.drives ≡ front ++ (net ∷ rest)
      → (net ∈ front) ⊎ (net ∈ signals)
      → Breaks o signals later 11 (length front)
  not_known :
      (front rest : List ℕ) (net : ℕ)
      → o.takes ≡ front ++ (net ∷ rest)
      → ¬ (net ∈ signals)
      → Breaks o signals later 12 (length o.drives + 1 + length front)
  unresolved : Unresolved o later → Breaks o signals later 13 (length o.drives)
  mismatched : Mismatch o later → Breaks o signals later 14 (length o.drives)

-- The nets that are known behind some occurrences.
unfoldable pub signals_behind : List Occurrence → (signals : List ℕ) → List ℕ
signals_behind [] signals = signals
signals_behind (o ∷ os) signals = signals_behind os (o.drives ++ signals)

-- The fault is that of the first of these occurrences that breaks a rule, and the rule is the number's. So many stand in front of them all.
pub record FirstOf (passed place : ℕ) (os : List Occurrence) (signals : List ℕ) (later : List Module) (number : ℕ) (f : Fault) : Type 0 where
  pub before : List Occurrence
  pub o : Occurrence
  pub behind : List Occurrence
  pub are : os ≡ before ++ (o ∷ behind)
  pub occurrence : f.occurrence ≡ passed + length before
  pub driven : f.driven ≡ length o.drives
  pub fine : body_verdict place before signals later ≡ good
  pub breaks : Breaks o (signals_behind before signals) later number f.atom

-- In the module at a position.
pub record FirstAt (ms : List Module) (number position : ℕ) (f : Fault) : Type 0 where
  pub m : Module
  pub later : List Module
  pub at : drop position ms ≡ m ∷ later
  pub first : FirstOf 0 position m.occurrences m.inputs later number f
