-- The first occurrence of a module that breaks one of the rules 11 to 14, and what is at fault in it.
use Rattle.std.specs.Prelude.{ℕ, suc, ◌+◌, Bool, cond, List, [], ◌∷◌, ◌++◌, ltb, leb, length, drop}
use Rattle.meaning.specs.Syntax.{Occurrence, Module}
use Rattle.meaning.specs.Boxlist.{arity_okp}
use Rattle.meaning.specs.Calls.{Decision, refusal, answer}
use Rattle.meaning.specs.ListForm.{ListedModule}
use Rattle.meaning.specs.ListNumbers.{numbered}
use Rattle.meaning.specs.ListCall.{reading, most_text}
use Rattle.fault_parts.specs.Fronts.{new_front, known_front}
use Rattle.text_faults.specs.declared.Fault.{Fault}

-- What stands in an occurrence: the nets that it drives, what it refers to, its arguments.
abbrev pub entries : Occurrence → ℕ
entries o = length o.drives + 1 + length o.takes

-- By its counts, which of these is at fault, that is how many stand in front of it: a driven net where not all are new, an argument where not
-- all are known, what it refers to where that does not fit. All of them, if none is.
unfoldable pub entry_at_fault : (new driven known taken : ℕ) → (fit : Bool) → ℕ
entry_at_fault new driven known taken fit =
    cond (ltb new driven) new
    (cond (ltb known taken) (driven + 1 + known)
    (cond fit (driven + 1 + taken) driven))

-- Where the nets `signals` are inputs or driven earlier: 11 a driven net that is not new; 12 an argument that is not known; 13 and 14 what it
-- refers to.
unfoldable pub fault_in : Occurrence → (signals : List ℕ) → (later : List Module) → ℕ
fault_in o signals later =
    entry_at_fault (new_front o.drives signals) (length o.drives) (known_front o.takes signals) (length o.takes)
    (arity_okp o.refers o.takes o.drives later)

abbrev pub no_fault : (occurrence : ℕ) → Fault
no_fault occurrence = record { occurrence = occurrence; driven = 0; atom = 0 }

-- Occurrences in order, from one on.
unfoldable pub first_fault : (occurrence : ℕ) → List Occurrence → (signals : List ℕ) → (later : List Module) → Fault
first_fault i [] signals later = no_fault i
first_fault i (o ∷ os) signals later =
    cond (ltb (fault_in o signals later) (entries o))
    (record { occurrence = i; driven = length o.drives; atom = fault_in o signals later })
    (first_fault (suc i) os (o.drives ++ signals) later)

-- In the module at a position.
abbrev pub fault_at : List Module → Fault
fault_at [] = no_fault 0
fault_at (m ∷ later) = first_fault 0 m.occurrences m.inputs later

abbrev pub fault_of : Decision (List ListedModule) → (position : ℕ) → Fault
fault_of (refusal number place) position = no_fault 0
fault_of (answer ms) position = fault_at (drop position (numbered ms))

-- Of a text.
unfoldable pub text_fault : List ℕ → (position : ℕ) → Fault
text_fault text position = cond (leb (length text) most_text) (fault_of (reading text) position) (no_fault 0)
