-- The check: which one refusal of 1 to 17 a file gets, and where (document 01, 'Refusal numbers').
use Rattle.std.specs.Prelude.{ℕ, suc, Bool, true, false, not, ◌&&◌, ◌||◌, List, [], ◌∷◌, ◌++◌}
use Rattle.meaning.specs.Syntax.{Occurrence, Module}
use Rattle.meaning.specs.Gates.{is_gate}
use Rattle.meaning.specs.Boxlist.{disjoint, duplicates, subset, assoc, is_box, arity_okp}
use Rattle.meaning.specs.Limits.{driven, number_ok, nets_ok, size_ok}
use Rattle.meaning.specs.Reading.{File, holds, fails, read}

pub data Verdict : Type 0 where
  good : Verdict
  refused : (number place : ℕ) → Verdict

-- A rule that is kept leads on to the next, a broken one ends all.
abbrev pub keep : (number place : ℕ) → Bool → Verdict → Verdict
keep number place true next = next
keep number place false next = refused number place

-- The first verdict that refuses.
abbrev pub and_then : Verdict → Verdict → Verdict
and_then good next = next
and_then (refused number place) next = refused number place

-- An occurrence in the module at a place, where the nets `signals` are inputs or driven earlier: 11 it drives a net twice, or an
-- input, or a net already driven; 12 an argument is neither input nor driven earlier; 13 it refers to no gate and no later
-- module; 14 the count of arguments or driven nets doesn't match.
unfoldable pub occurrence_verdict : (place : ℕ) → Occurrence → (signals : List ℕ) → (later : List Module) → Verdict
occurrence_verdict place o signals later =
    keep 11 place (not (duplicates o.drives) && disjoint o.drives signals)
    (keep 12 place (subset o.takes signals)
    (keep 13 place (is_gate o.refers || is_box (assoc o.refers later))
    (keep 14 place (arity_okp o.refers o.takes o.drives later)
    good)))

-- Occurrences in order.
unfoldable pub body_verdict : (place : ℕ) → List Occurrence → (signals : List ℕ) → (later : List Module) → Verdict
body_verdict place [] signals later = good
body_verdict place (o ∷ os) signals later =
    and_then (occurrence_verdict place o signals later) (body_verdict place os (o.drives ++ signals) later)

-- A module at a place, in front of the later ones: 6 number under 16; 7 same number on a later module; 8 an input listed twice;
-- 9 an output listed twice; 10 a net both input and output; its occurrences; 15 an output is not driven; 16 more than 4,096 nets.
unfoldable pub module_verdict : (place : ℕ) → Module → (later : List Module) → Verdict
module_verdict place m later =
    keep 6 place (number_ok m)
    (keep 7 place (not (is_box (assoc m.number later)))
    (keep 8 place (not (duplicates m.inputs))
    (keep 9 place (not (duplicates m.outputs))
    (keep 10 place (disjoint m.inputs m.outputs)
    (and_then (body_verdict place m.occurrences m.inputs later)
    (keep 15 place (subset m.outputs (driven m.occurrences))
    (keep 16 place (nets_ok m)
    good)))))))

-- Modules from first to last; the place is the module's position from 0.
unfoldable pub modules_verdict : (place : ℕ) → List Module → Verdict
modules_verdict place [] = good
modules_verdict place (m ∷ later) = and_then (module_verdict place m later) (modules_verdict (suc place) later)

-- Then expanded size, from the last module to the first: 17 over 65,535, at the first position so met.
unfoldable pub sizes_verdict : (place : ℕ) → List Module → Verdict
sizes_verdict place [] = good
sizes_verdict place (m ∷ later) = and_then (sizes_verdict (suc place) later) (keep 17 place (size_ok m later) good)

unfoldable pub file_verdict : List Module → Verdict
file_verdict ms = and_then (modules_verdict 0 ms) (sizes_verdict 0 ms)

-- Reading comes first, over the whole file.
abbrev pub verdict_of : File → Verdict
verdict_of (holds ms) = file_verdict ms
verdict_of (fails number place) = refused number place

unfoldable pub verdict : List ℕ → Verdict
verdict bytes = verdict_of (read bytes)
