-- Four-input gates withdrawn (document 02, M-109): a strict check that refuses the gates which the maker no longer builds, and a rewriting
-- that turns a file into one that the strict check passes. The ordinary calls still take files that use them.
use Rattle.std.specs.Prelude.{ℕ, suc, Bool, true, false, not, ◌&&◌, ◌||◌, cond, List, [], ◌∷◌, ◌++◌, map, eqb, leb, length, get_or, take, drop}
use Rattle.meaning.specs.Syntax.{Occurrence, Module}
use Rattle.meaning.specs.Boxlist.{member}
use Rattle.meaning.specs.Layout.{encode}
use Rattle.meaning.specs.Limits.{nets_ok}
use Rattle.meaning.specs.Reading.{File, holds, fails, read, most_bytes, most_occurrences}
use Rattle.meaning.specs.Verdict.{Verdict, good, refused, keep, and_then, sizes_verdict, file_verdict}
use Rattle.meaning.specs.Adder.{up_from}
use Rattle.meaning.specs.Calls.{Decision, demand, if_good, on_file, Written, fitting}

-- B-NAND4, B-OR4, B-AND4 and B-NOR4.
unfoldable pub withdrawn : ℕ → Bool
withdrawn kind = eqb kind 4 || (eqb kind 7 || (eqb kind 12 || eqb kind 15))

-- Whether an occurrence refers to one of them.
unfoldable pub any_withdrawn : List Occurrence → Bool
any_withdrawn [] = false
any_withdrawn (o ∷ os) = withdrawn o.refers || any_withdrawn os

-- 28: a module uses one, whether anything reaches it or not; the place is the position of the first such.
unfoldable pub withdrawn_verdict : (place : ℕ) → List Module → Verdict
withdrawn_verdict place [] = good
withdrawn_verdict place (m ∷ later) = keep 28 place (not (any_withdrawn m.occurrences)) (withdrawn_verdict (suc place) later)

-- The strict check: 1 to 17, then 28.
abbrev pub strict_of : File → Verdict
strict_of (holds ms) = and_then (file_verdict ms) (withdrawn_verdict 0 ms)
strict_of (fails number place) = refused number place

unfoldable pub strict_verdict : (file : List ℕ) → Verdict
strict_verdict file = strict_of (read file)

-- The two-input gate that takes a pair of the arguments: B-OR for B-OR4 and B-NOR4, else B-AND;
unfoldable pub pair_kind : ℕ → ℕ
pair_kind kind = cond (eqb kind 7 || eqb kind 15) 5 10

-- and the two-input gate of the same kind: B-NAND, B-OR, B-AND, B-NOR.
unfoldable pub two_kind : ℕ → ℕ
two_kind kind = cond (eqb kind 4) 2 (cond (eqb kind 7) 5 (cond (eqb kind 12) 10 13))

-- In place of the gate: the first two arguments on the first new net, the last two on the second, then the gate of the same kind on
-- these, which drives the original net.
unfoldable pub three_gates : (first second : ℕ) → Occurrence → List Occurrence
three_gates first second o =
    record { drives = first ∷ []; refers = pair_kind o.refers; takes = take 2 o.takes }
    ∷ record { drives = second ∷ []; refers = pair_kind o.refers; takes = drop 2 o.takes }
    ∷ record { drives = o.drives; refers = two_kind o.refers; takes = first ∷ second ∷ [] }
    ∷ []

-- Occurrences in order, each gate that is replaced with the next two of the new nets.
unfoldable pub rewrite_body : (fresh : List ℕ) → List Occurrence → List Occurrence
rewrite_body fresh [] = []
rewrite_body fresh (o ∷ os) =
    cond (withdrawn o.refers)
    (three_gates (get_or fresh 0 0) (get_or fresh 1 0) o ++ rewrite_body (drop 2 fresh) os)
    (o ∷ rewrite_body fresh os)

-- The nets that stand in a module, anywhere in it.
unfoldable pub body_nets : List Occurrence → List ℕ
body_nets [] = []
body_nets (o ∷ os) = o.drives ++ (o.takes ++ body_nets os)

unfoldable pub mentioned : Module → List ℕ
mentioned m = m.inputs ++ (m.outputs ++ body_nets m.occurrences)

-- The numbers of a list that are not among others.
unfoldable pub without : (others : List ℕ) → List ℕ → List ℕ
without others [] = []
without others (x ∷ xs) = cond (member x others) (without others xs) (x ∷ without others xs)

-- The numbers unused in a module, the lowest first. In a module that passes the check there are enough of them.
unfoldable pub unused : Module → List ℕ
unused m = without (mentioned m) (up_from 0 16384)

unfoldable pub rewrite_module : Module → Module
rewrite_module m =
    record {
      number = m.number;
      inputs = m.inputs;
      outputs = m.outputs;
      occurrences = rewrite_body (unused m) m.occurrences;
    }

unfoldable pub rewrite_file : List Module → List Module
rewrite_file ms = map rewrite_module ms

-- The ceilings that the new file can break: 4 more than 4,096 occurrences in a module;
unfoldable pub occurrences_ok : List Module → Bool
occurrences_ok [] = true
occurrences_ok (m ∷ later) = leb (length m.occurrences) most_occurrences && occurrences_ok later

-- 16 more than 4,096 nets in a module, at the first such; 17 is that of the check.
unfoldable pub nets_verdict : (place : ℕ) → List Module → Verdict
nets_verdict place [] = good
nets_verdict place (m ∷ later) = keep 16 place (nets_ok m) (nets_verdict (suc place) later)

-- 4, 16, 17 and 1 for the new file in that order, each over the whole file before the next; then 22.
abbrev pub rewritten : (out : ℕ) (new : List Module) → Decision Written
rewritten out new =
    demand 4 0 (occurrences_ok new)
    (if_good (nets_verdict 0 new)
    (if_good (sizes_verdict 0 new)
    (demand 1 0 (leb (length (encode new)) most_bytes)
    (fitting (encode new) 0 out))))

-- Rewriting: 1 to 17; then what the new file comes to.
unfoldable pub rewriting : (file : List ℕ) (out : ℕ) → Decision Written
rewriting file out = on_file file (λ ms. rewritten out (rewrite_file ms))
