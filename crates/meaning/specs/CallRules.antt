-- The calls beside the rules that they keep (document 01, 'Refusal numbers'): each call with the buffers that are lent to it, what it
-- comes to and what it leaves in them, and refusals 18 to 27 as rules in their order, each with its place and what breaks it.
use Rattle.std.specs.Prelude.{ℕ, suc, ◌+◌, ◌*◌, ◌<◌, ◌⊎◌, ◌≢◌, List, [], ◌∷◌, ◌++◌, length}
use Rattle.meaning.specs.Syntax.{Module}
use Rattle.meaning.specs.Values.{floating}
use Rattle.meaning.specs.Members.{◌∈◌}
use Rattle.meaning.specs.Boxlist.{assoc}
use Rattle.meaning.specs.Layout.{encode}
use Rattle.meaning.specs.Ceilings.{Encodes}
use Rattle.meaning.specs.Limits.{most_module_nets}
use Rattle.meaning.specs.Verdict.{Verdict, good, refused, verdict}
use Rattle.meaning.specs.Rules.{Rule, rule, numbers, file_rules, Outcome}
use Rattle.meaning.specs.Refusals.{FileRefusal}
use Rattle.meaning.specs.Figures.{gate_count, room, input_count, output_count}
use Rattle.meaning.specs.Flattening.{flat_module}
use Rattle.meaning.specs.Calls.{Decision, refusal, answer, Written, out_after, scratch_after, evaluation, flattening, counting}
use Rattle.meaning.specs.Rows.{most_rows, rows_evaluation}

-- The calls on a file.
pub data Call : Type 0 where
  to_check : Call
  to_evaluate : (number : ℕ) (values : List ℕ) → Call
  to_count : (number : ℕ) → Call
  to_flatten : (number : ℕ) → Call
  to_rows : (number rows : ℕ) (values : List ℕ) → Call

-- The buffers that a caller lends; a call that has no use for one leaves it.
pub record Lent : Type 0 where
  pub scratch : List ℕ
  pub out : List ℕ

-- Refused, or answered, whatever the answer.
abbrev pub came : {R : Type 0} → Decision R → Verdict
came (refusal number place) = refused number place
came (answer r) = good

unfoldable pub comes_to : (file : List ℕ) → Call → Lent → Verdict
comes_to file to_check lent = verdict file
comes_to file (to_evaluate number values) lent = came (evaluation file number values (length lent.scratch) (length lent.out))
comes_to file (to_count number) lent = came (counting file number (length lent.scratch))
comes_to file (to_flatten number) lent = came (flattening file number (length lent.scratch) (length lent.out))
comes_to file (to_rows number rows values) lent = came (rows_evaluation file number rows values (length lent.scratch) (length lent.out))

-- What a call leaves in the buffers.
abbrev pub lent_after : Decision Written → Lent → Lent
lent_after decision lent =
    record { scratch = scratch_after (λ w. w.cleared) decision lent.scratch; out = out_after decision lent.out }

unfoldable pub leaves : (file : List ℕ) → Call → Lent → Lent
leaves file to_check lent = lent
leaves file (to_evaluate number values) lent =
    lent_after (evaluation file number values (length lent.scratch) (length lent.out)) lent
leaves file (to_count number) lent =
    record { scratch = scratch_after (λ f. f.room) (counting file number (length lent.scratch)) lent.scratch; out = lent.out }
leaves file (to_flatten number) lent = lent_after (flattening file number (length lent.scratch) (length lent.out)) lent
leaves file (to_rows number rows values) lent =
    lent_after (rows_evaluation file number rows values (length lent.scratch) (length lent.out)) lent

-- 20: a value above 3; the place is its index.
unfoldable pub value_rules : (index : ℕ) → List ℕ → List Rule
value_rules index [] = []
value_rules index (x ∷ xs) = rule 20 index (floating < x) ∷ value_rules (suc index) xs

-- Evaluation uses 18, 19, 20, 21, 22; counts 18, 21; flattening 18, 24, 21, 22; a block of rows 18, 27, 19, 20, 21, 22.
unfoldable pub call_rules : Call → Lent → List Module → List Rule
call_rules to_check lent ms = []
call_rules (to_evaluate number values) lent ms =
    rule 18 0 (¬ (number ∈ numbers ms))
    ∷ rule 19 0 (length values ≢ input_count (assoc number ms))
    ∷ (value_rules 0 values
    ++ (rule 21 0 (length lent.scratch < room ms number)
    ∷ rule 22 0 (length lent.out < output_count (assoc number ms))
    ∷ []))
call_rules (to_count number) lent ms =
    rule 18 0 (¬ (number ∈ numbers ms))
    ∷ rule 21 0 (length lent.scratch < room ms number)
    ∷ []
call_rules (to_flatten number) lent ms =
    let inputs = input_count (assoc number ms) in
    rule 18 0 (¬ (number ∈ numbers ms))
    ∷ rule 24 0 (most_module_nets < inputs + gate_count ms number)
    ∷ rule 21 0 (length lent.scratch < room ms number)
    ∷ rule 22 0 (length lent.out < length (encode (flat_module ms number inputs ∷ [])))
    ∷ []
call_rules (to_rows number rows values) lent ms =
    rule 18 0 (¬ (number ∈ numbers ms))
    ∷ rule 27 0 (most_rows < rows)
    ∷ rule 19 0 (length values ≢ rows * input_count (assoc number ms))
    ∷ (value_rules 0 values
    ++ (rule 21 0 (length lent.scratch < room ms number)
    ∷ rule 22 0 (length lent.out < rows * output_count (assoc number ms))
    ∷ []))

-- What the rules name for a call on a file: the refusal of the file; else, in a file that breaks no rule, what comes of the call's own.
pub data RulesName (file : List ℕ) (c : Call) (lent : Lent) : Verdict → Type 1 where
  bad_file : {number place : ℕ} → FileRefusal file number place → RulesName file c lent (refused number place)
  from_call :
      {v : Verdict} (ms : List Module)
      → Encodes file ms
      → Outcome (file_rules ms) good
      → Outcome (call_rules c lent ms) v
      → RulesName file c lent v

-- Writers take no file: 23 width outside 1 to 64, then 22.
unfoldable pub writer_rules : (modules : ℕ → List Module) → (width : ℕ) → (out : List ℕ) → List Rule
writer_rules modules width out =
    rule 23 0 ((width < 1) ⊎ (64 < width))
    ∷ rule 22 0 (length out < length (encode (modules width)))
    ∷ []
