-- The calls on a file (document 01, 'Refusal numbers'): refusals 1 to 17 first, then those of the call in their order; and what the
-- lent buffers hold afterwards. A call that is refused changes no lent buffer. An answer fills the first bytes of the output buffer and
-- leaves the rest; it leaves 0 in the first room entries of scratch and the rest unchanged.
use Rattle.std.specs.Prelude.{ℕ, suc, ◌+◌, Bool, true, false, cond, List, [], ◌∷◌, ◌++◌, map, eqb, leb, length, drop, replicate}
use Rattle.meaning.specs.Values.{value, floating, code}
use Rattle.meaning.specs.Syntax.{Module}
use Rattle.meaning.specs.Boxlist.{Found, box, F, assoc}
use Rattle.meaning.specs.Layout.{encode}
use Rattle.meaning.specs.Reading.{File, holds, fails, read}
use Rattle.meaning.specs.Limits.{expanded_size}
use Rattle.meaning.specs.Verdict.{Verdict, good, refused, file_verdict}
use Rattle.meaning.specs.Evaluation.{evaluate}
use Rattle.meaning.specs.Figures.{gate_count, tally, room, delay}
use Rattle.meaning.specs.Loads.{largest_load}
use Rattle.meaning.specs.Flattening.{flat_module}

-- What a call comes to: a refusal with its number and place, or what was asked for. Success has number 0 and place 0.
pub data Decision (R : Type 0) : Type 0 where
  refusal : (number place : ℕ) → Decision R
  answer : R → Decision R

abbrev pub number_of : {R : Type 0} → Decision R → ℕ
number_of (refusal number place) = number
number_of (answer r) = 0

abbrev pub place_of : {R : Type 0} → Decision R → ℕ
place_of (refusal number place) = place
place_of (answer r) = 0

-- A condition that is met leads on to the next, one that is not ends all.
abbrev pub demand : {R : Type 0} → (number place : ℕ) → Bool → Decision R → Decision R
demand number place true next = next
demand number place false next = refusal number place

-- Refusals 1 to 17, then what is asked of the file's modules.
abbrev pub if_good : {R : Type 0} → Verdict → Decision R → Decision R
if_good good next = next
if_good (refused number place) next = refusal number place

abbrev pub on_read : {R : Type 0} → File → (List Module → Decision R) → Decision R
on_read (holds ms) ask = if_good (file_verdict ms) (ask ms)
on_read (fails number place) ask = refusal number place

unfoldable pub on_file : {R : Type 0} → (file : List ℕ) → (List Module → Decision R) → Decision R
on_file file ask = on_read (read file) ask

-- 18: no module of that number.
abbrev pub on_module : {R : Type 0} → Found → (Module → Decision R) → Decision R
on_module (box m) ask = ask m
on_module F ask = refusal 18 0

-- The first index of a value above 3; the count of values where there is none.
unfoldable pub first_above : List ℕ → ℕ
first_above [] = 0
first_above (x ∷ xs) = cond (leb x floating) (suc (first_above xs)) 0

-- What an answer writes: bytes to the output buffer, and 0 to so many entries of scratch.
pub record Written : Type 0 where
  pub bytes : List ℕ
  pub cleared : ℕ

-- The output buffer and the scratch after a call.
abbrev pub out_after : Decision Written → List ℕ → List ℕ
out_after (refusal number place) out = out
out_after (answer w) out = w.bytes ++ drop (length w.bytes) out

abbrev pub scratch_after : {R : Type 0} → (cleared : R → ℕ) → Decision R → List ℕ → List ℕ
scratch_after cleared (refusal number place) scratch = scratch
scratch_after cleared (answer r) scratch = replicate (cleared r) 0 ++ drop (cleared r) scratch

-- 22: the output buffer is shorter than the bytes.
abbrev pub fitting : (bytes : List ℕ) (cleared out : ℕ) → Decision Written
fitting bytes cleared out = demand 22 0 (leb (length bytes) out) (answer (record { bytes = bytes; cleared = cleared }))

-- Evaluation: 18; 19 count of values differs from the inputs; 20 a value above 3, place its index; 21 scratch has fewer entries than
-- room; 22 the output buffer is shorter than the answer.
abbrev pub evaluation_on : (number : ℕ) (values : List ℕ) (scratch out : ℕ) (ms : List Module) → Module → Decision Written
evaluation_on number values scratch out ms m =
    demand 19 0 (eqb (length values) (length m.inputs))
    (demand 20 (first_above values) (eqb (first_above values) (length values))
    (demand 21 0 (leb (room ms number) scratch)
    (demand 22 0 (leb (length m.outputs) out)
    (answer (record { bytes = map code (evaluate ms number (map value values)); cleared = room ms number })))))

unfoldable pub evaluation : (file : List ℕ) (number : ℕ) (values : List ℕ) (scratch out : ℕ) → Decision Written
evaluation file number values scratch out =
    on_file file λ ms. on_module (assoc number ms) (evaluation_on number values scratch out ms)

-- Flattening: 18; 24 it needs more than 4,096 nets (inputs plus gates); 21; 22.
unfoldable pub flat_file : List Module → ℕ → Module → List ℕ
flat_file ms number m = encode (flat_module ms number (length m.inputs) ∷ [])

abbrev pub flattening_on : (number scratch out : ℕ) (ms : List Module) → Module → Decision Written
flattening_on number scratch out ms m =
    demand 24 0 (leb (length m.inputs + gate_count ms number) 4096)
    (demand 21 0 (leb (room ms number) scratch)
    (fitting (flat_file ms number m) (room ms number) out))

unfoldable pub flattening : (file : List ℕ) (number scratch out : ℕ) → Decision Written
flattening file number scratch out = on_file file λ ms. on_module (assoc number ms) (flattening_on number scratch out ms)

-- Counts: 18; 21. All figures are 0 on a refusal.
pub record Figures : Type 0 where
  pub inputs : ℕ
  pub outputs : ℕ
  pub tally : List ℕ
  pub gates : ℕ
  pub size : ℕ
  pub room : ℕ
  pub delay : ℕ
  pub load : ℕ

abbrev pub figures_on : (number : ℕ) (ms : List Module) → Module → Figures
figures_on number ms m =
    record {
      inputs = length m.inputs;
      outputs = length m.outputs;
      tally = tally ms number;
      gates = gate_count ms number;
      size = expanded_size ms number;
      room = room ms number;
      delay = delay ms number;
      load = largest_load ms number;
    }

abbrev pub counting_on : (number scratch : ℕ) (ms : List Module) → Module → Decision Figures
counting_on number scratch ms m = demand 21 0 (leb (room ms number) scratch) (answer (figures_on number ms m))

unfoldable pub counting : (file : List ℕ) (number scratch : ℕ) → Decision Figures
counting file number scratch = on_file file λ ms. on_module (assoc number ms) (counting_on number scratch ms)

-- What a file holds: how many modules it has,
unfoldable pub module_count : (file : List ℕ) → Decision ℕ
module_count file = on_file file (λ ms. answer (length ms))

-- and the number of the module at a position; 18 where it has no such position.
abbrev pub first_number : List Module → Decision ℕ
first_number [] = refusal 18 0
first_number (m ∷ later) = answer m.number

unfoldable pub number_at : (file : List ℕ) (position : ℕ) → Decision ℕ
number_at file position = on_file file (λ ms. first_number (drop position ms))

-- Writers: 23 width outside 1 to 64, then 22.
unfoldable pub writing : (modules : ℕ → List Module) → (width out : ℕ) → Decision Written
writing modules width out =
    demand 23 0 (leb 1 width)
    (demand 23 0 (leb width 64)
    (fitting (encode (modules width)) 0 out))
