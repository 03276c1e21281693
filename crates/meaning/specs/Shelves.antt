-- Our shelf before the house shelf (document 02, M-105): a group's file is looked into first and the house's behind it, and one file is
-- joined of both.
use Rattle.std.specs.Prelude.{ℕ, cond, List, [], ◌∷◌, ◌++◌, eqb, leb, length}
use Rattle.meaning.specs.Syntax.{Module}
use Rattle.meaning.specs.Layout.{each, number_bytes, module_numbers, encode}
use Rattle.meaning.specs.Boxlist.{Found, box, F, assoc, is_box}
use Rattle.meaning.specs.Reading.{File, holds, fails, read, most_modules, most_bytes}
use Rattle.meaning.specs.Verdict.{file_verdict}
use Rattle.meaning.specs.Calls.{Decision, refusal, answer, demand, if_good, Written, fitting}

-- What a call on two files comes to, and which of them it is about: 1 the group's, 2 the house's, 0 neither.
pub record About (R : Type 0) : Type 0 where
  pub which : ℕ
  pub decision : Decision R

-- Both files must read: 1 to 5 for the group's file, then for the house's, each saying which.
abbrev pub on_both : {R : Type 0} → (group house : File) → (List Module → List Module → About R) → About R
on_both (fails number place) house ask = record { which = 1; decision = refusal number place }
on_both (holds own) (fails number place) ask = record { which = 2; decision = refusal number place }
on_both (holds own) (holds others) ask = ask own others

-- The bytes of a module: from its number to its last occurrence.
abbrev pub bytes_of : Module → List ℕ
bytes_of m = each number_bytes (module_numbers m)

-- The modules in front of the first that has a number.
unfoldable pub ahead : ℕ → List Module → List Module
ahead number [] = []
ahead number (m ∷ ms) = cond (eqb number m.number) [] (m ∷ ahead number ms)

-- A part of a file: where it starts, and its bytes.
pub record Part : Type 0 where
  pub start : ℕ
  pub bytes : List ℕ

-- The first module of a number stands behind the file's count and the modules in front of it.
abbrev pub part_of : (number : ℕ) (ms : List Module) → Module → Part
part_of number ms m =
    record { start = length (each number_bytes (length ms ∷ each module_numbers (ahead number ms))); bytes = bytes_of m }

-- What a file has of a number is answered, saying which file; else it goes on.
abbrev pub or_else : (which number : ℕ) (ms : List Module) → Found → (next : About Part) → About Part
or_else which number ms (box m) next = record { which = which; decision = answer (part_of number ms m) }
or_else which number ms F next = next

-- The look-up: out of the group's file if it has the number, otherwise out of the house's; where a file holds a number twice, the first
-- is meant. Then 18, of neither.
abbrev pub look_up_on : (number : ℕ) (own others : List Module) → About Part
look_up_on number own others =
    or_else 1 number own (assoc number own)
    (or_else 2 number others (assoc number others)
    (record { which = 0; decision = refusal 18 0 }))

unfoldable pub look_up : (group house : List ℕ) (number : ℕ) → About Part
look_up group house number = on_both (read group) (read house) (look_up_on number)

-- The part that is handed back, an empty one if refused.
abbrev pub handed : Decision Part → List ℕ
handed (refusal number place) = []
handed (answer part) = part.bytes

-- The modules of the house whose numbers the group lacks, in order.
unfoldable pub lacking : (own others : List Module) → List Module
lacking own [] = []
lacking own (m ∷ others) = cond (is_box (assoc m.number own)) (lacking own others) (m ∷ lacking own others)

-- The joined file: the group's modules in order, then those.
unfoldable pub joined : (own others : List Module) → List Module
joined own others = own ++ lacking own others

-- 4 if over 128 modules, 1 if over 65,535 bytes, both at 0; then 6 to 17 of the joined file; then 22.
abbrev pub join_on : (out : ℕ) (ms : List Module) → Decision Written
join_on out ms =
    demand 4 0 (leb (length ms) most_modules)
    (demand 1 0 (leb (length (encode ms)) most_bytes)
    (if_good (file_verdict ms)
    (fitting (encode ms) 0 out)))

unfoldable pub joining : (group house : List ℕ) (out : ℕ) → About Written
joining group house out =
    on_both (read group) (read house) (λ own others. record { which = 0; decision = join_on out (joined own others) })
