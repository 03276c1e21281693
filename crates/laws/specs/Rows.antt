-- The rows of document 01 that are marked P, as one statement over one list of calls and what comes of them: reading by the check,
-- the adder of width 1 by evaluation, and its flattening. Each call is lent an entry of scratch and a byte more than it needs, and
-- none of what is lent is 0 or an answer: what an answer fills and clears can be told from what it leaves. A flattener that always
-- refuses, and an evaluator that refuses every unknown bit, are shut out.
use Rattle.std.specs.Prelude.{ℕ, ◌≡◌, refl, List, [], ◌∷◌, ◌++◌, map, replicate}
use Rattle.meaning.specs.Values.{by_fillings}
use Rattle.meaning.specs.Gates.{gate, gates, gate_value}
use Rattle.meaning.specs.Layout.{each, occurrence_numbers, module_numbers, file_numbers, number_bytes, encode}
use Rattle.meaning.specs.Reading.{read, read_number, second_group, read_count, read_many, read_nets, read_occurrence, read_module, read_modules}
use Rattle.meaning.specs.Boxlist.{assoc, member, disjoint, duplicates, subset, arity_okp}
use Rattle.meaning.specs.Limits.{driven, net_count, body_size, expanded_size}
use Rattle.meaning.specs.Verdict.{Verdict, good, refused, occurrence_verdict, body_verdict, module_verdict, modules_verdict}
use Rattle.meaning.specs.Verdict.{sizes_verdict, file_verdict, verdict}
use Rattle.meaning.specs.Evaluation.{look, look_all, pairs, walk, run_module, run, evaluate}
use Rattle.meaning.specs.Figures.{body_weight, gate_weight, gate_count, largest_referred, room}
use Rattle.meaning.specs.Flattening.{place_body, place_module, place, flat_module}
use Rattle.meaning.specs.Adder.{up_from}
use Rattle.meaning.specs.Calls.{on_file, first_above, evaluation, flat_file, flattening}
use Rattle.meaning.specs.CallRules.{Call, to_check, to_evaluate, to_flatten, Lent, comes_to, leaves}

-- The adder of width 1, whole, as document 01 prints it,
abbrev pub adder_bytes : List ℕ
adder_bytes =
    0x03 ∷ 0x12 ∷ 0x03 ∷ 0x00 ∷ 0x01 ∷ 0x02 ∷ 0x02 ∷ 0x03 ∷ 0x04 ∷ 0x01 ∷ 0x02 ∷ 0x03 ∷ 0x04 ∷ 0x11 ∷ 0x03 ∷ 0x01
    ∷ 0x02 ∷ 0x00 ∷ 0x11 ∷ 0x03 ∷ 0x00 ∷ 0x01 ∷ 0x02 ∷ 0x02 ∷ 0x03 ∷ 0x04 ∷ 0x03 ∷ 0x02 ∷ 0x05 ∷ 0x06 ∷ 0x10 ∷ 0x02
    ∷ 0x00 ∷ 0x01 ∷ 0x02 ∷ 0x03 ∷ 0x07 ∷ 0x10 ∷ 0x02 ∷ 0x05 ∷ 0x02 ∷ 0x01 ∷ 0x04 ∷ 0x05 ∷ 0x02 ∷ 0x06 ∷ 0x07 ∷ 0x10
    ∷ 0x02 ∷ 0x00 ∷ 0x01 ∷ 0x02 ∷ 0x02 ∷ 0x03 ∷ 0x02 ∷ 0x01 ∷ 0x02 ∷ 0x09 ∷ 0x02 ∷ 0x00 ∷ 0x01 ∷ 0x01 ∷ 0x03 ∷ 0x0A
    ∷ 0x02 ∷ 0x00 ∷ 0x01 ∷ []

-- and what it flattens to.
abbrev pub flat_adder_bytes : List ℕ
flat_adder_bytes =
    0x01 ∷ 0x12 ∷ 0x03 ∷ 0x00 ∷ 0x01 ∷ 0x02 ∷ 0x02 ∷ 0x05 ∷ 0x07 ∷ 0x05 ∷ 0x01 ∷ 0x03 ∷ 0x09 ∷ 0x02 ∷ 0x01 ∷ 0x02
    ∷ 0x01 ∷ 0x04 ∷ 0x0A ∷ 0x02 ∷ 0x01 ∷ 0x02 ∷ 0x01 ∷ 0x05 ∷ 0x09 ∷ 0x02 ∷ 0x03 ∷ 0x00 ∷ 0x01 ∷ 0x06 ∷ 0x0A ∷ 0x02
    ∷ 0x03 ∷ 0x00 ∷ 0x01 ∷ 0x07 ∷ 0x05 ∷ 0x02 ∷ 0x04 ∷ 0x06 ∷ []

-- What is lent: so many entries of scratch and so many bytes, all 7.
abbrev lent : (scratch out : ℕ) → Lent
lent scratch out = record { scratch = replicate scratch 7; out = replicate out 7 }

-- What comes of a call: refused or answered, and what the buffers then hold.
pub record RowResult : Type 0 where
  pub verdict : Verdict
  pub left : Lent

-- A row: a call on a file with what is lent to it, and what comes of it.
pub record CallRow : Type 0 where
  pub file : List ℕ
  pub call : Call
  pub lends : Lent
  pub gives : RowResult

-- A file that is checked, and the verdict.
abbrev checks : (file : List ℕ) → Verdict → CallRow
checks file v = record { file = file; call = to_check; lends = lent 0 0; gives = record { verdict = v; left = lent 0 0 } }

-- A call on the adder, lent 18 entries of scratch and so many bytes, that clears 17 of the one and fills all but one of the others.
abbrev answers : Call → (bytes : List ℕ) (count : ℕ) → CallRow
answers call bytes count =
    record {
      file = adder_bytes;
      call = call;
      lends = lent 18 count;
      gives = record { verdict = good; left = record { scratch = replicate 17 0 ++ (7 ∷ []); out = bytes ++ (7 ∷ []) } };
    }

-- Adder 1 on carry, a, b.
abbrev adds : (values outputs : List ℕ) → CallRow
adds values outputs = answers (to_evaluate 18 values) outputs 3

abbrev pub marked_p : List CallRow
marked_p =
    adds (0 ∷ 1 ∷ 1 ∷ []) (0 ∷ 1 ∷ [])
    ∷ adds (1 ∷ 1 ∷ 1 ∷ []) (1 ∷ 1 ∷ [])
    ∷ adds (2 ∷ 0 ∷ 0 ∷ []) (2 ∷ 0 ∷ [])
    ∷ adds (2 ∷ 1 ∷ 1 ∷ []) (2 ∷ 1 ∷ [])
    ∷ adds (2 ∷ 1 ∷ 0 ∷ []) (2 ∷ 2 ∷ [])
    ∷ checks [] (refused 2 0)
    ∷ checks (0x00 ∷ []) good
    ∷ checks (0x80 ∷ 0x00 ∷ []) (refused 3 0)
    ∷ checks (0x80 ∷ []) (refused 2 1)
    ∷ checks (0x00 ∷ 0x00 ∷ []) (refused 5 1)
    ∷ checks (0x81 ∷ 0x01 ∷ []) (refused 4 0)
    ∷ answers (to_flatten 18) flat_adder_bytes 41
    ∷ []

pub rows-marked-P :
    map (λ r. record { verdict = comes_to r.file r.call r.lends; left = leaves r.file r.call r.lends }) marked_p
    ≡ map (λ r. r.gives) marked_p
unfolding
    comes_to leaves verdict evaluation flattening flat_file on_file first_above
    read read_modules read_module read_occurrence read_nets read_many read_count read_number second_group
    file_verdict modules_verdict module_verdict body_verdict occurrence_verdict sizes_verdict
    assoc member disjoint duplicates subset arity_okp driven net_count body_size expanded_size
    evaluate run run_module walk look_all look pairs gate_value by_fillings gate gates
    gate_count gate_weight body_weight room largest_referred
    encode each file_numbers module_numbers occurrence_numbers number_bytes flat_module place place_module place_body up_from
rows-marked-P = refl
