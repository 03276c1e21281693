-- Reading the encoding of a file within the ceilings gives the file back; so two files within the ceilings that are written alike
-- are the same.
use Rattle.std.specs.Prelude.{ℕ, suc, ◌+◌, ◌*◌, ◌-◌, ◌/◌, ◌%◌, ◌≤◌, ◌<◌, ◌≡◌, List, [], ◌∷◌, length}
use Rattle.std.proofs.Common.{add-one, arith, sym, ap, ◌∙◌, append-nil, lit≤, lt-ltb, le-ltb, le-leb, ne_eqb}
use Rattle.std.proofs.Math.Decide.{dec_lt}
use Rattle.std.proofs.lemmas.Bool.{lt-leb}
use Rattle.meaning.specs.Syntax.{Occurrence, Module}
use Rattle.meaning.specs.Layout.{each, number_bytes, encode}
use Rattle.meaning.specs.Reading.{got, at_end, holds, read, most_modules, most_nets, most_occurrences, most_bytes, read_number, second_group, read_count, read_nets, read_occurrence, read_module, read_modules}
use Rattle.meaning.specs.Ceilings.{Small, most_number, NetsWithin, OccurrenceWithin, ModuleWithin, ModulesWithin, Within, Encodes}
use Rattle.laws.specs.Lists.{all_map}
use Rattle.laws.specs.Written.{bytes-of-low, bytes-of-high, nets_bytes, occurrence_bytes, module_bytes, bytes-of-nets, bytes-of-occurrence, bytes-of_module, bytes-of-file}
use Rattle.laws.specs.Reading.{Undoes, undoes_give, undoes_bind, undoes_many}

read_low : (n p : ℕ) (rest : List ℕ) → n < 128 → read_number p (n ∷ rest) ≡ got n (p + 1) rest
unfolding read_number
read_low n p rest low = rw (lt-ltb n 128 low, add-one)

read-high : (n p : ℕ) (rest : List ℕ) → 128 ≤ n → Small n
    → read_number p ((128 + n % 128) ∷ (n / 128) ∷ rest) ≡ got n (p + 2) rest
unfolding read_number second_group
read-high n p rest high small =
    let low : 128 + n % 128 - 128 ≡ n % 128 = omega arith in
    let whole : n % 128 + 128 * (n / 128) ≡ n = omega arith in
    let place : suc (suc p) ≡ p + 2 = omega arith in
    rw (
      le-ltb (128 + n % 128) 128 (omega arith),
      ne_eqb (n / 128) 0 (omega arith),
      lt-leb 128 (n / 128) (omega arith),
      low,
      whole,
      place,
    )

pub number_undone : (n : ℕ) → Small n → Undoes read_number n (number_bytes n)
number_undone n small = go (dec_lt n 128)
  where
    go : Dec (n < 128) → Undoes read_number n (number_bytes n)
    go (yes low) = rw (bytes-of-low n low) (record { reads = λ p rest. read_low n p rest low })
    go (no high) =
        let large : 128 ≤ n = omega arith in
        rw (bytes-of-high n large) (record { reads = λ p rest. read-high n p rest large small })

pub count_undone : (ceiling n : ℕ) → ceiling ≤ most_number → n ≤ ceiling → Undoes (read_count ceiling) n (number_bytes n)
unfolding read_count
count_undone ceiling n low few =
    record { reads = λ p rest. rw ((number_undone n (omega arith)).reads, le-leb n ceiling few) }

pub nets_undone : (nets : List ℕ) → NetsWithin nets → Undoes read_nets nets (nets_bytes nets)
unfolding read_nets
nets_undone nets w =
    rw (bytes-of-nets nets)
    (undoes_bind _ _ (count_undone most_nets (length nets) (lit≤ tt) w.count) (undoes_many (all_map number_undone w.numbers)))

pub occurrence_undone : (o : Occurrence) → OccurrenceWithin o → Undoes read_occurrence o (occurrence_bytes o)
unfolding read_occurrence
occurrence_undone o w =
    rw (bytes-of-occurrence o, ← append-nil (nets_bytes o.takes))
    (undoes_bind _ _ (nets_undone o.drives w.drives)
    (undoes_bind _ _ (number_undone o.refers w.refers)
    (undoes_bind _ _ (nets_undone o.takes w.takes)
    (undoes_give o))))

pub module_undone : (m : Module) → ModuleWithin m → Undoes read_module m (module_bytes m)
unfolding read_module
module_undone m w =
    rw (bytes-of_module m, ← append-nil (each occurrence_bytes m.occurrences))
    (undoes_bind _ _ (number_undone m.number w.number)
    (undoes_bind _ _ (nets_undone m.inputs w.inputs)
    (undoes_bind _ _ (nets_undone m.outputs w.outputs)
    (undoes_bind _ _ (count_undone most_occurrences (length m.occurrences) (lit≤ tt) w.count)
    (undoes_bind _ _ (undoes_many (all_map occurrence_undone w.occurrences))
    (undoes_give m))))))

pub modules_undone : (ms : List Module) → ModulesWithin ms → Undoes read_modules ms (encode ms)
unfolding read_modules
modules_undone ms w =
    rw (bytes-of-file ms)
    (undoes_bind _ _ (count_undone most_modules (length ms) (lit≤ tt) w.count)
    (undoes_many (all_map module_undone w.modules)))

-- Reading undoes writing.
pub round_trip : (ms : List Module) → Within ms → read (encode ms) ≡ holds ms
unfolding read
round_trip ms w =
    rw (le-leb (length (encode ms)) most_bytes w.bytes)
    (rw append-nil at (ap at_end ((modules_undone ms w.modules).reads 0 [])))

pub encodes-reads : {bytes : List ℕ} {ms : List Module} → Encodes bytes ms → read bytes ≡ holds ms
encodes-reads {bytes} {ms} e = ap read (sym e.encoded) ∙ round_trip ms e.within

-- Two files within the ceilings that are written alike are the same.
pub equal_files : (ms ns : List Module) → Within ms → Within ns → encode ms ≡ encode ns → ms ≡ ns
equal_files ms ns w v e = cc (round_trip ms w, round_trip ns v)
