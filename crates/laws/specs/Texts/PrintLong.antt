-- How long a printed text can be: six bytes for each of the file's.
use Rattle.std.specs.Prelude.{ℕ, ◌+◌, ◌*◌, ◌/◌, ◌%◌, ◌≤◌, ◌<◌, ◌≡◌, refl, Bool, true, false, cond, List, [], ◌∷◌, ◌++◌, ltb, leb, length, get_or}
use Rattle.std.proofs.Common.{arith, length-append, ltb-true, leb-true}
use Rattle.meaning.specs.Lists.{All, none, more}
use Rattle.meaning.specs.Syntax.{Occurrence, Module}
use Rattle.meaning.specs.Ceilings.{Small, OccurrenceWithin, ModuleWithin, ModulesWithin}
use Rattle.meaning.specs.Layout.{each, number_bytes, encode}
use Rattle.meaning.specs.Listing.{space, decimal}
use Rattle.meaning.specs.Ndl.{net_text}
use Rattle.laws.specs.Written.{nets_bytes, occurrence_bytes, module_bytes, bytes-of-nets, bytes-of-occurrence, bytes-of_module, bytes-of-file}
use Rattle.laws.specs.Ndl.Long.{long_numeral}
use Rattle.laws.specs.Texts.Below.{all_below, below}
use Rattle.meaning.specs.ListNumbers.{spelling, gate_names}
use Rattle.meaning.specs.ListPrint.{parted, nets_line, module_name, name_of, occurrence_break, occurrence_list, module_break, module_list, list_text}

some_byte : (n : ℕ) → 1 ≤ length (number_bytes n)
unfolding number_bytes
some_byte n = go (ltb n 128)
  where
    go : (b : Bool) → 1 ≤ length (cond b (n ∷ []) ((128 + n % 128) ∷ (n / 128) ∷ []))
    go true = omega arith
    go false = omega arith

-- A list is no longer than with the bytes that part it in front of each entry.
parted-less : {A : Type 0} (between : List ℕ) (text : A → List ℕ) (xs : List A)
    → length (parted between text xs) ≤ length (each (λ y. between ++ text y) xs)
unfolding parted each
parted-less between text [] = omega arith
parted-less between text (x ∷ xs) =
    let rest : List ℕ = each (λ y. between ++ text y) xs in
    omega (arith, length-append (text x) rest, length-append (between ++ text x) rest, length-append between (text x))

-- Nets: five bytes for each of theirs.
spaced-nets : (nets : List ℕ) → All Small nets → length (each (λ net. space ∷ net_text net) nets) ≤ 5 * length (each number_bytes nets)
unfolding each
spaced-nets [] none = omega arith
spaced-nets (n ∷ nets) (more small smalls) =
    omega (
      arith,
      length-append (decimal n) (each (λ net. space ∷ net_text net) nets),
      length-append (number_bytes n) (each number_bytes nets),
      long_numeral n small,
      some_byte n,
      spaced-nets nets smalls,
    )

long-nets : (nets : List ℕ) → All Small nets → length (nets_line nets) ≤ 5 * length (each number_bytes nets)
long-nets nets small = omega (arith, parted-less (space ∷ []) net_text nets, spaced-nets nets small)

-- A gate's name has at most seven letters.
pub gate-letters : (n : ℕ) → n < 16 → length (get_or gate_names n []) ≤ 7
unfolding all_below gate_names spelling
gate-letters n l = leb-true (length (get_or gate_names n [])) 7 (below 16 (λ n. leb (length (get_or gate_names n [])) 7) refl n l)

long-name : (n : ℕ) → Small n → length (name_of n) ≤ 2 * length (number_bytes n) + 5
unfolding name_of
long-name n small = go (ltb n 16) refl
  where
    go : (b : Bool) → ltb n 16 ≡ b → length (cond b (get_or gate_names n []) (module_name n)) ≤ 2 * length (number_bytes n) + 5
    go true e = omega (arith, gate-letters n (ltb-true n 16 e), some_byte n)
    go false e = omega (arith, long_numeral n small)

-- With its count.
counted : (nets : List ℕ) → length (nets_bytes nets) ≡ length (number_bytes (length nets)) + length (each number_bytes nets)
counted nets = rw (bytes-of-nets nets) (length-append (number_bytes (length nets)) (each number_bytes nets))

long-occurrence : (o : Occurrence) → OccurrenceWithin o → length (occurrence_break ++ occurrence_list o) ≤ 6 * length (occurrence_bytes o)
unfolding occurrence_list
long-occurrence o w =
    rw (
      bytes-of-occurrence o,
      length-append (nets_bytes o.drives),
      length-append (number_bytes o.refers),
      counted o.drives,
      counted o.takes,
      length-append (nets_line o.drives),
      length-append (name_of o.refers),
      length-append (each (λ net. space ∷ net_text net) o.takes),
    )
    (omega (
      arith,
      long-nets o.drives w.drives.numbers,
      long-name o.refers w.refers,
      spaced-nets o.takes w.takes.numbers,
      some_byte (length o.drives),
      some_byte o.refers,
      some_byte (length o.takes),
    ))

long-each : {A : Type 0} {Fits : A → Type 0} (text bytes : A → List ℕ) → ((x : A) → Fits x → length (text x) ≤ 6 * length (bytes x))
    → (xs : List A) → All Fits xs → length (each text xs) ≤ 6 * length (each bytes xs)
unfolding each
long-each text bytes one [] none = omega arith
long-each text bytes one (x ∷ xs) (more w ws) =
    omega (arith, length-append (text x) (each text xs), length-append (bytes x) (each bytes xs), one x w, long-each text bytes one xs ws)

long_module : (m : Module) → ModuleWithin m → length (module_break ++ module_list m) ≤ 6 * length (module_bytes m)
unfolding module_list
long_module m w =
    rw (
      bytes-of_module m,
      length-append (number_bytes m.number),
      length-append (nets_bytes m.inputs),
      length-append (nets_bytes m.outputs),
      length-append (number_bytes (length m.occurrences)),
      counted m.inputs,
      counted m.outputs,
      length-append (decimal m.number),
      length-append (nets_line m.inputs),
      length-append (nets_line m.outputs),
      length-append (parted occurrence_break occurrence_list m.occurrences),
    )
    (omega (
      arith,
      long_numeral m.number w.number,
      long-nets m.inputs w.inputs.numbers,
      long-nets m.outputs w.outputs.numbers,
      parted-less occurrence_break occurrence_list m.occurrences,
      long-each (λ o. occurrence_break ++ occurrence_list o) occurrence_bytes long-occurrence m.occurrences w.occurrences,
      some_byte (length m.inputs),
      some_byte (length m.outputs),
      some_byte (length m.occurrences),
    ))

-- What `out` must hold at most, by the file's bytes.
pub long-text : (ms : List Module) → ModulesWithin ms → length (list_text ms) ≤ 6 * length (encode ms)
unfolding list_text
long-text ms w =
    rw (
      bytes-of-file ms,
      length-append (number_bytes (length ms)) (each module_bytes ms),
      length-append (parted module_break module_list ms),
    )
    (omega (
      arith,
      parted-less module_break module_list ms,
      long-each (λ m. module_break ++ module_list m) module_bytes long_module ms w.modules,
      some_byte (length ms),
    ))
