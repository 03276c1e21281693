-- How long the text can be: eight bytes for each of the file's, 36 more for each module and 46 around all.
use Rattle.std.specs.Prelude.{ℕ, zero, suc, ◌+◌, ◌*◌, ◌/◌, ◌%◌, ◌≤◌, ◌<◌, ◌^◌, ◌≡◌, refl, Bool, true, false, cond, List, [], ◌∷◌, ◌++◌, ltb, eqb, length, take, drop}
use Rattle.std.proofs.Common.{ap, sym, ◌∙◌, arith, pow-suc, length-append, length-take, ltb-true, ltb-false}
use Rattle.std.proofs.Math.Decide.{dec_lt}
use Rattle.meaning.specs.Lists.{All, none, more}
use Rattle.meaning.specs.Syntax.{Occurrence, Module}
use Rattle.meaning.specs.Ceilings.{Small, OccurrenceWithin, ModuleWithin, ModulesWithin}
use Rattle.meaning.specs.Layout.{each, number_bytes, encode}
use Rattle.meaning.specs.Gates.{is_gate}
use Rattle.meaning.specs.Listing.{space, decimal_within, decimal}
use Rattle.meaning.specs.Ndl.{name_at, letters, net_text, after_comma, nets_text, reference_text, line_end, keyword_line, occurrence_text, occurrences_text, module_text, module_word, inputs_word, outputs_word, define_lines, end_module_lines, compile_lines, end_lines, ndl_text}
use Rattle.laws.specs.Written.{bytes-of-low, bytes-of-high, some_byte, nets_bytes, occurrence_bytes, module_bytes, bytes-of-nets, bytes-of-occurrence, bytes-of_module, bytes-of-file}
use Rattle.laws.specs.Ndl.Numerals.{fewer}

-- A number below a power of ten has no more digits than that.
few-digits : (most n j : ℕ) → n < 10 ^ suc j → length (decimal_within most n) ≤ suc j
unfolding decimal_within
few-digits zero n j small = omega arith
few-digits (suc k) n j small = go (ltb n 10) refl (few-digits k (n / 10))
  where
    go : (b : Bool) → ltb n 10 ≡ b → ((i : ℕ) → n / 10 < 10 ^ suc i → length (decimal_within k (n / 10)) ≤ suc i)
        → length (cond b ((48 + n) ∷ []) (decimal_within k (n / 10) ++ ((48 + n % 10) ∷ []))) ≤ suc j
    go true e on = omega arith
    go false e on = rw (length-append (decimal_within k (n / 10)) ((48 + n % 10) ∷ [])) (last j small)
      where
        last : (j : ℕ) → n < 10 ^ suc j → length (decimal_within k (n / 10)) + 1 ≤ suc j
        last zero small = absurd (omega (arith, small, ltb-false n 10 e))
        last (suc i) small = omega (arith, on i (fewer (suc i) n (ltb-false n 10 e) small).0)

five-digits : (n : ℕ) → Small n → length (decimal n) ≤ 5
unfolding decimal
five-digits n small = few-digits 20 n 4 (omega arith)

-- A number of one byte has at most three digits, one of two at most five.
pub long_numeral : (n : ℕ) → Small n → length (decimal n) ≤ 2 * length (number_bytes n) + 1
unfolding decimal
long_numeral n small = go (dec_lt n 128)
  where
    go : Dec (n < 128) → length (decimal_within 20 n) ≤ 2 * length (number_bytes n) + 1
    go (yes low) = rw (bytes-of-low n low) (omega (arith, few-digits 20 n 2 (omega arith)))
    go (no high) =
        let large : 128 ≤ n = omega arith in
        rw (bytes-of-high n large) (omega (arith, few-digits 20 n 4 (omega arith)))

long-more : (nets : List ℕ) → All Small nets → length (each after_comma nets) ≤ 8 * length (each number_bytes nets)
unfolding each
long-more [] none = omega arith
long-more (n ∷ nets) (more small smalls) =
    omega
    (arith, length-append (decimal n) (each after_comma nets), length-append (number_bytes n) (each number_bytes nets), long_numeral n small, some_byte n, long-more nets smalls)

pub long-nets : (nets : List ℕ) → All Small nets → length (nets_text nets) ≤ 8 * length (each number_bytes nets)
unfolding nets_text each
long-nets [] none = omega arith
long-nets (n ∷ nets) (more small smalls) =
    omega
    (arith, length-append (decimal n) (each after_comma nets), length-append (number_bytes n) (each number_bytes nets), long_numeral n small, some_byte n, long-more nets smalls)

-- With its count.
counted : (nets : List ℕ) → length (nets_bytes nets) ≡ length (number_bytes (length nets)) + length (each number_bytes nets)
counted nets = rw (bytes-of-nets nets) (length-append (number_bytes (length nets)) (each number_bytes nets))

-- A name of eight bytes has at most eight letters.
few-letters : (name : List ℕ) → length (letters name) ≤ length name
unfolding letters
few-letters [] = omega arith
few-letters (b ∷ bs) = go (eqb b space) (few-letters bs)
  where
    go : (s : Bool) → length (letters bs) ≤ length bs → length (cond s [] (b ∷ letters bs)) ≤ suc (length bs)
    go true h = omega arith
    go false h = omega arith

pub long-reference : (names : List ℕ) (n : ℕ) → Small n → length (reference_text names n) ≤ 8 * length (number_bytes n)
unfolding reference_text
long-reference names n small = go (is_gate n)
  where
    go : (b : Bool) → length (cond b (letters (name_at names n)) (77 ∷ decimal n)) ≤ 8 * length (number_bytes n)
    go true = omega (arith, few-letters (name_at names n), length-take 8 (drop (8 * n) names), some_byte n)
    go false = omega (arith, long_numeral n small, some_byte n)

long-occurrence : (names : List ℕ) (position : ℕ) (o : Occurrence) → Small position → OccurrenceWithin o
    → length (occurrence_text names position o) ≤ 8 * length (occurrence_bytes o)
unfolding occurrence_text
long-occurrence names position o small w =
    rw (
      bytes-of-occurrence o,
      length-append (nets_bytes o.drives),
      length-append (number_bytes o.refers),
      counted o.drives,
      counted o.takes,
      length-append (decimal position),
      length-append (nets_text o.drives),
      length-append (reference_text names o.refers),
      length-append (nets_text o.takes),
    )
    (omega (
      arith,
      five-digits position small,
      long-nets o.drives w.drives.numbers,
      long-reference names o.refers w.refers,
      long-nets o.takes w.takes.numbers,
      some_byte (length o.drives),
      some_byte (length o.takes),
    ))

long-occurrences : (names : List ℕ) (position : ℕ) (os : List Occurrence) → position + length os ≤ 4096 → All OccurrenceWithin os
    → length (occurrences_text names position os) ≤ 8 * length (each occurrence_bytes os)
unfolding occurrences_text each
long-occurrences names position [] few none = omega arith
long-occurrences names position (o ∷ os) few (more w ws) =
    omega (
      arith,
      length-append (occurrence_text names position o) (occurrences_text names (suc position) os),
      length-append (occurrence_bytes o) (each occurrence_bytes os),
      long-occurrence names position o (omega arith) w,
      long-occurrences names (suc position) os (omega arith) ws,
    )

long-line : (word nets : List ℕ) → All Small nets → length (keyword_line word nets) ≤ length word + 3 + 8 * length (each number_bytes nets)
unfolding keyword_line
long-line word [] small = omega (arith, length-append word line_end)
long-line word (n ∷ nets) small =
    omega (
      arith,
      length-append word (space ∷ (nets_text (n ∷ nets) ++ line_end)),
      length-append (nets_text (n ∷ nets)) line_end,
      long-nets (n ∷ nets) small,
    )

long_module : (names : List ℕ) (m : Module) → ModuleWithin m → length (module_text names m) ≤ 8 * length (module_bytes m) + 36
unfolding module_text
long_module names m w =
    rw (
      bytes-of_module m,
      length-append (number_bytes m.number),
      length-append (nets_bytes m.inputs),
      length-append (nets_bytes m.outputs),
      length-append (number_bytes (length m.occurrences)),
      counted m.inputs,
      counted m.outputs,
      length-append (decimal m.number),
      length-append (keyword_line inputs_word m.inputs),
      length-append (keyword_line outputs_word m.outputs),
      length-append (occurrences_text names 0 m.occurrences),
    )
    (omega (
      arith,
      long_numeral m.number w.number,
      some_byte m.number,
      long-line inputs_word m.inputs w.inputs.numbers,
      long-line outputs_word m.outputs w.outputs.numbers,
      long-occurrences names 0 m.occurrences (omega (arith, w.count)) w.occurrences,
      some_byte (length m.inputs),
      some_byte (length m.outputs),
      some_byte (length m.occurrences),
    ))

long-modules : (names : List ℕ) (ms : List Module) → All ModuleWithin ms
    → length (each (module_text names) ms) ≤ 8 * length (each module_bytes ms) + 36 * length ms
unfolding each
long-modules names [] none = omega arith
long-modules names (m ∷ ms) (more w ws) =
    omega (
      arith,
      length-append (module_text names m) (each (module_text names) ms),
      length-append (module_bytes m) (each module_bytes ms),
      long_module names m w,
      long-modules names ms ws,
    )

-- What `out` must hold at most, by the file's bytes.
pub long-text : (names : List ℕ) (ms : List Module) → ModulesWithin ms → length (ndl_text names ms) ≤ 8 * length (encode ms) + 4654
unfolding ndl_text
long-text names ms w =
    rw (bytes-of-file ms)
    (omega (
      arith,
      length-append compile_lines (each (module_text names) ms ++ end_lines),
      length-append (each (module_text names) ms) end_lines,
      length-append (number_bytes (length ms)) (each module_bytes ms),
      long-modules names ms w.modules,
      w.count,
    ))
