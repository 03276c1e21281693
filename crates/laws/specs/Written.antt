-- The bytes of a number by its size, and how the bytes of a list of nets, an occurrence, a module and a file are made of the
-- bytes of their parts.
use Rattle.std.specs.Prelude.{ℕ, ◌+◌, ◌/◌, ◌%◌, ◌<◌, ◌≤◌, ◌≡◌, refl, List, [], ◌∷◌, ◌++◌, length}
use Rattle.std.proofs.Math.Decide.{dec_lt}
use Rattle.std.proofs.Common.{arith, lt-ltb, le-ltb}
use Rattle.meaning.specs.Syntax.{Occurrence, Module}
use Rattle.meaning.specs.Layout.{each, list_numbers, occurrence_numbers, module_numbers, file_numbers, number_bytes, encode}
use Rattle.laws.specs.Lists.{each_append, each-of-each}

pub bytes-of-low : (n : ℕ) → n < 128 → number_bytes n ≡ n ∷ []
unfolding number_bytes
bytes-of-low n low = rw (lt-ltb n 128 low)

pub bytes-of-high : (n : ℕ) → 128 ≤ n → number_bytes n ≡ (128 + n % 128) ∷ (n / 128) ∷ []
unfolding number_bytes
bytes-of-high n high = rw (le-ltb n 128 high)

-- A number has a byte at least.
pub some_byte : (n : ℕ) → 1 ≤ length (number_bytes n)
some_byte n = go (dec_lt n 128)
  where
    go : Dec (n < 128) → 1 ≤ length (number_bytes n)
    go (yes low) = rw (bytes-of-low n low) (omega arith)
    go (no high) =
        let large : 128 ≤ n = omega arith in
        rw (bytes-of-high n large) (omega arith)

abbrev pub nets_bytes : List ℕ → List ℕ
nets_bytes nets = each number_bytes (list_numbers nets)

abbrev pub occurrence_bytes : Occurrence → List ℕ
occurrence_bytes o = each number_bytes (occurrence_numbers o)

abbrev pub module_bytes : Module → List ℕ
module_bytes m = each number_bytes (module_numbers m)

pub bytes-of-nets : (nets : List ℕ) → nets_bytes nets ≡ number_bytes (length nets) ++ each number_bytes nets
unfolding each
bytes-of-nets nets = refl

pub bytes-of-occurrence : (o : Occurrence)
    → occurrence_bytes o ≡ nets_bytes o.drives ++ (number_bytes o.refers ++ nets_bytes o.takes)
unfolding each occurrence_numbers
bytes-of-occurrence o = each_append number_bytes (list_numbers o.drives) _

pub bytes-of_module : (m : Module)
    → module_bytes m
    ≡ number_bytes m.number
    ++ (nets_bytes m.inputs
    ++ (nets_bytes m.outputs ++ (number_bytes (length m.occurrences) ++ each occurrence_bytes m.occurrences)))
unfolding each module_numbers
bytes-of_module m =
    rw (
      each_append number_bytes (list_numbers m.inputs) _,
      each_append number_bytes (list_numbers m.outputs) _,
      each-of-each number_bytes occurrence_numbers m.occurrences,
    )

pub bytes-of-file : (ms : List Module) → encode ms ≡ number_bytes (length ms) ++ each module_bytes ms
unfolding encode each file_numbers
bytes-of-file ms = rw (each-of-each number_bytes module_numbers ms)
