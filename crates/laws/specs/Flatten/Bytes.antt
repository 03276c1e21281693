-- How many bytes a flattened file has: at most 13 for each gate, two for each input and output, and nine more.
use Rattle.std.specs.Prelude.{ℕ, ◌+◌, ◌*◌, ◌≤◌, ◌≡◌, List, [], ◌∷◌, ◌++◌, length}
use Rattle.std.proofs.Common.{ap, ◌∙◌, append-nil, arith, length-append, ltb-true}
use Rattle.meaning.specs.Syntax.{Occurrence, Module}
use Rattle.meaning.specs.Layout.{each, number_bytes, encode}
use Rattle.meaning.specs.Boxlist.{box, assoc}
use Rattle.meaning.specs.Verdict.{good, file_verdict}
use Rattle.meaning.specs.Figures.{gate_count}
use Rattle.meaning.specs.Flattening.{flat_module}
use Rattle.laws.specs.Arity.{arity-within}
use Rattle.laws.specs.Written.{nets_bytes, occurrence_bytes, module_bytes}
use Rattle.laws.specs.Written.{bytes-of-nets, bytes-of-occurrence, bytes-of_module, bytes-of-file}
use Rattle.laws.specs.Adder.Nets.{length-up_from}
use Rattle.laws.specs.Adder.Bytes.{most-count, low_count}
use Rattle.laws.specs.Flatten.Wired.{GateAt, Wired, done, more}
use Rattle.laws.specs.Flatten.Shape.{flat_shape, output_count-of-flat, length-of-flat}

numbers-length : (ns : List ℕ) → length (each number_bytes ns) ≤ 2 * length ns
unfolding each
numbers-length [] = omega arith
numbers-length (n ∷ ns) =
    omega (arith, length-append (number_bytes n) (each number_bytes ns), most-count n, numbers-length ns)

nets-length : (nets : List ℕ) → length (nets_bytes nets) ≤ length (number_bytes (length nets)) + 2 * length nets
nets-length nets =
    rw (bytes-of-nets nets, length-append) (omega (arith, numbers-length nets))

gate-length : {net : ℕ} {o : Occurrence} → GateAt net o → length (occurrence_bytes o) ≤ 13
gate-length {net} {o} g =
    let one : length o.drives ≡ 1 = ap length g.drives in
    let few = arity-within o.refers in
    let kind = ltb-true o.refers 16 g.kind in
    rw (bytes-of-occurrence o, length-append, length-append)
    (omega (
      arith,
      nets-length o.drives,
      low_count (length o.drives) (omega arith),
      low_count o.refers (omega arith),
      nets-length o.takes,
      low_count (length o.takes) (omega (arith, g.arity)),
    ))

gates-length : {n k : ℕ} {os : List Occurrence} → Wired n os k → length (each occurrence_bytes os) ≤ 13 * length os
unfolding each
gates-length done = omega arith
gates-length (more {o = o} {os = os} g rest) =
    omega (arith, length-append (occurrence_bytes o) (each occurrence_bytes os), gate-length g, gates-length rest)

bytes-of-one : (f : Module) → encode (f ∷ []) ≡ number_bytes 1 ++ module_bytes f
unfolding each
bytes-of-one f = bytes-of-file (f ∷ []) ∙ rw append-nil

bytes-of-wired :
    {n k : ℕ} (f : Module)
    → Wired n f.occurrences k
    → length (encode (f ∷ [])) ≤ 9 + 2 * length f.inputs + 2 * length f.outputs + 13 * length f.occurrences
bytes-of-wired f w =
    rw (bytes-of-one f, bytes-of_module f)
    (simp length-append
    (omega (
      arith,
      low_count 1 (omega arith),
      most-count f.number,
      nets-length f.inputs,
      most-count (length f.inputs),
      nets-length f.outputs,
      most-count (length f.outputs),
      most-count (length f.occurrences),
      gates-length w,
    )))

pub bytes-of-flat :
    (ms : List Module) (number : ℕ) (m : Module)
    → file_verdict ms ≡ good
    → assoc number ms ≡ box m
    → length (encode (flat_module ms number (length m.inputs) ∷ []))
    ≤ 9 + 2 * length m.inputs + 2 * length m.outputs + 13 * gate_count ms number
unfolding flat_module
bytes-of-flat ms number m accepted found =
    omega (
      arith,
      bytes-of-wired (flat_module ms number (length m.inputs)) (flat_shape ms number m accepted found).wired,
      length-up_from 0 (length m.inputs),
      output_count-of-flat ms number m accepted found,
      length-of-flat ms number m accepted found,
    )
