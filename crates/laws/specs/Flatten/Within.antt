-- A flattened file is within the ceilings, so that what is written of it reads back and is accepted.
use Rattle.std.specs.Prelude.{ℕ, ◌+◌, ◌≤◌, ◌<◌, ◌≡◌, refl, List, [], ◌∷◌}
use Rattle.std.proofs.Math.Path.{ap}
use Rattle.std.proofs.Common.{◌∙◌, arith, ltb-true}
use Rattle.std.proofs.Math.ListN.{length}
use Rattle.meaning.specs.Lists.{All, none, more}
use Rattle.meaning.specs.Syntax.{Occurrence, Module}
use Rattle.meaning.specs.Members.{◌∈◌}
use Rattle.meaning.specs.Boxlist.{box, assoc}
use Rattle.meaning.specs.Limits.{most_module_nets}
use Rattle.meaning.specs.Layout.{encode}
use Rattle.meaning.specs.Reading.{most_nets, holds, read}
use Rattle.meaning.specs.Ceilings.{Small, NetsWithin, OccurrenceWithin, ModuleWithin, Within}
use Rattle.meaning.specs.Verdict.{good, file_verdict, verdict_of, verdict}
use Rattle.meaning.specs.Figures.{gate_count}
use Rattle.meaning.specs.Flattening.{flat_module}
use Rattle.meaning.specs.Adder.{up_from}
use Rattle.laws.specs.Members.{here, there}
use Rattle.laws.specs.Arity.{arity-within}
use Rattle.laws.specs.RoundTrip.{round_trip}
use Rattle.laws.specs.Standing.{stands, number_of}
use Rattle.laws.specs.Figures.Bounds.{found_within}
use Rattle.laws.specs.Adder.Nets.{length-up_from}
use Rattle.laws.specs.Flatten.Numbered.{below-run}
use Rattle.laws.specs.Flatten.Wired.{GateAt, Wired, done, more as then, next-of-wired}
use Rattle.laws.specs.Flatten.Shape.{flat_shape, output_count-of-flat, length-of-flat}
use Rattle.laws.specs.Flatten.Bytes.{bytes-of-flat}
use Rattle.laws.specs.Flatten.Accepted.{flat-accepted}

-- As many nets as a list may have, all below a number that is small.
nets-within :
    (n : ℕ) (nets : List ℕ)
    → n ≤ most_module_nets
    → length nets ≤ most_nets
    → ((x : ℕ) → x ∈ nets → x < n)
    → NetsWithin nets
nets-within n nets low count below = record { count = count; numbers = numbers nets below }
  where
    numbers : (xs : List ℕ) → ((x : ℕ) → x ∈ xs → x < n) → All Small xs
    numbers [] h = none
    numbers (x ∷ xs) h = more {x = x} (omega (arith, h x (here refl))) (numbers xs (λ y i. h y (there i)))

gate-within : {net : ℕ} {o : Occurrence} → net < most_module_nets → GateAt net o → OccurrenceWithin o
gate-within {net} {o} low g =
    record {
      drives = rw g.drives (record { count = omega arith; numbers = more {x = net} (omega arith) none });
      refers = omega (arith, ltb-true o.refers 16 g.kind);
      takes = nets-within net o.takes (omega arith) (omega (arith, g.arity, arity-within o.refers)) g.below;
    }

gates-within : {n k : ℕ} {os : List Occurrence} → k ≤ most_module_nets → Wired n os k → All OccurrenceWithin os
gates-within low done = none
gates-within low (then g rest) = more (gate-within (omega (arith, next-of-wired rest)) g) (gates-within low rest)

module _ (ms : List Module) (number : ℕ) (m : Module) (accepted : file_verdict ms ≡ good) (found : assoc number ms ≡ box m)
    (within : Within ms) (few : length m.inputs + gate_count ms number ≤ most_module_nets) where
  abbrev flat : Module
  flat = flat_module ms number (length m.inputs)

  flat-within : ModuleWithin flat
  unfolding flat_module
  flat-within =
      let inputs = length m.inputs in
      let shape = flat_shape ms number m accepted found in
      let gates = length-of-flat ms number m accepted found in
      let outputs = output_count-of-flat ms number m accepted found in
      let own = found_within number m within found in
      let same = number_of (stands number ms found) in
      record {
        number = omega (arith, own.number);
        inputs =
            nets-within inputs (up_from 0 inputs) (omega arith) (omega (arith, own.inputs.count, length-up_from 0 inputs))
            (below-run inputs);
        outputs =
            nets-within (inputs + gate_count ms number) flat.outputs few (omega (arith, own.outputs.count))
            (λ x i. omega (arith, shape.outputs-driven x i));
        count = omega arith;
        occurrences = gates-within (omega arith) shape.wired;
      }

  pub flat-file-within : Within (flat_module ms number (length m.inputs) ∷ [])
  flat-file-within =
      let own = found_within number m within found in
      record {
        modules = record { count = omega arith; modules = more flat-within none };
        bytes = omega (arith, bytes-of-flat ms number m accepted found, own.outputs.count);
      }

  -- The written bytes are a file that holds the flattened module,
  pub flat-reads :
      read (encode (flat_module ms number (length m.inputs) ∷ [])) ≡ holds (flat_module ms number (length m.inputs) ∷ [])
  flat-reads = round_trip _ flat-file-within

  -- and the check accepts it.
  pub flat-passes : verdict (encode (flat_module ms number (length m.inputs) ∷ [])) ≡ good
  unfolding verdict
  flat-passes = ap verdict_of flat-reads ∙ flat-accepted ms number m accepted found few
