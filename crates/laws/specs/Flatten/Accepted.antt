-- The check accepts every flattened file: where inputs and gates are together at most 4,096, the verdict on the flattened module
-- of a module of an accepted file, by itself, is good.
use Rattle.std.specs.Prelude.{ℕ, suc, ◌+◌, ◌≤◌, ◌<◌, ◌≡◌, refl, ◌⊎◌, List, [], ◌∷◌, length}
use Rattle.std.proofs.Common.{inl, inr, eq-or-lt_of_le, arith}
use Rattle.meaning.specs.Syntax.{Occurrence, Module}
use Rattle.meaning.specs.Members.{◌∈◌}
use Rattle.meaning.specs.Boxlist.{box, assoc}
use Rattle.meaning.specs.Limits.{driven, net_count, expanded_size, most_module_nets}
use Rattle.meaning.specs.Verdict.{good, file_verdict}
use Rattle.meaning.specs.Figures.{gate_count}
use Rattle.meaning.specs.Flattening.{flat_module}
use Rattle.meaning.specs.Adder.{up_from}
use Rattle.laws.specs.WellFormed.{to_gate, OccurrenceOk, Body, done, step, ModuleOk, none, some}
use Rattle.laws.specs.Tests.{is_true, is_false}
use Rattle.laws.specs.Members.{here, there, in-none}
use Rattle.laws.specs.Members.{twice-one, duplicates-tells, disjoint-tells, subset-tells}
use Rattle.laws.specs.Accepted.{good-accepted, accepted-good}
use Rattle.laws.specs.Standing.{stands, number_of, keeps-rules}
use Rattle.laws.specs.Adder.Nets.{length-up_from}
use Rattle.laws.specs.Adder.Distinct.{duplicates-of-run}
use Rattle.laws.specs.Flatten.Numbered.{of-run, below-run, in_run}
use Rattle.laws.specs.Flatten.Wired.{GateAt, Wired, done as no_more, more, driven-of-wired, size-of-wired}
use Rattle.laws.specs.Flatten.Shape.{Flat, flat_shape, length-of-flat}

-- These nets are the numbers below one.
record Below (n : ℕ) (nets : List ℕ) : Type 0 where
  are : (x : ℕ) → x ∈ nets → x < n
  all : (x : ℕ) → x < n → x ∈ nets

below-further : {n : ℕ} {nets : List ℕ} → Below n nets → Below (suc n) (n ∷ nets)
below-further {n} {nets} b = record { are = are; all = λ x l. all x (eq-or-lt_of_le l) }
  where
    are : (x : ℕ) → x ∈ (n ∷ nets) → x < suc n
    are x (here e) = omega arith
    are x (there i) = omega (arith, b.are x i)

    all : (x : ℕ) → (suc x ≡ suc n) ⊎ (suc x < suc n) → x ∈ (n ∷ nets)
    all x (inl e) = let same : x ≡ n = omega arith in here same
    all x (inr l) = there (b.all x (omega arith))

-- Gates in such an order keep the rules of occurrences.
gate-ok :
    {n : ℕ} {later : List Module} {signals : List ℕ} {o : Occurrence}
    → Below n signals
    → GateAt n o
    → OccurrenceOk later signals o
gate-ok {n} {signals = signals} {o = o} b g =
    record {
      distinct = is_false (duplicates-tells o.drives) (rw g.drives twice-one);
      fresh = is_true (disjoint-tells o.drives signals) (λ c. fresh c.net (rw g.drives at c.in_first) c.in_second);
      bound = is_true (subset-tells o.takes signals) (λ l. l.missing (b.all l.net (g.below l.net l.listed)));
      reference = to_gate g.kind g.arity (rw g.drives);
    }
  where
    fresh : (x : ℕ) → x ∈ (n ∷ []) → x ∈ signals → ⊥
    fresh x (here e) i = omega (arith, b.are x i)
    fresh x (there k) i = in-none k

body-of-wired :
    {n k : ℕ} {later : List Module} {signals : List ℕ} {os : List Occurrence}
    → Below n signals
    → Wired n os k
    → Body later signals os
body-of-wired b no_more = done
body-of-wired b (more g rest) = step (gate-ok b g) (body-of-wired (rw g.drives (below-further b)) rest)

-- A module of the shape of a flattened one keeps the rules by itself.
flat_ok :
    {inputs : ℕ} {f : Module}
    → Flat inputs f
    → 16 ≤ f.number
    → inputs + length f.occurrences ≤ most_module_nets
    → ModuleOk f []
unfolding assoc net_count
flat_ok {inputs} {f} flat above few =
    let drives = driven-of-wired flat.wired in
    let run = length-up_from 0 inputs in
    let run' = length-up_from inputs (length f.occurrences) in
    let size = size-of-wired (expanded_size []) flat.wired in
    record {
      above = above;
      unique = refl;
      inputs_distinct = rw flat.inputs_are (duplicates-of-run 0 inputs);
      outputs_distinct = is_false (duplicates-tells f.outputs) flat.outputs-once;
      apart =
          is_true (disjoint-tells f.inputs f.outputs)
          (λ c.
          omega (
            arith,
            of-run 0 inputs (rw flat.inputs_are at c.in_first),
            flat.outputs-driven c.net c.in_second,
          ));
      body = body-of-wired (rw flat.inputs_are inputs-below) flat.wired;
      outputs_driven =
          is_true (subset-tells f.outputs (driven f.occurrences))
          (λ l. l.missing (rw drives (in_run inputs _ l.net (flat.outputs-driven l.net l.listed))));
      nets = rw (flat.inputs_are, drives, run, run') few;
      size = omega arith;
    }
  where
    inputs-below : Below inputs (up_from 0 inputs)
    inputs-below = record { are = below-run inputs; all = λ x l. in_run 0 inputs x (omega arith) }

pub flat-accepted :
    (ms : List Module) (number : ℕ) (m : Module)
    → file_verdict ms ≡ good
    → assoc number ms ≡ box m
    → length m.inputs + gate_count ms number ≤ most_module_nets
    → file_verdict (flat_module ms number (length m.inputs) ∷ []) ≡ good
unfolding flat_module
flat-accepted ms number m accepted found few =
    let at = stands number ms found in
    let above : 16 ≤ number = omega (arith, number_of at, (keeps-rules (good-accepted ms accepted) at).1.above) in
    let count = length-of-flat ms number m accepted found in
    accepted-good (some (flat_ok (flat_shape ms number m accepted found) above (omega arith)) none)
