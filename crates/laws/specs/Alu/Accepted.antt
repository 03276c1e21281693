-- The check accepts the ALU of each width from 1 to 64.
use Rattle.std.specs.Prelude.{ℕ, ◌+◌, ◌*◌, ◌≤◌, ◌≡◌, true, List, [], ◌∷◌}
use Rattle.std.proofs.Math.Path.{refl}
use Rattle.std.proofs.Common.{arith}
use Rattle.std.proofs.Math.Dec.{lit≤}
use Rattle.meaning.specs.Lists.{All, none, more}
use Rattle.meaning.specs.Syntax.{Occurrence, Module}
use Rattle.meaning.specs.Gates.{is_gate, gate, gates}
use Rattle.meaning.specs.Boxlist.{member, disjoint, duplicates, subset, assoc, F, arity_okp}
use Rattle.meaning.specs.Limits.{driven, net_count, body_size, expanded_size, most_size}
use Rattle.meaning.specs.Verdict.{good, occurrence_verdict, body_verdict, module_verdict, modules_verdict, sizes_verdict, file_verdict}
use Rattle.meaning.specs.FastAdder.{Step, lookahead, steps}
use Rattle.meaning.specs.Alu.{control, cell, out_net, copy_count, alu_module, alu_over, alu}
use Rattle.laws.specs.WellFormed.{to_gate, to_module, Reference, Body, done, step, ModuleOk, Accepted, some}
use Rattle.laws.specs.Accepted.{good-accepted, accepted-good}
use Rattle.laws.specs.Adder.ByTest.{all-by-test}
use Rattle.laws.specs.Adder.Distinct.{duplicates-of-run}
use Rattle.laws.specs.FastAdder.Signals.{width}
use Rattle.laws.specs.FastAdder.Bodies.{after_first}
use Rattle.laws.specs.FastAdder.Shape.{steps-width}
use Rattle.laws.specs.FastAdder.Accepted.{later-accepted}
use Rattle.laws.specs.Alu.Occurrences.{after_alu, inputs-distinct, outputs-apart}
use Rattle.laws.specs.Alu.Bodies.{alu-body, alu-drives}
use Rattle.laws.specs.Alu.Figures.{alu-nets, alu-body-size, copies-most}

-- A module of gates alone is as good in front of other modules.
abbrev OfGate : Occurrence → Type 0
OfGate o = is_gate o.refers ≡ true

body-of-gates :
    {later other : List Module} {signals : List ℕ} {os : List Occurrence} → All OfGate os → Body later signals os
    → Body other signals os
body-of-gates none done = done
body-of-gates {later} {other} (more {x = o} is-gate others) (step ok rest) =
    step
    (record { distinct = ok.distinct; fresh = ok.fresh; bound = ok.bound; reference = go ok.reference })
    (body-of-gates others rest)
  where
    go : Reference later o → Reference other o
    go (to_gate is arity one) = to_gate is arity one
    go (to_module m no_gate found takes drives) = let never : ◌≡◌ {A = ℕ} 0 1 = cc in absurd (omega arith)

gates-elsewhere :
    {m : Module} {later other : List Module} → All OfGate m.occurrences → assoc m.number other ≡ F
    → body_size (expanded_size other) m.occurrences ≤ most_size → ModuleOk m later → ModuleOk m other
gates-elsewhere all unique size ok =
    record {
      above = ok.above;
      unique = unique;
      inputs_distinct = ok.inputs_distinct;
      outputs_distinct = ok.outputs_distinct;
      apart = ok.apart;
      body = body-of-gates all ok.body;
      outputs_driven = ok.outputs_driven;
      nets = ok.nets;
      size = size;
    }

control-gates : All OfGate control.occurrences
control-gates = all-by-test (λ o. is_gate o.refers) (λ o e. e) control.occurrences refl

cell-gates : All OfGate cell.occurrences
cell-gates = all-by-test (λ o. is_gate o.refers) (λ o e. e) cell.occurrences refl

of-gates : (m : Module) → file_verdict (m ∷ []) ≡ good → ModuleOk m []
of-gates m verdict = first (good-accepted (m ∷ []) verdict)
  where
    first : Accepted (m ∷ []) → ModuleOk m []
    first (some ok rest) = ok

control-alone : file_verdict (control ∷ []) ≡ good
unfolding
    file_verdict modules_verdict module_verdict body_verdict occurrence_verdict duplicates disjoint subset member arity_okp assoc gate gates
    driven net_count sizes_verdict expanded_size body_size
control-alone = refl

cell-alone : file_verdict (cell ∷ []) ≡ good
unfolding
    file_verdict modules_verdict module_verdict body_verdict occurrence_verdict duplicates disjoint subset member arity_okp assoc gate gates
    driven net_count sizes_verdict expanded_size body_size
cell-alone = refl

module _ (n copied : ℕ) (steps : List Step) (whole : width steps ≡ n) (least : 1 ≤ n) (most : n ≤ 64) (few : 8 * copied ≤ n + 7) where
  control-ok : ModuleOk control (cell ∷ after_first n steps)
  unfolding assoc lookahead body_size
  control-ok = gates-elsewhere control-gates refl (lit≤ tt) (of-gates control control-alone)

  cell-ok : ModuleOk cell (after_first n steps)
  unfolding assoc lookahead body_size
  cell-ok = gates-elsewhere cell-gates refl (lit≤ tt) (of-gates cell cell-alone)

  alu-ok : ModuleOk (alu_module n copied) (after_alu n steps)
  unfolding alu_module lookahead assoc
  alu-ok =
      record {
        above = lit≤ tt;
        unique = refl;
        inputs_distinct = inputs-distinct n;
        outputs_distinct = duplicates-of-run (out_net n) (n + 2);
        apart = outputs-apart n;
        body = alu-body n copied steps least;
        outputs_driven = alu-drives n copied steps least;
        nets = omega (arith, alu-nets n copied steps whole);
        size = omega (arith, alu-body-size n copied steps whole);
      }

  accepted-over : Accepted (alu_over n copied steps)
  unfolding alu_over
  accepted-over = some alu-ok (some control-ok (some cell-ok (later-accepted n steps whole least most)))

pub alu-accepted : (n : ℕ) → 1 ≤ n → n ≤ 64 → file_verdict (alu n) ≡ good
unfolding alu
alu-accepted n least most =
    accepted-good (accepted-over n (copy_count n) (steps n) (steps-width n) least most (copies-most n))
