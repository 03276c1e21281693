-- The check accepts the propagate-generate adder of each width from 1 to 64.
use Rattle.std.specs.Prelude.{ℕ, ◌≤◌, ◌≡◌, refl, List}
use Rattle.std.proofs.Common.{arith}
use Rattle.std.proofs.Math.Dec.{lit≤}
use Rattle.meaning.specs.Gates.{gate, gates}
use Rattle.meaning.specs.Boxlist.{member, disjoint, duplicates, subset, assoc, arity_okp}
use Rattle.meaning.specs.Limits.{driven, net_count, body_size, expanded_size}
use Rattle.meaning.specs.Verdict.{good, occurrence_verdict, body_verdict, module_verdict, modules_verdict, sizes_verdict, file_verdict}
use Rattle.meaning.specs.FastAdder.{Step, lookahead, fast_module, fast_adder_over, steps, fast_adder}
use Rattle.laws.specs.WellFormed.{ModuleOk, Accepted, some}
use Rattle.laws.specs.Accepted.{good-accepted, accepted-good}
use Rattle.laws.specs.Adder.Distinct.{duplicates-of-run}
use Rattle.laws.specs.FastAdder.Signals.{width}
use Rattle.laws.specs.FastAdder.Passing.{carriers}
use Rattle.laws.specs.FastAdder.Bodies.{inputs-distinct, lookahead-body, lookahead-drives, carries-apart, after_first, fast_body, fast_drives, outputs-distinct, outputs-apart}
use Rattle.laws.specs.FastAdder.Shape.{steps-width}
use Rattle.laws.specs.FastAdder.Figures.{lookahead-nets, lookahead-size, fast_nets, fast_body-size}

carriers-good : file_verdict carriers ≡ good
unfolding
    file_verdict modules_verdict module_verdict body_verdict occurrence_verdict duplicates disjoint subset member arity_okp assoc gate gates
    driven net_count sizes_verdict expanded_size body_size
carriers-good = refl

module _ (n : ℕ) (steps : List Step) (whole : width steps ≡ n) (least : 1 ≤ n) (most : n ≤ 64) where
  lookahead-ok : ModuleOk (lookahead n steps) carriers
  unfolding lookahead assoc
  lookahead-ok =
      record {
        above = lit≤ tt;
        unique = refl;
        inputs_distinct = inputs-distinct n;
        outputs_distinct = duplicates-of-run 1 n;
        apart = carries-apart n;
        body = lookahead-body n steps whole;
        outputs_driven = lookahead-drives n steps whole;
        nets = omega (arith, lookahead-nets n steps whole);
        size = omega (arith, lookahead-size n steps whole);
      }

  fast_ok : ModuleOk (fast_module n) (after_first n steps)
  unfolding fast_module lookahead assoc
  fast_ok =
      record {
        above = lit≤ tt;
        unique = refl;
        inputs_distinct = inputs-distinct n;
        outputs_distinct = outputs-distinct n least;
        apart = outputs-apart n least;
        body = fast_body n steps whole least;
        outputs_driven = fast_drives n steps whole least;
        nets = omega (arith, fast_nets n steps whole);
        size = omega (arith, fast_body-size n steps whole);
      }

  -- The carry network by itself, and the adder.
  pub later-accepted : Accepted (after_first n steps)
  later-accepted = some lookahead-ok (good-accepted carriers carriers-good)

  accepted-over : Accepted (fast_adder_over n steps)
  unfolding fast_adder_over
  accepted-over = some fast_ok later-accepted

pub fast_adder-accepted : (n : ℕ) → 1 ≤ n → n ≤ 64 → file_verdict (fast_adder n) ≡ good
unfolding fast_adder
fast_adder-accepted n least most = accepted-good (accepted-over n (steps n) (steps-width n) least most)
