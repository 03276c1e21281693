-- The answer: where no refusal applies, what the run leaves is what is asked for.
use Rattle.std.specs.Prelude.{Ok}
use Prim.Native.Nat.{ℕ, ◌≤◌}
use mathlib.Core.Path.{◌≡◌, sym, ap, ◌∙◌}
use mathlib.Core.List.{List, map}
use native.Mathlib.Omega.{arith}
use borrow.Author.Tests.{eq-eqb, le-leb}
use lib.ListN.{length, length-map}
use Rattle.meaning.specs.Values.{value, code}
use Rattle.meaning.specs.Evaluation.{evaluate}
use Rattle.meaning.specs.Figures.{room}
use Rattle.meaning.specs.Calls.{Decision, answer, first_above, Written, out_after, scratch_after, evaluation_on}
use Rattle.laws.specs.OutputCount.{output_count, length-of-evaluate}
use Rattle.run_engine.specs.Calls.{Evaluable, Evaluated}
use Rattle.answers.specs.Answers.{writing_of}
use Rattle.answers.specs.Settled.{Settles}
use Rattle.open_finding.specs.Standing.{Standing}
use Rattle.open_finding.specs.declared.Site.{Site}
use Rattle.call_evaluate.proofs.Running.{runnable, outputs-are, cleared-are}

module _
    {image starts nets : List ℕ} {site : Site} (s : Standing image starts nets site) (values scratch out : List ℕ)
    (fed : length values ≡ length s.found.m.inputs) (small : first_above values ≡ length values) (wide : site.room ≤ length scratch)
    (long : length s.found.m.outputs ≤ length out)
  where
    abbrev written : Written
    written =
        record {
          bytes = map code (evaluate s.ms site.number (map value values));
          cleared = room s.ms site.number;
        }

    decided : evaluation_on site.number values (length scratch) (length out) s.ms s.found.m ≡ answer written
    decided =
        rw (eq-eqb _ _ fed, eq-eqb _ _ small, le-leb (room s.ms site.number) (length scratch) (omega (arith, s.room_is)), le-leb _ _ long)

    pub answered :
        {scratch' out' : List ℕ} {count : ℕ}
        → ((e : Evaluable image starts nets site.position site.room values scratch out)
        → Evaluated e.callable.rs site.position site.room values scratch out scratch' out')
        → count ≡ length s.found.m.outputs
        → Settles (evaluation_on site.number values (length scratch) (length out) s.ms s.found.m) scratch out scratch' out' (Ok count)
    answered runs counted =
        let ran = runs (runnable s fed wide long) in
        record {
          answered =
              record {
                is =
                    ap Ok
                    (counted
                    ∙ sym (ap output_count s.found.found)
                    ∙ sym (length-of-evaluate s.ms site.number (map value values))
                    ∙ sym (length-map (evaluate s.ms site.number (map value values)) code))
                    ∙ sym (ap writing_of decided);
                out =
                    outputs-are s fed wide long ran
                    ∙ sym (ap (λ (d : Decision Written). out_after d out) decided);
              };
          scratched =
              cleared-are s fed wide long ran ∙ sym (ap (λ (d : Decision Written). scratch_after (λ w. w.cleared) d scratch) decided);
        }
