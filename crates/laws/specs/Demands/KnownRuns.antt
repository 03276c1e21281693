-- Runs of a module of an accepted file on known bits: what they write is HEVAL's value, and they are answered with the room and the
-- buffer that the module needs.
use Rattle.std.specs.Prelude.{ℕ, ◌≤◌, ◌≡◌, refl, Bool, List, map, length}
use Rattle.std.proofs.Common.{sym, ap, ◌∙◌}
use Rattle.std.proofs.lemmas.List.{length-map}
use Rattle.meaning.specs.Syntax.{Module}
use Rattle.meaning.specs.Values.{value, known, code}
use Rattle.meaning.specs.Boxlist.{box, assoc}
use Rattle.meaning.specs.Layout.{encode}
use Rattle.meaning.specs.Ceilings.{Bytes, Within}
use Rattle.meaning.specs.Verdict.{good, verdict_of, verdict}
use Rattle.meaning.specs.Evaluation.{evaluate}
use Rattle.meaning.specs.Heval.{pairlist, heval}
use Rattle.meaning.specs.Figures.{room}
use Rattle.meaning.specs.Adder.{bit, binary}
use Rattle.meaning.specs.Calls.{evaluation}
use Rattle.laws.specs.Exactness.{exactness}
use Rattle.laws.specs.RoundTrip.{round_trip}
use Rattle.laws.specs.Heval.{evaluate-is-heval-on-inputs}
use Rattle.laws.specs.Calls.{ModuleOf}
use Rattle.laws.specs.Runs.{run-answered}
use Rattle.laws.specs.Demands.Terms.{HevalGives, HevalBytes, RunReads}
use Rattle.laws.specs.Demands.Bits.{values-of-bits, codes_of-known, bits_small}

module _ {file : List ℕ} {number : ℕ} {ms : List Module} {m : Module} (here : ModuleOf file number ms m) where
  -- HEVAL's value for bits on the module's inputs.
  pub heval-here :
      Bytes file
      → (bits : List Bool)
      → HevalGives file number bits (heval ms number m.inputs (pairlist m.inputs bits))
  heval-here bytes bits =
      record { ms = ms; m = m; encodes = exactness file bytes ms here.reads; found = here.found; gives = refl }

  pub known-run-is-heval :
      Bytes file
      → (bits : List Bool)
      → length bits ≡ length m.inputs
      → HevalBytes file number bits (map code (evaluate ms number (map value (map bit bits))))
  known-run-is-heval bytes bits count =
      let values = heval ms number m.inputs (pairlist m.inputs bits) in
      record {
        values = values;
        given = heval-here bytes bits;
        are =
            ap (λ vs. map code (evaluate ms number vs)) (values-of-bits bits)
            ∙ ap (map code) (evaluate-is-heval-on-inputs ms number m here.accepted here.found bits count)
            ∙ codes_of-known values;
      }

  pub known-run-reads :
      (bits outs : List Bool) {scratch out count n : ℕ}
      → length bits ≡ length m.inputs
      → room ms number ≤ scratch
      → length m.outputs ≤ out
      → evaluate ms number (map known bits) ≡ map known outs
      → length outs ≡ count
      → binary outs ≡ n
      → RunReads (evaluation file number (map bit bits) scratch out) count n
  known-run-reads bits outs fit roomy fits is counted reads =
      record {
        written = _;
        answered =
            run-answered
            (record {
              ms = ms;
              m = m;
              here = here;
              count = length-map bits bit ∙ fit;
              small = bits_small bits;
              roomy = roomy;
              fits = fits;
            });
        bits = outs;
        are =
            ap (λ vs. map code (evaluate ms number vs)) (values-of-bits bits) ∙ ap (map code) is ∙ codes_of-known outs;
        counted = counted;
        reads = reads;
      }

-- A module of a list that is written.
pub module_of-written :
    (ms : List Module) {number : ℕ} {m : Module}
    → Within ms
    → verdict (encode ms) ≡ good
    → assoc number ms ≡ box m
    → ModuleOf (encode ms) number ms m
unfolding verdict
module_of-written ms within accepted found =
    let reads = round_trip ms within in
    record { reads = reads; accepted = sym (ap verdict_of reads) ∙ accepted; found = found }
