-- Demand 2, a theorem for each sentence.
use Rattle.std.specs.Prelude.{ℕ, ◌+◌, ◌*◌, ◌≤◌, ◌↔◌, ◌≡◌, Bool, List, [], ◌∷◌, ◌++◌, map, length}
use Rattle.std.proofs.Common.{sym, ap, ◌∙◌, arith, length-append}
use Rattle.std.proofs.lemmas.List.{length-map}
use Rattle.meaning.specs.Syntax.{Module}
use Rattle.meaning.specs.Values.{value}
use Rattle.meaning.specs.Ceilings.{Bytes, Encodes}
use Rattle.meaning.specs.Acceptable.{Acceptable}
use Rattle.meaning.specs.Verdict.{good, verdict}
use Rattle.meaning.specs.Figures.{gate_count, room}
use Rattle.meaning.specs.Adder.{bit, binary, adder}
use Rattle.meaning.specs.Counter.{leading_zeros, digits, counter}
use Rattle.meaning.specs.Calls.{Written, Figures, answer, evaluation, flattening, counting, writing}
use Rattle.laws.specs.Exactness.{exactness}
use Rattle.laws.specs.RoundTrip.{encodes-reads}
use Rattle.laws.specs.Acceptable.{accepted_as_read}
use Rattle.laws.specs.Runs.{run-answered, only-run-answered, only-written, written}
use Rattle.laws.specs.Adder.Figures.{adder-room}
use Rattle.laws.specs.Adder.Sum.{adder-adds}
use Rattle.laws.specs.Counter.Figures.{counter-inputs, counter-outputs}
use Rattle.laws.specs.Counter.Outputs.{counter-on-known}
use Rattle.laws.specs.Demands.Terms.{Answered, HevalBytes, RunReads, Writer}
use Rattle.laws.specs.Demands.Bits.{bits_small}
use Rattle.laws.specs.Demands.KnownRuns.{known-run-is-heval, known-run-reads}
use Rattle.laws.specs.Demands.FlatRuns.{flattens, one_module, counted-here}
use Rattle.laws.specs.Demands.Writers.{adder_module, adder-inputs, adder-outputs-count, counter-module, most_bytes, accepts}

module _ (file : List ℕ) (bytes : Bytes file) where
  -- "A file is accepted exactly when the Brock and Hunt rules, our byte layout and our limits accept it."
  pub accepted_exactly : verdict file ≡ good ↔ ((ms : List Module) × Encodes file ms × Acceptable ms)
  accepted_exactly =
      let read-exactly = accepted_as_read file in (
        (λ e. let h = read-exactly.0 e in (h.0, exactness file bytes h.0 h.1, h.2)),
        λ h. read-exactly.1 (h.0, encodes-reads h.1, h.2),
      )

  module _ (number : ℕ) (bits : List Bool) where
    -- "Runs on known bits, of the module and of its flattening, give Brock and Hunt's hierarchical value."
    pub runs-give-heval :
        (scratch out : ℕ) (w : Written)
        → evaluation file number (map bit bits) scratch out ≡ answer w
        → HevalBytes file number bits w.bytes
    runs-give-heval scratch out w h =
        let run = only-run-answered file number (map bit bits) scratch out w h in
        let r = run.0 in
        rw run.1 (known-run-is-heval r.here bytes bits (sym (length-map bits bit) ∙ r.count))

    module _ (lent size : ℕ) (flat : Written) (flattened : flattening file number lent size ≡ answer flat) where
      pub flattened-runs-give-heval :
          (scratch out : ℕ) (w : Written)
          → evaluation flat.bytes number (map bit bits) scratch out ≡ answer w
          → HevalBytes file number bits w.bytes
      flattened-runs-give-heval scratch out w h =
          let run = only-run-answered flat.bytes number (map bit bits) scratch out w h in
          let all = flattens file number lent size flat bytes flattened in
          let it = one_module run.0.here all.there in
          let count : length (map bit bits) ≡ length all.m.inputs
          = run.0.count ∙ ap (λ k. length k.inputs) it.1 ∙ all.same.inputs in
          rw (run.1, it.0, all.same.evaluates (map value (map bit bits)) (length-map (map bit bits) value ∙ count))
          (known-run-is-heval all.here bytes bits (sym (length-map bits bit) ∙ count))

      -- Such a run is answered where it has an entry of scratch for each input and each gate, and a byte for each output.
      pub flattened-runs-answered :
          (counted : ℕ) (figures : Figures)
          → counting file number counted ≡ answer figures
          → length bits ≡ figures.inputs
          → (scratch out : ℕ)
          → figures.inputs + figures.gates ≤ scratch
          → figures.outputs ≤ out
          → Answered (evaluation flat.bytes number (map bit bits) scratch out)
      flattened-runs-answered counted figures g count scratch out roomy fits =
          let all = flattens file number lent size flat bytes flattened in
          let same = all.same in
          let is = counted-here counted figures all.here g in
          let inputs : figures.inputs ≡ length all.m.inputs = rw is in
          let outputs : figures.outputs ≡ length all.m.outputs = rw is in
          let gates : figures.gates ≡ gate_count all.ms number = rw is in (
            _,
            run-answered
                (record {
                  ms = all.flat ∷ [];
                  m = all.flat;
                  here = all.there;
                  count = length-map bits bit ∙ count ∙ inputs ∙ sym same.inputs;
                  small = bits_small bits;
                  roomy = omega (arith, same.rooms);
                  fits = omega (arith, same.outputs);
                }),
          )

-- "Written adders add,"
pub written-adders-add :
    (width size : ℕ) (w : Written)
    → writing adder width size ≡ answer w
    → (carry : Bool) (a b : List Bool)
    → length a ≡ width
    → length b ≡ width
    → (scratch out : ℕ)
    → 4 * width + 13 ≤ scratch
    → width + 1 ≤ out
    → RunReads (evaluation w.bytes 18 (map bit (carry ∷ (a ++ b))) scratch out) (width + 1) (bit carry + binary a + binary b)
written-adders-add width size w h carry a b a-fits b-fits scratch out roomy fits =
    let wrote = only-written adder width size w h in
    let sum = adder-adds width carry a b a-fits b-fits in
    rw wrote.2
    (known-run-reads (adder_module width wrote.0 wrote.1) (carry ∷ (a ++ b)) sum.bits
    (omega (arith, length-append a b, adder-inputs width))
    (omega (arith, adder-room width wrote.0))
    (omega (arith, adder-outputs-count width))
    sum.known-bits
    (omega (arith, sum.count))
    sum.sum)

-- "written counters count,"
pub written-counters-count :
    (width size : ℕ) (w : Written)
    → writing counter width size ≡ answer w
    → (bits : List Bool)
    → length bits ≡ width
    → (scratch out : ℕ)
    → room (counter width) 32 ≤ scratch
    → length (digits width) ≤ out
    → RunReads (evaluation w.bytes 32 (map bit bits) scratch out) (length (digits width)) (leading_zeros bits)
written-counters-count width size w h bits bits_fit scratch out roomy fits =
    let wrote = only-written counter width size w h in
    let zeros = counter-on-known width wrote.0 bits bits_fit in
    rw wrote.2
    (known-run-reads (counter-module width wrote.0 wrote.1) bits zeros.bits
    (omega (arith, counter-inputs width))
    roomy
    (omega (arith, counter-outputs width))
    zeros.known-bits
    zeros.count
    zeros.reads)

-- "at every width 1 to 64,": an adder has at most 1,019 bytes, a counter 773.
pub every-width-written :
    {modules : ℕ → List Module} → Writer modules
    → (width : ℕ)
    → 1 ≤ width
    → width ≤ 64
    → (out : ℕ)
    → 1019 ≤ out
    → Answered (writing modules width out)
every-width-written {modules} writer width some most out fits =
    (_, written modules width some most out (omega (arith, most_bytes writer width some most)))

-- "and our check accepts them."
pub written-accepted :
    {modules : ℕ → List Module} → Writer modules
    → (width out : ℕ) (w : Written)
    → writing modules width out ≡ answer w
    → verdict w.bytes ≡ good
written-accepted {modules} writer width out w h =
    let wrote = only-written modules width out w h in
    rw wrote.2 (accepts writer width wrote.0 wrote.1)
