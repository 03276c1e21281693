-- Demand 3, a theorem for each sentence.
use Rattle.std.specs.Prelude.{ℕ, ◌+◌, ◌≤◌, ◌↔◌, ◌≡◌, Bool, true, false, List, map, length}
use Rattle.std.proofs.Common.{sym, ap, ◌∙◌, arith}
use Rattle.std.proofs.Math.Option.{some}
use Rattle.std.proofs.Math.ListN.{get_elem?}
use Rattle.std.proofs.lemmas.List.{length-map}
use Rattle.meaning.specs.Values.{value, code, Fills}
use Rattle.meaning.specs.Gates.{gate, gate_value, gate_code}
use Rattle.meaning.specs.Ceilings.{Bytes}
use Rattle.meaning.specs.Evaluation.{evaluate}
use Rattle.meaning.specs.Figures.{gate_count, room}
use Rattle.meaning.specs.Adder.{bit}
use Rattle.meaning.specs.Calls.{Written, Figures, answer, evaluation, flattening, counting}
use Rattle.laws.specs.Fillings.{Gives}
use Rattle.laws.specs.Gates.{gate_unknown_exactly}
use Rattle.laws.specs.Evaluation.{two_runs}
use Rattle.laws.specs.Heval.{known-early, inputs-bound}
use Rattle.laws.specs.Runs.{evaluation-on, only-run-answered}
use Rattle.laws.specs.Demands.Terms.{outputs, HevalGives, KeepsKnown}
use Rattle.laws.specs.Demands.Bits.{code-of_unknown, length-of-filling, code_at, values_agree, codes_keep}
use Rattle.laws.specs.Demands.KnownRuns.{heval-here}
use Rattle.laws.specs.Demands.FlatRuns.{flattens, one_module, counted-here, flat-run}

-- "With unknown bits a gate's result is unknown only if fillings of its own arguments disagree;"
pub unknown_only_if_fillings_disagree :
    (number : ℕ) (values : List ℕ)
    → gate_code number values ≡ 2
    ↔ (Gives (gate number).function (map value values) false × Gives (gate number).function (map value values) true)
unfolding gate_code
unknown_only_if_fillings_disagree number values =
    let exactly = gate_unknown_exactly number (map value values) in
    ((λ e. exactly.0 (code-of_unknown (gate_value number (map value values)) e)), λ h. ap code (exactly.1 h))

module _ (file : List ℕ) (number : ℕ) where
  module _ (values : List ℕ) (scratch out : ℕ) (w : Written) (run : evaluation file number values scratch out ≡ answer w) where
    -- "an output known early is right for every filling;": the output of HEVAL on each filling of the values,
    pub known-early-is-right :
        Bytes file
        → (bits : List Bool)
        → Fills (map value values) bits
        → (outs : List Bool)
        × HevalGives file number bits outs
        × ((i : ℕ) (b : Bool) → get_elem? w.bytes i ≡ some (bit b) → get_elem? outs i ≡ some b)
    known-early-is-right bytes bits fills =
        let ran = only-run-answered file number values scratch out w run in
        let r = ran.0 in
        let here = r.here in
        let count : length bits ≡ length r.m.inputs = sym (length-of-filling fills) ∙ length-map values value ∙ r.count in
        let bound = inputs-bound r.ms number r.m here.accepted here.found bits count in (
          _,
          heval-here here bytes bits,
          λ i b e.
              known-early r.ms number r.m here.accepted here.found (map value values) bits _ _ fills bound i b
              (code_at (evaluate r.ms number (map value values)) i b (rw ran.1 at e)),
        )

    -- and that of any second run that has the same value at every input that this one knows.
    pub second-run-agrees :
        (values' : List ℕ) (scratch' out' : ℕ) (w' : Written)
        → evaluation file number values' scratch' out' ≡ answer w'
        → KeepsKnown values values'
        → KeepsKnown w.bytes w'.bytes
    second-run-agrees values' scratch' out' w' run' keeps =
        let ran = only-run-answered file number values scratch out w run in
        let ran' = only-run-answered file number values' scratch' out' w' run' in
        let it = one_module ran.0.here ran'.0.here in
        let counts : length values ≡ length values'
        = ran.0.count ∙ ap (λ m. length m.inputs) it.1 ∙ sym ran'.0.count in
        rw (ran.1, ran'.1, ← it.0)
        (codes_keep (two_runs ran.0.ms number (map value values) (map value values') (values_agree values values' counts keeps)))

  -- "flattening keeps the unknown ones too.": on every list of values and with any output buffer, a run of the flattening comes to
  -- what a run of the module comes to, byte for byte and refusal for refusal, where each has the scratch that it needs.
  pub flattening-keeps :
      Bytes file
      → (lent size counted : ℕ) (flat : Written) (figures : Figures)
      → flattening file number lent size ≡ answer flat
      → counting file number counted ≡ answer figures
      → (values : List ℕ) (scratch scratch' out : ℕ)
      → figures.room ≤ scratch
      → figures.inputs + figures.gates ≤ scratch'
      → outputs (evaluation flat.bytes number values scratch' out) ≡ outputs (evaluation file number values scratch out)
  flattening-keeps bytes lent size counted flat figures f g values scratch scratch' out roomy roomy' =
      let all = flattens file number lent size flat bytes f in
      let is = counted-here counted figures all.here g in
      let rooms : figures.room ≡ room all.ms number = rw is in
      let inputs : figures.inputs ≡ length all.m.inputs = rw is in
      let gates : figures.gates ≡ gate_count all.ms number = rw is in
      rw (evaluation-on values scratch' out all.there, evaluation-on values scratch out all.here)
      (flat-run values scratch scratch' out all.same (omega arith) (omega (arith, all.same.rooms)))
