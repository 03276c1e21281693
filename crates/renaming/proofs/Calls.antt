-- A file and the same file under other numbers answer alike whatever is asked of a module: the same outputs, the same figures, the same
-- refusals, and the same flattened module but for its number.
use Rattle.std.specs.Prelude.{ℕ, ◌≡◌, false, List, map, length}
use Rattle.std.proofs.Math.Path.{refl}
use Rattle.std.proofs.Common.{ap}
use Rattle.std.proofs.Math.ListN.{length-map}
use Rattle.meaning.specs.Syntax.{Module}
use Rattle.meaning.specs.Values.{Val, known, value}
use Rattle.meaning.specs.Boxlist.{Found, assoc}
use Rattle.meaning.specs.Reading.{holds, read}
use Rattle.meaning.specs.Verdict.{file_verdict}
use Rattle.meaning.specs.Evaluation.{gate_outputs, evaluate}
use Rattle.meaning.specs.Calls.{if_good, on_module, on_file, evaluation_on, evaluation, counting_on, counting, flat_file, flattening_on, flattening}
use Rattle.renaming.specs.Renamed.{KeepsGates, Renamed}
use Rattle.renaming.specs.Searches.{FoundAs, both, neither, found_renamed}
use Rattle.renaming.proofs.Runs.{run_renamed}
use Rattle.renaming.proofs.Figures.{expanded_size_renamed, gate_count_renamed, tally_renamed, room_renamed, delay_renamed}
use Rattle.renaming.proofs.Loads.{largest_load_renamed}
use Rattle.renaming.proofs.Verdicts.{verdict_renamed}
use Rattle.renaming.proofs.Flat.{flat_renamed}
use Rattle.renaming.specs.Calls.{flattening_under}

module _ {number : ℕ → ℕ} (keeps : KeepsGates number) {ms ns : List Module} (renamed : Renamed number ms ns) where
  pub evaluate_renamed : (x : ℕ) → (vs : List Val) → evaluate ns (number x) vs ≡ evaluate ms x vs
  unfolding evaluate
  evaluate_renamed x vs = run_renamed keeps (known false) gate_outputs renamed x vs

  module _ (x : ℕ) where
    evaluation-found : (values : List ℕ) (scratch out : ℕ) {a b : Found} → FoundAs number a b
        → on_module b (evaluation_on (number x) values scratch out ns) ≡ on_module a (evaluation_on x values scratch out ms)
    evaluation-found values scratch out (both {m} net one) =
        rw (length-map m.inputs net, length-map m.outputs net, room_renamed keeps renamed x, evaluate_renamed x (map value values))
    evaluation-found values scratch out neither = refl

    counting-found : (scratch : ℕ) {a b : Found} → FoundAs number a b
        → on_module b (counting_on (number x) scratch ns) ≡ on_module a (counting_on x scratch ms)
    counting-found scratch (both {m} net one) =
        rw (
          length-map m.inputs net,
          length-map m.outputs net,
          tally_renamed keeps renamed x,
          gate_count_renamed keeps renamed x,
          expanded_size_renamed keeps renamed x,
          room_renamed keeps renamed x,
          delay_renamed keeps renamed x,
          largest_load_renamed keeps renamed x,
        )
    counting-found scratch neither = refl

    flattening-found : (scratch out : ℕ) {a b : Found} → FoundAs number a b
        → on_module b (flattening_on (number x) scratch out ns) ≡ on_module a (flattening_under (number x) x scratch out ms)
    unfolding flat_file
    flattening-found scratch out (both {m} net one) =
        rw (
          length-map m.inputs net,
          gate_count_renamed keeps renamed x,
          room_renamed keeps renamed x,
          flat_renamed keeps renamed x (length m.inputs),
        )
    flattening-found scratch out neither = refl

  -- Files that read to them.
  module _ (file file' : List ℕ) (reads : read file ≡ holds ms) (reads' : read file' ≡ holds ns) (x : ℕ) where
    pub same-evaluation : (values : List ℕ) (scratch out : ℕ)
        → evaluation file' (number x) values scratch out ≡ evaluation file x values scratch out
    unfolding evaluation on_file
    same-evaluation values scratch out =
        rw (reads, reads', verdict_renamed keeps renamed)
        (ap (if_good (file_verdict ms)) (evaluation-found x values scratch out (found_renamed keeps renamed x)))

    pub same-counting : (scratch : ℕ) → counting file' (number x) scratch ≡ counting file x scratch
    unfolding counting on_file
    same-counting scratch =
        rw (reads, reads', verdict_renamed keeps renamed)
        (ap (if_good (file_verdict ms)) (counting-found x scratch (found_renamed keeps renamed x)))

    pub same-flattening : (scratch out : ℕ)
        → flattening file' (number x) scratch out ≡ on_file file (λ ms. on_module (assoc x ms) (flattening_under (number x) x scratch out ms))
    unfolding flattening on_file
    same-flattening scratch out =
        rw (reads, reads', verdict_renamed keeps renamed)
        (ap (if_good (file_verdict ms)) (flattening-found x scratch out (found_renamed keeps renamed x)))
