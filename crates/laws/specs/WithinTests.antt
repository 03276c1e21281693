-- A file that is written out is within the ceilings by a test that computes.
use Rattle.std.specs.Prelude.{ℕ, ◌≡◌, Bool, true, ◌&&◌, List, leb, length}
use Rattle.std.proofs.Math.Bool.{and-eq-true_iff}
use Rattle.std.proofs.Common.{leb-true}
use Rattle.meaning.specs.Syntax.{Occurrence, Module}
use Rattle.meaning.specs.Layout.{encode}
use Rattle.meaning.specs.Reading.{most_modules, most_nets, most_occurrences, most_bytes}
use Rattle.meaning.specs.Ceilings.{most_number, NetsWithin, OccurrenceWithin, ModuleWithin, Within}
use Rattle.laws.specs.Adder.ByTest.{every, all-by-test}

unfoldable pub small_number : ℕ → Bool
small_number x = leb x most_number

unfoldable pub few_nets : List ℕ → Bool
few_nets nets = leb (length nets) most_nets && every small_number nets

unfoldable pub small_occurrence : Occurrence → Bool
small_occurrence o = few_nets o.drives && (small_number o.refers && few_nets o.takes)

unfoldable pub small_module : Module → Bool
small_module m =
    small_number m.number
    && (few_nets m.inputs
    && (few_nets m.outputs && (leb (length m.occurrences) most_occurrences && every small_occurrence m.occurrences)))

unfoldable pub small_file : List Module → Bool
small_file ms = leb (length ms) most_modules && (every small_module ms && leb (length (encode ms)) most_bytes)

nets-within : (nets : List ℕ) → few_nets nets ≡ true → NetsWithin nets
unfolding small_number few_nets
nets-within nets passed =
    let parts = (and-eq-true_iff (leb (length nets) most_nets) (every small_number nets)).0 passed in
    record {
      count = leb-true (length nets) most_nets parts.0;
      numbers = all-by-test small_number (λ x. leb-true x most_number) nets parts.1;
    }

occurrence-within : (o : Occurrence) → small_occurrence o ≡ true → OccurrenceWithin o
unfolding small_number small_occurrence
occurrence-within o passed =
    let first = (and-eq-true_iff (few_nets o.drives) (small_number o.refers && few_nets o.takes)).0 passed in
    let second = (and-eq-true_iff (small_number o.refers) (few_nets o.takes)).0 first.1 in
    record {
      drives = nets-within o.drives first.0;
      refers = leb-true o.refers most_number second.0;
      takes = nets-within o.takes second.1;
    }

module_within : (m : Module) → small_module m ≡ true → ModuleWithin m
unfolding small_number small_module
module_within m passed =
    let number = (and-eq-true_iff (small_number m.number) _).0 passed in
    let inputs = (and-eq-true_iff (few_nets m.inputs) _).0 number.1 in
    let outputs = (and-eq-true_iff (few_nets m.outputs) _).0 inputs.1 in
    let body = (and-eq-true_iff (leb (length m.occurrences) most_occurrences) _).0 outputs.1 in
    record {
      number = leb-true m.number most_number number.0;
      inputs = nets-within m.inputs inputs.0;
      outputs = nets-within m.outputs outputs.0;
      count = leb-true (length m.occurrences) most_occurrences body.0;
      occurrences = all-by-test small_occurrence occurrence-within m.occurrences body.1;
    }

pub file-within : (ms : List Module) → small_file ms ≡ true → Within ms
unfolding small_file
file-within ms passed =
    let count = (and-eq-true_iff (leb (length ms) most_modules) _).0 passed in
    let rest = (and-eq-true_iff (every small_module ms) _).0 count.1 in
    record {
      modules =
          record {
            count = leb-true (length ms) most_modules count.0;
            modules = all-by-test small_module module_within ms rest.0;
          };
      bytes = leb-true (length (encode ms)) most_bytes rest.1;
    }
