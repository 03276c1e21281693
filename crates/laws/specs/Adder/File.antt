-- The written adder is within the ceilings, so reading its bytes gives it back, and the check accepts them.
use Rattle.std.specs.Prelude.{◌≡◌, refl, Bool, true, ◌&&◌, List, [], ◌∷◌, ◌++◌, ℕ, zero, suc, ◌+◌, ◌*◌, ◌≤◌, leb, length}
use Rattle.std.proofs.Common.{ap, ◌∙◌, append-nil, arith, lit≤, leb-true, length-append}
use Rattle.std.proofs.Math.Bool.{and-eq-true_iff}
use Rattle.meaning.specs.Lists.{All, none, more}
use Rattle.meaning.specs.Syntax.{Occurrence, Module}
use Rattle.meaning.specs.Layout.{encode}
use Rattle.meaning.specs.Reading.{most_nets, most_occurrences, holds, read}
use Rattle.meaning.specs.Ceilings.{Small, most_number, NetsWithin, OccurrenceWithin, ModuleWithin, Within}
use Rattle.meaning.specs.Verdict.{good, verdict, verdict_of}
use Rattle.meaning.specs.Adder.{up_from, adder_cells, ripple_adder, full_adder, half_adder, adder}
use Rattle.laws.specs.RoundTrip.{round_trip}
use Rattle.laws.specs.Adder.ByTest.{every, all-by-test}
use Rattle.laws.specs.Adder.Nets.{length-up_from}
use Rattle.laws.specs.Adder.Numbers.{length-of-cells}
use Rattle.laws.specs.Adder.Bytes.{length-of-adder}
use Rattle.laws.specs.Adder.Accepted.{adder-accepted}

-- What is written out is within by tests.
abbrev is_small : ℕ → Bool
is_small x = leb x most_number

abbrev are_few : List ℕ → Bool
are_few nets = leb (length nets) most_nets && every is_small nets

nets-by-test : (nets : List ℕ) → are_few nets ≡ true → NetsWithin nets
nets-by-test nets passed =
    let both = (and-eq-true_iff (leb (length nets) most_nets) _).0 passed in
    record { count = leb-true _ _ both.0; numbers = all-by-test is_small (λ x. leb-true x most_number) nets both.1 }

abbrev fits : Occurrence → Bool
fits o = is_small o.refers && (are_few o.drives && are_few o.takes)

occurrence-by-test : (o : Occurrence) → fits o ≡ true → OccurrenceWithin o
occurrence-by-test o passed =
    let both = (and-eq-true_iff (is_small o.refers) _).0 passed in
    let nets = (and-eq-true_iff (are_few o.drives) _).0 both.1 in
    record { drives = nets-by-test _ nets.0; refers = leb-true _ _ both.0; takes = nets-by-test _ nets.1 }

module_by-test : (m : Module) → Small m.number → are_few m.inputs ≡ true → are_few m.outputs ≡ true
    → length m.occurrences ≤ most_occurrences → every fits m.occurrences ≡ true → ModuleWithin m
module_by-test m number inputs outputs count occurrences =
    record {
      number = number;
      inputs = nets-by-test _ inputs;
      outputs = nets-by-test _ outputs;
      count = count;
      occurrences = all-by-test fits occurrence-by-test _ occurrences;
    }

tail_within : All ModuleWithin (full_adder ∷ half_adder ∷ [])
tail_within =
    more (module_by-test full_adder (lit≤ tt) refl refl (lit≤ tt) refl)
    (more (module_by-test half_adder (lit≤ tt) refl refl (lit≤ tt) refl)
    none)

small-run : (first n : ℕ) (nets : List ℕ) → first + n ≤ suc most_number → All Small nets → All Small (up_from first n ++ nets)
unfolding up_from
small-run first zero nets low rest = rest
small-run first (suc n) nets low rest = more {x = first} (omega arith) (small-run (suc first) n nets (omega arith) rest)

cells-within :
    (a b s k before n : ℕ)
    → a + n ≤ suc most_number
    → b + n ≤ suc most_number
    → s + n ≤ suc most_number
    → k + n ≤ suc most_number
    → Small before
    → All OccurrenceWithin (adder_cells a b s k before n)
unfolding adder_cells
cells-within a b s k before zero a-low b-low s-low k-low before-low = none
cells-within a b s k before (suc n) a-low b-low s-low k-low before-low =
    more
    (record {
      drives = record { count = lit≤ tt; numbers = more {x = s} (omega arith) (more {x = k} (omega arith) none) };
      refers = lit≤ tt;
      takes = record { count = lit≤ tt; numbers = more {x = a} (omega arith) (more {x = b} (omega arith) (more before-low none)) };
    })
    (cells-within (suc a) (suc b) (suc s) (suc k) k n (omega arith) (omega arith) (omega arith) (omega arith) (omega arith))

first-within : (n : ℕ) → n ≤ 64 → ModuleWithin (ripple_adder n)
unfolding ripple_adder
first-within n most =
    record {
      number = lit≤ tt;
      inputs =
          record {
            count = omega (arith, length-up_from 0 (2 * n + 1));
            numbers = rw append-nil at (small-run 0 (2 * n + 1) [] (omega arith) none);
          };
      outputs =
          record {
            count = omega (arith, length-append (up_from (2 * n + 1) n) ((4 * n) ∷ []), length-up_from (2 * n + 1) n);
            numbers = small-run (2 * n + 1) n ((4 * n) ∷ []) (omega arith) (more {x = 4 * n} (omega arith) none);
          };
      count = omega (arith, length-of-cells 1 (n + 1) (2 * n + 1) (3 * n + 1) 0 n);
      occurrences =
          cells-within 1 (n + 1) (2 * n + 1) (3 * n + 1) 0 n
          (omega arith)
          (omega arith)
          (omega arith)
          (omega arith)
          (lit≤ tt);
    }

pub adder-within : (n : ℕ) → 1 ≤ n → n ≤ 64 → Within (adder n)
unfolding adder
adder-within n some most =
    record {
      modules = record { count = lit≤ tt; modules = more (first-within n most) tail_within };
      bytes = omega (arith, length-of-adder n some most);
    }

pub adder-read-back : (n : ℕ) → 1 ≤ n → n ≤ 64 → read (encode (adder n)) ≡ holds (adder n)
adder-read-back n some most = round_trip (adder n) (adder-within n some most)

-- The check accepts the written file of each width from 1 to 64.
pub adder-file-accepted : (n : ℕ) → 1 ≤ n → n ≤ 64 → verdict (encode (adder n)) ≡ good
unfolding verdict
adder-file-accepted n some most = ap verdict_of (adder-read-back n some most) ∙ adder-accepted n some most
