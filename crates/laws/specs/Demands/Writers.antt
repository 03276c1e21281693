-- The written files of the adder and the counter at each width from 1 to 64: their first modules, how long they are, and that the
-- check accepts them.
use Rattle.std.specs.Prelude.{ℕ, ◌+◌, ◌*◌, ◌≤◌, ◌≡◌, refl, List, [], ◌∷◌, length}
use Rattle.std.proofs.Common.{arith, length-append}
use Rattle.meaning.specs.Syntax.{Module}
use Rattle.meaning.specs.Boxlist.{box, assoc}
use Rattle.meaning.specs.Layout.{encode}
use Rattle.meaning.specs.Verdict.{good, verdict}
use Rattle.meaning.specs.Adder.{up_from, ripple_adder, adder}
use Rattle.meaning.specs.Counter.{counter_module, counter}
use Rattle.laws.specs.Calls.{ModuleOf}
use Rattle.laws.specs.Adder.Nets.{length-up_from}
use Rattle.laws.specs.Adder.Bytes.{most-bytes-of-adder}
use Rattle.laws.specs.Adder.File.{adder-within, adder-file-accepted}
use Rattle.laws.specs.Counter.File.{counter-within, bytes-of-counter, counter-numbers-few, counter-file-accepted}
use Rattle.laws.specs.Counter.Figures.{counter-first}
use Rattle.laws.specs.Demands.Terms.{Writer, adders, counters}
use Rattle.laws.specs.Demands.KnownRuns.{module_of-written}

adder-first : (n : ℕ) → assoc 18 (adder n) ≡ box (ripple_adder n)
unfolding assoc adder ripple_adder
adder-first n = refl

pub adder-inputs : (n : ℕ) → length (ripple_adder n).inputs ≡ 2 * n + 1
unfolding ripple_adder
adder-inputs n = length-up_from 0 (2 * n + 1)

pub adder-outputs-count : (n : ℕ) → length (ripple_adder n).outputs ≡ n + 1
unfolding ripple_adder
adder-outputs-count n =
    omega (arith, length-append (up_from (2 * n + 1) n) ((4 * n) ∷ []), length-up_from (2 * n + 1) n)

pub adder_module : (n : ℕ) → 1 ≤ n → n ≤ 64 → ModuleOf (encode (adder n)) 18 (adder n) (ripple_adder n)
adder_module n some most = module_of-written (adder n) (adder-within n some most) (adder-file-accepted n some most) (adder-first n)

pub counter-module : (n : ℕ) → 1 ≤ n → n ≤ 64 → ModuleOf (encode (counter n)) 32 (counter n) (counter_module n)
counter-module n some most =
    module_of-written (counter n) (counter-within n some most) (counter-file-accepted n some most) (counter-first n)

pub most_bytes : {modules : ℕ → List Module} → Writer modules → (n : ℕ) → 1 ≤ n → n ≤ 64 → length (encode (modules n)) ≤ 1019
most_bytes adders n some most = most-bytes-of-adder n some most
most_bytes counters n some most = rw (bytes-of-counter n some most) (omega (arith, counter-numbers-few n some most))

pub accepts : {modules : ℕ → List Module} → Writer modules → (n : ℕ) → 1 ≤ n → n ≤ 64 → verdict (encode (modules n)) ≡ good
accepts adders = adder-file-accepted
accepts counters = counter-file-accepted
