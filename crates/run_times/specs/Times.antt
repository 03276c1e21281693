-- What a run of arrivals works out for each net: so long after the latest argument, by the delay of the gate's kind.
use Rattle.std.specs.Prelude.{ℕ, ◌+◌, min, refl, List}
use Rattle.meaning.specs.Figures.{largest}
use Rattle.run_walk.specs.Work.{Work}

-- The latest arrival that an entry of scratch can hold.
abbrev pub latest : ℕ
latest = 4294967295

-- So long after the latest argument, or the latest arrival there is.
abbrev pub arrival : (lasts : ℕ) → List ℕ → ℕ
arrival lasts times = min (lasts + largest times) latest

-- One for every gate.
abbrev pub one_each : (kind : ℕ) → ℕ
one_each kind = 1

abbrev pub times_work : (lasts : ℕ → ℕ) → Work ℕ
times_work lasts =
    record {
      none = 0;
      at_gate = λ number xs. arrival (lasts number) xs;
      by_rule = λ number rule xs. arrival (lasts number) xs;
      rule-is = λ number rule arity kind xs many. refl;
    }
