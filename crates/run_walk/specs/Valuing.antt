-- What a run of values works out for each net: the code of its value.
use Rattle.std.specs.Prelude.{ℕ, map}
use Rattle.meaning.specs.Values.{value, code}
use Rattle.meaning.specs.Gates.{gate_code}
use Rattle.gates.specs.Folds.{result_of}
use Rattle.gates.specs.Gates.{gate-of-kind}
use Rattle.run_walk.specs.Work.{Work}

abbrev pub value_work : Work ℕ
value_work =
    record {
      none = 0;
      at_gate = gate_code;
      by_rule = λ number rule xs. code (result_of rule (map value xs));
      rule-is = λ number rule arity kind xs many. (gate-of-kind number kind).value-is xs many;
    }
