-- No module is at the position, or the file's modules are placed.
use Rattle.std.proofs.Common.{◌∙◌, arith}
use Rattle.call_fault.proofs.Numbers.{some_number, counted, none-there, wide, fresh}
use Rattle.call_fault.proofs.in_numbers.Goals as goal

pub entry-modules-requires : goal.entry-modules-requires
entry-modules-requires c = some_number c.requires

pub returns-then-modules-position : goal.returns-then-modules-position
returns-then-modules-position c w = c.none.ensures ∙ none-there w _ _ c.entry-modules.ensures c.if-modules-position.true

pub place_modules-requires : goal.place_modules-requires
place_modules-requires c =
    record { modules_value = λ w. let e = c.entry-modules.ensures ∙ counted w in (e, omega (arith, w.few)); whole = c.requires }

pub first_fault-requires : goal.first_fault-requires
first_fault-requires c =
    let w = c.requires in
    record {
      placed = record { ms = w.ms; filed = c.place_modules.ensures w; counted = c.entry-modules.ensures ∙ counted w };
      position_lt_modules = c.if-modules-position.false;
      in_bounds = wide 65536 (omega arith);
      marked = fresh 65536;
    }

pub returns : goal.returns
returns c w = c.first_fault.ensures (record { ms = w.ms; filed = c.place_modules.ensures w; counted = c.entry-modules.ensures ∙ counted w })
