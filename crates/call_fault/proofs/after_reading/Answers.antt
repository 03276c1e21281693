use Rattle.std.proofs.Common.{sym, ◌∙◌, length-take-le}
use Rattle.call_fault.proofs.Texts.{refused_none, listed, whole, fault_listed}
use Rattle.call_fault.proofs.after_reading.Goals as goal

pub returns-in_default : goal.returns-in_default
returns-in_default c = c.none.ensures ∙ refused_none c.requires _ c.in_default.is

pub slice_bounds-in_numbers-end : goal.slice_bounds-in_numbers-end
slice_bounds-in_numbers-end c = sym (length-take-le _ _ (listed c.requires c.in-Ok.is).inside)

pub in_numbers-requires : goal.in_numbers-requires
in_numbers-requires c = whole (listed c.requires c.in-Ok.is)

pub returns : goal.returns
returns c = let l = listed c.requires c.in-Ok.is in fault_listed l _ (c.in_numbers.ensures (whole l))
