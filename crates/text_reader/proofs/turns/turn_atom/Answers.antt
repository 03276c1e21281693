use Rattle.std.proofs.Common.{arith, refl, rules}
use Rattle.text_modes.specs.Kinds.{is_below, not_below}
use Rattle.text_reader.specs.Turning.{state_mode}
use Rattle.text_reader.specs.Atoming.{named_mode, netted_mode, atom-lost, atom-long}
use Rattle.text_reader.proofs.turns.turn_atom.Goals as goal

pub after-requires : goal.after-requires
after-requires c = state_mode _ _ _ _ _ c.requires.here.reading

pub atom_end-end-requires : goal.atom_end-end-requires
atom_end-end-requires c = let l : _ = c.requires.here.inside in omega arith

pub overflow_sub-end : goal.overflow_sub-end
overflow_sub-end c = omega (arith, c.atom_end-end.ensures)

pub returns-then-end-i-gt32 : goal.returns-then-end-i-gt32
returns-then-end-i-gt32 c =
    let leads = is_below 18 _ c.after.ensures c.in-Some.is in
    rw c.at-then-end-i-gt32.ensures
    (atom-long _ _ _ _ _ c.requires _ _ leads.0 leads.1 c.atom_end-end.ensures (omega arith))

pub turn_name-requires : goal.turn_name-requires
turn_name-requires c =
    let leads = is_below 18 _ c.after.ensures c.in-Some.is in
    record {
      short = record { atom = c.requires; ends = c.atom_end-end.ensures; short = omega (arith, c.atom_end-end.ensures); leads = leads.0; fine = leads.1 };
      named = named_mode _ c.in-3.is;
    }

pub turn_net-requires : goal.turn_net-requires
turn_net-requires c =
    let leads = is_below 18 _ c.after.ensures c.in-Some.is in
    record {
      short = record { atom = c.requires; ends = c.atom_end-end.ensures; short = omega (arith, c.atom_end-end.ensures); leads = leads.0; fine = leads.1 };
      netted = netted_mode c.args.state.mode (search rules);
    }

pub returns-in_default : goal.returns-in_default
returns-in_default c =
    rw c.at.ensures
    (atom-lost _ _ _ _ _ c.requires _ refl (not_below 18 _ c.after.ensures c.in_default.is))
