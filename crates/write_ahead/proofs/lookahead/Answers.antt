-- `write_ahead::lookahead` meets its contract: the lists, the chain behind a byte that is left out, and that byte. Assumes nothing.
use native.Mathlib.Omega.{arith}
use Rattle.write_ahead.proofs.Chains.{chained-length}
use Rattle.write_ahead.proofs.AheadBytes.{inputs-room, outputs-room, place-within, chain_able, trees-within, lookahead-put}
use Rattle.write_ahead.proofs.lookahead.Goals as goal

pub carries-count-requires : goal.carries-count-requires
carries-count-requires c =
    let pre = c.requires in
    (pre.1, omega arith, outputs-room pre.0 pre.1 pre.2 c.carry_and_bits-outputs.ensures)

pub overflow_add-count : goal.overflow_add-count
overflow_add-count c =
    let pre = c.requires in
    omega (arith, place-within pre.0 pre.1 pre.2 c.carry_and_bits-outputs.ensures c.carries-count.ensures, c.well_formed)

pub chain-laid-requires : goal.chain-laid-requires
chain-laid-requires c =
    let pre = c.requires in
    chain_able pre.0 pre.1 pre.2 c.carry_and_bits-outputs.ensures c.carries-count.ensures c.height.ensures.0 c.height.ensures.1

pub carry_and_bits-outputs-requires : goal.carry_and_bits-outputs-requires
carry_and_bits-outputs-requires c =
    let pre = c.requires in
    (omega arith, pre.1, omega arith, omega arith, inputs-room pre.0 pre.1 pre.2)

pub overflow_sub-bytes : goal.overflow_sub-bytes
overflow_sub-bytes c =
    let pre = c.requires in
    trees-within pre.0 pre.1 pre.2 c.carry_and_bits-outputs.ensures c.carries-count.ensures c.height.ensures.0
    c.height.ensures.1
    c.chain-laid.ensures

pub bounds-bytes-count : goal.bounds-bytes-count
bounds-bytes-count c =
    let pre = c.requires in
    let able =
    chain_able pre.0 pre.1 pre.2 c.carry_and_bits-outputs.ensures c.carries-count.ensures c.height.ensures.0
    c.height.ensures.1 in
    omega (arith, able.room.fits, chained-length able c.chain-laid.ensures)

pub returns : goal.returns
returns c =
    let pre = c.requires in
    lookahead-put pre.0 pre.1 pre.2 c.carry_and_bits-outputs.ensures c.carries-count.ensures c.height.ensures.0
    c.height.ensures.1
    c.chain-laid.ensures
