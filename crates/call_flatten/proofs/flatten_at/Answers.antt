-- Inputs plus gates decide 24, then the room decides 21; the rest is the answer of the walk.
use Prim.Native.Nat.{◌≤◌}
use mathlib.Core.Path.{sym, ◌∙◌}
use borrow.Author.Tests.{ltb-true, ltb-false}
use Rattle.call_flatten.proofs.Asking.{asks-many, asks-narrow, asks-on}
use Rattle.call_flatten.proofs.Measured.{flat_nets, room-low, long_placeable}
use Rattle.call_flatten.proofs.flatten_at.Goals as goal

pub returns-then-many_nets : goal.returns-then-many_nets
returns-then-many_nets c s = asks-many s _ _ (ltb-true 4096 (flat_nets s) (sym (c.many_nets.ensures s) ∙ c.if-many_nets.true))

-- Where it is not given there are few enough nets.
pub returns-then-scratch-room : goal.returns-then-scratch-room
returns-then-scratch-room c s =
    asks-narrow s _ _ (ltb-false 4096 (flat_nets s) (sym (c.many_nets.ensures s) ∙ c.if-many_nets.false)) c.if-scratch-room.true

pub place-requires-clause-placeable : goal.place-requires-clause-placeable
place-requires-clause-placeable c =
    let s = c.requires in
    long_placeable s c.if-room-le4096.true (ltb-false 4096 (flat_nets s) (sym (c.many_nets.ensures s) ∙ c.if-many_nets.false))

pub returns-then-room-le4096 : goal.returns-then-room-le4096
returns-then-room-le4096 c s =
    let few : flat_nets s ≤ 4096 = ltb-false 4096 (flat_nets s) (sym (c.many_nets.ensures s) ∙ c.if-many_nets.false) in
    asks-on s _ _ few c.if-scratch-room.false (c.place.ensures (long_placeable s c.if-room-le4096.true few))

pub place-requires-2-clause-placeable : goal.place-requires-2-clause-placeable
place-requires-2-clause-placeable c =
    let s = c.requires in
    long_placeable s (room-low s) (ltb-false 4096 (flat_nets s) (sym (c.many_nets.ensures s) ∙ c.if-many_nets.false))

pub returns : goal.returns
returns c s =
    let few : flat_nets s ≤ 4096 = ltb-false 4096 (flat_nets s) (sym (c.many_nets.ensures s) ∙ c.if-many_nets.false) in
    asks-on s _ _ few c.if-scratch-room.false (c.place-2.ensures (long_placeable s (room-low s) few))
