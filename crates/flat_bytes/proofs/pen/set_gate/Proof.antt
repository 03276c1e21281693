-- `flat_bytes::pen::set_gate` meets its contract: 1, the net, the kind and then the list of arguments are the gate, piece by piece.
-- Assumes nothing.
use Prim.Native.Nat.{ℕ}
use borrow.Author.Rules.{rules}
use native.Mathlib.Omega.{arith}
use mathlib.Core.Path.{◌≡◌, ◌∙◌}
use mathlib.Core.List.{List, ◌∷◌, ◌++◌, append_assoc, append-nil}
use Rattle.meaning.specs.Lists.{All, more}
use Rattle.meaning.specs.Layout.{each, number_bytes}
use Rattle.meaning.specs.Ceilings.{Small}
use Rattle.laws.specs.Written.{nets_bytes, occurrence_bytes, bytes-of-occurrence}
use Rattle.bytes_out.specs.Filled.{Put}
use Rattle.bytes_out.specs.Laying.{Laying, laying-start, laying-piece, laying-more, laying-room, laying-last}
use Rattle.flat_bytes.specs.Slots.{nets_at}
use Rattle.flat_bytes.specs.Gates.{Settable, gate_at}
use Rattle.flat_bytes.proofs.pen.set_gate.Statement.{statement}
use Rattle.flat_bytes.proofs.pen.set_gate.Tie as tie

module _ {kind net : ℕ} {image : List ℕ} {from to : ℕ} {scratch bytes : List ℕ} {at : ℕ} (able : Settable kind net image from to scratch bytes at) where
  abbrev takes : List ℕ
  takes = nets_bytes (nets_at image from to scratch)

  abbrev whole : List ℕ
  whole = occurrence_bytes (gate_at kind net image from to scratch)

  pieces : whole ≡ number_bytes 1 ++ (number_bytes net ++ (number_bytes kind ++ takes))
  unfolding each
  pieces = bytes-of-occurrence (gate_at kind net image from to scratch) ∙ simp (append_assoc, append-nil)

  small-net : Small net
  small-net = go able.within.drives.numbers
    where
      go : {nets : List ℕ} → All Small (net ∷ nets) → Small net
      go (more s rest) = s

  -- What is left before each piece.
  all_left : Laying whole (number_bytes 1 ++ (number_bytes net ++ (number_bytes kind ++ takes))) bytes at bytes at
  all_left = rw (← pieces) (laying-start able.room)

  module _ {one : List ℕ} {drives : ℕ} (first : Put (number_bytes 1) bytes at one drives) where
    net-left : Laying whole (number_bytes net ++ (number_bytes kind ++ takes)) bytes at one drives
    net-left = laying-more (number_bytes 1) _ all_left first

    module _ {two : List ℕ} {refers : ℕ} (second : Put (number_bytes net) one drives two refers) where
      kind-left : Laying whole (number_bytes kind ++ takes) bytes at two refers
      kind-left = laying-more (number_bytes net) _ net-left second

      takes-left : {three : List ℕ} {list : ℕ} → Put (number_bytes kind) two refers three list → Laying whole takes bytes at three list
      takes-left = laying-more (number_bytes kind) takes kind-left

-- Where the first piece is put, to the start; from each piece to the one before it are four places.
abbrev start : tie.After-put-drives → tie.Start
start c = c.before.before.before.before.before

put-requires-2 : tie.Need-put-refers-requires
put-requires-2 c κs =
    let able = (start c.before.before.before).requires in
    (small-net able, laying-piece (number_bytes _) _ (net-left able c.put-drives.ensures))

put-requires-3 : tie.Need-put-takes-requires
put-requires-3 c κs =
    let able = (start c.before.before.before.before.before.before.before).requires in
    (able.within.refers, laying-piece (number_bytes _) _ (kind-left able c.put-drives.ensures c.put-refers.ensures))

put-requires-4 : tie.Need-put-requires
put-requires-4 c κs =
    let able = (start c.before.before.before.before.before.before.before.before.before.before.before).requires in
    record {
      readable = able.readable;
      within = able.within.takes;
      room = laying-room (takes-left able c.put-drives.ensures c.put-refers.ensures c.put-takes.ensures);
    }

returns : tie.Need-returns
returns c =
    laying-last (takes-left (start c.before.before.before.before.before.before.before.before.before.before.before.before.before.before).requires c.put-drives.ensures c.put-refers.ensures c.put-takes.ensures) c.put.ensures

pub set_gate_spec : {M : Type 1} → statement M
set_gate_spec =
    tie.close
    (tie.spec
    (λ c κs. (omega arith, laying-piece (number_bytes 1) _ (all_left c.requires)))
    put-requires-2
    put-requires-3
    put-requires-4
    (λ c. search rules)
    returns)
