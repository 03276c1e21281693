-- `nets::put_apart` meets its contract: nothing, or the first net and those behind it. Assumes nothing.
use native.Mathlib.Omega.{arith}
use mathlib.Core.Path.{sym, subst}
use mathlib.Core.List.{List}
use Prim.Native.Nat.{ℕ}
use borrow.Author.Rules.{rules}
use borrow.Author.Rules.{part_to_end}
use lib.ListN.{drop}
use Rattle.meaning.specs.Layout.{each}
use Rattle.laws.specs.Lists.{all-at}
use Rattle.bytes_out.specs.Puts.{put-none}
use Rattle.bytes_out.specs.Laying.{Laying}
use Rattle.write_pieces.specs.Rooms.{Room}
use Rattle.write_pieces.specs.Laying.{laying-none, laying-left, laying-put, laying-last, room-first}
use Rattle.ndl_pieces.specs.Apart.{signed, apart}
use Rattle.ndl_pieces.proofs.Lists.{all_left, apart_none, apart-first}
use Rattle.ndl_pieces.proofs.nets.put_apart.Statement.{statement}
use Rattle.ndl_pieces.proofs.nets.put_apart.Tie as tie

returns : tie.Need-returns-then-nets-lt1
returns c =
    let a = c.args in
    rw (apart_none a.sign a.nets.now c.if-nets-lt1.true) (put-none a.out.now a.at)

begun : (c : tie.After-put_named-next)
    → Laying (apart c.args.sign c.args.nets.now) (each (signed c.args.sign) (drop 1 c.args.nets.now)) c.args.out.now c.args.at
    c.put_named-next.new.out c.put_named-next.result
begun c =
    let whole = apart-first c.args.sign c.args.nets.now c.if-nets-lt1.false in
    laying-put c.put_named-next.ensures (laying-none c.args.out.now c.args.at (sym whole) c.requires.1.fits)

put-named-requires : tie.Need-put_named-next-requires
put-named-requires c κs = (
  all-at c.requires.0 0 0 c.if-nets-lt1.false,
  room-first (each (signed c.args.sign) (drop 1 c.args.nets.now))
      (subst (λ (l : List ℕ). Room l c.args.out.now c.args.at) (apart-first c.args.sign c.args.nets.now c.if-nets-lt1.false) c.requires.1),
)

put-more-requires : tie.Need-put_more-requires
put-more-requires c κs =
    rw (part_to_end c.args.nets.now 1) (all_left c.args.nets.now 1 c.requires.0, laying-left (begun c.before.before.before.before))

returns-2 : tie.Need-returns
returns-2 c =
    laying-last (rw (part_to_end c.args.nets.now 1) at c.put_more.ensures) (begun c.before.before.before.before.before.before.before)

pub put_apart_spec : {M : Type 1} → statement M
put_apart_spec =
    tie.close
    (tie.spec
    returns
    (λ c. omega arith)
    put-named-requires
    (λ c. omega (arith, c.if-nets-lt1.false))
    (λ c. omega (arith, c.if-nets-lt1.false))
    (λ c. search rules)
    put-more-requires
    (λ c. search rules)
    returns-2)
