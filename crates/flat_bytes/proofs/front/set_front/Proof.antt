-- `flat_bytes::front::set_front` meets its contract: its pieces are put one behind the other. Assumes nothing.
use Prim.Native.Nat.{ℕ, ◌+◌, ◌≤◌}
use borrow.Author.Rules.{rules}
use native.Mathlib.Omega.{arith}
use mathlib.Core.List.{List, ◌++◌}
use lib.ListN.{length}
use Rattle.meaning.specs.Layout.{number_bytes}
use Rattle.laws.specs.Written.{nets_bytes}
use Rattle.bytes_out.specs.Filled.{Put}
use Rattle.bytes_out.specs.Laying.{Laying, laying-start, laying-piece, laying-more, laying-room, laying-last}
use Rattle.image.specs.declared.places.Header.{Header}
use Rattle.flat_bytes.specs.Front.{Frontable, front_bytes, ins_at, outs_at}
use Rattle.flat_bytes.proofs.front.set_front.Statement.{statement}
use Rattle.flat_bytes.proofs.front.set_front.Tie as tie

module _
    {image : List ℕ} {place : ℕ} {h : Header} {number gates : ℕ} {scratch bytes : List ℕ} {at : ℕ}
    (able : Frontable image place h number gates scratch bytes at)
  where
    abbrev ins : List ℕ
    ins = nets_bytes (ins_at image place h scratch)

    abbrev outs : List ℕ
    outs = nets_bytes (outs_at image h scratch)

    abbrev whole : List ℕ
    whole = front_bytes number (ins_at image place h scratch) (outs_at image h scratch) gates

    -- What is left before each piece.
    all_left : Laying whole (number_bytes 1 ++ (number_bytes number ++ (ins ++ (outs ++ number_bytes gates)))) bytes at bytes at
    all_left = laying-start able.room

    module _ {one : List ℕ} {own : ℕ} (first : Put (number_bytes 1) bytes at one own) where
      number-left : Laying whole (number_bytes number ++ (ins ++ (outs ++ number_bytes gates))) bytes at one own
      number-left = laying-more (number_bytes 1) _ all_left first

      module _ {two : List ℕ} {behind : ℕ} (second : Put (number_bytes number) one own two behind) where
        ins-left : Laying whole (ins ++ (outs ++ number_bytes gates)) bytes at two behind
        ins-left = laying-more (number_bytes number) _ number-left second

        ins-fit : behind + length ins ≤ length two
        ins-fit = laying-piece ins (outs ++ number_bytes gates) ins-left

        module _ {three : List ℕ} {next : ℕ} (third : Put ins two behind three next) where
          outs-left : Laying whole (outs ++ number_bytes gates) bytes at three next
          outs-left = laying-more ins _ ins-left third

          outs-fit : next + length outs ≤ length three
          outs-fit = laying-piece outs (number_bytes gates) outs-left

          gates-left : {four : List ℕ} {end : ℕ} → Put outs three next four end → Laying whole (number_bytes gates) bytes at four end
          gates-left = laying-more outs (number_bytes gates) outs-left

put-requires-2 : tie.Need-put-first-requires
put-requires-2 c κs = (c.requires.own, laying-piece (number_bytes _) _ (number-left c.requires c.put-own.ensures))

put-requires-3 : tie.Need-put-second-requires
put-requires-3 c κs =
    record {
      readable = c.requires.ins;
      within = c.requires.ins_within;
      room = ins-fit c.requires c.put-own.ensures c.put-first.ensures;
    }

put-requires-4 : tie.Need-put-third-requires
put-requires-4 c κs =
    record {
      readable = c.requires.outs;
      within = c.requires.outs_within;
      room = outs-fit c.requires c.put-own.ensures c.put-first.ensures c.put-second.ensures;
    }

put-requires-5 : tie.Need-put-requires
put-requires-5 c κs =
    (c.requires.counted, laying-room (gates-left c.requires c.put-own.ensures c.put-first.ensures c.put-second.ensures c.put-third.ensures))

returns : tie.Need-returns
returns c =
    laying-last (gates-left c.requires c.put-own.ensures c.put-first.ensures c.put-second.ensures c.put-third.ensures) c.put.ensures

pub set_front_spec : {M : Type 1} → statement M
set_front_spec =
    tie.close
    (tie.spec
    (λ c κs. (omega arith, laying-piece (number_bytes 1) _ (all_left c.requires)))
    put-requires-2
    (λ c. omega (arith, c.requires.ins.inside))
    (λ c. omega (arith, c.requires.ins.inside))
    put-requires-3
    put-requires-4
    put-requires-5
    (λ c. search rules)
    returns)
