-- `tell` meets its contract: the lent buffer has room for any text of such a file, or a list of the call's own has. Assumes nothing.
use Prim.Native.Nat.{ℕ}
use mathlib.Core.Path.{sym}
use native.Mathlib.Omega.{arith}
use borrow.Author.Rules.{rules}
use lib.ListN.{replicate, length-replicate}
use Rattle.print_answer.proofs.Fits.{file-told, told_in_longest, told_straight}
use Rattle.print_answer.proofs.tell.Statement.{statement}
use Rattle.print_answer.proofs.tell.Tie as tie

put-file-requires : tie.Need-put_file-requires
put-file-requires c κs =
    file-told c.requires c.args.out.now (omega (arith, c.if-size-out.true))

returns : tie.Need-returns-then-size-out
returns c t =
    let room = c.if-size-out.true in
    told_straight t c.args.out.now room (c.put_file.ensures (file-told t c.args.out.now room))

tell-through-requires : tie.Need-tell_through-requires
tell-through-requires c κs =
    file-told c.requires _ (omega (arith, length-replicate {A = ℕ} 6144 0, c.if-size-le1024.true))

returns-2 : tie.Need-returns-then-size-le1024
returns-2 c t =
    c.tell_through.ensures (file-told t _ (omega (arith, length-replicate {A = ℕ} 6144 0, c.if-size-le1024.true)))

tell-through-requires-2 : tie.Need-tell_through-requires-2
tell-through-requires-2 c κs =
    told_in_longest c.requires (replicate 393210 0) (length-replicate {A = ℕ} 393210 0)

returns-3 : tie.Need-returns
returns-3 c t =
    c.tell_through-2.ensures (told_in_longest t (replicate 393210 0) (length-replicate {A = ℕ} 393210 0))

pub tell_spec : {M : Type 1} → statement M
tell_spec =
    tie.close
    (tie.spec
    (λ c. search rules)
    put-file-requires
    (λ c. search rules)
    returns
    (λ c. search rules)
    tell-through-requires
    (λ c. search rules)
    returns-2
    (λ c. sym (length-replicate {A = ℕ} 393210 0))
    tell-through-requires-2
    (λ c. c.tell_through-2.auto.out)
    returns-3)
