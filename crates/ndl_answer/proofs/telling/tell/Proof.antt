-- `telling::tell` meets its contract: the lent buffer has room for any text of such a file, or a list of the call's own has. Assumes nothing.
use Prim.Native.Nat.{ℕ}
use native.Mathlib.Omega.{arith}
use borrow.Author.Rules.{rules}
use mathlib.Core.Path.{sym}
use lib.ListN.{replicate, length-replicate}
use Rattle.ndl_answer.proofs.Fits.{file-told, told_in_longest, told_straight}
use Rattle.ndl_answer.proofs.telling.tell.Statement.{statement}
use Rattle.ndl_answer.proofs.telling.tell.Tie as tie

put-file-requires : tie.Need-put_file-requires
put-file-requires c κs =
    file-told c.requires.0 c.args.names.now c.args.out.now c.requires.1 (omega (arith, c.if-size-out.true))

returns : tie.Need-returns-then-size-out
returns c t =
    let room = c.if-size-out.true in
    told_straight t c.args.names.now c.args.out.now room
    (c.put_file.ensures (file-told t c.args.names.now c.args.out.now c.requires.1 room))

tell-through-requires : tie.Need-tell_through-requires
tell-through-requires c κs =
    file-told c.requires.0 c.args.names.now _ c.requires.1 (omega (arith, length-replicate {A = ℕ} 12846 0, c.if-size-le1024.true))

returns-2 : tie.Need-returns-then-size-le1024
returns-2 c t =
    c.tell_through.ensures
    (file-told t c.args.names.now _ c.requires.1 (omega (arith, length-replicate {A = ℕ} 12846 0, c.if-size-le1024.true)))

tell-through-requires-2 : tie.Need-tell_through-requires-2
tell-through-requires-2 c κs =
    told_in_longest c.requires.0 c.args.names.now (replicate 528934 0) c.requires.1 (length-replicate {A = ℕ} 528934 0)

returns-3 : tie.Need-returns
returns-3 c t =
    c.tell_through-2.ensures (told_in_longest t c.args.names.now (replicate 528934 0) c.requires.1 (length-replicate {A = ℕ} 528934 0))

pub tell_spec : {M : Type 1} → statement M
tell_spec =
    tie.close
    (tie.spec
    (λ c. search rules)
    (λ c. search rules)
    put-file-requires
    (λ c. search rules)
    returns
    (λ c. search rules)
    tell-through-requires
    (λ c. search rules)
    returns-2
    (λ c. sym (length-replicate {A = ℕ} 528934 0))
    tell-through-requires-2
    (λ c. c.tell_through-2.auto.out)
    returns-3)
