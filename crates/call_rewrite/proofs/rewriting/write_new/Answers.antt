-- With the file's end behind the last place the new file can be written, in a list that has three bytes for each of the file's.
use Rattle.std.proofs.Common.{arith}
use Rattle.read_parts.specs.Exact.{bytes-all}
use Rattle.call_rewrite.proofs.Suiting.{last_fits, file-short, rewritable}
use Rattle.call_rewrite.proofs.rewriting.write_new.Goals as goal

pub bounds-offsets-modules : goal.bounds-offsets-modules
bounds-offsets-modules c = last_fits (bytes-all _ (λ i. (c.type_inv.file i).fits)) c.requires

pub finish_in-requires-clause-rewritable : goal.finish_in-requires-clause-rewritable
finish_in-requires-clause-rewritable c =
    rewritable (bytes-all _ (λ i. (c.type_inv.file i).fits)) c.requires _ (omega (arith, c.if-file-le1024.true))

pub finish_in-requires-else-file-le1024-clause-rewritable : goal.finish_in-requires-else-file-le1024-clause-rewritable
finish_in-requires-else-file-le1024-clause-rewritable c =
    let bytes = bytes-all c.args.file.now (λ i. (c.type_inv.file i).fits) in
    rewritable bytes c.requires _ (omega (arith, file-short bytes c.requires))

pub returns-then-file-le1024 : goal.returns-then-file-le1024
returns-then-file-le1024 c k =
    c.finish_in.ensures (rewritable (bytes-all _ (λ i. (c.type_inv.file i).fits)) k _ (omega (arith, c.if-file-le1024.true)))

pub returns-else-file-le1024 : goal.returns-else-file-le1024
returns-else-file-le1024 c k =
    let bytes = bytes-all c.args.file.now (λ i. (c.type_inv.file i).fits) in
    c.finish_in-else-file-le1024.ensures (rewritable bytes k _ (omega (arith, file-short bytes k)))
