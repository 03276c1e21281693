-- The two calls of the library are answered: what they leave in the buffers that filing lends them.
use Prim.Native.Nat.{ℕ, ◌*◌, ◌≤◌}
use mathlib.Core.Path.{◌≡◌, ap, ◌∙◌}
use mathlib.Core.List.{List, ◌++◌, append-nil}
use native.Mathlib.Omega.{arith}
use lib.ListN.{length, drop, drop_of_length-le}
use Rattle.meaning.specs.Layout.{encode}
use Rattle.meaning.specs.Counter.{counter}
use Rattle.meaning.specs.Calls.{out_after, writing}
use Rattle.meaning.specs.Rows.{rows_evaluation}
use Rattle.laws.specs.Runs.{written}
use Rattle.laws.specs.Filing.Counting.{bytes-of-counter, shelves_bytes, length-of_shelves, block-answered}
use Rattle.filing.specs.Running.{Runnable}

pub file-written :
    (before after : List ℕ) → length before ≡ 478
    → after ≡ out_after (writing counter 32 (length before)) before
    → after ≡ encode (counter 32)
file-written before after long is =
    let short : length before ≤ length (encode (counter 32)) = omega (arith, bytes-of-counter, long) in
    is
    ∙ ap (λ d. out_after d before)
    (written counter 32 (omega arith) (omega arith) (length before) (omega (arith, bytes-of-counter, long)))
    ∙ ap (λ (l : List ℕ). encode (counter 32) ++ l)
    (drop_of_length-le before short)
    ∙ append-nil (encode (counter 32))

pub rows_run :
    (file values before after : List ℕ) (rows scratch : ℕ)
    → (r : Runnable file rows values (length before)) → 158 ≤ scratch
    → after ≡ out_after (rows_evaluation file 32 rows values scratch (length before)) before
    → after ≡ shelves_bytes r.words ++ drop (rows * 6) before
rows_run file values before after rows scratch r roomy is =
    let words = r.words in
    is
    ∙ rw (r.written, r.laid, r.count)
    (ap (λ d. out_after d before)
    (block-answered words r.short (omega (arith, r.few)) scratch (length before) roomy (omega (arith, r.fits)))
    ∙ ap (λ (n : ℕ). shelves_bytes words ++ drop n before) (length-of_shelves words))
