-- A writer that leaves its buffer untouched does not keep its promise.
use Rattle.std.specs.Prelude.{Result}
use Rattle.refusals.specs.declared.Refusal.{Refusal}
use Prim.Native.Nat.{ℕ, ◌≤◌}
use mathlib.Core.Path.{◌≡◌, refl, ap, ◌∙◌}
use mathlib.Core.List.{List, ◌++◌}
use lib.ListN.{length, take, drop}
use lib.Seq.{take_at}
use borrow.Author.Tests.{le-leb}
use Rattle.meaning.specs.Syntax.{Module}
use Rattle.meaning.specs.Layout.{encode}
use Rattle.meaning.specs.Calls.{writing}
use Rattle.answers.specs.Answers.{Answers}
use Rattle.write_order.proofs.Answering.{writing-fitting}

-- At each width from 1 to 64 a buffer that has room for the file, and does not start with its bytes, may not be left as it is.
pub untouched_refuted : (modules : ℕ → List Module) (n : ℕ) (before : List ℕ) (result : Result ℕ Refusal) → 1 ≤ n → n ≤ 64
    → length (encode (modules n)) ≤ length before
    → (take (length (encode (modules n))) before ≡ encode (modules n) → ⊥)
    → Answers (writing modules n (length before)) before before result
    → ⊥
untouched_refuted modules n before result some most room other kept =
    other (ap (take (length bytes)) same ∙ take_at bytes (drop (length bytes) before) (length bytes) refl)
  where
    bytes : List ℕ
    bytes = encode (modules n)

    same : before ≡ bytes ++ drop (length bytes) before
    same = rw (writing-fitting modules n before some most, le-leb (length (encode (modules n))) (length before) room) at kept.out
