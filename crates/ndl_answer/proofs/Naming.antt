-- 29, and what is asked behind it.
use Rattle.std.specs.Prelude.{Result, Err}
use Rattle.refusals.specs.Refused.{refusal_at}
use Rattle.refusals.specs.declared.Refusal.{Refusal}
use Prim.Native.Nat.{ℕ}
use mathlib.Core.Path.{◌≡◌, refl}
use mathlib.Core.List.{List}
use lib.ListN.{length}
use borrow.Author.Tests.{eq-eqb, ne_eqb}
use Rattle.meaning.specs.Syntax.{Module}
use Rattle.meaning.specs.Calls.{fitting}
use Rattle.meaning.specs.Ndl.{first_bad, ndl_text, ndl_on}
use Rattle.answers.specs.Answers.{Answers}

-- 29, at 0 where there are not 128 bytes, else at the first bad name; and what is asked behind it.
module _ (names out : List ℕ) (ms : List Module) where
  pub bad-length : (length names ≡ 128 → ⊥) → Answers (ndl_on names (length out) ms) out out (Err (refusal_at 29 0))
  unfolding ndl_on
  bad-length other = rw (ne_eqb (length names) 128 other) (record { is = refl; out = refl })

  pub bad-name : {bad : ℕ} → length names ≡ 128 → bad ≡ first_bad names → (bad ≡ 16 → ⊥) → Answers (ndl_on names (length out) ms) out out (Err (refusal_at 29 bad))
  unfolding ndl_on
  bad-name {bad} long first other =
      rw (eq-eqb (length names) 128 long, ← first, ne_eqb bad 16 other) (record { is = refl; out = refl })

  pub good-names : {after : List ℕ} {result : Result ℕ Refusal} → length names ≡ 128 → first_bad names ≡ 16
      → Answers (fitting (ndl_text names ms) 0 (length out)) out after result → Answers (ndl_on names (length out) ms) out after result
  unfolding ndl_on
  good-names long all told = rw (eq-eqb (length names) 128 long, eq-eqb (first_bad names) 16 all) told
