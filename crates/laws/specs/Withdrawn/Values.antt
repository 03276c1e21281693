-- Every module of a file gives equal three-valued outputs before and after the rewriting.
use Rattle.std.specs.Prelude.{ℕ, ◌≡◌, refl, false}
use Rattle.std.proofs.Common.{sym, ap, ap₂}
use mathlib.Core.List.Forall₂.{cons}
use mathlib.Core.List.Forall₂.{nil}
use mathlib.Core.List.{List, [], ◌∷◌, Forall₂}
use Rattle.meaning.specs.Syntax.{Module}
use Rattle.meaning.specs.Values.{Val, known}
use Rattle.meaning.specs.Gates.{gate_value}
use Rattle.meaning.specs.Evaluation.{evaluate}
use Rattle.meaning.specs.Withdrawn.{rewrite_file}
use Rattle.laws.specs.WellFormed.{Accepted}
use Rattle.laws.specs.Withdrawn.Kinds.{same-value}
use Rattle.laws.specs.Withdrawn.Same.{Keeping, rewritten-run}

equal : {A : Type 0} {xs ys : List A} → Forall₂ ◌≡◌ xs ys → xs ≡ ys
equal nil = refl
equal (cons e es) = ap₂ ◌∷◌ e (equal es)

alike : {A : Type 0} (xs : List A) → Forall₂ ◌≡◌ xs xs
alike [] = nil
alike (x ∷ xs) = cons refl (alike xs)

gates-keep : Keeping ◌≡◌ gate_value gate_value
gates-keep =
    record {
      gates = λ kind rs. ap (gate_value kind) (equal rs);
      threes = λ four a b c d a' b' c' d' ea eb ec ed. rw (ea, eb, ec, ed) (same-value four a' b' c' d');
    }

pub same-outputs : {ms : List Module} → Accepted ms → (number : ℕ) (values : List Val) → evaluate (rewrite_file ms) number values ≡ evaluate ms number values
unfolding evaluate
same-outputs accepted number values =
    sym (equal (rewritten-run ◌≡◌ (known false) (known false) refl gate_value gate_value gates-keep accepted number (alike values)))
