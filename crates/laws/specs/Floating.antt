-- Inputs that float (document 02, M-106), over the calls: 3 is an input like 2. Known is 0 or 1; every gate reads 3 as unknown, no output
-- is 3, runs that differ only in 2 against 3 come to the same, and known outputs stay whatever a later run puts where 2 or 3 stood.
use Rattle.std.specs.Prelude.{ℕ, zero, suc, ◌≤◌, ◌≡◌, refl, Bool, true, false, length}
use Rattle.std.proofs.Common.{sym, ap₂, ◌∙◌, arith, lit≤}
use Rattle.std.proofs.Math.Path.{ap, fun_ext}
use mathlib.Core.List.{List, [], ◌∷◌, map, Forall₂}
use Rattle.std.proofs.Math.Option.{some}
use Rattle.meaning.specs.Lists.{All, none, more}
use Rattle.meaning.specs.Syntax.{Module}
use Rattle.meaning.specs.Boxlist.{assoc}
use Rattle.meaning.specs.Values.{Val, known, un, value, floating, code, by_fillings}
use Rattle.meaning.specs.Gates.{gate, gates, gate_value, gate_code}
use Rattle.meaning.specs.Evaluation.{evaluate}
use Rattle.meaning.specs.Adder.{bit}
use Rattle.meaning.specs.Calls.{Decision, Written, answer, on_file, on_module, first_above, evaluation_on, evaluation}
use Rattle.laws.specs.Runs.{run_writes, only-run-answered}
use Rattle.laws.specs.Demands.Terms.{KeepsKnown}
use Rattle.laws.specs.Demands.FlatRuns.{one_module}
use Rattle.laws.specs.Demands.Third.{second-run-agrees}

-- Two numbers of an input that differ at most in 2 against 3.
pub data Alike : (x y : ℕ) → Type 0 where
  same : {x : ℕ} → Alike x x
  unplugged : Alike 2 floating
  plugged : Alike floating 2

-- What a later run may put where the first had x: a known value stays, and 2 or 3 may become anything.
pub data Later : (x y : ℕ) → Type 0 where
  kept : (b : Bool) → Later (bit b) (bit b)
  from_unknown : {y : ℕ} → Later 2 y
  from_floating : {y : ℕ} → Later floating y

-- Numbers that are alike stand for one value, and are refused or taken together.
alike-values : {xs ys : List ℕ} → Forall₂ Alike xs ys → map value xs ≡ map value ys
alike-values Forall₂.nil = refl
alike-values (Forall₂.cons {a = x} {b = y} a rest) = ap₂ {C = List Val} ◌∷◌ (one a) (alike-values rest)
  where
    one : {x y : ℕ} → Alike x y → value x ≡ value y
    one same = refl
    one unplugged = refl
    one plugged = refl

alike-count : {xs ys : List ℕ} → Forall₂ Alike xs ys → length xs ≡ length ys
alike-count Forall₂.nil = refl
alike-count (Forall₂.cons a rest) = ap suc (alike-count rest)

alike-above : {xs ys : List ℕ} → Forall₂ Alike xs ys → first_above xs ≡ first_above ys
unfolding first_above
alike-above Forall₂.nil = refl
alike-above (Forall₂.cons same rest) = rw (alike-above rest)
alike-above (Forall₂.cons unplugged rest) = ap suc (alike-above rest)
alike-above (Forall₂.cons plugged rest) = ap suc (alike-above rest)

-- "Every gate, B-BUF too, treats it as unknown,"
pub gates_treat_alike : (number : ℕ) {xs ys : List ℕ} → Forall₂ Alike xs ys → gate_code number xs ≡ gate_code number ys
unfolding gate_code
gates_treat_alike number alike = ap (λ vs. code (gate_value number vs)) (alike-values alike)

pub buffer_of-floating : gate_code 0 (floating ∷ []) ≡ 2
unfolding gate_code gate_value by_fillings gate gates
buffer_of-floating = refl

codes_small : (vs : List Val) → All (λ x. x ≤ 2) (map code vs)
codes_small [] = none
codes_small (v ∷ vs) = more (small v) (codes_small vs)
  where
    small : (v : Val) → code v ≤ 2
    small (known false) = lit≤ tt
    small (known true) = lit≤ tt
    small un = lit≤ tt

later-keeps : {xs ys : List ℕ} → Forall₂ Later xs ys → KeepsKnown xs ys
later-keeps Forall₂.nil i b e = e
later-keeps (Forall₂.cons {a = x} {b = y} l rest) zero b e = ap some (one l b (let is : x ≡ bit b = cc in is))
  where
    one : {x y : ℕ} → Later x y → (b : Bool) → x ≡ bit b → y ≡ bit b
    one (kept _) b e = e
    one from_unknown true e = absurd (omega arith)
    one from_unknown false e = absurd (omega arith)
    one from_floating true e = absurd (omega arith)
    one from_floating false e = absurd (omega arith)
later-keeps (Forall₂.cons l rest) (suc i) b e = later-keeps rest i b e

module _ (file : List ℕ) (number : ℕ) where
  -- Runs that differ only in 2 against 3 come to the same, refusals too.
  pub alike_runs :
      {values values' : List ℕ}
      → Forall₂ Alike values values'
      → (scratch out : ℕ) → evaluation file number values scratch out ≡ evaluation file number values' scratch out
  unfolding evaluation
  alike_runs {values} {values'} alike scratch out =
      ap (λ (ask : List Module → Module → Decision Written). on_file file λ ms. on_module (assoc number ms) (ask ms))
      (fun_ext (λ ms. fun_ext (on-module ms)))
    where
      on-module : (ms : List Module) (m : Module) → evaluation_on number values scratch out ms m ≡ evaluation_on number values' scratch out ms m
      on-module ms m = rw (alike-count alike, alike-above alike, alike-values alike)

  module _ (values : List ℕ) (scratch out : ℕ) (w : Written) (run : evaluation file number values scratch out ≡ answer w) where
    -- "so no output is ever 3."
    pub no_output_floats : All (λ x. x ≤ 2) w.bytes
    no_output_floats =
        let ran = only-run-answered file number values scratch out w run in
        rw ran.1 (codes_small (evaluate ran.0.ms number (map value values)))

    module _ (values' : List ℕ) (scratch' out' : ℕ) (w' : Written) (run' : evaluation file number values' scratch' out' ≡ answer w') where
      -- Where both runs are answered they write the same, whatever was lent to each.
      pub alike-outputs : Forall₂ Alike values values' → w ≡ w'
      alike-outputs alike =
          let ran = only-run-answered file number values scratch out w run in
          let ran' = only-run-answered file number values' scratch' out' w' run' in
          let it = one_module ran.0.here ran'.0.here in
          let same : run_writes ran.0.ms number values ≡ run_writes ran'.0.ms number values' = rw (it.0, alike-values alike) in
          ran.1 ∙ same ∙ sym ran'.1

      -- "a later run may put 3 where the first had 2, or 2 where it had 3, and the known outputs stay."
      pub later-run-keeps : Forall₂ Later values values' → KeepsKnown w.bytes w'.bytes
      later-run-keeps later = second-run-agrees file number values scratch out w run values' scratch' out' w' run' (later-keeps later)
