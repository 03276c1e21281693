-- Every kind of value, evaluation and arrival too, is the same under other numbers.
use Rattle.std.specs.Prelude.{ℕ, ◌≡◌, eqb}
use Rattle.std.proofs.Math.Path.{refl, ap}
use Rattle.std.proofs.Common.{◌∙◌}
use mathlib.Core.List.{List, [], ◌∷◌, ◌++◌, map}
use Rattle.meaning.specs.Syntax.{Occurrence, Module}
use Rattle.meaning.specs.Evaluation.{Env, look_all, pairs, Meaning, apply, walk, run_module, run}
use Rattle.renaming.specs.Renamed.{OneToOne, KeepsGates, rename_occurrence, rename_module, Renamed, none, more}
use Rattle.renaming.specs.Searches.{either, Alike}
use Rattle.renaming.specs.Runs.{rename_env, look_all_renamed, pairs_renamed, env-append, Agree, apply_renamed}

module _ {number : ℕ → ℕ} (keeps : KeepsGates number) {A : Type 0} (unset : A) (gate_meaning : Meaning A) where
  module _ {l l' : Meaning A} (later : Alike Agree number l l') where
    walk_renamed : {net : ℕ → ℕ} → OneToOne net → (os : List Occurrence) (env : Env A)
        → walk unset gate_meaning l' (map (rename_occurrence net number) os) (rename_env net env) ≡ rename_env net (walk unset gate_meaning l os env)
    unfolding walk
    walk_renamed one [] env = refl
    walk_renamed {net} one (o ∷ os) env =
        let taken : look_all unset (map net o.takes) (rename_env net env) ≡ look_all unset o.takes env = look_all_renamed unset net one o.takes env in
        let given : List A = apply gate_meaning l o.refers (look_all unset o.takes env) in
        let driven : apply gate_meaning l' (number o.refers) (look_all unset (map net o.takes) (rename_env net env)) ≡ given =
        ap (apply gate_meaning l' (number o.refers)) taken ∙ apply_renamed keeps unset gate_meaning later o.refers (look_all unset o.takes env) in
        ap (λ (vs : List A). walk unset gate_meaning l' (map (rename_occurrence net number) os) (pairs unset (map net o.drives) vs ++ rename_env net env)) driven
        ∙ ap (walk unset gate_meaning l' (map (rename_occurrence net number) os)) (env-append unset net o.drives given env)
        ∙ walk_renamed one os (pairs unset o.drives given ++ env)

    module_renamed : {net : ℕ → ℕ} → OneToOne net → (m : Module)
        → (vs : List A) → run_module unset gate_meaning l' (rename_module net number m) vs ≡ run_module unset gate_meaning l m vs
    unfolding run_module
    module_renamed {net} one m vs =
        ap (λ (e : Env A). look_all unset (map net m.outputs) (walk unset gate_meaning l' (map (rename_occurrence net number) m.occurrences) e))
        (pairs_renamed unset net m.inputs vs)
        ∙ ap (look_all unset (map net m.outputs)) (walk_renamed one m.occurrences (pairs unset m.inputs vs))
        ∙ look_all_renamed unset net one m.outputs (walk unset gate_meaning l m.occurrences (pairs unset m.inputs vs))

  pub run_renamed : {ms ns : List Module} → Renamed number ms ns → (x : ℕ) (vs : List A)
      → run unset gate_meaning ns (number x) vs ≡ run unset gate_meaning ms x vs
  unfolding run
  run_renamed none x vs = refl
  run_renamed (more {m} net one rest) x vs =
      rw (keeps.one.tells x m.number)
      (either (λ (a b : List A). a ≡ b) (eqb x m.number) (module_renamed (record { at = λ n. record { on = λ ws. run_renamed rest n ws } }) one m vs) (run_renamed rest x vs))
