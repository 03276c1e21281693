-- Values of nets under other numbers: what looking them up gives. That every kind of evaluation is the same is in proofs/Runs.antt.
use Rattle.std.specs.Prelude.{ℕ, ◌≡◌, Bool}
use Rattle.std.proofs.Math.Path.{refl, ap, ap₂}
use Rattle.std.proofs.Common.{sym, ◌∙◌}
use Rattle.std.proofs.Math.Bool.{cond}
use mathlib.Core.List.{List, [], ◌∷◌, ◌++◌, map, map-append}
use Rattle.meaning.specs.Evaluation.{Binding, Env, look, look_all, pairs, Meaning, apply}
use Rattle.renaming.specs.Renamed.{OneToOne, KeepsGates}
use Rattle.renaming.specs.Searches.{Alike, referred}

-- The same values, of nets under other numbers.
abbrev rename_binding : {A : Type 0} → (net : ℕ → ℕ) → Binding A → Binding A
rename_binding net b = record { net = net b.net; value = b.value }

abbrev pub rename_env : {A : Type 0} → (net : ℕ → ℕ) → Env A → Env A
rename_env net env = map (rename_binding net) env

module _ {A : Type 0} (unset : A) (net : ℕ → ℕ) where
  look_renamed : OneToOne net → (x : ℕ) (env : Env A) → look unset (net x) (rename_env net env) ≡ look unset x env
  unfolding look
  look_renamed one x [] = refl
  look_renamed one x (b ∷ env) = ap₂ (λ (t : Bool) (v : A). cond t b.value v) (one.tells x b.net) (look_renamed one x env)

  pub look_all_renamed : OneToOne net → (xs : List ℕ) (env : Env A) → look_all unset (map net xs) (rename_env net env) ≡ look_all unset xs env
  unfolding look_all
  look_all_renamed one [] env = refl
  look_all_renamed one (x ∷ xs) env = ap₂ ◌∷◌ (look_renamed one x env) (look_all_renamed one xs env)

  pub pairs_renamed : (xs : List ℕ) (vs : List A) → pairs unset (map net xs) vs ≡ rename_env net (pairs unset xs vs)
  unfolding pairs
  pairs_renamed [] vs = refl
  pairs_renamed (x ∷ xs) [] = ap (λ (e : Env A). record { net = net x; value = unset } ∷ e) (pairs_renamed xs [])
  pairs_renamed (x ∷ xs) (v ∷ vs) = ap (λ (e : Env A). record { net = net x; value = v } ∷ e) (pairs_renamed xs vs)

  -- Nets given values, in front of those that have theirs.
  pub env-append : (xs : List ℕ) (vs : List A) (env : Env A)
      → pairs unset (map net xs) vs ++ rename_env net env ≡ rename_env net (pairs unset xs vs ++ env)
  env-append xs vs env =
      ap (λ (e : Env A). e ++ rename_env net env) (pairs_renamed xs vs) ∙ sym (map-append (rename_binding net) (pairs unset xs vs) env)

-- Meanings that agree on all values.
pub record Agree {A : Type 0} (f g : List A → List A) : Type 0 where
  pub on : (vs : List A) → g vs ≡ f vs

module _ {number : ℕ → ℕ} (keeps : KeepsGates number) {A : Type 0} (unset : A) (gate_meaning : Meaning A) where
  module _ {l l' : Meaning A} (later : Alike Agree number l l') where
    pub apply_renamed : (n : ℕ) (vs : List A) → apply gate_meaning l' (number n) vs ≡ apply gate_meaning l n vs
    apply_renamed n vs = referred keeps (λ x y. y ≡ x) (λ g. gate_meaning g vs) {l = λ k. l k vs} {l' = λ k. l' k vs} (λ g. refl) (record { at = λ k. (later.at k).on vs }) n
