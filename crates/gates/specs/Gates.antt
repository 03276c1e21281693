-- The law that another crate cites: what the rule of a gate's number gives to the arguments is the gate's value.
use Rattle.std.specs.Prelude.{ℕ, ◌≤◌, ◌<◌, Bool, true, false, cond, List, map, ◌≡◌, refl, length, get_or}
use Rattle.std.proofs.Common.{ap, sym, subst₂, ◌∙◌, arith, ltb-true, ltb-false, lt-ltb, le-ltb}
use Rattle.std.proofs.Math.Path.{fun_ext}
use Rattle.std.proofs.lemmas.List.{length-map}
use Rattle.meaning.specs.Values.{Val, known, value, code, by_fillings}
use Rattle.meaning.specs.Gates.{is_gate, gate, gate_value, gate_code}
use Rattle.laws.specs.Folds.{firsts, firsts-all, on-firsts}
use Rattle.gates.specs.Kind.{rules, kind_of}
use Rattle.gates.specs.Folds.{result_of}
use Rattle.gates.specs.Folding.{means, by_folding}
use Rattle.gates.specs.Rules.{gate-computes}
use Rattle.gates.specs.declared.Rule.{Rule}
use Rattle.gates.specs.declared.Rule.TheVariants.{And}
use Rattle.gates.specs.declared.Kind.TheVariants.{Gate, Module}

-- A number is that of a gate with this rule and this count of arguments: to as many the rule gives the gate's value.
pub record GateIs (number : ℕ) (rule : Rule) (arity : ℕ) : Type 0 where
  pub below : number < 16
  pub arity-is : arity ≡ (gate number).arity
  pub on_values : (vs : List Val) → result_of rule (firsts (known false) arity vs) ≡ gate_value number vs
  pub value-is : (xs : List ℕ) → length xs ≡ arity → code (result_of rule (map value xs)) ≡ gate_code number xs

gate-is : (number : ℕ) → number < 16 → GateIs number (get_or rules number And) (gate number).arity
unfolding gate_code gate_value
gate-is number below =
    record {
      below = below;
      arity-is = refl;
      on_values = by-rule;
      value-is = λ xs count.
          ap code
          (ap (result_of (get_or rules number And))
          (sym (firsts-all (known false) (map value xs)) ∙ ap (λ n. firsts (known false) n (map value xs)) (length-map xs value ∙ count))
          ∙ by-rule (map value xs));
    }
  where
    by-rule : (vs : List Val)
        → result_of (get_or rules number And) (firsts (known false) (gate number).arity vs) ≡ by_fillings (gate number).function vs
    by-rule vs =
        by_folding (get_or rules number And) (firsts (known false) (gate number).arity vs)
        ∙ sym (on-firsts (means (get_or rules number And)) (gate number).arity vs)
        ∙ ap (λ f. by_fillings f vs) (sym (fun_ext (gate-computes number below).computes))

-- What `kind_of` answers says which gate a number is,
pub gate-of-kind : (number : ℕ) {rule : Rule} {arity : ℕ} → kind_of number ≡ Gate rule arity → GateIs number rule arity
unfolding kind_of
gate-of-kind number {rule} {arity} = go (is_gate number) refl
  where
    go : (b : Bool) → is_gate number ≡ b
        → cond b (Gate (get_or rules number And) (gate number).arity) Module ≡ Gate rule arity → GateIs number rule arity
    go true e k =
        let r : get_or rules number And ≡ rule = cc in
        let a : (gate number).arity ≡ arity = cc in
        subst₂ (GateIs number) r a (gate-is number (ltb-true number 16 e))
    go false e k = let z : ◌≡◌ {A = ℕ} 0 1 = cc in absurd (omega arith)

-- or that it is none.
pub module_of-kind : (number : ℕ) → kind_of number ≡ Module → 16 ≤ number
unfolding kind_of
module_of-kind number = go (is_gate number) refl
  where
    go : (b : Bool) → is_gate number ≡ b
        → cond b (Gate (get_or rules number And) (gate number).arity) Module ≡ Module → 16 ≤ number
    go true e k = let z : ◌≡◌ {A = ℕ} 0 1 = cc in absurd (omega arith)
    go false e k = ltb-false number 16 e

-- The same as the definitions tell gates from modules.
pub gate-told : (number : ℕ) {rule : Rule} {arity : ℕ} → kind_of number ≡ Gate rule arity → is_gate number ≡ true
gate-told number k = lt-ltb number 16 (gate-of-kind number k).below

pub module_told : (number : ℕ) → kind_of number ≡ Module → is_gate number ≡ false
module_told number k = le-ltb number 16 (module_of-kind number k)
