-- The verdict on a module whose number stands on no later one is made of three: rules 6 to 10 on its head, 11 to 14 on its occurrences,
-- 15 and 16 at its end.
use Prim.Native.Nat.{ℕ}
use mathlib.Core.Path.{◌≡◌, refl, ap, ◌∙◌}
use mathlib.Core.Bool.{Bool, true, false, not, ◌&&◌, ◌||◌, cond}
use mathlib.Core.List.{List, [], ◌∷◌, ◌++◌}
use borrow.Author.Tests.{not-true}
use lib.Dec.{eqb, leb}
use Rattle.meaning.specs.Syntax.{Module}
use Rattle.meaning.specs.Gates.{is_gate}
use Rattle.meaning.specs.Boxlist.{member, duplicates, disjoint, subset, assoc, is_box}
use Rattle.meaning.specs.Limits.{driven, net_count, most_module_nets}
use Rattle.meaning.specs.Verdict.{Verdict, good, refused, keep, and_then, body_verdict, module_verdict}
use Rattle.nets.specs.Booleans.{and_left, and_right, eqb_sym}
use Rattle.nets.specs.Members.{member-append}
use Rattle.std.specs.Prelude.{Ok, Err}
use Rattle.check_modules.specs.Heads.{Ruling, ports_rule, head_rule}
use Rattle.check_modules.specs.Modules.{end_rule}

-- Where the rules hold it goes on, a rule that is broken is the verdict.
abbrev pub ruled : Ruling → (place : ℕ) → Verdict → Verdict
ruled (Ok hold) place next = next
ruled (Err rule) place next = refused rule place

module _ (k : ℕ) (m : Module) (later : List Module) (unrepeated : is_box (assoc m.number later) ≡ false) where
  pub module_rules :
      module_verdict k m later
      ≡ ruled (head_rule m.number m.inputs m.outputs) k
      (and_then (body_verdict k m.occurrences m.inputs later)
      (ruled (end_rule m.outputs (driven m.occurrences) (net_count m)) k good))
  unfolding module_verdict head_rule ports_rule end_rule
  module_rules =
      rw unrepeated
      (head (is_gate m.number) (duplicates m.inputs) (duplicates m.outputs) (disjoint m.inputs m.outputs)
      (ap (and_then (body_verdict k m.occurrences m.inputs later))
      (end (subset m.outputs (driven m.occurrences)) (leb (net_count m) most_module_nets))))
    where
      head :
          (gate twice again apart : Bool) {v w : Verdict} → v ≡ w
          → keep 6 k (not gate) (keep 8 k (not twice) (keep 9 k (not again) (keep 10 k apart v)))
          ≡ ruled (cond gate (Err 6) (cond twice (Err 8) (cond again (Err 9) (cond apart (Ok tt) (Err 10))))) k w
      head true twice again apart e = refl
      head false true again apart e = refl
      head false false true apart e = refl
      head false false false true e = e
      head false false false false e = refl

      end : (answered few : Bool) → keep 15 k answered (keep 16 k few good) ≡ ruled (cond answered (cond few (Ok tt) (Err 16)) (Err 15)) k good
      end true true = refl
      end true false = refl
      end false few = refl

-- Where no rule on the head is broken, no net is both input and output.
pub fine-apart : (number : ℕ) (inputs outputs : List ℕ) → head_rule number inputs outputs ≡ Ok tt → disjoint inputs outputs ≡ true
unfolding head_rule ports_rule
fine-apart number inputs outputs =
    go (is_gate number) (duplicates inputs) (duplicates outputs) (disjoint inputs outputs)
  where
    go :
        (gate twice again apart : Bool)
        → ◌≡◌ {A = Ruling} (cond gate (Err 6) (cond twice (Err 8) (cond again (Err 9) (cond apart (Ok tt) (Err 10))))) (Ok tt)
        → apart ≡ true
    go true twice again apart e = absurd (cc)
    go false true again apart e = absurd (cc)
    go false false true apart e = absurd (cc)
    go false false false true e = refl
    go false false false false e = absurd (cc)

-- Two lists are disjoint either way round.
pub disjoint-sym : (xs ys : List ℕ) → disjoint xs ys ≡ disjoint ys xs
unfolding disjoint member
disjoint-sym xs [] = none xs
  where
    none : (xs : List ℕ) → disjoint xs [] ≡ true
    none [] = refl
    none (x ∷ xs) = none xs
disjoint-sym xs (y ∷ ys) = more xs ∙ ap (λ (b : Bool). not (member y xs) && b) (disjoint-sym xs ys)
  where
    swap : (e a b d : Bool) → (not (e || a) && (not b && d)) ≡ (not (e || b) && (not a && d))
    swap true a b d = refl
    swap false true true d = refl
    swap false true false d = refl
    swap false false true d = refl
    swap false false false d = refl

    more : (xs : List ℕ) → disjoint xs (y ∷ ys) ≡ (not (member y xs) && disjoint xs ys)
    more [] = refl
    more (x ∷ xs) =
        rw (more xs, eqb_sym y x) (swap (eqb x y) (member x ys) (member y xs) (disjoint xs ys))

-- A list that is disjoint from the front of another is a sublist of it if it is one of the rest.
pub subset-apart : (l ns ms : List ℕ) → disjoint l ns ≡ true → subset l (ns ++ ms) ≡ subset l ms
unfolding disjoint subset
subset-apart [] ns ms d = refl
subset-apart (x ∷ l) ns ms d =
    rw (
      member-append x ns ms,
      not-true (member x ns) (and_left (not (member x ns)) (disjoint l ns) d),
      subset-apart l ns ms (and_right (not (member x ns)) (disjoint l ns) d),
    )
