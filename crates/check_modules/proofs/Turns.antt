-- A module's turn: what its head, its occurrences and its end make of the verdict on it.
use Prim.Native.Nat.{ℕ, zero, suc, ◌+◌, ◌≤◌, ◌<◌}
use mathlib.Core.Path.{◌≡◌, refl, sym, ap, ◌∙◌}
use mathlib.Core.Bool.{Bool, true, false, cond}
use mathlib.Core.List.{List, [], ◌∷◌}
use native.Mathlib.Omega.{arith}
use native.Mathlib.Nat.{zero-add}
use lib.ListN.{length, drop}
use Rattle.meaning.specs.Syntax.{Module}
use Rattle.meaning.specs.Boxlist.{assoc, is_box}
use Rattle.meaning.specs.Limits.{driven, net_count}
use Rattle.meaning.specs.Verdict.{Verdict, good, refused, and_then, body_verdict, module_verdict}
use Rattle.image.specs.Resolved.{nets_of}
use Rattle.image.specs.Shapes.{length-of-nets}
use Rattle.check_lists.specs.Filed.{At}
use Rattle.check_lists.specs.Numbering.{first_repeat}
use Rattle.check_lists.specs.Scene.{Scene}
use Rattle.std.specs.Prelude.{Ok, Err}
use Rattle.check_modules.specs.Heads.{Ruling, head_rule}
use Rattle.check_modules.specs.Modules.{end_rule}
use Rattle.check_modules.proofs.Rules.{ruled, module_rules, fine-apart, disjoint-sym, subset-apart}

-- Up to the first module whose number stands on a later one, that module is the first of those that are left.
repeat_drop : (ms : List Module) (k : ℕ) → k ≤ first_repeat ms → first_repeat ms ≡ k + first_repeat (drop k ms)
unfolding first_repeat
repeat_drop ms zero h = sym (zero-add (first_repeat ms))
repeat_drop [] (suc k) h = absurd (omega (arith, h))
repeat_drop (m ∷ ms) (suc k) h = go (is_box (assoc m.number ms)) h (repeat_drop ms k)
  where
    go :
        (b : Bool) → suc k ≤ cond b 0 (suc (first_repeat ms)) → (k ≤ first_repeat ms → first_repeat ms ≡ k + first_repeat (drop k ms))
        → cond b 0 (suc (first_repeat ms)) ≡ suc k + first_repeat (drop k ms)
    go true h' ih = absurd (omega (arith, h'))
    go false h' ih = omega (arith, ih (omega arith))

-- In front of that one no number stands on a later module.
unrepeated-here :
    (ms : List Module) (k : ℕ) (m : Module) (later : List Module) → At ms k m later → k < first_repeat ms
    → is_box (assoc m.number later) ≡ false
unfolding first_repeat
unrepeated-here ms k m later here h =
    go (is_box (assoc m.number later)) (repeat_drop ms k (omega arith) ∙ ap (λ (l : List Module). k + first_repeat l) here)
  where
    go : (b : Bool) → first_repeat ms ≡ k + cond b 0 (suc (first_repeat later)) → b ≡ false
    go true e = absurd (omega (arith, e, h))
    go false e = refl

module _ {first inputs outputs : List ℕ} {k : ℕ} (s : Scene first inputs outputs k) where
  -- What the occurrences and the end make of it.
  behind_head : Verdict
  behind_head =
      and_then (body_verdict k s.m.occurrences s.m.inputs s.later)
      (ruled (end_rule s.m.outputs (driven s.m.occurrences) (net_count s.m)) k good)

  module _ {rule : Ruling} (is : rule ≡ head_rule s.m.number s.m.inputs s.m.outputs) where
    by-head : module_verdict k s.m s.later ≡ ruled rule k behind_head
    unfolding behind_head
    by-head =
        module_rules k s.m s.later (unrepeated-here s.ms k s.m s.later s.here s.unrepeated)
        ∙ ap (λ (r : Ruling). ruled r k behind_head) (sym is)

    -- A rule on the head that is broken is the verdict.
    pub head-broken : {number : ℕ} → rule ≡ Err number → module_verdict k s.m s.later ≡ refused number k
    head-broken broken = by-head ∙ ap (λ (r : Ruling). ruled r k behind_head) broken

    module _ (z : rule ≡ Ok tt) where
      -- Else the occurrences and the end decide.
      pub verdict-behind :
          module_verdict k s.m s.later
          ≡ and_then (body_verdict k s.m.occurrences s.m.inputs s.later)
          (ruled (end_rule s.m.outputs (driven s.m.occurrences) (net_count s.m)) k good)
      unfolding behind_head
      verdict-behind = by-head ∙ ap (λ (r : Ruling). ruled r k behind_head) z

      -- Rule 15 asks for driven nets; no output is an input, so known nets serve.
      pub end-here :
          (nets : ℕ) → nets ≡ length (nets_of s.m)
          → end_rule s.m.outputs (driven s.m.occurrences) (net_count s.m) ≡ end_rule s.m.outputs (nets_of s.m) nets
      unfolding end_rule nets_of
      end-here nets count =
          rw (
            subset-apart s.m.outputs s.m.inputs (driven s.m.occurrences)
                (disjoint-sym s.m.outputs s.m.inputs ∙ fine-apart s.m.number s.m.inputs s.m.outputs (sym is ∙ z)),
            ← length-of-nets s.m,
            ← count,
          )
