-- The first module whose number stands on a later one breaks rule 6 where that is a gate's number, else rule 7; so no module from there on
-- need be looked at.
use Prim.Native.Nat.{ℕ, zero, suc, ◌≤◌, ◌<◌}
use mathlib.Core.Path.{◌≡◌, refl, ap}
use mathlib.Core.Bool.{Bool, true, false, cond}
use mathlib.Core.List.{List, [], ◌∷◌}
use native.Mathlib.Omega.{arith}
use borrow.Author.Tests.{lt-ltb, le-ltb}
use lib.ListN.{length, get_or, drop, drop_of_length-le}
use Rattle.meaning.specs.Syntax.{Module}
use Rattle.meaning.specs.Boxlist.{assoc, is_box}
use Rattle.meaning.specs.Layout.{module_numbers}
use Rattle.meaning.specs.Verdict.{refused, module_verdict, modules_verdict, sizes_verdict}
use Rattle.image.specs.Stands.{Stands, stands-head}
use Rattle.check_sizes.specs.Behind.{Here, here}
use Rattle.check_lists.specs.Filed.{At}
use Rattle.check_lists.specs.Numbering.{first_repeat}
use Rattle.check_lists.specs.Later.{repeat_inside}
use Rattle.std.specs.Prelude.{Ok, Err}
use Rattle.refusals.specs.Refused.{refusal_at}
use Rattle.check_steps.specs.Found.{Repeating, Known, broken}
use Rattle.check_steps.specs.FileParts.{filed-of}
use Rattle.check_steps.proofs.Rules.{rules-low}

repeated_here :
    (ms : List Module) (k : ℕ) {m : Module} {later : List Module} → At ms k m later → k ≡ first_repeat ms → is_box (assoc m.number later) ≡ true
unfolding first_repeat
repeated_here [] zero e h = absurd (let z : ◌≡◌ {A = ℕ} 0 1 = cc in omega (arith, z))
repeated_here [] (suc k) e h = absurd (omega (arith, h))
repeated_here (n ∷ ms) zero {m} {later} e h = go (is_box (assoc m.number later)) (rw (same, same_rest) at h)
  where
    same : n ≡ m
    same = cc

    same_rest : ms ≡ later
    same_rest = cc

    go : (b : Bool) → 0 ≡ cond b 0 (suc (first_repeat later)) → b ≡ true
    go true z = refl
    go false z = absurd (omega (arith, z))
repeated_here (n ∷ ms) (suc k) {m} {later} e h = go (is_box (assoc n.number ms)) h (repeated_here ms k e)
  where
    go : (b : Bool) → suc k ≡ cond b 0 (suc (first_repeat ms)) → (k ≡ first_repeat ms → is_box (assoc m.number later) ≡ true) → is_box (assoc m.number later) ≡ true
    go true z ih = absurd (omega (arith, z))
    go false z ih = ih (omega (arith, z))

module _ (ms : List Module) (k : ℕ) {m : Module} {later : List Module} (e : At ms k m later) (repeats : k ≡ first_repeat ms) where
  repeat_breaks_6 : m.number < 16 → modules_verdict k (drop k ms) ≡ refused 6 k
  unfolding modules_verdict module_verdict
  repeat_breaks_6 h = rw (e, lt-ltb m.number 16 h)

  repeat_breaks_7 : 16 ≤ m.number → modules_verdict k (drop k ms) ≡ refused 7 k
  unfolding modules_verdict module_verdict
  repeat_breaks_7 h = rw (e, le-ltb m.number 16 h, repeated_here ms k e repeats)

-- What is known before the check of a file that is laid out.
module _ {numbers starts : List ℕ} {modules repeated : ℕ} (b : Repeating numbers starts modules repeated) where
  pub none-repeats : modules ≤ repeated → Known (Ok tt) repeated b.ms
  unfolding modules_verdict sizes_verdict
  none-repeats h =
      let end = drop_of_length-le b.ms {i = repeated} (omega (arith, b.laidout.all)) in
      record {
        judged = (ap (modules_verdict repeated) end, λ fits. ap (sizes_verdict repeated) end);
        none = λ fine. omega (arith, b.laidout.all, b.repeats, repeat_inside b.ms);
      }

  breaks : {rule : ℕ} → modules_verdict repeated (drop repeated b.ms) ≡ refused rule repeated → Known (Err (refusal_at rule repeated)) repeated b.ms
  breaks judged = record { judged = broken (rules-low repeated (drop repeated b.ms) judged) judged; none = λ fine. absurd (cc) }

  -- The module that is repeated begins among the numbers, and its number decides between the rules.
  module _ (some : repeated < modules) where
    there : Here b.ms repeated
    there = here b.ms repeated (omega (arith, b.laidout.all))

    abbrev start : ℕ
    start = get_or starts repeated 0

    stands : Stands numbers start (module_numbers there.m)
    stands = (filed-of b.laidout).standing repeated there.m there.later there.at

    number_is : get_or numbers start 0 ≡ there.m.number
    unfolding module_numbers
    number_is = stands-head stands

    pub repeat_starts : start < length numbers
    unfolding module_numbers
    repeat_starts = omega (arith, stands.within)

    pub repeat_of-gate : get_or numbers start 0 < 16 → Known (Err (refusal_at 6 repeated)) repeated b.ms
    repeat_of-gate h = breaks (repeat_breaks_6 b.ms repeated there.at b.repeats (omega (arith, number_is)))

    pub repeat_of_module : 16 ≤ get_or numbers start 0 → Known (Err (refusal_at 7 repeated)) repeated b.ms
    repeat_of_module h = breaks (repeat_breaks_7 b.ms repeated there.at b.repeats (omega (arith, number_is)))
