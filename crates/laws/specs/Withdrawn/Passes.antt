-- A rewritten file that keeps the ceilings passes the check, and the strict check: it uses none of the four gates.
use Rattle.std.specs.Prelude.{ℕ, suc, ◌+◌, ◌≤◌, ◌⊎◌, ◌≡◌, Bool, true, false, cond, List, [], ◌∷◌, ◌++◌, get_or, drop}
use Rattle.std.proofs.Common.{inl, inr, arith, leb-true}
use Rattle.std.proofs.Math.Path.{refl}
use Rattle.meaning.specs.Lists.{none}
use Rattle.meaning.specs.Syntax.{Occurrence, Module}
use Rattle.meaning.specs.Members.{◌∈◌}
use Rattle.meaning.specs.Boxlist.{subset}
use Rattle.meaning.specs.Limits.{driven, net_count, body_size, expanded_size, most_module_nets, most_size, nets_ok, size_ok}
use Rattle.meaning.specs.Verdict.{Verdict, good, refused, keep, and_then, sizes_verdict}
use Rattle.meaning.specs.Withdrawn.{withdrawn, any_withdrawn, withdrawn_verdict, three_gates, rewrite_body, unused, rewrite_module, rewrite_file, nets_verdict}
use Rattle.laws.specs.Tests.{is_true}
use Rattle.laws.specs.Members.{in_left, in_right, in_either, subset-tells, subset_in}
use Rattle.laws.specs.WellFormed.{ModuleOk, Accepted}
use Rattle.laws.specs.Withdrawn.Kinds.{four-told, four_is}
use Rattle.laws.specs.Withdrawn.Enough.{unused-apart, inputs-among, module_suits}
use Rattle.laws.specs.Withdrawn.Bodies.{rewritten-body, unused-of-used}
use Rattle.laws.specs.Withdrawn.Delay.{none-rewritten}

-- No withdrawn gate is left.
none_left : (fresh : List ℕ) (os : List Occurrence) → any_withdrawn (rewrite_body fresh os) ≡ false
unfolding any_withdrawn rewrite_body three_gates
none_left fresh [] = refl
none_left fresh (o ∷ os) = go (withdrawn o.refers) refl (none_left fresh os) (none_left (drop 2 fresh) os)
  where
    go :
        (b : Bool)
        → withdrawn o.refers ≡ b
        → any_withdrawn (rewrite_body fresh os) ≡ false
        → any_withdrawn (rewrite_body (drop 2 fresh) os) ≡ false
        → any_withdrawn (cond b (three_gates (get_or fresh 0 0) (get_or fresh 1 0) o ++ rewrite_body (drop 2 fresh) os) (o ∷ rewrite_body fresh os)) ≡ false
    go true is same less = let four = four_is (four-told o.refers is) in rw (four.pair_stays, four.two_stays) less
    go false is same less = rw is same

pub strict_after : (place : ℕ) (ms : List Module) → withdrawn_verdict place (rewrite_file ms) ≡ good
unfolding withdrawn_verdict rewrite_file rewrite_module
strict_after place [] = refl
strict_after place (m ∷ ms) = rw (none_left (unused m) m.occurrences) (strict_after (suc place) ms)

-- What was driven is driven.
driven-kept : (fresh : List ℕ) (os : List Occurrence) {x : ℕ} → x ∈ driven os → x ∈ driven (rewrite_body fresh os)
unfolding driven rewrite_body three_gates
driven-kept fresh [] i = i
driven-kept fresh (o ∷ os) {x} i = go (withdrawn o.refers) (in_either o.drives i) (driven-kept fresh os) (driven-kept (drop 2 fresh) os)
  where
    go :
        (b : Bool)
        → (x ∈ o.drives) ⊎ (x ∈ driven os)
        → (x ∈ driven os → x ∈ driven (rewrite_body fresh os))
        → (x ∈ driven os → x ∈ driven (rewrite_body (drop 2 fresh) os))
        → x ∈ driven (cond b (three_gates (get_or fresh 0 0) (get_or fresh 1 0) o ++ rewrite_body (drop 2 fresh) os) (o ∷ rewrite_body fresh os))
    go true (inl k) same less = in_right (get_or fresh 0 0 ∷ get_or fresh 1 0 ∷ []) (in_left (driven (rewrite_body (drop 2 fresh) os)) k)
    go true (inr k) same less = in_right (get_or fresh 0 0 ∷ get_or fresh 1 0 ∷ []) (in_right o.drives (less k))
    go false (inl k) same less = in_left (driven (rewrite_body fresh os)) k
    go false (inr k) same less = in_right o.drives (same k)

module _ {m : Module} {later : List Module} (ok : ModuleOk m later) where
  outputs-driven : subset m.outputs (driven (rewrite_body (unused m) m.occurrences)) ≡ true
  outputs-driven =
      is_true (subset-tells m.outputs _)
      (λ lacking. lacking.missing (driven-kept (unused m) m.occurrences (subset_in m.outputs _ ok.outputs_driven lacking.listed)))

  module_passes :
      net_count (rewrite_module m) ≤ most_module_nets
      → body_size (expanded_size (rewrite_file later)) (rewrite_module m).occurrences ≤ most_size
      → ModuleOk (rewrite_module m) (rewrite_file later)
  unfolding rewrite_module
  module_passes nets size =
      record {
        above = ok.above;
        unique = none-rewritten m.number later ok.unique;
        inputs_distinct = ok.inputs_distinct;
        outputs_distinct = ok.outputs_distinct;
        apart = ok.apart;
        body =
            rewritten-body ok.body (module_suits ok) (unused-apart m) (unused-of-used (unused-apart m) (inputs-among m))
            (record { same = λ x is. refl });
        outputs_driven = outputs-driven;
        nets = nets;
        size = size;
      }

-- A verdict that lets pass.
pub keep-good : (number place : ℕ) (b : Bool) (next : Verdict) → keep number place b next ≡ good → (b ≡ true) × (next ≡ good)
keep-good number place true next e = (refl, e)
keep-good number place false next e = absurd (let z : ◌≡◌ {A = ℕ} 0 1 = cc in omega arith)

pub and_then-good : (first next : Verdict) → and_then first next ≡ good → (first ≡ good) × (next ≡ good)
and_then-good good next e = (refl, e)
and_then-good (refused number place) next e = absurd (let z : ◌≡◌ {A = ℕ} 0 1 = cc in omega arith)

pub accepted-after :
    (p q : ℕ) {ms : List Module}
    → Accepted ms
    → nets_verdict p (rewrite_file ms) ≡ good
    → sizes_verdict q (rewrite_file ms) ≡ good
    → Accepted (rewrite_file ms)
unfolding nets_verdict sizes_verdict rewrite_file
accepted-after p q Accepted.none nets sizes = Accepted.none
accepted-after p q (Accepted.some {m = m} {later = later} ok rest) nets sizes =
    let own = keep-good 16 p (nets_ok (rewrite_module m)) _ nets in
    let both = and_then-good (sizes_verdict (suc q) (rewrite_file later)) _ sizes in
    let size = keep-good 17 q (size_ok (rewrite_module m) (rewrite_file later)) good both.1 in
    Accepted.some (module_passes ok (leb-true _ most_module_nets own.0) (leb-true _ most_size size.0))
    (accepted-after (suc p) (suc q) rest own.1 both.0)
