-- How much a rewriting adds: two occurrences and two nets for each of the four gates in a module, two gates and two visits for each that is
-- reached. Nothing is asked of the file.
use Prim.Native.Nat.{ℕ, suc, ◌+◌, ◌*◌}
use Rattle.std.specs.Prelude.{◌≡◌, Bool, eqb, length, get_or, drop}
use Rattle.std.proofs.Math.Path.{refl}
use Rattle.std.proofs.Math.Bool.{true, false, cond, true≢false}
use mathlib.Core.List.{List, [], ◌∷◌, ◌++◌}
use Rattle.std.proofs.Common.{arith, length-append}
use Rattle.meaning.specs.Syntax.{Occurrence, Module}
use Rattle.meaning.specs.Gates.{is_gate}
use Rattle.meaning.specs.Limits.{driven, net_count, body_size, expanded_size}
use Rattle.meaning.specs.Figures.{body_weight, gate_weight, gate_count}
use Rattle.meaning.specs.Withdrawn.{withdrawn, three_gates, rewrite_body, unused, rewrite_module, rewrite_file}
use Rattle.laws.specs.Withdrawn.Kinds.{four-told, four_is}
use Rattle.laws.specs.Withdrawn.Suits.{fours}

-- Occurrences and nets.
pub occurrences_grow : (fresh : List ℕ) (os : List Occurrence) → length (rewrite_body fresh os) ≡ length os + 2 * fours os
unfolding rewrite_body fours three_gates
occurrences_grow fresh [] = refl
occurrences_grow fresh (o ∷ os) = go (withdrawn o.refers) (occurrences_grow fresh os) (occurrences_grow (drop 2 fresh) os)
  where
    go :
        (b : Bool)
        → length (rewrite_body fresh os) ≡ length os + 2 * fours os
        → length (rewrite_body (drop 2 fresh) os) ≡ length os + 2 * fours os
        → length (cond b (three_gates (get_or fresh 0 0) (get_or fresh 1 0) o ++ rewrite_body (drop 2 fresh) os) (o ∷ rewrite_body fresh os))
        ≡ suc (length os) + 2 * (cond b 1 0 + fours os)
    go true same less = omega arith
    go false same less = omega arith

pub driven-grows : (fresh : List ℕ) (os : List Occurrence) → length (driven (rewrite_body fresh os)) ≡ length (driven os) + 2 * fours os
unfolding rewrite_body fours three_gates driven
driven-grows fresh [] = refl
driven-grows fresh (o ∷ os) = go (withdrawn o.refers) (driven-grows fresh os) (driven-grows (drop 2 fresh) os)
  where
    go :
        (b : Bool)
        → length (driven (rewrite_body fresh os)) ≡ length (driven os) + 2 * fours os
        → length (driven (rewrite_body (drop 2 fresh) os)) ≡ length (driven os) + 2 * fours os
        → length (driven (cond b (three_gates (get_or fresh 0 0) (get_or fresh 1 0) o ++ rewrite_body (drop 2 fresh) os) (o ∷ rewrite_body fresh os)))
        ≡ length (o.drives ++ driven os) + 2 * (cond b 1 0 + fours os)
    go true same less =
        omega (arith, length-append o.drives (driven (rewrite_body (drop 2 fresh) os)), length-append o.drives (driven os))
    go false same less = omega (arith, length-append o.drives (driven (rewrite_body fresh os)), length-append o.drives (driven os))

pub nets_grow : (m : Module) → net_count (rewrite_module m) ≡ net_count m + 2 * fours m.occurrences
unfolding net_count rewrite_module
nets_grow m = omega (arith, driven-grows (unused m) m.occurrences)

-- The four gates that are reached, once for each time.
abbrev pub four_weight : ℕ → ℕ
four_weight kind = cond (withdrawn kind) 1 0

unfoldable pub fours_reached : List Module → ℕ → ℕ
fours_reached = gate_weight four_weight

-- Sums over occurrences, in front and behind the rewriting.
module _ (l l' extra : ℕ → ℕ) (grown : (x : ℕ) → l' x ≡ l x + 2 * extra x) where
  body-size-grows :
      (fresh : List ℕ) (os : List Occurrence) → body_size l' (rewrite_body fresh os) ≡ body_size l os + 2 * body_weight four_weight extra os
  unfolding rewrite_body three_gates body_size body_weight
  body-size-grows fresh [] = refl
  body-size-grows fresh (o ∷ os) = go (withdrawn o.refers) refl (is_gate o.refers) refl (body-size-grows fresh os) (body-size-grows (drop 2 fresh) os)
    where
      go :
          (b : Bool)
          → withdrawn o.refers ≡ b
          → (c : Bool)
          → is_gate o.refers ≡ c
          → body_size l' (rewrite_body fresh os) ≡ body_size l os + 2 * body_weight four_weight extra os
          → body_size l' (rewrite_body (drop 2 fresh) os) ≡ body_size l os + 2 * body_weight four_weight extra os
          → body_size l' (cond b (three_gates (get_or fresh 0 0) (get_or fresh 1 0) o ++ rewrite_body (drop 2 fresh) os) (o ∷ rewrite_body fresh os))
          ≡ suc (cond c 0 (l o.refers)) + body_size l os
          + 2 * (cond c (cond b 1 0) (extra o.refers) + body_weight four_weight extra os)
      go true four true gate same less = let is = four_is (four-told o.refers four) in rw (is.pair_gate, is.two_gate) (omega arith)
      go true four false gate same less = absurd (let is = (four_is (four-told o.refers four)).is_one in let z : true ≡ false = cc in true≢false z)
      go false four true gate same less = rw gate (omega arith)
      go false four false gate same less = rw gate (omega (arith, grown o.refers))

either : (b : Bool) {x x' : ℕ} (y z y' z' : ℕ) → x ≡ y + 2 * z → x' ≡ y' + 2 * z' → cond b x x' ≡ cond b y y' + 2 * cond b z z'
either true y z y' z' h k = h
either false y z y' z' h k = k

pub size-grows : (ms : List Module) (number : ℕ) → expanded_size (rewrite_file ms) number ≡ expanded_size ms number + 2 * fours_reached ms number
unfolding expanded_size rewrite_file rewrite_module fours_reached gate_weight
size-grows [] number = refl
size-grows (m ∷ ms) number =
    either (eqb number m.number) _ _ _ _
    (body-size-grows (expanded_size ms) (expanded_size (rewrite_file ms)) (fours_reached ms) (size-grows ms) (unused m) m.occurrences)
    (size-grows ms number)

-- Gates: those of two inputs in place of each of the four are three.
module _ (l l' extra : ℕ → ℕ) (grown : (x : ℕ) → l' x ≡ l x + 2 * extra x) where
  body-gates_grow :
      (fresh : List ℕ) (os : List Occurrence)
      → body_weight (λ kind. 1) l' (rewrite_body fresh os) ≡ body_weight (λ kind. 1) l os + 2 * body_weight four_weight extra os
  unfolding rewrite_body three_gates body_weight
  body-gates_grow fresh [] = refl
  body-gates_grow fresh (o ∷ os) = go (withdrawn o.refers) refl (is_gate o.refers) refl (body-gates_grow fresh os) (body-gates_grow (drop 2 fresh) os)
    where
      go :
          (b : Bool)
          → withdrawn o.refers ≡ b
          → (c : Bool)
          → is_gate o.refers ≡ c
          → body_weight (λ kind. 1) l' (rewrite_body fresh os) ≡ body_weight (λ kind. 1) l os + 2 * body_weight four_weight extra os
          → body_weight (λ kind. 1) l' (rewrite_body (drop 2 fresh) os) ≡ body_weight (λ kind. 1) l os + 2 * body_weight four_weight extra os
          → body_weight (λ kind. 1) l'
          (cond b (three_gates (get_or fresh 0 0) (get_or fresh 1 0) o ++ rewrite_body (drop 2 fresh) os) (o ∷ rewrite_body fresh os))
          ≡ cond c 1 (l o.refers) + body_weight (λ kind. 1) l os
          + 2 * (cond c (cond b 1 0) (extra o.refers) + body_weight four_weight extra os)
      go true four true gate same less = let is = four_is (four-told o.refers four) in rw (is.pair_gate, is.two_gate) (omega arith)
      go true four false gate same less = absurd (let is = (four_is (four-told o.refers four)).is_one in let z : true ≡ false = cc in true≢false z)
      go false four true gate same less = rw gate (omega arith)
      go false four false gate same less = rw gate (omega (arith, grown o.refers))

pub gates_grow : (ms : List Module) (number : ℕ) → gate_count (rewrite_file ms) number ≡ gate_count ms number + 2 * fours_reached ms number
unfolding gate_count gate_weight rewrite_file rewrite_module fours_reached
gates_grow [] number = refl
gates_grow (m ∷ ms) number =
    either (eqb number m.number) _ _ _ _
    (body-gates_grow (gate_count ms) (gate_count (rewrite_file ms)) (fours_reached ms) (gates_grow ms) (unused m) m.occurrences)
    (gates_grow ms number)
