-- Bounds on an accepted list of modules that code needs: the nets of a module that is found, the gates, which expanded size bounds,
-- and the room.
use Prim.Native.Nat.{ℕ, suc, ◌+◌, ◌*◌, ◌≤◌, max}
use Rattle.std.specs.Prelude.{Bool, eqb, length}
use Rattle.std.proofs.Math.Bool.{true, false, cond}
use mathlib.Core.List.{List, [], ◌∷◌}
use Rattle.std.proofs.Common.{le_refl}
use native.Mathlib.Omega.{arith}
use Rattle.meaning.specs.Syntax.{Occurrence, Module}
use Rattle.meaning.specs.Gates.{is_gate}
use Rattle.meaning.specs.Limits.{net_count, body_size, expanded_size, most_module_nets, most_size}
use Rattle.meaning.specs.Figures.{body_weight, gate_weight, gate_count, kind_count, largest_referred, room}
use Rattle.laws.specs.WellFormed.{Accepted, none, some}
use Rattle.laws.specs.Acceptable.{size-within}

-- Gates, or gates of one kind, are at most the expanded size: each of them is a visit.
module _ (weight : ℕ → ℕ) (light : (kind : ℕ) → weight kind ≤ 1) where
  body-weight :
      (inner sizes : ℕ → ℕ)
      → ((x : ℕ) → inner x ≤ sizes x)
      → (os : List Occurrence)
      → body_weight weight inner os ≤ body_size sizes os
  unfolding body_weight body_size
  body-weight inner sizes h [] = omega arith
  body-weight inner sizes h (o ∷ os) = go (is_gate o.refers) (body-weight inner sizes h os)
    where
      go :
          (b : Bool)
          → body_weight weight inner os ≤ body_size sizes os
          → cond b (weight o.refers) (inner o.refers) + body_weight weight inner os
          ≤ suc (cond b 0 (sizes o.refers)) + body_size sizes os
      go true below = omega (arith, light o.refers)
      go false below = omega (arith, h o.refers)

  pub weight_size : (ms : List Module) (x : ℕ) → gate_weight weight ms x ≤ expanded_size ms x
  unfolding gate_weight expanded_size
  weight_size [] x = omega arith
  weight_size (m ∷ later) x = go (eqb x m.number) (weight_size later x) (body-weight _ _ (weight_size later) m.occurrences)
    where
      go : (b : Bool) {w v w' v' : ℕ} → w ≤ v → w' ≤ v' → cond b w' w ≤ cond b v' v
      go true h h' = h'
      go false h h' = h

pub gates-within : {ms : List Module} → Accepted ms → (x : ℕ) → gate_count ms x ≤ most_size
unfolding gate_count
gates-within {ms} a x = omega (arith, weight_size (λ kind. 1) (λ kind. le_refl 1) ms x, size-within a x)

pub kinds_within : {ms : List Module} (kind : ℕ) → Accepted ms → (x : ℕ) → kind_count kind ms x ≤ most_size
unfolding kind_count
kinds_within {ms} kind a x =
    let counted = weight_size (λ other. cond (eqb other kind) 1 0) (λ other. one (eqb other kind)) ms x in
    omega (arith, size-within a x)
  where
    one : (b : Bool) → cond b 1 0 ≤ 1
    one true = omega arith
    one false = omega arith

-- Room is at most as many times the limit on a module's nets as there are modules.
pub largest-within :
    (inner : ℕ → ℕ) (most : ℕ) → ((x : ℕ) → inner x ≤ most) → (os : List Occurrence) → largest_referred inner os ≤ most
unfolding largest_referred
largest-within inner most h [] = omega arith
largest-within inner most h (o ∷ os) = go (is_gate o.refers) (largest-within inner most h os)
  where
    go :
        (b : Bool)
        → largest_referred inner os ≤ most
        → max (cond b 0 (inner o.refers)) (largest_referred inner os) ≤ most
    go true below = omega arith
    go false below = omega (arith, h o.refers)

pub room_within : {ms : List Module} → Accepted ms → (x : ℕ) → room ms x ≤ most_module_nets * length ms
unfolding room
room_within none x = omega arith
room_within (some {m} {later} ok rest) x =
    go (eqb x m.number) (room_within rest x) (largest-within _ _ (room_within rest) m.occurrences)
  where
    go :
        (b : Bool)
        → room later x ≤ most_module_nets * length later
        → largest_referred (room later) m.occurrences ≤ most_module_nets * length later
        → cond b (net_count m + largest_referred (room later) m.occurrences) (room later x) ≤ most_module_nets * suc (length later)
    go true below largest = omega (arith, ok.nets)
    go false below largest = omega arith
