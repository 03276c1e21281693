-- What module 32 reaches, at every width: at most 4n gates, and an expanded size of at most 5n. Both add up over the occurrences, a
-- gate as 1 and a reference as what its module reaches; expanded size counts the reference besides.
use Prim.Native.Nat.{ℕ, zero, suc, ◌+◌, ◌*◌, ◌-◌, ◌^◌, ◌≤◌, ◌<◌}
use Rattle.std.specs.Prelude.{◌≡◌, Bool, eqb}
use Rattle.std.proofs.Math.Path.{refl}
use Rattle.std.proofs.Common.{◌∙◌, eq-eqb, ne_eqb, le-ltb}
use Rattle.std.proofs.Math.Bool.{true, false, cond}
use mathlib.Core.List.{List, [], ◌∷◌}
use Rattle.std.proofs.Math.Nat.{pow-suc}
use native.Mathlib.Omega.{arith}
use Rattle.std.proofs.Math.ListN.{length}
use Rattle.meaning.specs.Syntax.{Occurrence, Module}
use Rattle.meaning.specs.Gates.{is_gate}
use Rattle.meaning.specs.Limits.{body_size, expanded_size}
use Rattle.meaning.specs.Figures.{body_weight, gate_weight, gate_count}
use Rattle.meaning.specs.Counter.{block_number, block, blocks, digits, counter_module, counter}
use Rattle.laws.specs.Counter.Levels.{at_parts, parts-less, parts_same, parts-powers}
use Rattle.laws.specs.Counter.Totals.{total, Weighs, total-of-join, total-of-parts}
use Rattle.laws.specs.Counter.Numbered.{block-number, at_block}

-- A reference counts as `own` besides what its module reaches.
module _ (own : ℕ) where
  abbrev behind : (later : ℕ → ℕ) → Occurrence → ℕ
  behind later o = cond (is_gate o.refers) 1 (own + later o.refers)

  unfoldable reached : List Module → ℕ → ℕ
  reached [] number = 0
  reached (m ∷ ms) number = cond (eqb number m.number) (total (behind (reached ms)) m.occurrences) (reached ms number)

  reached-first : (m : Module) (ms : List Module) (x : ℕ) → x ≡ m.number → reached (m ∷ ms) x ≡ total (behind (reached ms)) m.occurrences
  unfolding reached
  reached-first m ms x e = rw (eq-eqb x m.number e)

  reached-past : (m : Module) (ms : List Module) (x : ℕ) → (x ≡ m.number → ⊥) → reached (m ∷ ms) x ≡ reached ms x
  unfolding reached
  reached-past m ms x e = rw (ne_eqb x m.number e)

  -- At a block of each level.
  abbrev at_level : (later : ℕ → ℕ) → ℕ → ℕ
  at_level later j = cond (is_gate (block_number j)) 1 (own + later (block_number j))

  at-bit : (later : ℕ → ℕ) → at_level later 0 ≡ 1
  unfolding block_number
  at-bit later = refl

  at-higher : (later : ℕ → ℕ) (i : ℕ) → at_level later (suc i) ≡ own + later (33 + i)
  unfolding block_number
  at-higher later i = rw (le-ltb (33 + i) 16 (omega arith))

  weighs : (k : ℕ) (later : ℕ → ℕ) → Weighs (behind later) k 1 (at_level later)
  weighs k later = record { gates = λ net kind a b gate. rw gate; blocks = λ j h drives takes d t. refl }

  block-reaches : (i k : ℕ) → i < k → reached (blocks k) (33 + i) + 2 * i + 6 + 2 * own ≡ (8 + 2 * own) * 2 ^ i
  unfolding total block
  block-reaches zero k h =
      rw (at_block reached reached-past k 0 h, reached-first (block 0) (blocks 0) 33 refl) (omega arith)
  block-reaches (suc j) k h =
      let i = suc j in
      let later = reached (blocks i) in
      rw (
        at_block reached reached-past k i h,
        reached-first (block i) (blocks i) (33 + i) (omega (arith, block-number i)),
        total-of-join (weighs i later) i (omega arith),
        at-higher later j,
        pow-suc 2 j,
      )
      (omega (arith, block-reaches j i (omega arith)))

  -- With the ANDs and ORs of at most as many count bits a part reaches so much for each of its bits.
  part-reaches : (k j count : ℕ) → count ≤ j → j ≤ k → at_level (reached (blocks k)) j + 2 * count * 1 ≤ (4 + own) * 2 ^ j
  part-reaches k zero count short h = rw (at-bit (reached (blocks k))) (omega arith)
  part-reaches k (suc i) count short h =
      rw (at-higher (reached (blocks k)) i, pow-suc 2 i) (omega (arith, block-reaches i k (omega arith)))

  counter-reached : (n : ℕ)
      → reached (counter n) 32
      ≡ at_parts (λ j c. at_level (reached (blocks (length (digits n) - 1))) j + 2 * c * 1) 0 0 (digits n)
  unfolding counter counter_module
  counter-reached n =
      let k = length (digits n) - 1 in
      reached-first (counter_module n) (blocks k) 32 refl
      ∙ total-of-parts (weighs k (reached (blocks k))) 0 0 0 n (digits n) (omega arith) (omega arith)

  counter-reaches : (n : ℕ) → reached (counter n) 32 ≤ (4 + own) * n
  counter-reaches n =
      let k = length (digits n) - 1 in
      rw (counter-reached n, ← parts-powers (4 + own) n)
      (parts-less (λ j c. at_level (reached (blocks k)) j + 2 * c * 1) (λ j c. (4 + own) * 2 ^ j) k (part-reaches k) 0 0 (digits n)
      (omega arith) (omega arith))

-- Gates, and expanded size.
module _ (f g : ℕ → ℕ) (same : (x : ℕ) → f x ≡ g x) where
  gates-of-body : (os : List Occurrence) → body_weight (λ kind. 1) f os ≡ total (behind 0 g) os
  unfolding body_weight total
  gates-of-body [] = refl
  gates-of-body (o ∷ os) = rw (gates-of-body os, same o.refers) (go (is_gate o.refers) (g o.refers))
    where
      go : (b : Bool) (x : ℕ) → cond b 1 x + total (behind 0 g) os ≡ cond b 1 (0 + x) + total (behind 0 g) os
      go true x = refl
      go false x = omega arith

  size-of-body : (os : List Occurrence) → body_size f os ≡ total (behind 1 g) os
  unfolding body_size total
  size-of-body [] = refl
  size-of-body (o ∷ os) = rw (size-of-body os, same o.refers) (go (is_gate o.refers) (g o.refers))
    where
      go : (b : Bool) (x : ℕ) → suc (cond b 0 x) + total (behind 1 g) os ≡ cond b 1 (1 + x) + total (behind 1 g) os
      go true x = refl
      go false x = omega arith

gates-reached : (ms : List Module) (x : ℕ) → gate_weight (λ kind. 1) ms x ≡ reached 0 ms x
unfolding gate_weight reached
gates-reached [] x = refl
gates-reached (m ∷ ms) x =
    rw (gates-of-body (gate_weight (λ kind. 1) ms) (reached 0 ms) (gates-reached ms) m.occurrences, gates-reached ms x)

size-reached : (ms : List Module) (x : ℕ) → expanded_size ms x ≡ reached 1 ms x
unfolding expanded_size reached
size-reached [] x = refl
size-reached (m ∷ ms) x =
    rw (size-of-body (expanded_size ms) (reached 1 ms) (size-reached ms) m.occurrences, size-reached ms x)

pub block-gates : (k j : ℕ) → 1 ≤ j → j ≤ k → gate_count (blocks k) (32 + j) + 2 * j + 4 ≡ 4 * 2 ^ j
unfolding gate_count
block-gates k zero some h = absurd (omega arith)
block-gates k (suc i) some h =
    let same : 32 + suc i ≡ 33 + i = omega arith in
    rw (same, gates-reached (blocks k) (33 + i)) (omega (arith, block-reaches 0 i k (omega arith), pow-suc 2 i))

-- The gates exactly: of a part its block's, and two for each count bit below it.
unfoldable pub part_gates : (level count : ℕ) → ℕ
part_gates zero count = 1 + 2 * count
part_gates (suc i) count = 8 * 2 ^ i - (2 * i + 6) + 2 * count

part-gates : (k j count : ℕ) → j ≤ k → at_level 0 (reached 0 (blocks k)) j + 2 * count * 1 ≡ part_gates j count
unfolding part_gates
part-gates k zero count h = rw (at-bit 0 (reached 0 (blocks k))) (omega arith)
part-gates k (suc i) count h = rw (at-higher 0 (reached 0 (blocks k)) i) (omega (arith, block-reaches 0 i k (omega arith)))

pub gates-of-counter : (n : ℕ) → gate_count (counter n) 32 ≡ at_parts part_gates 0 0 (digits n)
unfolding gate_count
gates-of-counter n =
    let k = length (digits n) - 1 in
    gates-reached (counter n) 32
    ∙ counter-reached 0 n
    ∙ parts_same (λ j c. at_level 0 (reached 0 (blocks k)) j + 2 * c * 1) part_gates k (part-gates k) (digits n) (omega arith)

pub counter-gates : (n : ℕ) → gate_count (counter n) 32 ≤ 4 * n
unfolding gate_count
counter-gates n = omega (arith, gates-reached (counter n) 32, counter-reaches 0 n)

pub counter-size : (n : ℕ) → expanded_size (counter n) 32 ≤ 5 * n
counter-size n = omega (arith, size-reached (counter n) 32, counter-reaches 1 n)

pub block_size : (k i : ℕ) → i < k → expanded_size (blocks k) (33 + i) ≤ 10 * 2 ^ i
block_size k i h = omega (arith, size-reached (blocks k) (33 + i), block-reaches 1 i k h)
