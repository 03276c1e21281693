-- A lane of two words: the value of one row.
use Rattle.std.specs.Prelude.{ℕ, ◌-◌, ◌^◌, ◌<◌, Bool, true, false, not, ◌&&◌, ◌||◌, ◌≡◌}
use Rattle.std.proofs.Common.{ap, ap₂, ◌∙◌, rules}
use Rattle.std.specs.Int.Bits.{bit_and, bit_or, bit_xor}
use Rattle.meaning.specs.Values.{Val, known, un, by_fillings}
use Rattle.gates.specs.ThreeValues.{Each, each}
use Rattle.gates.specs.Folds.{step, negation}
use Rattle.gates.specs.declared.folds.Fold.TheVariants.{All, Any, Odd}
use Rattle.lanes.specs.Bits.{bit, bit-and, bit-or, bit-flip}

abbrev pub surely : Val → Bool
surely (known b) = b
surely un = false

abbrev pub maybe : Val → Bool
maybe (known b) = b
maybe un = true

pub record Lane (i low high : ℕ) (v : Val) : Type 0 where
  pub low-is : bit i low ≡ surely v
  pub high_is : bit i high ≡ maybe v

-- Two values at once.
each_two : (P : Val → Val → Type 0) → Each (λ u. Each (P u)) → (u v : Val) → P u v
each_two P h u v = each (P u) (each (λ u. Each (P u)) h u) v

-- What the three operations do to the two bits of a value.
abbrev Ands : Val → Val → Type 0
Ands u v = (surely u && surely v ≡ surely (step All u v)) × (maybe u && maybe v ≡ maybe (step All u v))

abbrev Ors : Val → Val → Type 0
Ors u v = (surely u || surely v ≡ surely (step Any u v)) × (maybe u || maybe v ≡ maybe (step Any u v))

abbrev Nots : Val → Type 0
Nots u = (not (maybe u) ≡ surely (negation u)) × (not (surely u) ≡ maybe (negation u))

ands : (u v : Val) → Ands u v
unfolding step by_fillings
ands = each_two Ands (search rules)

ors : (u v : Val) → Ors u v
unfolding step by_fillings
ors = each_two Ors (search rules)

nots : (u : Val) → Nots u
unfolding negation by_fillings
nots = each Nots (search rules)

-- An exclusive or by the other three.
pub odd_is : (u v : Val) → step Any (step All u (negation v)) (step All (negation u) v) ≡ step Odd u v
unfolding step negation by_fillings
odd_is = each_two (λ u v. step Any (step All u (negation v)) (step All (negation u) v) ≡ step Odd u v) (search rules)

module _ {i : ℕ} where
  pub lane_and : {a a' b b' : ℕ} {u v : Val} → Lane i a a' u → Lane i b b' v → Lane i (bit_and a b) (bit_and a' b') (step All u v)
  lane_and {a} {a'} {b} {b'} {u} {v} p q =
      record {
        low-is = bit-and i a b ∙ ap₂ ◌&&◌ p.low-is q.low-is ∙ (ands u v).0;
        high_is = bit-and i a' b' ∙ ap₂ ◌&&◌ p.high_is q.high_is ∙ (ands u v).1;
      }

  pub lane_or : {a a' b b' : ℕ} {u v : Val} → Lane i a a' u → Lane i b b' v → Lane i (bit_or a b) (bit_or a' b') (step Any u v)
  lane_or {a} {a'} {b} {b'} {u} {v} p q =
      record {
        low-is = bit-or i a b ∙ ap₂ ◌||◌ p.low-is q.low-is ∙ (ors u v).0;
        high_is = bit-or i a' b' ∙ ap₂ ◌||◌ p.high_is q.high_is ∙ (ors u v).1;
      }

  pub lane_not : {width a a' : ℕ} {u : Val} → i < width → Lane i a a' u
      → Lane i (bit_xor a' (2 ^ width - 1)) (bit_xor a (2 ^ width - 1)) (negation u)
  lane_not {width} {a} {a'} {u} h p =
      record {
        low-is = bit-flip width i a' h ∙ ap not p.high_is ∙ (nots u).0;
        high_is = bit-flip width i a h ∙ ap not p.low-is ∙ (nots u).1;
      }
