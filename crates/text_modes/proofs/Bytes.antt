-- The kinds of bytes, literal by literal and range by range.
use Rattle.std.proofs.Common.{ℕ, ◌+◌, ◌≤◌, ◌<◌, ◌≡◌, refl, sym, ◌∙◌, true, eqb, [], ◌∷◌, eqb-true, ne_eqb, ◌⊎◌, inl, inr}
use Rattle.laws.specs.Texts.Below.{all_below}
use Rattle.meaning.specs.ListForm.{kind_of}
use Rattle.text_modes.specs.Modes.{kind_code}
use Rattle.text_modes.specs.Kinds.{byte_kind, code_of, coded, same_code}
use Rattle.text_modes.specs.Right.{kind-within, among, but_for}
use Rattle.text_modes.specs.declared.ByteKind.{ByteKind}
use Rattle.text_modes.specs.declared.ByteKind.TheVariants.{Stray, Space}

by_code : (k : ByteKind) (b : ℕ) → code_of k ≡ kind_code (kind_of b) → k ≡ byte_kind (kind_of b)
by_code k b e = same_code k (byte_kind (kind_of b)) (e ∙ sym (coded (kind_of b)))

pub within : (k : ByteKind) (low count : ℕ) → all_below count (λ i. eqb (code_of k) (kind_code (kind_of (low + i)))) ≡ true
    → {b : ℕ} → low ≤ b → b < low + count → k ≡ byte_kind (kind_of b)
within k low count e {b} from to = by_code k b (kind-within (code_of k) low count e from to)

pub stray_below : (b : ℕ) → b < 48 → ((b ≡ 10) ⊎ (b ≡ 13) ⊎ (b ≡ 32) → ⊥) → (b ≡ 39 → ⊥) → (b ≡ 40 → ⊥) → (b ≡ 41 → ⊥) → (b ≡ 45 → ⊥)
    → Stray ≡ byte_kind (kind_of b)
unfolding kind_of all_below among
stray_below b l space n39 n40 n41 n45 =
    by_code Stray b
    (eqb-true 3 (kind_code (kind_of b))
    (but_for (10 ∷ 13 ∷ 32 ∷ 39 ∷ 40 ∷ 41 ∷ 45 ∷ []) 48 (λ b. eqb 3 (kind_code (kind_of b))) refl b l
    (rw (
      ne_eqb b 10 (λ e. space (inl e)),
      ne_eqb b 13 (λ e. space (inr (inl e))),
      ne_eqb b 32 (λ e. space (inr (inr e))),
      ne_eqb b 39 n39,
      ne_eqb b 40 n40,
      ne_eqb b 41 n41,
      ne_eqb b 45 n45,
    ))))

pub space_at : (b : ℕ) → (b ≡ 10) ⊎ (b ≡ 13) ⊎ (b ≡ 32) → Space ≡ byte_kind (kind_of b)
unfolding kind_of
space_at b (inl e) = rw e
space_at b (inr (inl e)) = rw e
space_at b (inr (inr e)) = rw e
