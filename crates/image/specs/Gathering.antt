-- Copying values at slots one after the other: what is copied and what is left to copy make up the whole, and no slot that is still to
-- be read was written.
use Rattle.std.specs.Prelude.{ℕ, ◌+◌, ◌-◌, ◌≤◌, ◌<◌, ◌≡◌, refl, List, [], ◌∷◌, length, get_or, set}
use Rattle.std.proofs.Common.{sym, ap, ◌∙◌, arith, length-set, get_or-set_other}
use Rattle.image.specs.Laid.{laid, set-laid, laid-after, laid-nothing}
use Rattle.image.specs.Slots.{Copyable, values_at}
use Rattle.image.specs.Reading.{values-here, values-end, length-of-values}

-- A place is not written.
abbrev Spared : (target count p : ℕ) → Type 0
Spared target count p = (j : ℕ) → target ≤ j → j < target + count → p ≡ j → ⊥

pub record Gathering {A : Type 0} (none : A) (image : List ℕ) (from to source target : ℕ) (scratch₀ : List A) (i : ℕ) (scratch : List A) : Type 0 where
  pub after : from ≤ i
  pub until : i ≤ to
  pub size : length scratch ≡ length scratch₀
  pub spared : (p : ℕ) → Spared target (to - from) p → get_or scratch p none ≡ get_or scratch₀ p none
  pub copied :
      laid scratch (target + (i - from)) (values_at none image i to source scratch₀)
      ≡ laid scratch₀ target (values_at none image from to source scratch₀)

module _ {A : Type 0} (none : A) {image : List ℕ} {from to source target : ℕ} {scratch₀ : List A} (able : Copyable image from to source target scratch₀) where
  pub gathering-start : Gathering none image from to source target scratch₀ from scratch₀
  gathering-start =
      let first : target + (from - from) ≡ target = omega arith in
      record {
        after = omega arith;
        until = able.readable.ordered;
        size = refl;
        spared = λ p s. refl;
        copied = ap (λ (n : ℕ). laid scratch₀ n (values_at none image from to source scratch₀)) first;
      }

  module _ {i : ℕ} {scratch : List A} (c : Gathering none image from to source target scratch₀ i scratch) where
    -- In a turn the slot that was read is one of scratch, and so is the place that is written.
    pub record Within (slot : ℕ) : Type 0 where
      pub after : from ≤ i
      pub read : source + slot < length scratch
      pub write : target + (i - from) < length scratch
      pub size : length scratch ≡ length scratch₀

    module _ (h : i < to) {slot : ℕ} (e : slot ≡ get_or image i 0) where
      pub within : Within slot
      within =
          record {
            after = c.after;
            read = omega (arith, able.readable.slots i c.after h, c.size);
            write = omega (arith, able.room, c.size, c.after);
            size = c.size;
          }

      pub gathering-more :
          Gathering none image from to source target scratch₀ (i + 1) (set scratch (target + (i - from)) (get_or scratch (source + slot) none))
      gathering-more =
          record {
            after = omega (arith, c.after);
            until = omega (arith, h);
            size = length-set scratch here value ∙ c.size;
            spared = λ p s.
                get_or-set_other scratch here p value none (s here (omega arith) (omega (arith, c.after))) ∙ c.spared p s;
            copied =
                ap (λ (n : ℕ). laid (set scratch here value) n rest) next
                ∙ ap (λ (l : List A). laid l (here + 1) rest) (set-laid scratch here value within.write)
                ∙ laid-after scratch here (value ∷ []) rest
                (omega
                (arith, able.room, c.size, c.after, length-of-values none image (i + 1) to source scratch₀ able.readable.inside))
                ∙ ap (laid scratch here)
                (ap (λ (v : A). v ∷ rest) read ∙ sym (values-here none image i to source scratch₀ h able.readable.inside))
                ∙ c.copied;
          }
        where
          here : ℕ
          here = target + (i - from)

          value : A
          value = get_or scratch (source + slot) none

          rest : List A
          rest = values_at none image (i + 1) to source scratch₀

          next : target + (i + 1 - from) ≡ target + (i - from) + 1
          next = omega (arith, c.after)

          read : value ≡ get_or scratch₀ (source + get_or image i 0) none
          read =
              ap (λ (n : ℕ). get_or scratch (source + n) none) e ∙ c.spared (source + get_or image i 0) (able.apart i c.after h)

    pub gathering-all : to ≤ i → scratch ≡ laid scratch₀ target (values_at none image from to source scratch₀)
    gathering-all h =
        sym (laid-nothing scratch (target + (i - from)))
        ∙ ap (laid scratch (target + (i - from))) (sym (values-end none image i to source scratch₀ (omega (arith, c.until))))
        ∙ c.copied
