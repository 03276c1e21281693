-- Keeping entries at slots, one after the other.
use Prim.Native.Nat.{ℕ, suc, ◌+◌, ◌-◌, ◌≤◌, ◌<◌}
use mathlib.Core.Path.{◌≡◌, refl, sym, ap, ◌∙◌}
use mathlib.Core.List.{List}
use native.Mathlib.Omega.{arith}
use lib.ListN.{length, get_or, set, length-set}
use lib.Seq.{paste, paste-zero, paste-suc}
use Rattle.image.specs.Slots.{Readable, values_at}
use Rattle.image.specs.Reading.{length-of-values, value-at}

module _
    {image : List ℕ} {from to : ℕ} (scratch : List ℕ) (readable : Readable image from to 0 (length scratch)) (before : List ℕ)
    (there : to ≤ length before)
  where
    abbrev values : List ℕ
    values = values_at 0 image from to 0 scratch

    pub record Keeping (i : ℕ) (loads : List ℕ) : Type 0 where
      pub low : from ≤ i
      pub high : i ≤ to
      pub long : length loads ≡ length before
      pub is : loads ≡ paste before from values (i - from)

    pub none_kept : Keeping from before
    none_kept =
        let none : from - from ≡ 0 = omega arith in
        record {
          low = omega arith;
          high = readable.ordered;
          long = refl;
          is = paste-zero before from values ∙ ap (paste before from values) (sym none);
        }

    module _ {i : ℕ} {loads : List ℕ} (p : Keeping i loads) (less : i < to) {slot : ℕ} (is : slot ≡ get_or image i 0) where
      pub slot-inside : slot < length scratch
      slot-inside = omega (arith, readable.slots i p.low less)

      value : get_or scratch slot 0 ≡ get_or values (i - from) 0
      value =
          let low = p.low in
          let here : from + (i - from) ≡ i = omega arith in
          ap (λ (s : ℕ). get_or scratch s 0) (is ∙ ap (λ (j : ℕ). get_or image j 0) (sym here))
          ∙ sym (value-at 0 image from to scratch (i - from) (omega arith) readable.inside)

      pub more-kept : Keeping (i + 1) (set loads i (get_or scratch slot 0))
      more-kept =
          let low = p.low in
          let here : i ≡ from + (i - from) = omega arith in
          let next : suc (i - from) ≡ i + 1 - from = omega arith in
          record {
            low = omega arith;
            high = omega arith;
            long = length-set loads i (get_or scratch slot 0) ∙ p.long;
            is =
                ap (λ (l : List ℕ). set l i (get_or scratch slot 0)) p.is
                ∙ ap (λ (n : ℕ). set (paste before from values (i - from)) n (get_or scratch slot 0)) here
                ∙ ap (set (paste before from values (i - from)) (from + (i - from))) value
                ∙ paste-suc before from values (i - from) 0 (omega arith) (omega (arith, length-of-values 0 image from to 0 scratch readable.inside))
                ∙ ap (paste before from values) next;
          }

    pub all-kept : {i : ℕ} {loads : List ℕ} → to ≤ i → Keeping i loads → loads ≡ paste before from values (to - from)
    all-kept {i} over p =
        let last : i ≡ to = omega (arith, p.high) in
        p.is ∙ ap (λ (n : ℕ). paste before from values (n - from)) last
