-- Eight rows more, in front of those that words hold: the bytes of the new rows become the lowest digits.
use Rattle.std.specs.Prelude.{ℕ, ◌+◌, ◌*◌, ◌≤◌, ◌<◌, List, ◌≡◌, refl, length, get_or, set}
use Rattle.std.proofs.Common.{◌∙◌, arith, length-set, get_or-set_same, get_or-set_other}
use Rattle.lanes.specs.Rows.{split}

-- The first n words have place for eight rows more.
pub record Hungry (n : ℕ) (bytes words : List ℕ) : Type 0 where
  pub bytes-long : n ≤ length bytes
  pub long : n ≤ length words
  pub light : (i : ℕ) → i < n → get_or words i 0 < 72057594037927936

pub record Fed (bytes old new : List ℕ) (i : ℕ) : Type 0 where
  pub size : length new ≡ length old
  pub done : (j : ℕ) → j < i → get_or new j 0 ≡ get_or old j 0 * 256 + get_or bytes j 0
  pub left : (j : ℕ) → i ≤ j → get_or new j 0 ≡ get_or old j 0

pub fed-none : {bytes old : List ℕ} → Fed bytes old old 0
fed-none = record { size = refl; done = λ j h. absurd (omega arith); left = λ j h. refl }

pub fed-more :
    {bytes old new : List ℕ} {i : ℕ}
    → Fed bytes old new i
    → i < length new
    → (b : ℕ)
    → b ≡ get_or bytes i 0
    → Fed bytes old (set new i (get_or new i 0 * 256 + b)) (i + 1)
fed-more {bytes} {old} {new} {i} f h b is =
    record {
      size = length-set new i next ∙ f.size;
      done = split i
          (get_or-set_same new i next 0 h ∙ omega (arith, f.left i (omega arith)))
          (λ j k. get_or-set_other new i j next 0 (λ same. omega arith) ∙ f.done j k);
      left = λ j k. get_or-set_other new i j next 0 (λ same. omega arith) ∙ f.left j (omega arith);
    }
  where
    next : ℕ
    next = get_or new i 0 * 256 + b
