-- Lists of nets from the first on, and what is left of them.
use Prim.Native.Nat.{ℕ, ◌+◌, ◌≤◌, ◌<◌}
use mathlib.Core.Path.{◌≡◌, refl, sym, subst}
use mathlib.Core.List.{List, [], ◌∷◌, ◌++◌}
use native.Mathlib.Omega.{arith}
use lib.ListN.{length, take, drop, get_or, take-append-drop}
use Rattle.meaning.specs.Lists.{All}
use Rattle.meaning.specs.Layout.{each}
use Rattle.meaning.specs.Listing.{space}
use Rattle.meaning.specs.Ndl.{net_text, nets_text, line_end, keyword_line}
use Rattle.laws.specs.Lists.{all-behind}
use Rattle.ndl_pieces.specs.Apart.{signed, apart}

pub all_left : {P : ℕ → Type 0} (xs : List ℕ) (i : ℕ) → All P xs → All P (drop i xs)
all_left {P} xs i h = all-behind (take i xs) (subst (λ (l : List ℕ). All P l) (sym (take-append-drop i xs)) h)

module _ (sign : ℕ) where
  pub apart_none : (nets : List ℕ) → length nets < 1 → apart sign nets ≡ []
  unfolding apart
  apart_none [] h = refl
  apart_none (n ∷ nets) h = absurd (omega arith)

  pub apart-first : (nets : List ℕ) → 1 ≤ length nets → apart sign nets ≡ net_text (get_or nets 0 0) ++ each (signed sign) (drop 1 nets)
  unfolding apart
  apart-first [] h = absurd (omega arith)
  apart-first (n ∷ nets) h = refl

  pub more-next : {nets rest : List ℕ} {n : ℕ} → nets ≡ n ∷ rest → each (signed sign) nets ≡ signed sign n ++ each (signed sign) rest
  unfolding each
  more-next e = rw e

  pub more-none : {nets : List ℕ} → nets ≡ [] → each (signed sign) nets ≡ []
  unfolding each
  more-none e = rw e

-- In a listing the sign is a comma.
pub with_commas : (nets : List ℕ) → apart 44 nets ≡ nets_text nets
unfolding apart nets_text
with_commas [] = refl
with_commas (n ∷ nets) = refl

-- A keyword alone, and one with nets.
pub line-none : (word nets : List ℕ) → length nets < 1 → keyword_line word nets ≡ word ++ line_end
unfolding keyword_line
line-none word [] h = refl
line-none word (n ∷ nets) h = absurd (omega arith)

pub line-some : (word nets : List ℕ) → 1 ≤ length nets → keyword_line word nets ≡ word ++ ((space ∷ []) ++ (nets_text nets ++ line_end))
unfolding keyword_line
line-some word [] h = absurd (omega arith)
line-some word (n ∷ nets) h = refl
