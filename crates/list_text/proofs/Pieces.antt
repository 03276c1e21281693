-- Pieces of text put down one behind the other are one piece.
use Prim.Native.Nat.{ℕ, ◌+◌, ◌-◌, ◌≤◌, ◌<◌}
use mathlib.Core.Path.{◌≡◌, refl, sym, ap, ap₂, ◌∙◌}
use mathlib.Core.List.{List, [], ◌∷◌, ◌++◌}
use native.Mathlib.Omega.{arith}
use borrow.Rule.Slice.PartMut.{put_mid}
use lib.ListN.{length, take, set, length-append}
use lib.Seq.{drop-drop}
use Rattle.image.specs.Laid.{laid, laid-after, laid-nothing, set-laid, length-laid}
use Rattle.list_text.specs.Pieces.{PutDown}

-- The buffer is as long as it was.
pub put-length : {text out : List ℕ} {at : ℕ} {out' : List ℕ} {r : ℕ} → PutDown text out at out' r → length out' ≡ length out
put-length {text} {out} {at} d = ap length d.put ∙ length-laid out at text (omega (arith, d.next, d.inside))

pub put-nothing : (out : List ℕ) (at : ℕ) → at ≤ length out → PutDown [] out at out at
put-nothing out at h = record { put = sym (laid-nothing out at); next = omega arith; inside = h }

pub put_byte : (x : ℕ) (out : List ℕ) (at : ℕ) → at < length out → PutDown (x ∷ []) out at (set out at x) (at + 1)
put_byte x out at h = record { put = set-laid out at x h; next = refl; inside = omega arith }

-- A part of the buffer that was copied over.
pub put_part : (text out part : List ℕ) (at : ℕ) → at + length text ≤ length out → part ≡ text
    → PutDown text out at (put_mid at (at + length text - at) out part) (at + length text)
unfolding laid
put_part text out part at h is =
    let long : at + length text - at ≡ length text = omega arith in
    record {
      put = rw (is, long) (ap (λ (l : List ℕ). take at out ++ (text ++ l)) (drop-drop (length text) at out));
      next = refl;
      inside = h;
    }

pub put-after : {xs ys out₀ : List ℕ} {from : ℕ} {out₁ : List ℕ} {at : ℕ} {out₂ : List ℕ} {r : ℕ}
    → PutDown xs out₀ from out₁ at → PutDown ys out₁ at out₂ r → PutDown (xs ++ ys) out₀ from out₂ r
put-after {xs} {ys} {out₀} {from} first second =
    let kept = put-length first in
    record {
      put =
          second.put
          ∙ ap₂ (λ (l : List ℕ) (n : ℕ). laid l n ys) first.put first.next
          ∙ laid-after out₀ from xs ys (omega arith);
      next = omega (arith, length-append xs ys);
      inside = omega arith;
    }
