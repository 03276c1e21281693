-- A part of a text moved to its front, byte by byte. Each is read behind the place that is written, where all is as it was.
use Rattle.std.proofs.Common.{◌≡◌, ℕ, ◌+◌, ◌-◌, ◌≤◌, ◌<◌, List, [], ◌∷◌, length, take, drop, get_or, set, sym, ap, subst, ◌∙◌, arith, add-one, length-drop, take-suc, le-leb}
use mathlib.Core.Bool.{and-false}
use borrow.Author.Tests.{lt-leb}
use lib.Seq.{get_or-drop}
use Rattle.image.specs.Laid.{laid, drop-laid}
use Rattle.list_text.specs.Pieces.{PutDown}
use Rattle.list_text.proofs.Pieces.{put-length, put_byte, put-after}
use Rattle.row_lines.specs.Spaces.{moved}

module _ (text₀ text : List ℕ) (from i : ℕ) (inside : from + i < length text₀) (d : PutDown (take i (drop from text₀)) text₀ 0 text i) where
  -- Behind what is moved the text is as it was.
  behind : drop i text ≡ drop i text₀
  behind =
      ap (drop i) d.put
      ∙ ap (λ (n : ℕ). drop n (laid text₀ 0 (take i (drop from text₀)))) d.next
      ∙ drop-laid text₀ 0 (take i (drop from text₀)) (omega (arith, d.next, d.inside))
      ∙ ap (λ (n : ℕ). drop n text₀) (sym d.next)

  next-byte : get_or text (from + i) 0 ≡ get_or (drop from text₀) i 0
  next-byte =
      ap (λ (n : ℕ). get_or text n 0) turned
      ∙ sym (get_or-drop i text from 0)
      ∙ ap (λ (l : List ℕ). get_or l from 0) behind
      ∙ get_or-drop i text₀ from 0
      ∙ ap (λ (n : ℕ). get_or text₀ n 0) (sym turned)
      ∙ sym (get_or-drop from text₀ i 0)
    where
      turned : from + i ≡ i + from
      turned = omega arith

  pub moved_more : PutDown (take (i + 1) (drop from text₀)) text₀ 0 (set text i (get_or text (from + i) 0)) (i + 1)
  moved_more =
      rw (add-one i, take-suc (drop from text₀) i 0 (omega (arith, length-drop from text₀)), ← add-one i)
      (put-after d
      (subst (λ (x : ℕ). PutDown (x ∷ []) text i (set text i (get_or text (from + i) 0)) (i + 1)) next-byte
      (put_byte (get_or text (from + i) 0) text i (omega (arith, put-length d)))))

module _ (from to : ℕ) (text : List ℕ) where
  pub nowhere : to < from → moved from to text ≡ []
  unfolding moved
  nowhere h = rw (lt-leb from to h)

  pub outside : length text < to → moved from to text ≡ []
  unfolding moved
  outside h = rw (lt-leb to (length text) h, and-false)

  pub there : from ≤ to → to ≤ length text → moved from to text ≡ take (to - from) (drop from text)
  unfolding moved
  there h g = rw (le-leb from to h, le-leb to (length text) g)
