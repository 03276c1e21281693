-- The numbers of a file in parts: the count and the modules in front of a position, the module there, and what stands behind it.
use Rattle.std.specs.Prelude.{ℕ, zero, suc, ◌+◌, ◌-◌, ◌≤◌, ◌≡◌, Bool, true, false, cond, ltb, get_or, take, drop}
use Rattle.std.proofs.Math.Path.{refl, ap}
use Rattle.std.proofs.Common.{sym, ◌∙◌, arith, add-one, ltb-true, ltb-false, length-append, take-append-drop, drop_of_length-le, take_at, drop_at}
use mathlib.Core.List.{List, [], ◌∷◌, ◌++◌, append_assoc, append-nil}
use Rattle.std.proofs.Math.ListN.{length}
use Rattle.meaning.specs.Syntax.{Module}
use Rattle.meaning.specs.Layout.{each, module_numbers, file_numbers}
use Rattle.laws.specs.Lists.{each_append}
use Rattle.image.specs.Stands.{Stands}
use Rattle.image.specs.ResolvedLayout.{start_of, stands-at-start}
use Rattle.check_sizes.specs.Behind.{inside}
use Rattle.check_lists.specs.Filed.{At, Filed}
use Rattle.check_lists.specs.Later.{repeat_inside}
use Rattle.check_steps.specs.Found.{Found, Laidout, EachReady}
use Rattle.check_steps.specs.Going.{front, end_before}

-- One more entry taken.
take_snoc : (ms : List Module) (k : ℕ) {m : Module} {later : List Module} → drop k ms ≡ m ∷ later → take (suc k) ms ≡ take k ms ++ (m ∷ [])
take_snoc [] zero e = let z : ◌≡◌ {A = ℕ} 0 1 = cc in absurd (omega (arith, z))
take_snoc [] (suc k) e = let z : ◌≡◌ {A = ℕ} 0 1 = cc in absurd (omega (arith, z))
take_snoc (x ∷ ms) zero {m} e = let same : x ≡ m = cc in ap (λ (n : Module). n ∷ []) same
take_snoc (x ∷ ms) (suc k) e = ap (λ (l : List Module). x ∷ l) (take_snoc ms k e)

module _ (ms : List Module) (k : ℕ) where
  pub length-of-front : length (front ms k) ≡ start_of ms k
  unfolding front start_of
  length-of-front = refl

  file-parts : file_numbers ms ≡ front ms k ++ each module_numbers (drop k ms)
  unfolding front file_numbers
  file-parts =
      ap (λ (l : List ℕ). length ms ∷ l)
      (ap (each module_numbers) (sym (take-append-drop k ms)) ∙ each_append module_numbers (take k ms) (drop k ms))

  pub front-taken : take (start_of ms k) (file_numbers ms) ≡ front ms k
  front-taken = ap (take (start_of ms k)) file-parts ∙ take_at (front ms k) (each module_numbers (drop k ms)) (start_of ms k) length-of-front

  pub start-inside : start_of ms k ≤ length (file_numbers ms)
  start-inside = omega (arith, ap length file-parts, length-append (front ms k) (each module_numbers (drop k ms)), length-of-front)

  -- Behind the last module the numbers end.
  numbers-end : length ms ≤ k → length (file_numbers ms) ≡ start_of ms k
  unfolding each
  numbers-end h =
      ap length (file-parts ∙ ap (λ (l : List Module). front ms k ++ each module_numbers l) (drop_of_length-le ms h) ∙ append-nil (front ms k))
      ∙ length-of-front

  pub front-more : {m : Module} {later : List Module} → At ms k m later → front ms (k + 1) ≡ front ms k ++ module_numbers m
  unfolding front each
  front-more {m} e =
      ap (λ (l : List ℕ). length ms ∷ l)
      (ap (λ (n : ℕ). each module_numbers (take n ms)) (add-one k)
      ∙ ap (each module_numbers) (take_snoc ms k e)
      ∙ each_append module_numbers (take k ms) (m ∷ [])
      ∙ ap (λ (l : List ℕ). each module_numbers (take k ms) ++ l) (append-nil (module_numbers m)))

-- A file that is laid out stands module by module, and the modules in front of a position end where the one there starts.
module _ {numbers starts : List ℕ} {modules : ℕ} {ms : List Module} (l : Laidout numbers starts modules ms) where
  pub filed-of : Filed numbers starts ms
  filed-of = record { standing = standing; listed = l.listed; few = l.few }
    where
      standing : (k : ℕ) (m : Module) (later : List Module) → At ms k m later → Stands numbers (get_or starts k 0) (module_numbers m)
      standing k m later e = rw (l.numbers_are, l.starts_are k (inside ms k e)) (stands-at-start ms k e)

  pub end-is-start : (k : ℕ) → end_before starts numbers modules k ≡ start_of ms k
  end-is-start k = go (ltb k modules) refl
    where
      go : (b : Bool) → ltb k modules ≡ b → cond b (get_or starts k 0) (length numbers) ≡ start_of ms k
      go true t = l.starts_are k (omega (arith, ltb-true k modules t, l.all))
      go false f = ap length l.numbers_are ∙ numbers-end ms k (omega (arith, ltb-false k modules f, l.all))

-- Numbers whose front up to behind the module at k is the file's: the module's own part, and what is left where another takes its place.
module _ (ms : List Module) (k : ℕ) {m : Module} {later : List Module} (e : At ms k m later)
    {numbers : List ℕ} (tail : List ℕ) (are : numbers ≡ front ms (k + 1) ++ tail) {start end : ℕ} (starts : start ≡ start_of ms k) (ends : end ≡ start_of ms (k + 1))
  where
    parts : numbers ≡ front ms k ++ (module_numbers m ++ tail)
    parts = are ∙ ap (λ (l : List ℕ). l ++ tail) (front-more ms k e) ∙ append_assoc (front ms k) (module_numbers m) tail

    before : length (front ms k) ≡ start
    before = length-of-front ms k ∙ sym starts

    long : end ≡ start + length (module_numbers m)
    long =
        ends
        ∙ sym (length-of-front ms (k + 1))
        ∙ ap length (front-more ms k e)
        ∙ length-append (front ms k) (module_numbers m)
        ∙ ap (λ (n : ℕ). n + length (module_numbers m)) before

    pub part-inside : (start ≤ end) × (end ≤ length numbers)
    part-inside = (
      omega (arith, long),
      omega (arith, long, before, ap length parts, length-append (front ms k) (module_numbers m ++ tail), length-append (module_numbers m) tail),
    )

    own : length (module_numbers m) ≡ end - start
    own = omega (arith, long)

    behind : drop start numbers ≡ module_numbers m ++ tail
    behind = ap (drop start) parts ∙ drop_at (front ms k) (module_numbers m ++ tail) start before

    pub own-part : take (end - start) (drop start numbers) ≡ module_numbers m
    own-part = ap (take (end - start)) behind ∙ take_at (module_numbers m) tail (end - start) own

    pub replaced : (piece : List ℕ) → take start numbers ++ (piece ++ drop (end - start) (drop start numbers)) ≡ front ms k ++ (piece ++ tail)
    replaced piece =
        rw (
          ap (take start) parts ∙ take_at (front ms k) (module_numbers m ++ tail) start before,
          ap (drop (end - start)) behind ∙ drop_at (module_numbers m) tail (end - start) own,
        )

-- So few modules are left.
pub modules-few :
    {numbers₀ starts : List ℕ} {modules : ℕ} {found₀ : Found} {first inputs outputs slots₀ nets₀ sizes₀ rooms₀ : List ℕ}
    → EachReady numbers₀ starts modules found₀ first inputs outputs slots₀ nets₀ sizes₀ rooms₀ → modules ≤ 128
modules-few ready = omega (arith, ready.unrepeated, repeat_inside ready.ms, ready.few)
