-- Modules by position. A number that a list has is that of the module at its position; and in a list whose modules have 16 plus their
-- positions as numbers, what it says of such a number is what it says of the module there, whichever modules stand in front.
use Rattle.std.specs.Prelude.{ℕ, zero, suc, ◌+◌, ◌-◌, ◌≤◌, ◌≡◌, Bool, true, false, cond, List, [], ◌∷◌, eqb, drop}
use Rattle.std.proofs.Common.{sym, ap, ◌∙◌, arith, add-zero, add-suc, suc-add, eq-eqb, ne_eqb, drop-drop}
use Rattle.meaning.specs.Syntax.{Module}
use Rattle.meaning.specs.Boxlist.{box, assoc}
use Rattle.image.specs.Resolved.{position_of}
use Rattle.image.specs.Searching.{Search}

-- An empty list has nothing at any position.
pub nothing-at : {A : Type 0} (k : ℕ) {x : A} {xs : List A} → drop k [] ≡ x ∷ xs → ⊥
nothing-at zero e = let z : ◌≡◌ {A = ℕ} 0 1 = cc in omega arith
nothing-at (suc k) e = let z : ◌≡◌ {A = ℕ} 0 1 = cc in omega arith

pub found_at :
    (number : ℕ) (ms : List Module) {m : Module} → assoc number ms ≡ box m
    → drop (position_of number ms) ms ≡ m ∷ drop (suc (position_of number ms)) ms
unfolding assoc position_of
found_at number [] e = absurd (let z : ◌≡◌ {A = ℕ} 0 1 = cc in omega arith)
found_at number (other ∷ ms) {m} e = go (eqb number other.number) e (found_at number ms)
  where
    go :
        (b : Bool) → cond b (box other) (assoc number ms) ≡ box m
        → (assoc number ms ≡ box m → drop (position_of number ms) ms ≡ m ∷ drop (suc (position_of number ms)) ms)
        → drop (cond b 0 (suc (position_of number ms))) (other ∷ ms)
        ≡ m ∷ drop (suc (cond b 0 (suc (position_of number ms)))) (other ∷ ms)
    go true found rest = let same : other ≡ m = cc in rw same
    go false found rest = rest found

-- Each module's number is 16 plus its position.
pub data Numbered : (position : ℕ) → List Module → Type 0 where
  none : {position : ℕ} → Numbered position []
  some :
      {position : ℕ} {m : Module} {later : List Module}
      → m.number ≡ 16 + position
      → Numbered (suc position) later
      → Numbered position (m ∷ later)

pub numbered-drop : {position : ℕ} {rs : List Module} (k : ℕ) → Numbered position rs → Numbered (position + k) (drop k rs)
numbered-drop zero n = rw add-zero n
numbered-drop (suc k) none = none
numbered-drop (suc k) (some {position} e rest) = rw (add-suc position k, ← suc-add position k) (numbered-drop k rest)

-- What a list says of a position it says of the module there.
module _ {C : Type 0} {f : List Module → ℕ → C} {own : Module → List Module → C} (search : Search f own) where
  pub says_at :
      {position : ℕ} {rs : List Module} (j : ℕ) {m : Module} {later : List Module}
      → Numbered position rs
      → drop j rs ≡ m ∷ later
      → f rs (16 + (position + j)) ≡ own m later
  says_at j none e = absurd (nothing-at j e)
  says_at zero {m} {later} (some {position} {m = first} {later = rest} n ns) e =
      let same : first ≡ m = cc in
      let behind : rest ≡ later = cc in
      search.here first rest (16 + (position + 0)) (eq-eqb (16 + (position + 0)) first.number (omega arith))
      ∙ rw (same, behind)
  says_at (suc j) (some {position} {m = first} {later = rest} n ns) e =
      let further : 16 + (suc position + j) ≡ 16 + (position + suc j) = omega arith in
      search.past.passes first rest (16 + (position + suc j)) (ne_eqb (16 + (position + suc j)) first.number (λ same. omega arith))
      ∙ ap (f rest) (sym further)
      ∙ says_at j ns e

  -- Modules in front do not matter.
  pub says-from :
      {rs : List Module} (s j : ℕ) {m : Module} {later : List Module}
      → Numbered 0 rs
      → s ≤ j
      → drop j rs ≡ m ∷ later
      → f (drop s rs) (16 + j) ≡ own m later
  says-from {rs} s j n h e =
      let there : s + (j - s) ≡ j = omega arith in
      let place : 16 + (0 + s + (j - s)) ≡ 16 + j = omega arith in
      ap (f (drop s rs)) (sym place)
      ∙ says_at (j - s) (numbered-drop s n) (drop-drop (j - s) s rs ∙ ap (λ (i : ℕ). drop i rs) there ∙ e)
