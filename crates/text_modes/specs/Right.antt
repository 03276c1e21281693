-- The table does what the reader does; and tests of every number in a range, by which the code is held to it.
use Rattle.std.specs.Prelude.{ℕ, ◌+◌, ◌-◌, ◌≤◌, ◌<◌, ◌≡◌, refl, Bool, true, false, ◌||◌, List, [], ◌∷◌, eqb, leb, get_or}
use Rattle.std.proofs.Common.{arith, sym, subst, eqb-true}
use Rattle.laws.specs.Texts.Below.{all_below, below}
use Rattle.meaning.specs.ListForm.{Name, mark, opening, closing, stray, kind_of, Part, sign, atom}
use Rattle.meaning.specs.ListReader.{list_due, modules, name_due, inputs_due, inputs, outputs_due, outputs, body_due, body, drives_due, drives, call_due, refers_due, takes, occurrence_end, module_end, Stand, start, at, finished, astray, row, next, step, is_astray}
use Rattle.text_modes.specs.Modes.{part_code, kind_code, mode_of, modes, mode_after, is_finished}

-- A test that holds of so many numbers from one on holds of each of them.
pub in_range : (low count : ℕ) (p : ℕ → Bool) → all_below count (λ i. p (low + i)) ≡ true → (b : ℕ) → low ≤ b → b < low + count → p b ≡ true
in_range low count p e b from to =
    let same : low + (b - low) ≡ b = omega arith in
    subst (λ (k : ℕ). p k ≡ true) same (below count (λ i. p (low + i)) e (b - low) (omega arith))

-- So does one that holds of every number below a bound but some, of any other.
unfoldable pub among : List ℕ → ℕ → Bool
among [] n = false
among (x ∷ xs) n = eqb n x || among xs n

pub but_for : (xs : List ℕ) (bound : ℕ) (p : ℕ → Bool) → all_below bound (λ n. among xs n || p n) ≡ true → (n : ℕ) → n < bound → among xs n ≡ false → p n ≡ true
but_for xs bound p e n low none = let either = below bound (λ n. among xs n || p n) e n low in rw none at either

-- The kind of each byte in a range.
pub kind-within : (code low count : ℕ) → all_below count (λ i. eqb code (kind_code (kind_of (low + i)))) ≡ true → {b : ℕ} → low ≤ b → b < low + count → code ≡ kind_code (kind_of b)
kind-within code low count e {b} from to = eqb-true code (kind_code (kind_of b)) (in_range low count (λ b. eqb code (kind_code (kind_of b))) e b from to)

-- A row of the table of stages.
abbrev row_of : (q l r a : ℕ) → List ℕ
row_of q l r a = q ∷ l ∷ r ∷ 18 ∷ a ∷ []

in_row : (q l r : Stand) (f : Name → Stand) (a : ℕ) → ((w : Name) → mode_of (f w) ≡ a) → (p : Part)
    → mode_of (row q l r f p) ≡ get_or (row_of (mode_of q) (mode_of l) (mode_of r) a) (part_code p) 18
in_row q l r f a h (sign mark) = refl
in_row q l r f a h (sign opening) = refl
in_row q l r f a h (sign closing) = refl
in_row q l r f a h (sign stray) = refl
in_row q l r f a h (atom w) = h w

lost-row : (p : Part) → 18 ≡ get_or (row_of 18 18 18 18) (part_code p) 18
lost-row (sign mark) = refl
lost-row (sign opening) = refl
lost-row (sign closing) = refl
lost-row (sign stray) = refl
lost-row (atom w) = refl

pub mode_step : (s : Stand) (p : Part) → mode_of (step s p) ≡ mode_after (mode_of s) (part_code p)
unfolding next modes mode_after
mode_step start p = in_row _ _ _ _ _ (λ w. refl) p
mode_step (at list_due) p = in_row _ _ _ _ _ (λ w. refl) p
mode_step (at (modules ms)) p = in_row _ _ _ _ _ (λ w. refl) p
mode_step (at (name_due ms)) p = in_row _ _ _ _ _ (λ w. refl) p
mode_step (at (inputs_due ms n)) p = in_row _ _ _ _ _ (λ w. refl) p
mode_step (at (inputs ms n i)) p = in_row _ _ _ _ _ (λ w. refl) p
mode_step (at (outputs_due ms n i)) p = in_row _ _ _ _ _ (λ w. refl) p
mode_step (at (outputs ms n i o)) p = in_row _ _ _ _ _ (λ w. refl) p
mode_step (at (body_due ms n i o)) p = in_row _ _ _ _ _ (λ w. refl) p
mode_step (at (body ms n i o cs)) p = in_row _ _ _ _ _ (λ w. refl) p
mode_step (at (drives_due ms n i o cs)) p = in_row _ _ _ _ _ (λ w. refl) p
mode_step (at (drives ms n i o cs d)) p = in_row _ _ _ _ _ (λ w. refl) p
mode_step (at (call_due ms n i o cs d)) p = in_row _ _ _ _ _ (λ w. refl) p
mode_step (at (refers_due ms n i o cs d)) p = in_row _ _ _ _ _ (λ w. refl) p
mode_step (at (takes ms n i o cs d r t)) p = in_row _ _ _ _ _ (λ w. refl) p
mode_step (at (occurrence_end ms n i o cs d r t)) p = in_row _ _ _ _ _ (λ w. refl) p
mode_step (at (module_end ms n i o cs)) p = in_row _ _ _ _ _ (λ w. refl) p
mode_step (finished ms) p = lost-row p
mode_step astray p = lost-row p

-- A stage's number, and what it tells.
pub mode_below : (s : Stand) → mode_of s < 19
mode_below start = omega arith
mode_below (at list_due) = omega arith
mode_below (at (modules ms)) = omega arith
mode_below (at (name_due ms)) = omega arith
mode_below (at (inputs_due ms n)) = omega arith
mode_below (at (inputs ms n i)) = omega arith
mode_below (at (outputs_due ms n i)) = omega arith
mode_below (at (outputs ms n i o)) = omega arith
mode_below (at (body_due ms n i o)) = omega arith
mode_below (at (body ms n i o cs)) = omega arith
mode_below (at (drives_due ms n i o cs)) = omega arith
mode_below (at (drives ms n i o cs d)) = omega arith
mode_below (at (call_due ms n i o cs d)) = omega arith
mode_below (at (refers_due ms n i o cs d)) = omega arith
mode_below (at (takes ms n i o cs d r t)) = omega arith
mode_below (at (occurrence_end ms n i o cs d r t)) = omega arith
mode_below (at (module_end ms n i o cs)) = omega arith
mode_below (finished ms) = omega arith
mode_below astray = omega arith

pub astray_mode : (s : Stand) → is_astray s ≡ leb 18 (mode_of s)
astray_mode start = refl
astray_mode (at list_due) = refl
astray_mode (at (modules ms)) = refl
astray_mode (at (name_due ms)) = refl
astray_mode (at (inputs_due ms n)) = refl
astray_mode (at (inputs ms n i)) = refl
astray_mode (at (outputs_due ms n i)) = refl
astray_mode (at (outputs ms n i o)) = refl
astray_mode (at (body_due ms n i o)) = refl
astray_mode (at (body ms n i o cs)) = refl
astray_mode (at (drives_due ms n i o cs)) = refl
astray_mode (at (drives ms n i o cs d)) = refl
astray_mode (at (call_due ms n i o cs d)) = refl
astray_mode (at (refers_due ms n i o cs d)) = refl
astray_mode (at (takes ms n i o cs d r t)) = refl
astray_mode (at (occurrence_end ms n i o cs d r t)) = refl
astray_mode (at (module_end ms n i o cs)) = refl
astray_mode (finished ms) = refl
astray_mode astray = refl

pub finished_mode : (s : Stand) → is_astray s ≡ false → is_finished s ≡ leb 17 (mode_of s)
finished_mode start e = refl
finished_mode (at list_due) e = refl
finished_mode (at (modules ms)) e = refl
finished_mode (at (name_due ms)) e = refl
finished_mode (at (inputs_due ms n)) e = refl
finished_mode (at (inputs ms n i)) e = refl
finished_mode (at (outputs_due ms n i)) e = refl
finished_mode (at (outputs ms n i o)) e = refl
finished_mode (at (body_due ms n i o)) e = refl
finished_mode (at (body ms n i o cs)) e = refl
finished_mode (at (drives_due ms n i o cs)) e = refl
finished_mode (at (drives ms n i o cs d)) e = refl
finished_mode (at (call_due ms n i o cs d)) e = refl
finished_mode (at (refers_due ms n i o cs d)) e = refl
finished_mode (at (takes ms n i o cs d r t)) e = refl
finished_mode (at (occurrence_end ms n i o cs d r t)) e = refl
finished_mode (at (module_end ms n i o cs)) e = refl
finished_mode (finished ms) e = refl
finished_mode astray e = sym e

-- A part leads nowhere from any stage but some.
pub else_astray : (part : ℕ) (xs : List ℕ) → all_below 19 (λ mode. among xs mode || eqb 18 (mode_after mode part)) ≡ true → (mode : ℕ) → mode < 19 → among xs mode ≡ false
    → 18 ≡ mode_after mode part
else_astray part xs e mode low none = eqb-true 18 (mode_after mode part) (but_for xs 19 (λ mode. eqb 18 (mode_after mode part)) e mode low none)

-- Nothing goes on at a byte that is none of these; and no quote mark stands behind a module.
pub stray_mode : (mode : ℕ) → mode < 19 → mode_after mode 3 ≡ 18
unfolding all_below mode_after modes
stray_mode mode l = eqb-true (mode_after mode 3) 18 (below 19 (λ mode. eqb (mode_after mode 3) 18) refl mode l)

pub mark_mode : mode_after 16 0 ≡ 18
unfolding mode_after modes
mark_mode = refl
