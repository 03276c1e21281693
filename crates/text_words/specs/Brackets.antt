-- The search for a list by its brackets, over the parts that a text consists of.
use Rattle.std.specs.Prelude.{ℕ, suc, ◌-◌, ◌≤◌, ◌<◌, ◌≡◌, refl, Bool, true, false, cond, length}
use Rattle.std.proofs.Common.{arith, ◌∙◌, ap, eq-eqb, ne_eqb}
use mathlib.Core.List.{List, [], ◌∷◌, ◌++◌, map, append_assoc}
use Rattle.meaning.specs.ListForm.{Name, opening, closing, Kind, letter, space, Kind.sign as sign_kind, kind_of, Part, sign, atom, in_brackets, parts_of, Letters, last, then, Written, ended, spaced, signed, named}
use Rattle.text_modes.specs.Modes.{sign_code, kind_code}
use Rattle.text_words.specs.declared.Cursor.{Cursor}
use Rattle.text_words.specs.Seeking.{cursor_after, behind}

unfoldable pub behind_parts : (level depth more : ℕ) → List Part → List Part
behind_parts level depth more [] = []
behind_parts level depth more (sign s ∷ ps) =
    let c = cursor_after (sign_code s) level depth more in
    cond c.met ps (behind_parts level c.depth c.more ps)
behind_parts level depth more (atom a ∷ ps) = behind_parts level depth more ps

-- One byte, by its kind.
abbrev follow : (level : ℕ) → Cursor → List ℕ → List ℕ
follow level c text = cond c.met text (behind level c.depth c.more text)

by_kind : (level depth more b : ℕ) (text : List ℕ) (k : Kind) → kind_of b ≡ k
    → behind level depth more (b ∷ text) ≡ follow level (cursor_after (kind_code k) level depth more) text
unfolding behind
by_kind level depth more b text k e = ap (λ k. follow level (cursor_after (kind_code k) level depth more) text) e

past-letters : (level depth more : ℕ) {bs : List ℕ} (text : List ℕ) → Letters bs → behind level depth more (bs ++ text) ≡ behind level depth more text
past-letters level depth more text (last {b = b} e) = by_kind level depth more b text letter e
past-letters level depth more text (then {b = b} {bs = bs} e l) =
    by_kind level depth more b (bs ++ text) letter e ∙ past-letters level depth more text l

-- What is found in a text consists of the parts that are found in its parts.
pub parts-behind : (level depth more : ℕ) {ps : List Part} {text : List ℕ} → Written ps text
    → Written (behind_parts level depth more ps) (behind level depth more text)
unfolding behind behind_parts
parts-behind level depth more ended = ended
parts-behind level depth more (spaced {b = b} {ps = ps} {text = text} e w) =
    rw (by_kind level depth more b text space e) (parts-behind level depth more w)
parts-behind level depth more (signed {b = b} {s = s} {ps = ps} {text = text} e w) =
    rw (by_kind level depth more b text (sign_kind s) e)
    (go c.met c.depth c.more (parts-behind level c.depth c.more w))
  where
    c : Cursor
    c = cursor_after (sign_code s) level depth more

    go : (t : Bool) (o m : ℕ) → Written (behind_parts level o m ps) (behind level o m text)
        → Written (cond t ps (behind_parts level o m ps)) (cond t text (behind level o m text))
    go true o m rest = w
    go false o m rest = rest
parts-behind level depth more (named {bs = bs} {ps = ps} {text = text} l f w) =
    rw (past-letters level depth more text l) (parts-behind level depth more w)

-- Parts that the search passes, wherever at least `low` brackets are open.
pub record Passed (level low : ℕ) (ps : List Part) : Type 0 where
  pub on : (depth more : ℕ) (qs : List Part) → low ≤ depth → behind_parts level depth more (ps ++ qs) ≡ behind_parts level depth more qs

module _ (level low : ℕ) where
  pub pass_none : Passed level low []
  pass_none = record { on = λ depth more qs h. refl }

  pub pass_both : {ps qs : List Part} → Passed level low ps → Passed level low qs → Passed level low (ps ++ qs)
  pass_both {ps} {qs} p q =
      record {
        on = λ depth more rest h.
            ap (behind_parts level depth more) (append_assoc ps qs rest) ∙ p.on depth more (qs ++ rest) h ∙ q.on depth more rest h;
      }

  pub pass_atom : (a : Name) {ps : List Part} → Passed level low ps → Passed level low (atom a ∷ ps)
  unfolding behind_parts
  pass_atom a p = record { on = λ depth more rest h. p.on depth more rest h }

  pub pass_atoms : (names : List Name) → Passed level low (map atom names)
  pass_atoms [] = pass_none
  pass_atoms (a ∷ names) = pass_atom a (pass_atoms names)

  pub pass_each : {A : Type 0} (f : A → List Part) → ((x : A) → Passed level low (f x)) → (xs : List A) → Passed level low (parts_of f xs)
  unfolding parts_of
  pass_each f p [] = pass_none
  pass_each f p (x ∷ xs) = pass_both (p x) (pass_each f p xs)

-- A bracket that opens no list of the level.
pub opened : (level depth more : ℕ) (ps : List Part) → (depth ≡ level → ⊥)
    → behind_parts level depth more (sign opening ∷ ps) ≡ behind_parts level (suc depth) more ps
unfolding behind_parts
opened level depth more ps apart = rw (ne_eqb depth level apart)

closed : (level depth more : ℕ) (ps : List Part) → behind_parts level (suc depth) more (sign closing ∷ ps) ≡ behind_parts level depth more ps
unfolding behind_parts
closed level depth more ps = let less : suc depth - 1 ≡ depth = omega arith in ap (λ d. behind_parts level d more ps) less

-- A list of another level, what it holds, and its end.
pub over-list : (level low depth more : ℕ) {ps : List Part} (qs : List Part) → (depth ≡ level → ⊥) → low ≤ suc depth → Passed level low ps
    → behind_parts level depth more (in_brackets ps ++ qs) ≡ behind_parts level depth more qs
unfolding in_brackets behind_parts
over-list level low depth more {ps} qs apart h p =
    opened level depth more ((ps ++ (sign closing ∷ [])) ++ qs) apart
    ∙ ap (behind_parts level (suc depth) more) (append_assoc ps (sign closing ∷ []) qs)
    ∙ p.on (suc depth) more (sign closing ∷ qs) h
    ∙ closed level depth more qs

pub pass_list : (level low : ℕ) {ps : List Part} → level < low → Passed level low ps → Passed level low (in_brackets ps)
pass_list level low above p = record { on = λ depth more qs h. over-list level low depth more qs (λ e. omega arith) (omega arith) p }

-- Of the lists of the level, one after the other, the one that is sought.
pub in_order : {A : Type 0} (level : ℕ) (inner : A → List Part) → ((x : A) → Passed level (suc level) (inner x))
    → (before : List A) (x : A) (later : List A) (tail : List Part)
    → behind_parts level level (length before) (parts_of (λ y. in_brackets (inner y)) (before ++ (x ∷ later)) ++ tail)
    ≡ inner x ++ (sign closing ∷ (parts_of (λ y. in_brackets (inner y)) later ++ tail))
unfolding parts_of in_brackets behind_parts
in_order level inner pass [] x later tail =
    rw (eq-eqb level level refl)
    (append_assoc (inner x ++ (sign closing ∷ [])) (parts_of (λ y. in_brackets (inner y)) later) tail
    ∙ append_assoc (inner x) (sign closing ∷ []) (parts_of (λ y. in_brackets (inner y)) later ++ tail))
in_order level inner pass (z ∷ before) x later tail =
    rw (eq-eqb level level refl)
    (ap (behind_parts level (suc level) (length before))
    (append_assoc (inner z ++ (sign closing ∷ [])) rest tail ∙ append_assoc (inner z) (sign closing ∷ []) (rest ++ tail))
    ∙ (pass z).on (suc level) (length before) (sign closing ∷ (rest ++ tail)) (omega arith)
    ∙ closed level level (length before) (rest ++ tail)
    ∙ in_order level inner pass before x later tail)
  where
    rest : List Part
    rest = parts_of (λ y. in_brackets (inner y)) (before ++ (x ∷ later))
