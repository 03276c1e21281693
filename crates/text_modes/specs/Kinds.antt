-- What the code calls the kinds of bytes, and their numbers, by which the table of stages goes.
use Rattle.std.specs.Prelude.{ℕ, ◌≡◌, refl, Option, Some, None, cond, eqb, leb}
use Rattle.std.proofs.Common.{sym, ap, ◌∙◌, ◌≤◌, ◌<◌, Bool, true, false, arith}
use Rattle.std.proofs.lemmas.Bool.{leb-true, leb-false}
use Rattle.meaning.specs.ListForm.{mark, opening, closing, stray, Kind, letter, space, Kind.sign as sign_kind}
use Rattle.text_modes.specs.Modes.{kind_code}
use Rattle.text_modes.specs.Ends.{code-letter}
use Rattle.text_modes.specs.declared.ByteKind.{ByteKind}
use Rattle.text_modes.specs.declared.ByteKind.TheVariants.{Mark, Opening, Closing, Stray, Letter, Space}

abbrev pub byte_kind : Kind → ByteKind
byte_kind letter = Letter
byte_kind space = Space
byte_kind (sign_kind mark) = Mark
byte_kind (sign_kind opening) = Opening
byte_kind (sign_kind closing) = Closing
byte_kind (sign_kind stray) = Stray

abbrev pub code_of : ByteKind → ℕ
code_of Mark = 0
code_of Opening = 1
code_of Closing = 2
code_of Stray = 3
code_of Letter = 4
code_of Space = 5

pub coded : (k : Kind) → code_of (byte_kind k) ≡ kind_code k
coded letter = refl
coded space = refl
coded (sign_kind mark) = refl
coded (sign_kind opening) = refl
coded (sign_kind closing) = refl
coded (sign_kind stray) = refl

-- A kind is known by its number.
unfoldable kind_at : ℕ → ByteKind
kind_at n = cond (eqb n 0) Mark (cond (eqb n 1) Opening (cond (eqb n 2) Closing (cond (eqb n 3) Stray (cond (eqb n 4) Letter Space))))

at-code : (k : ByteKind) → kind_at (code_of k) ≡ k
unfolding kind_at
at-code Mark = refl
at-code Opening = refl
at-code Closing = refl
at-code Stray = refl
at-code Letter = refl
at-code Space = refl

pub same_code : (k m : ByteKind) → code_of k ≡ code_of m → k ≡ m
same_code k m e = sym (at-code k) ∙ ap kind_at e ∙ at-code m

-- A number below a limit, or none: stage 18 is none, and so is module 128.
abbrev pub if_below : (limit n : ℕ) → Option ℕ
if_below limit n = cond (leb limit n) None (Some n)

-- What a kind tells of the number of the byte's kind.
pub letter_known : {r : ByteKind} (k : Kind) → r ≡ byte_kind k → r ≡ Letter → kind_code k ≡ 4
letter_known k e l = sym (coded k) ∙ ap code_of (sym e ∙ l)

pub no_letter_known : {r : ByteKind} (k : Kind) → r ≡ byte_kind k → (r ≡ Letter → ⊥) → kind_code k ≡ 4 → ⊥
no_letter_known k e n four = n (e ∙ ap byte_kind (code-letter k four))

-- What a number below a limit, or none, tells of the number.
pub is_below : {r : Option ℕ} {k : ℕ} (limit n : ℕ) → r ≡ if_below limit n → r ≡ Some k → (k ≡ n) × (k < limit)
is_below {r} {k} limit n e s = go (leb limit n) refl (sym e ∙ s)
  where
    go : (t : Bool) → leb limit n ≡ t → cond t None (Some n) ≡ Some k → (k ≡ n) × (k < limit)
    go true h f = cc
    go false h f =
        let less : n < limit = leb-false limit n h in
        let same : k ≡ n = cc in
        (same, omega arith)

pub not_below : {r : Option ℕ} (limit n : ℕ) → r ≡ if_below limit n → r ≡ None → limit ≤ n
not_below {r} limit n e none = go (leb limit n) refl (sym e ∙ none)
  where
    go : (t : Bool) → leb limit n ≡ t → cond t None (Some n) ≡ None → limit ≤ n
    go true h f = leb-true limit n h
    go false h f = cc
