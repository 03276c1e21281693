-- A line feed is put where the definition has one.
use Prim.Native.Nat.{ℕ, ◌+◌, ◌-◌, ◌≤◌, ◌<◌}
use mathlib.Core.Path.{◌≡◌, sym, ap, ◌∙◌}
use mathlib.Core.Bool.{and-false}
use mathlib.Core.List.{List, [], ◌∷◌}
use native.Mathlib.Omega.{arith}
use lib.ListN.{length, get_or}
use borrow.Author.Rules.{rules}
use borrow.Author.Tests.{lt-ltb, le-ltb, eq-eqb, ne_eqb}
use Rattle.meaning.specs.Listing.{line_feed}
use Rattle.image.specs.Laid.{laid, laid-nothing, set-laid}
use Rattle.row_lines.specs.Spaces.{last_end}
use Rattle.row_lines.proofs.spaces.end_text.Statement.{statement}
use Rattle.row_lines.proofs.spaces.end_text.Tie as tie

module _ (filled : ℕ) (text : List ℕ) where
  -- Nothing is put behind the text.
  as_it_was : last_end filled text ≡ [] → (filled ≡ filled + length (last_end filled text)) × (text ≡ laid text filled (last_end filled text))
  as_it_was e = (omega (arith, ap length e), sym (ap (laid text filled) e ∙ laid-nothing text filled))

  empty : filled ≡ 0 → last_end filled text ≡ []
  unfolding last_end
  empty e = rw (le-ltb 0 filled (omega arith))

  full : length text ≤ filled → last_end filled text ≡ []
  unfolding last_end
  full h = rw (le-ltb filled (length text) h, and-false)

  ended : get_or text (filled - 1) 0 ≡ line_feed → last_end filled text ≡ []
  unfolding last_end
  ended e = rw (eq-eqb (get_or text (filled - 1) 0) line_feed e, and-false, and-false)

  open-ended : (filled ≡ 0 → ⊥) → filled < length text → (get_or text (filled - 1) 0 ≡ line_feed → ⊥) → last_end filled text ≡ line_feed ∷ []
  unfolding last_end
  open-ended some h n = rw (lt-ltb 0 filled (omega (arith, some)), lt-ltb filled (length text) h, ne_eqb (get_or text (filled - 1) 0) line_feed n)

returns-4 : tie.Need-returns
returns-4 c =
    let f = c.args.filled in
    let t = c.args.text.now in
    let e = open-ended f t c.if-filled-eq0.false c.if-text-filled.false (λ e. omega arith) in
    (omega (arith, ap length e), set-laid t f line_feed c.if-text-filled.false ∙ ap (laid t f) (sym e))

pub end_text_spec : {M : Type 1} → statement M
end_text_spec =
    tie.close
    (tie.spec
    (λ c. as_it_was _ _ (empty _ _ c.if-filled-eq0.true))
    (λ c. as_it_was _ _ (full _ _ c.if-text-filled.true))
    (λ c. search rules)
    (λ c. search rules)
    (λ c. as_it_was _ _ (ended c.args.filled c.args.text.now (omega arith)))
    (λ c. search rules)
    (λ c. search rules)
    (λ c. search rules)
    returns-4)
