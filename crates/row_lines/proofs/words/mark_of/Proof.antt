-- Each arm is a case of the definition.
use Prim.Native.Nat.{ℕ, ◌-◌, ◌<◌, ◌≤◌}
use mathlib.Core.Path.{◌≡◌, sym}
use mathlib.Core.Logic.{inl, inr, ⊎_elim}
use mathlib.Core.Bool.{false, ◌&&◌, and-false}
use native.Mathlib.Omega.{arith}
use lib.Dec.{leb}
use borrow.Author.Tests.{ne_eqb, le-leb, lt-leb}
use Rattle.row_lines.specs.Words.{mark_of, other}
use Rattle.row_lines.proofs.words.mark_of.Statement.{statement}
use Rattle.row_lines.proofs.words.mark_of.Tie as tie

digit : (b : ℕ) → 48 ≤ b → b < 58 → mark_of b ≡ b - 48
unfolding mark_of
digit b low high = rw (le-leb 48 b low, le-leb b 57 (omega arith))

module _ (b : ℕ) (no_digit : (leb 48 b && leb b 57) ≡ false) where
  none : (b ≡ 88 → ⊥) → (b ≡ 120 → ⊥) → (b ≡ 90 → ⊥) → (b ≡ 122 → ⊥) → (b ≡ 95 → ⊥) → other ≡ mark_of b
  unfolding mark_of
  none n88 n120 n90 n122 n95 =
      rw (no_digit, ne_eqb b 88 n88, ne_eqb b 120 n120, ne_eqb b 90 n90, ne_eqb b 122 n122, ne_eqb b 95 n95)

returns : tie.Need-returns-in-88
unfolding mark_of
returns c = ⊎_elim (λ e. rw e) (λ e. rw e) c.in-88.is

returns-2 : tie.Need-returns-in-90
unfolding mark_of
returns-2 c = ⊎_elim (λ e. rw e) (λ e. rw e) c.in-90.is

returns-3 : tie.Need-returns-in-95
unfolding mark_of
returns-3 c = rw c.in-95.is

returns-4 : tie.Need-returns-in-48-to-57
returns-4 c = sym (digit _ c.in-48-to-57.if-byte-lt48-own.false c.in-48-to-57.if-byte-lt58-own.true)

returns-5 : tie.Need-returns-in_default
returns-5 c =
    let b = c.args.byte in
    none b (rw (lt-leb 48 b c.in_default.if-byte-lt48-own.true)) (λ e. omega arith) (λ e. omega arith) (λ e. omega arith) (λ e. omega arith) (λ e. omega arith)

returns-6 : tie.Need-returns-in_default-2
returns-6 c =
    let b = c.args.byte in
    let r = c.in_default.in_default-own.rest in
    none b (rw (lt-leb b 57 c.in_default.if-byte-lt58-own.false) (and-false (leb 48 b)))
    (λ e. r.0.0.1 (inl e))
    (λ e. r.0.0.1 (inr e))
    (λ e. r.0.1 (inl e))
    (λ e. r.0.1 (inr e))
    (λ e. r.1 e)

pub mark_of_spec : {M : Type 1} → statement M
mark_of_spec = tie.close (tie.spec returns returns-2 returns-3 returns-4 returns-5 returns-6)
