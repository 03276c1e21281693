-- `are_of` meets its contract. The loop's invariant: what is left decides. Assumes nothing.
use Prim.Native.Nat.{ℕ, ◌+◌, ◌-◌, ◌<◌}
use mathlib.Core.Path.{◌≡◌, refl, sym, ap, ◌∙◌}
use mathlib.Core.Bool.{Bool, true, false, ◌&&◌}
use mathlib.Core.List.{List}
use native.Mathlib.Omega.{arith}
use borrow.Author.Rules.{rules}
use lib.ListN.{length, get_or, drop}
use Rattle.meaning.specs.Ndl.{every}
use Rattle.ndl_names.specs.Kinds.{belongs}
use Rattle.ndl_names.proofs.Names.{every-none, every-next}
use Rattle.ndl_names.proofs.are_of.Statement.{statement}
use Rattle.ndl_names.proofs.are_of.Tie as tie

abbrev invariant-loop : tie.invariant-loop-i
invariant-loop kind bytes i₀ i-end i = every (belongs kind) bytes ≡ every (belongs kind) (drop i bytes)

abbrev decreases-loop : tie.decreases-loop-i
decreases-loop kind bytes i₀ i-end i = i-end - i

-- The next byte and those behind it decide.
module _ (p : ℕ → Bool) (bytes : List ℕ) (i : ℕ) (r : Bool) (inv : every p bytes ≡ every p (drop i bytes)) (h : i < length bytes)
    (e : r ≡ p (get_or bytes i 0)) where
  ends : r ≡ false → false ≡ every p bytes
  ends off = sym (inv ∙ every-next p bytes i h ∙ ap (λ (b : Bool). b && every p (drop (i + 1) bytes)) (sym e ∙ off))

  goes_on : r ≡ true → every p bytes ≡ every p (drop (i + 1) bytes)
  goes_on on = inv ∙ every-next p bytes i h ∙ ap (λ (b : Bool). b && every p (drop (i + 1) bytes)) (sym e ∙ on)

returns : tie.Need-returns-then-not-is_of invariant-loop decreases-loop
returns c =
    let a = c.args in
    ends (belongs a.kind) a.bytes.now c.loop-i.i c.is_of.result c.loop-i.invariant c.loop-i-test.true
    c.is_of.ensures c.if-not-is_of.true

loop-again : tie.Need-loop-i-preserved invariant-loop decreases-loop
loop-again c =
    let a = c.args in
    goes_on (belongs a.kind) a.bytes.now c.loop-i.i c.is_of.result c.loop-i.invariant c.loop-i-test.true
    c.is_of.ensures c.if-not-is_of.false

returns-2 : tie.Need-returns invariant-loop decreases-loop
returns-2 c =
    let a = c.args in
    sym (c.loop-i.invariant ∙ every-none (belongs a.kind) a.bytes.now c.loop-i.i c.loop-i-test.false)

pub are_of_spec : {M : Type 1} → statement M
are_of_spec =
    tie.close
    (tie.spec
    invariant-loop
    decreases-loop
    (λ c. refl)
    (λ c. omega arith)
    (λ c κs. search rules)
    returns
    (λ c. omega arith)
    (λ c. omega arith)
    loop-again
    returns-2)
