-- `put_number` writes the digits of the tenth first, and the last digit behind them; what is left to write falls with the number.
use Prim.Native.Nat.{ℕ, ◌<◌}
use mathlib.Core.Path.{◌∙◌}
use native.Mathlib.Omega.{arith}
use lib.ListN.{length, length-set}
use borrow.Author.Rules.{rules}
use Rattle.list_text.proofs.Spelling.{one-digit, digit-more, spellable_tenth, after-tenth}
use borrow.Fn.Kinds.{In}
use borrow.Fn.PlainCycle.{Measures, is, falls, and}
use Rattle.list_text.proofs.put_number.Reads as put-number
use Rattle.list_text.proofs.put_number.Kinds as put-number-kinds
use Rattle.list_text.proofs.+put_number.Lts-put_number as put-number-lts
use Rattle.list_text.proofs.+put_number.{statement}
use Rattle.list_text.proofs.+put_number.Tie.{close}

abbrev μ-put-number : Measures 1 put-number-kinds.ps ℕ
μ-put-number κs a = a.0

abbrev put-number-at : ℕ → In 1 put-number-kinds.ps
put-number-at t = and 1 put-number-kinds.ps (is 1 put-number-kinds.ps μ-put-number t) put-number.Pre

abbrev put-number-below : ℕ → In 1 put-number-kinds.ps
put-number-below t = and 1 put-number-kinds.ps (falls 1 put-number-kinds.ps ◌<◌ μ-put-number t) put-number.Pre

module _ (t : ℕ) where
  add-out : put-number-lts.Need-overflow_add-out (put-number-below t, put-number.Post) (put-number-at t) put-number.Post
  add-out c = omega arith

  cast-out : put-number-lts.Need-overflow_cast-out (put-number-below t, put-number.Post) (put-number-at t) put-number.Post
  cast-out c = omega arith

  slice-write-out : put-number-lts.Need-bounds-out-at (put-number-below t, put-number.Post) (put-number-at t) put-number.Post
  slice-write-out c = omega arith

  add-result : put-number-lts.Need-overflow_add-result (put-number-below t, put-number.Post) (put-number-at t) put-number.Post
  add-result c = omega arith

  same_length : put-number-lts.Need-shape_of-out-then-n-lt10 (put-number-below t, put-number.Post) (put-number-at t) put-number.Post
  same_length c = search rules

  returns : put-number-lts.Need-returns-then-n-lt10 (put-number-below t, put-number.Post) (put-number-at t) put-number.Post
  returns c =
      let a = c.args in
      one-digit a.n a.out.now a.at c.if-n-lt10.true

  put-number-requires : put-number-lts.Need-put_number-next-requires (put-number-below t, put-number.Post) (put-number-at t) put-number.Post
  put-number-requires c κs =
      (omega (arith, c.requires.0, c.if-n-lt10.false), spellable_tenth c.args.n c.args.out.now c.args.at c.if-n-lt10.false c.requires.1)

  add-out-2 : put-number-lts.Need-overflow_add-out-2 (put-number-below t, put-number.Post) (put-number-at t) put-number.Post
  add-out-2 c = omega arith

  cast-out-2 : put-number-lts.Need-overflow_cast-out-2 (put-number-below t, put-number.Post) (put-number-at t) put-number.Post
  cast-out-2 c = omega arith

  -- The last digit's place.
  inside : (c : put-number-lts.After-put_number-next (put-number-below t, put-number.Post) (put-number-at t) put-number.Post)
      → c.put_number-next.result < length c.args.out.now
  inside c =
      after-tenth c.args.n c.args.out.now c.args.at c.put_number-next.new.out c.put_number-next.result c.if-n-lt10.false c.requires.1 c.put_number-next.ensures

  slice-write-out-2 : put-number-lts.Need-bounds-out-next (put-number-below t, put-number.Post) (put-number-at t) put-number.Post
  slice-write-out-2 c = let h = inside c.before.before in omega (arith, c.put_number-next.auto.out)

  add-result-2 : put-number-lts.Need-overflow_add-result-2 (put-number-below t, put-number.Post) (put-number-at t) put-number.Post
  add-result-2 c = let h = inside c.before.before in omega arith

  same-length-2 : put-number-lts.Need-shape_of-out (put-number-below t, put-number.Post) (put-number-at t) put-number.Post
  same-length-2 c = length-set c.put_number-next.new.out c.put_number-next.result _ ∙ c.put_number-next.auto.out

  returns-2 : put-number-lts.Need-returns (put-number-below t, put-number.Post) (put-number-at t) put-number.Post
  returns-2 c =
      let p = c.put_number-next in
      digit-more c.args.n c.args.out.now c.args.at p.new.out p.result c.if-n-lt10.false p.ensures

pub +put_number_spec : {M : Type 1} → statement M
+put_number_spec =
    close μ-put-number λ t.
    put-number-lts.spec (put-number-below t, put-number.Post) (put-number-at t) put-number.Post
    (add-out t)
    (cast-out t)
    (slice-write-out t)
    (add-result t)
    (same_length t)
    (returns t)
    (put-number-requires t)
    (add-out-2 t)
    (cast-out-2 t)
    (slice-write-out-2 t)
    (add-result-2 t)
    (same-length-2 t)
    (returns-2 t)
