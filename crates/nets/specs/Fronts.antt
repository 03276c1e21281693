-- How many entries at the front of a list have passed a test: as many as the list has just if the whole list passes. Where it does not, the
-- count is below that, and nothing more is said of it.
use Rattle.std.specs.Prelude.{◌≡◌, ℕ, ◌<◌, ◌≤◌, Bool, true, false, List, length, nat_eq}
use Rattle.std.proofs.Common.{arith, sym, ◌∙◌, eqb-true, eq-eqb, ne_eqb}

pub record Front (list : List ℕ) (all : Bool) (r : ℕ) : Type 0 where
  pub within : r ≤ length list
  pub whole : nat_eq r (length list) ≡ all

module _ {list : List ℕ} {all : Bool} {r : ℕ} where
  -- A walk that came to the list's end, and one that ended before.
  pub front-whole : r ≡ length list → true ≡ all → Front list all r
  front-whole e passes = record { within = omega arith; whole = eq-eqb r (length list) e ∙ passes }

  pub front-short : r < length list → false ≡ all → Front list all r
  front-short h fails = record { within = omega arith; whole = ne_eqb r (length list) (λ e. omega arith) ∙ fails }

  -- What the count says of the list.
  module _ (f : Front list all r) where
    pub whole-passes : r ≡ length list → true ≡ all
    whole-passes e = sym (eq-eqb r (length list) e) ∙ f.whole

    pub passes-whole : all ≡ true → r ≡ length list
    passes-whole e = eqb-true r (length list) (f.whole ∙ e)

    pub short-fails : r < length list → false ≡ all
    short-fails h = sym (ne_eqb r (length list) (λ e. omega arith)) ∙ f.whole
