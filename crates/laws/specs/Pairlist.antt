-- Names paired with as many values, no name twice, read back as those values: PAIRLIST and COLLECT-EVAL-NAME of document 000.
use Rattle.std.specs.Prelude.{ℕ, ◌≡◌, refl, Bool, true, false, ◌||◌, List, [], ◌∷◌, eqb, length}
use Rattle.std.proofs.Common.{sym, arith, eq-eqb, ne_eqb}
use Rattle.std.proofs.lemmas.Bool.{false≢true, eqb-false}
use Rattle.meaning.specs.Boxlist.{member, duplicates}
use Rattle.meaning.specs.Heval.{Pair, eval_name, collect_eval_name, pairlist}

or-false : (a b : Bool) → (a || b) ≡ false → (a ≡ false) × (b ≡ false)
or-false true b e = absurd (false≢true (sym e))
or-false false b e = (refl, e)

-- A name that is not among those asked for does not matter in front.
collect_past : (x : ℕ) (b : Bool) (names : List ℕ) (alist : List Pair) → member x names ≡ false
    → collect_eval_name names (record { name = x; value = b } ∷ alist) ≡ collect_eval_name names alist
unfolding collect_eval_name eval_name member
collect_past x b [] alist absent = refl
collect_past x b (y ∷ names) alist absent =
    let parts = or-false (eqb x y) (member x names) absent in
    rw (ne_eqb y x (λ e. eqb-false x y parts.0 (sym e)), collect_past x b names alist parts.1)

pub collect_of-pairlist : (names : List ℕ) (bs : List Bool) → duplicates names ≡ false → length bs ≡ length names
    → collect_eval_name names (pairlist names bs) ≡ bs
unfolding collect_eval_name pairlist duplicates eval_name
collect_of-pairlist [] [] distinct count = refl
collect_of-pairlist [] (b ∷ bs) distinct count = absurd (omega arith)
collect_of-pairlist (x ∷ names) [] distinct count = absurd (omega arith)
collect_of-pairlist (x ∷ names) (b ∷ bs) distinct count =
    let parts = or-false (member x names) (duplicates names) distinct in
    rw (
      eq-eqb x x refl,
      collect_past x b names (pairlist names bs) parts.0,
      collect_of-pairlist names bs parts.1 (omega arith),
    )
