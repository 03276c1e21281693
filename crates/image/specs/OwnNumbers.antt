-- A module of a file that fits is found by its own number, at its own position: so what is proved of a number that is found can be said
-- of the module at any position.
use Rattle.std.specs.Prelude.{ℕ, zero, suc, ◌≡◌, List, ◌∷◌, drop}
use Rattle.std.proofs.Common.{sym, ap, ◌∙◌, eq-eqb}
use Rattle.meaning.specs.Syntax.{Module}
use Rattle.meaning.specs.Boxlist.{box, assoc}
use Rattle.image.specs.Resolved.{position_of}
use Rattle.image.specs.Fitting.{Fits, none, some}
use Rattle.image.specs.Searching.{Search}
use Rattle.image.specs.Positions.{nothing-at}
use Rattle.image.specs.Referring.{not_first}

pub record Own (ms : List Module) (k : ℕ) (m : Module) : Type 0 where
  pub found : assoc m.number ms ≡ box m
  pub placed : position_of m.number ms ≡ k

pub own-number : {ms : List Module} → Fits ms → (k : ℕ) {m : Module} {later : List Module} → drop k ms ≡ m ∷ later → Own ms k m
unfolding assoc position_of
own-number none k e = absurd (nothing-at k e)
own-number (some {m = first} ok rest) zero {m} e =
    let same : first ≡ m = cc in
    let own = eq-eqb m.number first.number (ap (λ (n : Module). n.number) (sym same)) in
    record { found = rw own (ap box same); placed = rw own }
own-number (some {m = first} ok rest) (suc k) {m} e =
    let own = own-number rest k e in
    let another = not_first ok m.number own.found in
    record { found = rw another own.found; placed = rw another (ap suc own.placed) }

module _ {C : Type 0} {f : List Module → ℕ → C} {own : Module → List Module → C} (search : Search f own) where
  pub says-own :
      {ms : List Module}
      → Fits ms
      → (k : ℕ) {m : Module} {later : List Module}
      → drop k ms ≡ m ∷ later
      → f ms m.number ≡ own m later
  says-own none k e = absurd (nothing-at k e)
  says-own (some {m = first} {later = rest} ok fits) zero {m} {later} e =
      let same : first ≡ m = cc in
      let behind : rest ≡ later = cc in
      search.here first rest m.number (eq-eqb m.number first.number (ap (λ (n : Module). n.number) (sym same)))
      ∙ rw (same, behind)
  says-own (some {m = first} {later = rest} ok fits) (suc k) {m} e =
      search.past.passes first rest m.number (not_first ok m.number (own-number fits k e).found) ∙ says-own fits k e
