-- One induction for all that resolution keeps. Of each module of a file that fits, what a search says of it and what a search in the
-- resolved file says at its position are related, if that follows for one module from the same for the modules after it.
use Rattle.std.specs.Prelude.{ℕ, suc, ◌+◌, Bool, true, false, cond, List, ◌∷◌, eqb}
use Rattle.std.proofs.Math.Path.{◌≡◌, refl, subst}
use Rattle.std.proofs.Common.{sym, ◌∙◌, arith, eq-eqb, ne_eqb}
use Rattle.meaning.specs.Syntax.{Module}
use Rattle.meaning.specs.Boxlist.{box, assoc}
use Rattle.image.specs.Resolved.{position_of, refer_to, resolve_module, resolve_from, resolve}
use Rattle.image.specs.Fitting.{ModuleFits, Fits, none, some}
use Rattle.image.specs.Shapes.{number-of-resolved}
use Rattle.image.specs.Searching.{Search}
use Rattle.image.specs.Referring.{Refers, refers-whole, refers-behind, refer_first}

-- What searches f and f' say of each module of a part of a file, before and after resolution, is related.
pub record Kept
    {C C' : Type 0} (R : Module → C → C' → Type 0) (f : List Module → ℕ → C) (f' : List Module → ℕ → C')
    (refer : ℕ → ℕ) (position : ℕ) (ms : List Module) : Type 0 where
  pub kept :
      (number : ℕ) (m : Module) → assoc number ms ≡ box m → R m (f ms number) (f' (resolve_from refer position ms) (refer number))

-- All that is known of a module and those after it when its turn comes.
pub record Turn
    {C C' : Type 0} (R : Module → C → C' → Type 0) (f : List Module → ℕ → C) (f' : List Module → ℕ → C')
    (refer : ℕ → ℕ) (position : ℕ) (m : Module) (later : List Module) : Type 0 where
  pub ok : ModuleFits m later
  pub rest : Fits later
  pub refers : Refers refer (suc position) later
  pub before : Kept R f f' refer (suc position) later

module _
    {C C' : Type 0} (R : Module → C → C' → Type 0)
    {f : List Module → ℕ → C} {own : Module → List Module → C} (search : Search f own)
    {f' : List Module → ℕ → C'} {own' : Module → List Module → C'} (search' : Search f' own')
    (turn :
    (refer : ℕ → ℕ) (position : ℕ) (m : Module) (later : List Module)
    → Turn R f f' refer position m later
    → R m (own m later) (own' (resolve_module refer position m) (resolve_from refer (suc position) later))) where
  pub kept_throughout :
      {refer : ℕ → ℕ} {position : ℕ} {ms : List Module}
      → Fits ms
      → Refers refer position ms
      → Kept R f f' refer position ms
  unfolding assoc resolve_from
  kept_throughout none refers = record { kept = λ number m e. absurd (let z : ◌≡◌ {A = ℕ} 0 1 = cc in omega arith) }
  kept_throughout {refer} {position} (some {m} {later} ok rest) refers =
      let behind = refers-behind ok refers in
      let before = kept_throughout rest behind in
      let of-first = turn refer position m later (record { ok = ok; rest = rest; refers = behind; before = before }) in
      record { kept = λ number n e. go before behind of-first number n (eqb number m.number) refl e }
    where
      r : Module
      r = resolve_module refer position m

      rs : List Module
      rs = resolve_from refer (suc position) later

      numbered : r.number ≡ 16 + position
      numbered = number-of-resolved refer position m

      go :
          Kept R f f' refer (suc position) later
          → Refers refer (suc position) later
          → R m (own m later) (own' r rs)
          → (number : ℕ) (n : Module) (b : Bool)
          → eqb number m.number ≡ b
          → cond b (box m) (assoc number later) ≡ box n
          → R n (f (m ∷ later) number) (f' (r ∷ rs) (refer number))
      go before behind of-first number n true h e =
          let same : m ≡ n = cc in
          let place = refer_first refers number h in
          rw (
            ← same,
            search.here m later number h,
            search'.here r rs (refer number) (eq-eqb (refer number) r.number (place ∙ sym numbered)),
          )
          of-first
      go before behind of-first number n false h e =
          let place = behind.modules number n e in
          rw (
            search.past.passes m later number h,
            search'.past.passes r rs (refer number) (ne_eqb (refer number) r.number (λ same. omega (arith, numbered))),
          )
          (before.kept number n e)

  pub kept_in_file :
      {ms : List Module}
      → Fits ms
      → (number : ℕ) (m : Module)
      → assoc number ms ≡ box m
      → R m (f ms number) (f' (resolve ms) (16 + position_of number ms))
  unfolding resolve
  kept_in_file {ms} fits number m e =
      let refers = refers-whole fits in
      let place : refer_to ms number ≡ 16 + position_of number ms = omega (arith, refers.modules number m e) in
      subst (λ (n : ℕ). R m (f ms number) (f' (resolve_from (refer_to ms) 0 ms) n)) place
      ((kept_throughout fits refers).kept number m e)
