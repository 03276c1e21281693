-- Laws of results by fillings, for any Boolean function of a list: the result is known exactly when every filling gives it, unknown
-- exactly when two fillings differ, the function's own on known values, and it keeps its value when more becomes known.
use Rattle.std.specs.Prelude.{ℕ, Bool, true, false, not, ◌↔◌, ◌⊎◌, ◌≡◌, refl}
use Rattle.std.proofs.lemmas.Bool.{false≢true}
use mathlib.Core.List.{List, [], ◌∷◌, map, Forall₂}
use Rattle.std.proofs.Common.{inl, inr, ⊎_elim, ap, ap₂, sym, ◌∙◌, arith}
use Rattle.meaning.specs.Values.{Val, known, un, Fills, done, kept, put, common, by_fillings}

un_not_known : {b : Bool} → un ≡ known b → ⊥
un_not_known e = let z : ◌≡◌ {A = ℕ} 0 1 = cc in omega arith

-- A known value that two results have in common is the value of both.
common-known : (v w : Val) {b : Bool} → common v w ≡ known b → (v ≡ known b) × (w ≡ known b)
common-known (known true) (known true) e = (e, e)
common-known (known true) (known false) e = absurd (un_not_known e)
common-known (known true) un e = absurd (un_not_known e)
common-known (known false) (known true) e = absurd (un_not_known e)
common-known (known false) (known false) e = (e, e)
common-known (known false) un e = absurd (un_not_known e)
common-known un w e = absurd (un_not_known e)

common-same : (v : Val) → common v v ≡ v
common-same (known true) = refl
common-same (known false) = refl
common-same un = refl

-- A known result is that of each filling.
known-sound : (f : List Bool → Bool) {vs : List Val} {bs : List Bool} {b : Bool}
    → by_fillings f vs ≡ known b → Fills vs bs → f bs ≡ b
unfolding by_fillings
known-sound f e done = cc
known-sound f e (kept {b = c} r) = known-sound (λ bs. f (c ∷ bs)) e r
known-sound f e (put {b = false} {vs = vs} r) =
    known-sound (λ bs. f (false ∷ bs)) (common-known _ (by_fillings (λ bs. f (true ∷ bs)) vs) e).0 r
known-sound f e (put {b = true} {vs = vs} r) =
    known-sound (λ bs. f (true ∷ bs)) (common-known (by_fillings (λ bs. f (false ∷ bs)) vs) _ e).1 r

-- A result that each filling gives is known.
known-complete : (f : List Bool → Bool) (vs : List Val) {b : Bool}
    → ((bs : List Bool) → Fills vs bs → f bs ≡ b) → by_fillings f vs ≡ known b
unfolding by_fillings
known-complete f [] h = ap known (h [] done)
known-complete f (known c ∷ vs) h = known-complete (λ bs. f (c ∷ bs)) vs (λ bs r. h (c ∷ bs) (kept r))
known-complete f (un ∷ vs) {b} h =
    ap₂ common
    (known-complete (λ bs. f (false ∷ bs)) vs (λ bs r. h (false ∷ bs) (put r)))
    (known-complete (λ bs. f (true ∷ bs)) vs (λ bs r. h (true ∷ bs) (put r)))
    ∙ common-same (known b)

-- The result is known exactly when every filling gives it.
pub known_exactly : (f : List Bool → Bool) (vs : List Val) (b : Bool)
    → by_fillings f vs ≡ known b ↔ ((bs : List Bool) → Fills vs bs → f bs ≡ b)
known_exactly f vs b = (λ e bs r. known-sound f e r, known-complete f vs)

-- A filling that gives a Boolean.
pub record Gives (f : List Bool → Bool) (vs : List Val) (b : Bool) : Type 0 where
  pub filling : List Bool
  pub fills : Fills vs filling
  pub gives : f filling ≡ b

either : (a b : Bool) → (a ≡ b) ⊎ (a ≡ not b)
either false false = inl refl
either false true = inr refl
either true false = inr refl
either true true = inl refl

-- Some filling gives a Boolean, or the result is known to be the other.
gives-or_not : (f : List Bool → Bool) (vs : List Val) (b : Bool) → Gives f vs b ⊎ (by_fillings f vs ≡ known (not b))
unfolding by_fillings
gives-or_not f [] b = ⊎_elim (λ e. inl (record { filling = []; fills = done; gives = e })) (λ e. inr (ap known e)) (either (f []) b)
gives-or_not f (known c ∷ vs) b = ⊎_elim (λ g. inl (keep g)) inr (gives-or_not (λ bs. f (c ∷ bs)) vs b)
  where
    keep : Gives (λ bs. f (c ∷ bs)) vs b → Gives f (known c ∷ vs) b
    keep g = record { filling = c ∷ g.filling; fills = kept g.fills; gives = g.gives }
gives-or_not f (un ∷ vs) b = join (gives-or_not (λ bs. f (false ∷ bs)) vs b) (gives-or_not (λ bs. f (true ∷ bs)) vs b)
  where
    choose : (c : Bool) → Gives (λ bs. f (c ∷ bs)) vs b → Gives f (un ∷ vs) b
    choose c g = record { filling = c ∷ g.filling; fills = put g.fills; gives = g.gives }

    join :
        Gives (λ bs. f (false ∷ bs)) vs b ⊎ (by_fillings (λ bs. f (false ∷ bs)) vs ≡ known (not b))
        → Gives (λ bs. f (true ∷ bs)) vs b ⊎ (by_fillings (λ bs. f (true ∷ bs)) vs ≡ known (not b))
        → Gives f (un ∷ vs) b ⊎ (by_fillings f (un ∷ vs) ≡ known (not b))
    join (inl g) r = inl (choose false g)
    join (inr e) (inl g) = inl (choose true g)
    join (inr e) (inr k) = inr (ap₂ common e k ∙ common-same (known (not b)))

-- The result is unknown exactly when one filling gives false and another true.
pub unknown_exactly : (f : List Bool → Bool) (vs : List Val) → by_fillings f vs ≡ un ↔ (Gives f vs false × Gives f vs true)
unknown_exactly f vs = (λ e. (gives e false, gives e true), λ g. differ (by_fillings f vs) refl g.0 g.1)
  where
    gives : by_fillings f vs ≡ un → (b : Bool) → Gives f vs b
    gives e b = ⊎_elim (λ g. g) (λ k. absurd (un_not_known (sym e ∙ k))) (gives-or_not f vs b)

    differ : (v : Val) → by_fillings f vs ≡ v → Gives f vs false → Gives f vs true → v ≡ un
    differ un e g h = refl
    differ (known b) e g h =
        absurd (false≢true (sym g.gives ∙ known-sound f e g.fills ∙ sym (known-sound f e h.fills) ∙ h.gives))

-- On known values the result is the function's own.
pub on-known : (f : List Bool → Bool) (bs : List Bool) → by_fillings f (map known bs) ≡ known (f bs)
unfolding by_fillings
on-known f [] = refl
on-known f (b ∷ bs) = on-known (λ cs. f (b ∷ cs)) bs

-- More may become known: an unknown value may become anything, a known one stays.
pub data Keeps : Val → Val → Type 0 where
  any : {v : Val} → Keeps un v
  same : {b : Bool} → Keeps (known b) (known b)

abbrev pub Refines : List Val → List Val → Type 0
Refines = Forall₂ Keeps

-- A filling of values of which more is known is a filling of the values before.
fills-before : {vs ws : List Val} {bs : List Bool} → Refines vs ws → Fills ws bs → Fills vs bs
fills-before Forall₂.nil done = done
fills-before (Forall₂.cons any r) (kept p) = put (fills-before r p)
fills-before (Forall₂.cons any r) (put p) = put (fills-before r p)
fills-before (Forall₂.cons same r) (kept p) = kept (fills-before r p)

-- Monotone: a known result keeps its value when more becomes known.
pub monotone : (f : List Bool → Bool) {vs ws : List Val} → Refines vs ws → Keeps (by_fillings f vs) (by_fillings f ws)
monotone f {vs} {ws} r = go (by_fillings f vs) refl
  where
    go : (v : Val) → by_fillings f vs ≡ v → Keeps v (by_fillings f ws)
    go un e = any
    go (known b) e = rw (known-complete f ws (λ bs p. known-sound f e (fills-before r p))) same
