-- Occurrences that can be rewritten with given new nets: every net that they mention is among the used ones, each of the four gates has
-- four arguments, and for each of them there are two new nets.
use Rattle.std.specs.Prelude.{ℕ, ◌+◌, ◌*◌, ◌≤◌, ◌≡◌, refl, Bool, true, false, cond, List, [], ◌∷◌, ◌++◌, length}
use Rattle.std.proofs.Common.{sym, subst, ◌∙◌, true≢false, arith}
use Rattle.meaning.specs.Syntax.{Occurrence, Module}
use Rattle.meaning.specs.Boxlist.{member}
use Rattle.meaning.specs.Withdrawn.{withdrawn, body_nets}
use Rattle.laws.specs.WellFormed.{Reference, to_gate, to_module, Body, done, step}
use Rattle.laws.specs.Withdrawn.Kinds.{Four, four-told, four_is}

-- How many occurrences refer to one of the four gates.
unfoldable pub fours : List Occurrence → ℕ
fours [] = 0
fours (o ∷ os) = cond (withdrawn o.refers) 1 0 + fours os

-- All of these nets are among the used ones.
pub data Among (used : List ℕ) : List ℕ → Type 0 where
  none : Among used []
  more : {x : ℕ} {xs : List ℕ} → member x used ≡ true → Among used xs → Among used (x ∷ xs)

abbrev pub on_four : (drives : List ℕ) (kind a b c d : ℕ) → Occurrence
on_four drives kind a b c d = record { drives = drives; refers = kind; takes = a ∷ b ∷ c ∷ d ∷ [] }

pub data Suits (used : List ℕ) : (fresh : List ℕ) → List Occurrence → Type 0 where
  over : {fresh : List ℕ} → Suits used fresh []
  kept :
      {fresh : List ℕ} {o : Occurrence} {os : List Occurrence}
      → withdrawn o.refers ≡ false
      → Among used o.drives
      → Among used o.takes
      → Suits used fresh os
      → Suits used fresh (o ∷ os)
  replaced :
      {fresh : List ℕ} {x y : ℕ} {drives : List ℕ} {kind a b c d : ℕ} {os : List Occurrence}
      → Four kind
      → Among used drives
      → Among used (a ∷ b ∷ c ∷ d ∷ [])
      → Suits used fresh os
      → Suits used (x ∷ y ∷ fresh) (on_four drives kind a b c d ∷ os)

among-front : {used : List ℕ} (xs ys : List ℕ) → Among used (xs ++ ys) → Among used xs
among-front [] ys h = none
among-front (x ∷ xs) ys (more px h) = more px (among-front xs ys h)

among-behind : {used : List ℕ} (xs ys : List ℕ) → Among used (xs ++ ys) → Among used ys
among-behind [] ys h = h
among-behind (x ∷ xs) ys (more px h) = among-behind xs ys h

-- Occurrences that pass the check suit, where the new nets are enough.
pub suits :
    {later : List Module} {signals : List ℕ} {os : List Occurrence} (used fresh : List ℕ)
    → Body later signals os
    → Among used (body_nets os)
    → 2 * fours os ≤ length fresh
    → Suits used fresh os
unfolding body_nets fours
suits used fresh done among enough = over
suits {later} {signals} used fresh (step {o = o} {os = os} ok rest) among enough =
    go (withdrawn o.refers) refl enough (λ fresh left. suits used fresh rest others left)
  where
    drives : Among used o.drives
    drives = among-front o.drives _ among

    takes : Among used o.takes
    takes = among-front o.takes _ (among-behind o.drives _ among)

    others : Among used (body_nets os)
    others = among-behind o.takes _ (among-behind o.drives _ among)

    arguments : Four o.refers → Reference later o → length o.takes ≡ 4
    arguments four (to_gate h arity single) = sym arity ∙ (four_is four).arity
    arguments four (to_module m h found t d) = absurd (let no = (four_is four).is_one in let z : true ≡ false = cc in true≢false z)

    four-of :
        (four : Four o.refers) (nets : List ℕ) → o.takes ≡ nets → length nets ≡ 4 → Among used nets → (fresh : List ℕ)
        → 2 + 2 * fours os ≤ length fresh → ((fresh : List ℕ) → 2 * fours os ≤ length fresh → Suits used fresh os)
        → Suits used fresh (o ∷ os)
    four-of four [] is long within fresh enough later = absurd (omega arith)
    four-of four (a ∷ []) is long within fresh enough later = absurd (omega arith)
    four-of four (a ∷ b ∷ []) is long within fresh enough later = absurd (omega arith)
    four-of four (a ∷ b ∷ c ∷ []) is long within fresh enough later = absurd (omega arith)
    four-of four (a ∷ b ∷ c ∷ d ∷ e ∷ es) is long within fresh enough later = absurd (omega arith)
    four-of four (a ∷ b ∷ c ∷ d ∷ []) is long within [] enough later = absurd (omega arith)
    four-of four (a ∷ b ∷ c ∷ d ∷ []) is long within (x ∷ []) enough later = absurd (omega arith)
    four-of four (a ∷ b ∷ c ∷ d ∷ []) is long within (x ∷ y ∷ fresh) enough later =
        subst (λ (takes : List ℕ). Suits used (x ∷ y ∷ fresh) (record { drives = o.drives; refers = o.refers; takes = takes } ∷ os)) (sym is)
        (replaced four drives within (later fresh (omega arith)))

    go :
        (b : Bool)
        → withdrawn o.refers ≡ b
        → 2 * (cond b 1 0 + fours os) ≤ length fresh
        → ((fresh : List ℕ) → 2 * fours os ≤ length fresh → Suits used fresh os)
        → Suits used fresh (o ∷ os)
    go true is enough later =
        let four = four-told o.refers is in
        four-of four o.takes refl (arguments four ok.reference) takes fresh (omega arith) later
    go false is enough later = kept is drives takes (later fresh (omega arith))
