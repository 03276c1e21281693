-- Rewriting keeps what modules give: a file and its rewriting, run on values of two kinds, give related outputs for related inputs, where
-- gates keep the relation and the three gates in place of one do. Three-valued answers and arrivals are two instances.
use Rattle.std.specs.Prelude.{ℕ, ◌≡◌, Bool, cond}
use Rattle.std.proofs.Math.Path.{refl, sym, ap}
use Rattle.std.proofs.Common.{◌∙◌, true≢false}
use Rattle.std.proofs.Math.Bool.{true, false}
use mathlib.Core.List.Forall₂.{cons}
use mathlib.Core.List.Forall₂.{nil}
use mathlib.Core.List.{List, [], ◌∷◌, ◌++◌, append-nil, Forall₂}
use Rattle.std.proofs.Math.Dec.{eqb}
use borrow.Author.Tests.{eqb-true, eq-eqb}
use Rattle.meaning.specs.Syntax.{Occurrence, Module}
use Rattle.meaning.specs.Gates.{is_gate}
use Rattle.meaning.specs.Boxlist.{member}
use Rattle.meaning.specs.Evaluation.{Env, look, look_all, pairs, Meaning, apply, walk, run_module, run}
use Rattle.meaning.specs.Withdrawn.{pair_kind, two_kind, three_gates, rewrite_body, mentioned, rewrite_module, rewrite_file}
use Rattle.laws.specs.WellFormed.{Accepted, none, some}
use Rattle.laws.specs.Withdrawn.Kinds.{Four, four_is}
use Rattle.laws.specs.Withdrawn.Fresh.{Unused, neither_true}
use Rattle.laws.specs.Withdrawn.Suits.{Among, Suits, over, kept, replaced}
use Rattle.laws.specs.Withdrawn.Enough.{unused-apart, outputs-among, module_suits}

-- What gates give, as one value each, is related: of each gate, and of one of the four and the three in its place.
pub record Keeping {A B : Type 0} (R : A → B → Type 0) (f : ℕ → List A → A) (g : ℕ → List B → B) : Type 0 where
  pub gates : (kind : ℕ) {vs : List A} {ws : List B} → Forall₂ R vs ws → R (f kind vs) (g kind ws)
  pub threes :
      {kind : ℕ}
      → Four kind
      → (a b c d : A) (a' b' c' d' : B)
      → R a a'
      → R b b'
      → R c c'
      → R d d'
      → R (f kind (a ∷ b ∷ c ∷ d ∷ []))
      (g (two_kind kind) (g (pair_kind kind) (a' ∷ b' ∷ []) ∷ g (pair_kind kind) (c' ∷ d' ∷ []) ∷ []))

module _ {A B : Type 0} (R : A → B → Type 0) (none_a : A) (none_b : B) (unset : R none_a none_b) where
  -- Every used net has related values.
  record Alike (used : List ℕ) (e : Env A) (e' : Env B) : Type 0 where
    alike : (x : ℕ) → member x used ≡ true → R (look none_a x e) (look none_b x e')

  look_all-alike :
      {used : List ℕ} {e : Env A} {e' : Env B} {nets : List ℕ}
      → Alike used e e'
      → Among used nets
      → Forall₂ R (look_all none_a nets e) (look_all none_b nets e')
  unfolding look_all
  look_all-alike env Among.none = nil
  look_all-alike env (Among.more {x = x} is rest) = cons (env.alike x is) (look_all-alike env rest)

  bind-alike :
      {used : List ℕ} {e : Env A} {e' : Env B} (net : ℕ) {v : A} {w : B}
      → R v w
      → Alike used e e'
      → Alike used (record { net = net; value = v } ∷ e) (record { net = net; value = w } ∷ e')
  unfolding look
  bind-alike {e = e} {e' = e'} net {v} {w} related env = record { alike = λ x is. go x (eqb x net) (env.alike x is) }
    where
      go :
          (x : ℕ) (b : Bool)
          → R (look none_a x e) (look none_b x e')
          → R (cond b v (look none_a x e)) (cond b w (look none_b x e'))
      go x true rest = related
      go x false rest = rest

  pairs-alike :
      {used : List ℕ} {e : Env A} {e' : Env B} (nets : List ℕ) {vs : List A} {ws : List B}
      → Forall₂ R vs ws
      → Alike used e e'
      → Alike used (pairs none_a nets vs ++ e) (pairs none_b nets ws ++ e')
  unfolding pairs
  pairs-alike [] related env = env
  pairs-alike (net ∷ nets) nil env = bind-alike net unset (pairs-alike nets nil env)
  pairs-alike (net ∷ nets) (cons r rs) env = bind-alike net r (pairs-alike nets rs env)

  -- A net that is not used is not seen.
  fresh-alike :
      {used : List ℕ} {e : Env A} {e' : Env B} (net : ℕ) (w : B)
      → member net used ≡ false
      → Alike used e e'
      → Alike used e (record { net = net; value = w } ∷ e')
  unfolding look
  fresh-alike {used} {e} {e'} net w out env = record { alike = λ x is. go x is (eqb x net) refl (env.alike x is) }
    where
      go :
          (x : ℕ)
          → member x used ≡ true
          → (b : Bool)
          → eqb x net ≡ b
          → R (look none_a x e) (look none_b x e')
          → R (look none_a x e) (cond b w (look none_b x e'))
      go x is true same rest =
          let equal = eqb-true x net same in
          let no : true ≡ false = sym is ∙ ap (λ (y : ℕ). member y used) equal ∙ out in
          absurd (true≢false no)
      go x is false same rest = rest

  module _ (f : ℕ → List A → A) (g : ℕ → List B → B) (gates : Keeping R f g) where
    abbrev before : Meaning A
    before kind vs = f kind vs ∷ []

    abbrev after : Meaning B
    after kind ws = g kind ws ∷ []

    -- What a number stands for, in front and behind the rewriting.
    record Related (l : Meaning A) (l' : Meaning B) : Type 0 where
      related : (number : ℕ) {vs : List A} {ws : List B} → Forall₂ R vs ws → Forall₂ R (l number vs) (l' number ws)

    applied :
        {l : Meaning A} {l' : Meaning B} → Related l l' → (number : ℕ) {vs : List A} {ws : List B} → Forall₂ R vs ws
        → Forall₂ R (apply before l number vs) (apply after l' number ws)
    applied {l} {l'} later number {vs} {ws} rs = go (is_gate number) (cons (gates.gates number rs) nil) (later.related number rs)
      where
        go :
            (b : Bool) {xs xs' : List A} {ys ys' : List B}
            → Forall₂ R xs ys
            → Forall₂ R xs' ys'
            → Forall₂ R (cond b xs xs') (cond b ys ys')
        go true h k = h
        go false h k = k

    module _ {l : Meaning A} {l' : Meaning B} (later : Related l l') where
      -- The three gates in place of one.
      walk-three :
          {used : List ℕ} {e : Env A} {e' : Env B} (x y : ℕ) (drives : List ℕ) {kind a b c d : ℕ}
          → Four kind
          → member x used ≡ false
          → member y used ≡ false
          → eqb x y ≡ false
          → Among used (a ∷ b ∷ c ∷ d ∷ [])
          → Alike used e e'
          → Alike used
          (pairs none_a drives (apply before l kind (look_all none_a (a ∷ b ∷ c ∷ d ∷ []) e)) ++ e)
          (walk none_b after l' (three_gates x y (record { drives = drives; refers = kind; takes = a ∷ b ∷ c ∷ d ∷ [] })) e')
      unfolding walk three_gates look_all pairs look
      walk-three {e' = e'} x y drives {kind} {a} {b} {c} {d} four out_x out_y apart (Among.more in_a (Among.more in_b (Among.more in_c (Among.more in_d Among.none)))) env =
          let is = four_is four in
          let first : B = g (pair_kind kind) (look none_b a e' ∷ look none_b b e' ∷ []) in
          let one = fresh-alike x first out_x env in
          rw (is.is_one, is.pair_gate, is.two_gate, eq-eqb x x refl, eq-eqb y y refl, apart)
          (pairs-alike drives
          (cons (gates.threes four _ _ _ _ _ _ _ _ (env.alike a in_a) (env.alike b in_b) (one.alike c in_c) (one.alike d in_d)) nil)
          (fresh-alike y _ out_y one))

      walk-alike :
          {used fresh : List ℕ} {os : List Occurrence} {e : Env A} {e' : Env B}
          → Suits used fresh os
          → Unused used fresh
          → Alike used e e'
          → Alike used (walk none_a before l os e) (walk none_b after l' (rewrite_body fresh os) e')
      unfolding walk rewrite_body three_gates member
      walk-alike over new env = env
      walk-alike (kept {o = o} stays drives takes rest) new env =
          rw stays (walk-alike rest new (pairs-alike o.drives (applied later o.refers (look_all-alike env takes)) env))
      walk-alike (replaced {drives = nets} four drives takes rest) (Unused.more {x = x} out_x apart_x (Unused.more {x = y} out_y apart_y new)) env =
          rw (four_is four).gone
          (walk-alike rest new
          (walk-three x y nets four out_x out_y (neither_true (eqb x y) _ apart_x).0 takes env))

    -- A module of its own values, and the whole file.
    run-related : {ms : List Module} → Accepted ms → Related (run none_a before ms) (run none_b after (rewrite_file ms))
    unfolding run run_module rewrite_file rewrite_module look
    run-related none = record { related = λ number rs. nil }
    run-related (some {m = m} {later = later} ok rest) =
        let behind = run-related rest in
        record { related = λ number rs. go (eqb number m.number) (own behind rs) (behind.related number rs) }
      where
        own :
            Related (run none_a before later) (run none_b after (rewrite_file later))
            → {vs : List A} {ws : List B}
            → Forall₂ R vs ws
            → Forall₂ R (run_module none_a before (run none_a before later) m vs)
            (run_module none_b after (run none_b after (rewrite_file later)) (rewrite_module m) ws)
        own behind rs =
            look_all-alike
            (walk-alike behind (module_suits ok) (unused-apart m)
            (rw (append-nil, append-nil) at (pairs-alike {used = mentioned m} {e = []} {e' = []} m.inputs rs (record { alike = λ x is. unset }))))
            (outputs-among m)

        go : (b : Bool) {xs xs' : List A} {ys ys' : List B} → Forall₂ R xs ys → Forall₂ R xs' ys' → Forall₂ R (cond b xs xs') (cond b ys ys')
        go true h k = h
        go false h k = k

    pub rewritten-run :
        {ms : List Module} → Accepted ms → (number : ℕ) {vs : List A} {ws : List B} → Forall₂ R vs ws
        → Forall₂ R (run none_a (λ kind vs. f kind vs ∷ []) ms number vs) (run none_b (λ kind ws. g kind ws ∷ []) (rewrite_file ms) number ws)
    rewritten-run accepted number rs = (run-related accepted).related number rs
