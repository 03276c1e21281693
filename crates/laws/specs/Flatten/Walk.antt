-- Flattening beside evaluation: where setting down a gate keeps what holds of the board and gives a net that stands for the
-- gate's value, placing a module of an accepted list does so too. Nets that stand for values lead to nets that stand for what the
-- run of the module gives.
use Rattle.std.specs.Prelude.{ℕ, suc, ◌≡◌, refl, true}
use Rattle.std.proofs.Common.{sym, ap, ◌∙◌}
use mathlib.Core.List.{List, [], ◌∷◌, ◌++◌, Forall₂}
use Rattle.std.proofs.Math.ListN.{length}
use Rattle.meaning.specs.Syntax.{Occurrence, Module}
use Rattle.meaning.specs.Gates.{is_gate, gate}
use Rattle.meaning.specs.Limits.{driven}
use Rattle.meaning.specs.Evaluation.{Env, look_all, Meaning, apply, walk, run_module, run}
use Rattle.meaning.specs.Flattening.{Board, Placed, place_gate, place_referred, Walked, place_body, place_module, place}
use Rattle.laws.specs.WellFormed.{Reference, to_gate, to_module, Body, done, step, ModuleOk, Accepted, none, some}
use Rattle.laws.specs.Members.{in_left, subset_in}
use Rattle.laws.specs.Standing.{Stands, here, there, stands}
use Rattle.laws.specs.OutputCount.{length-of-look_all, length-of-run, output_count}
use Rattle.laws.specs.Flatten.Matching.{Kept, kept-still, kept_on, Matches, matches-kept, look_all-matches}
use Rattle.laws.specs.Flatten.Matching.{pairs_match, inputs_match, in_front}

-- An interpreter whose gates each give one value.
abbrev pub single : {A : Type 0} → (ℕ → List A → A) → Meaning A
single value kind vs = value kind vs ∷ []

-- What an occurrence refers to, among these modules, gives as many values as the occurrence drives nets.
abbrev pub referred : {A : Type 0} → A → (ℕ → List A → A) → List Module → Meaning A
referred unset value ms = apply (single value) (run unset (single value) ms)

pub length-of-referred :
    {A : Type 0} (unset : A) (value : ℕ → List A → A) {ms : List Module} {o : Occurrence} (vs : List A)
    → Reference ms o
    → length o.drives ≡ length (referred unset value ms o.refers vs)
length-of-referred unset value vs (to_gate g takes drives) = rw g (sym drives)
length-of-referred unset value {ms} {o} vs (to_module m g found takes drives) =
    rw g (drives ∙ sym (length-of-run unset (single value) ms o.refers vs ∙ ap output_count found))

-- What was placed stands for these values, and everything is kept.
pub record Shows {A : Type 0} (Fine : Board → Type 0) (Is : Board → ℕ → A → Type 0)
    (a : Board) (p : Placed) (vs : List A) : Type 0 where
  pub kept : Kept Fine Is a p.board
  pub outputs : Forall₂ (Is p.board) p.nets vs

length-of-related : {A B : Type 0} {R : A → B → Type 0} {xs : List A} {ys : List B} → Forall₂ R xs ys → length xs ≡ length ys
length-of-related Forall₂.nil = refl
length-of-related (Forall₂.cons r rs) = ap suc (length-of-related rs)

module _ {A : Type 0} (unset : A) (value : ℕ → List A → A) (Fine : Board → Type 0) (Is : Board → ℕ → A → Type 0) where
  -- Each gate is set down so on nets that stand for its arguments.
  pub record Gates : Type 0 where
    pub shows :
        (kind : ℕ) {nets : List ℕ} {vs : List A} (b : Board)
        → is_gate kind ≡ true
        → (gate kind).arity ≡ length nets
        → Forall₂ (Is b) nets vs
        → Shows Fine Is b (place_gate kind nets b) (single value kind vs)

  -- Each module of a list is placed so on nets that stand for the values of its inputs.
  pub record Modules (ms : List Module) : Type 0 where
    pub shows :
        (number : ℕ) {m : Module}
        → Stands number m ms
        → {nets : List ℕ} {vs : List A} (b : Board)
        → length nets ≡ length m.inputs
        → Forall₂ (Is b) nets vs
        → Shows Fine Is b (place ms number nets b) (run unset (single value) ms number vs)

  module _ (gates : Gates) where
    referred-shows :
        {ms : List Module} {o : Occurrence} {nets : List ℕ} {vs : List A} (b : Board)
        → Modules ms
        → Reference ms o
        → length nets ≡ length o.takes
        → Forall₂ (Is b) nets vs
        → Shows Fine Is b (place_referred (place ms) o.refers nets b) (referred unset value ms o.refers vs)
    referred-shows {o = o} b later (to_gate g takes drives) count rs = rw g (gates.shows o.refers b g (takes ∙ sym count) rs)
    referred-shows {ms} {o} b later (to_module m g found takes drives) count rs =
        rw g (later.shows o.refers (stands o.refers ms found) b (count ∙ takes) rs)

    -- Where a walk over occurrences has come to.
    record Walks (a : Board) (signals : List ℕ) (w : Walked) (env : Env A) : Type 0 where
      kept : Kept Fine Is a w.board
      matches : Matches unset Is w.board signals w.env env

    body-shows :
        {ms : List Module} {signals : List ℕ} {os : List Occurrence} {a : Board} {w : Walked} {env : Env A}
        → Modules ms
        → Body ms signals os
        → Walks a signals w env
        → Walks a (driven os ++ signals)
        (place_body (place ms) os w)
        (walk unset (single value) (run unset (single value) ms) os env)
    unfolding place_body walk driven
    body-shows later done h = h
    body-shows {ms} {signals} {w = w} {env} later (step {o = o} {os} ok rest) h =
        let taken = look_all-matches o.takes (λ x i. subset_in o.takes signals ok.bound i) h.matches in
        let shown = referred-shows w.board later ok.reference (length-of-look_all 0 o.takes w.env) taken in
        let count = length-of-referred unset value (look_all unset o.takes env) ok.reference in
        let bound = pairs_match o.drives count shown.outputs (matches-kept shown.kept h.matches) in
        let w' = body-shows later rest (record { kept = kept_on h.kept shown.kept; matches = bound }) in
        record {
          kept = w'.kept;
          matches = record { at = λ x i. w'.matches.at x (in_front o.drives (driven os) signals i) };
        }

    module_shows :
        {m : Module} {ms : List Module} {nets : List ℕ} {vs : List A} (b : Board)
        → Modules ms
        → ModuleOk m ms
        → length nets ≡ length m.inputs
        → Forall₂ (Is b) nets vs
        → Shows Fine Is b (place_module (place ms) m nets b) (run_module unset (single value) (run unset (single value) ms) m vs)
    unfolding place_module run_module
    module_shows {m} b later ok count rs =
        let start = inputs_match m.inputs (sym count ∙ length-of-related rs) rs in
        let w = body-shows later ok.body (record { kept = kept-still b; matches = start }) in
        record {
          kept = w.kept;
          outputs =
              look_all-matches m.outputs
              (λ x i. in_left m.inputs (subset_in m.outputs (driven m.occurrences) ok.outputs_driven i))
              w.matches;
        }

    pub place-shows : {ms : List Module} → Accepted ms → Modules ms
    unfolding place run
    place-shows none = record { shows = λ number s. elim s [ ] }
    place-shows (some {m} {later} ok rest) = record { shows = λ number s b. go number s (place-shows rest) b }
      where
        go :
            (number : ℕ) {k : Module}
            → Stands number k (m ∷ later)
            → Modules later
            → {nets : List ℕ} {vs : List A} (b : Board)
            → length nets ≡ length k.inputs
            → Forall₂ (Is b) nets vs
            → Shows Fine Is b (place (m ∷ later) number nets b) (run unset (single value) (m ∷ later) number vs)
        go number (here h) shown b count rs = rw h (module_shows b shown ok count rs)
        go number (there h s) shown b count rs = rw h (shown.shows number s b count rs)
