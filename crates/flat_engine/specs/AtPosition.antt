-- The module of a number stands resolved at its position, and placing it there is placing it in the file.
use Rattle.std.specs.Prelude.{ℕ, suc, ◌+◌, ◌≡◌, List, ◌∷◌, length, drop}
use Rattle.std.proofs.Common.{zero-le, sym, ap, ◌∙◌}
use Rattle.meaning.specs.Syntax.{Module}
use Rattle.meaning.specs.Boxlist.{box, assoc}
use Rattle.meaning.specs.Limits.{net_count}
use Rattle.meaning.specs.Figures.{largest_referred, room}
use Rattle.meaning.specs.Flattening.{Board, Placed, place}
use Rattle.image.specs.Resolved.{position_of, refer_to, resolve_module, resolve_from, resolve}
use Rattle.image.specs.Fitting.{Fits}
use Rattle.image.specs.Searching.{Search, room-search}
use Rattle.image.specs.Positions.{found_at, says-from}
use Rattle.image.specs.Shapes.{inputs-of-resolved, outputs-of-resolved}
use Rattle.image.specs.ResolvedLayout.{numbered-resolve, resolved-at}
use Rattle.image.specs.ResolvedFigures.{room-resolved}
use Rattle.flat_engine.specs.Placing.{place_frame, place_frames}
use Rattle.flat_engine.specs.PlacingMeans.{place_frames-search, frames-place}

pub record AtPosition (ms : List Module) (number : ℕ) (m : Module) (k : ℕ) : Type 0 where
  pub r : Module
  pub later : List Module
  pub here : drop k (resolve ms) ≡ r ∷ later
  pub inputs : length r.inputs ≡ length m.inputs
  pub outputs : length r.outputs ≡ length m.outputs
  pub room : net_count r + largest_referred (room later) r.occurrences ≡ room ms number
  pub place :
      (nets : List ℕ) (b : Board)
      → length nets ≡ length m.inputs
      → place_frame (place_frames later) r nets b ≡ place ms number nets b

pub at_position :
    {ms : List Module}
    → Fits ms
    → (number : ℕ) (m : Module)
    → assoc number ms ≡ box m
    → (k : ℕ)
    → k ≡ position_of number ms
    → AtPosition ms number m k
at_position {ms} fits number m found k e =
    record {
      r = r;
      later = later;
      here = here;
      inputs = inputs-of-resolved (refer_to ms) k m;
      outputs = outputs-of-resolved (refer_to ms) k m;
      room = sym (says room-search) ∙ ap (λ (j : ℕ). room (resolve ms) (16 + j)) e ∙ room-resolved fits number m found;
      place = λ nets b count.
          ap (λ (places : List ℕ → Board → Placed). places nets b) (sym (says place_frames-search))
          ∙ ap (λ (j : ℕ). place_frames (resolve ms) (16 + j) nets b) e
          ∙ frames-place fits number m found nets b count;
    }
  where
    r : Module
    r = resolve_module (refer_to ms) k m

    later : List Module
    later = resolve_from (refer_to ms) (suc k) (drop (suc (position_of number ms)) ms)

    here : drop k (resolve ms) ≡ r ∷ later
    here = resolved-at ms k (ap (λ (j : ℕ). drop j ms) e ∙ found_at number ms found)

    says : {C : Type 0} {f : List Module → ℕ → C} {own : Module → List Module → C} → Search f own → f (resolve ms) (16 + k) ≡ own r later
    says search = says-from search 0 k (numbered-resolve ms) zero-le here
