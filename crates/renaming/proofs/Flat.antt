-- A flattened module is the same under other numbers, but for the module's own.
use Rattle.std.specs.Prelude.{ℕ, ◌≡◌, eqb}
use Rattle.std.proofs.Math.Path.{refl, ap}
use Rattle.std.proofs.Common.{◌∙◌}
use mathlib.Core.List.{List, [], ◌∷◌, ◌++◌, map}
use Rattle.meaning.specs.Syntax.{Occurrence, Module}
use Rattle.meaning.specs.Adder.{up_from}
use Rattle.meaning.specs.Evaluation.{Env, look_all, pairs}
use Rattle.meaning.specs.Flattening.{Board, Placed, Placing, place_referred, Walked, place_body, place_module, place, flat_module}
use Rattle.renaming.specs.Renamed.{OneToOne, KeepsGates, rename_occurrence, rename_module, Renamed, none, more}
use Rattle.renaming.specs.Searches.{either, Alike}
use Rattle.renaming.specs.Runs.{rename_env, look_all_renamed, pairs_renamed, env-append}
use Rattle.renaming.specs.Flat.{under, Places, walked, referred-placed}

module _ {number : ℕ → ℕ} (keeps : KeepsGates number) where
  module _ {l l' : Placing} (later : Alike Places number l l') where
    body-placed : {net : ℕ → ℕ} → OneToOne net → (os : List Occurrence) (w : Walked)
        → place_body l' (map (rename_occurrence net number) os) (walked net w) ≡ walked net (place_body l os w)
    unfolding place_body
    body-placed one [] w = refl
    body-placed {net} one (o ∷ os) w =
        let placed : Placed = place_referred l o.refers (look_all 0 o.takes w.env) w.board in
        let same : place_referred l' (number o.refers) (look_all 0 (map net o.takes) (rename_env net w.env)) w.board ≡ placed =
        ap (λ (nets : List ℕ). place_referred l' (number o.refers) nets w.board) (look_all_renamed 0 net one o.takes w.env)
        ∙ referred-placed keeps later o.refers (look_all 0 o.takes w.env) w.board in
        ap (λ (p : Placed). place_body l' (map (rename_occurrence net number) os) (record { env = pairs 0 (map net o.drives) p.nets ++ rename_env net w.env; board = p.board })) same
        ∙ ap (λ (e : Env ℕ). place_body l' (map (rename_occurrence net number) os) (record { env = e; board = placed.board })) (env-append 0 net o.drives placed.nets w.env)
        ∙ body-placed one os (record { env = pairs 0 o.drives placed.nets ++ w.env; board = placed.board })

    module_placed : {net : ℕ → ℕ} → OneToOne net → (m : Module) (nets : List ℕ) (board : Board)
        → place_module l' (rename_module net number m) nets board ≡ place_module l m nets board
    unfolding place_module
    module_placed {net} one m nets board =
        let start : Walked = record { env = pairs 0 m.inputs nets; board = board } in
        let end : Walked = place_body l m.occurrences start in
        let same : place_body l' (map (rename_occurrence net number) m.occurrences) (record { env = pairs 0 (map net m.inputs) nets; board = board }) ≡ walked net end =
        ap (λ (e : Env ℕ). place_body l' (map (rename_occurrence net number) m.occurrences) (record { env = e; board = board })) (pairs_renamed 0 net m.inputs nets)
        ∙ body-placed one m.occurrences start in
        ap (λ (w : Walked). record { nets = look_all 0 (map net m.outputs) w.env; board = w.board }) same
        ∙ ap (λ (ns : List ℕ). record { nets = ns; board = end.board }) (look_all_renamed 0 net one m.outputs end.env)

  place_renamed : {ms ns : List Module} → Renamed number ms ns → (x : ℕ) (nets : List ℕ) (board : Board)
      → place ns (number x) nets board ≡ place ms x nets board
  unfolding place
  place_renamed none x nets board = refl
  place_renamed (more {m} net one rest) x nets board =
      rw (keeps.one.tells x m.number)
      (either (λ (a b : Placed). a ≡ b) (eqb x m.number) (module_placed (record { at = λ n. record { on = λ xs b. place_renamed rest n xs b } }) one m nets board) (place_renamed rest x nets board))

  pub flat_renamed : {ms ns : List Module} → Renamed number ms ns → (x inputs : ℕ)
      → flat_module ns (number x) inputs ≡ under (number x) (flat_module ms x inputs)
  unfolding flat_module
  flat_renamed renamed x inputs =
      ap (λ (p : Placed). record { number = number x; inputs = up_from 0 inputs; outputs = p.nets; occurrences = p.board.gates })
      (place_renamed renamed x (up_from 0 inputs) (record { next = inputs; gates = [] }))
