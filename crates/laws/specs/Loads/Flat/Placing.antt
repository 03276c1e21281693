-- What holds of a walk over occurrences holds of each module of an accepted list, placed on any nets of a board.
use Prim.Native.Nat.{ℕ, ◌≤◌, ◌<◌}
use Rattle.std.specs.Prelude.{◌≡◌, ◌⊎◌, length}
use Rattle.std.proofs.Math.Path.{refl, sym, ap₂}
use Rattle.std.proofs.Common.{◌∙◌, inl, inr}
use mathlib.Core.List.{List, [], ◌∷◌, ◌++◌, map, append-nil}
use native.Mathlib.Omega.{arith}
use Rattle.std.proofs.Math.ListN.{length-map}
use Rattle.meaning.specs.Syntax.{Occurrence, Module}
use Rattle.meaning.specs.Members.{◌∈◌, Twice}
use Rattle.meaning.specs.Limits.{driven}
use Rattle.meaning.specs.Evaluation.{Env, look, look_all, pairs}
use Rattle.meaning.specs.Loads.{net_load, module_loads, loads_inside, largest_in, largest_load}
use Rattle.meaning.specs.Flattening.{Board, Walked, place_body, place_module, place}
use Rattle.laws.specs.WellFormed.{Body, done, step, ModuleOk, Accepted, none, some}
use Rattle.laws.specs.Tests.{if_false}
use Rattle.laws.specs.Members.{here, there, in_right, in_either, duplicates-tells, subset_in}
use Rattle.laws.specs.Standing.{Stands, here as first, there as behind}
use Rattle.laws.specs.OutputCount.{length-of-look_all}
use Rattle.laws.specs.Flatten.Environments.{look-given}
use Rattle.laws.specs.Flatten.Distinct.{New, place-new, look_all-each}
use Rattle.laws.specs.Loads.Places.{largest-has, largest-least}
use Rattle.laws.specs.Loads.Flat.Through.{through-given}
use Rattle.laws.specs.Loads.Flat.Board.{Clean, Loaded, LoadedModules, reference-loaded}
use Rattle.laws.specs.Loads.Flat.Walk.{Signals, Walks, after, walks-none}
use Rattle.laws.specs.Loads.Flat.Step.{signals-after}
use Rattle.laws.specs.Loads.Flat.Further.{walks-further}

module _ (env : Env ℕ) where
  look_all-loads :
      (f load : ℕ → ℕ) (xs : List ℕ)
      → ((x : ℕ) → x ∈ xs → f (look 0 x env) ≡ load x)
      → map f (look_all 0 xs env) ≡ map load xs
  unfolding look_all
  look_all-loads f load [] same = refl
  look_all-loads f load (x ∷ xs) same =
      ap₂ {C = List ℕ} ◌∷◌ (same x (here refl)) (look_all-loads f load xs (λ y i. same y (there i)))

module _ {ms : List Module} (later : LoadedModules ms) where
  body-loaded :
      {signals : List ℕ} {os : List Occurrence} (w : Walked)
      → Body ms signals os
      → Signals signals w
      → Walks ms signals os w (place_body (place ms) os w)
  unfolding place_body
  body-loaded w done s = walks-none w s.clean
  body-loaded {signals} w (step {o = o} ok rest) s =
      let l =
      reference-loaded (look_all 0 o.takes w.env) w.board later ok.reference
      (length-of-look_all 0 o.takes w.env)
      (look_all-each (λ y. y < w.board.next) w.env o.takes
      (λ x i. s.bound x (subset_in o.takes signals ok.bound i)))
      s.clean
      in
      walks-further ok s l (body-loaded (after o w _) rest (signals-after ok s l))

  module_loaded :
      {m : Module} (nets : List ℕ) (b : Board)
      → ModuleOk m ms
      → length nets ≡ length m.inputs
      → ((x : ℕ) → x ∈ nets → x < b.next)
      → Clean b
      → New b (place_module (place ms) m nets b) (length m.outputs)
      → Loaded b nets
      (place_module (place ms) m nets b)
      (module_loads (loads_inside ms) m)
      (largest_in (loads_inside ms) (largest_load ms) m)
      (length m.outputs)
  unfolding place_module
  module_loaded {m} nets b ok count below clean new =
      let load = net_load (loads_inside ms) m.occurrences in
      let own = m.inputs ++ driven m.occurrences in
      let once : ¬ (Twice m.inputs) = if_false (duplicates-tells m.inputs) ok.inputs_distinct in
      let start : Walked = record { env = pairs 0 m.inputs nets; board = b } in
      let bound : (x : ℕ) → x ∈ m.inputs → look 0 x (pairs 0 m.inputs nets) < b.next
      = λ x i. below _ (rw append-nil at (look-given [] m.inputs nets (sym count) x i)) in
      let w = body-loaded start ok.body (record { once = once; bound = bound; clean = clean }) in
      record {
        new = new;
        arity = length-map m.inputs load ∙ sym count;
        clean = w.clean;
        old = λ net low. omega (arith, w.old net low, through-given load m.inputs nets net once (sym count));
        outputs =
            look_all-loads _ _ load m.outputs
            (λ x i. w.drives x (subset_in m.outputs (driven m.occurrences) ok.outputs_driven i));
        within = w.within _ (λ x i. omega (arith, largest-has load own (in_right m.inputs i))) (omega arith);
        least = λ n news inputs.
            let of-inputs : (x : ℕ) → x ∈ m.inputs → load x ≤ n = λ x i. omega (arith, largest-has load m.inputs i) in
            let of-driven : (x : ℕ) → x ∈ driven m.occurrences → load x ≤ n
            = λ x i. omega (arith, w.drives x i, news _ (w.new x i)) in
            omega (
              arith,
              largest-least load own n (λ x i. either of-inputs of-driven x (in_either m.inputs i)),
              w.least n news of-inputs,
            );
      }
    where
      either :
          {xs ys : List ℕ} {P : ℕ → Type 0}
          → ((x : ℕ) → x ∈ xs → P x)
          → ((x : ℕ) → x ∈ ys → P x)
          → (x : ℕ)
          → (x ∈ xs) ⊎ (x ∈ ys)
          → P x
      either f g x (inl i) = f x i
      either f g x (inr i) = g x i

pub place-loaded : {ms : List Module} → Accepted ms → LoadedModules ms
unfolding place loads_inside largest_load
place-loaded none = record { loaded = λ number s. elim s [ ] }
place-loaded (some {m} {later} ok rest) =
    record { loaded = λ number s nets b. go number s nets b (place-loaded rest) ((place-new (some ok rest)).new number s nets b) }
  where
    go :
        (number : ℕ) {k : Module}
        → Stands number k (m ∷ later)
        → (nets : List ℕ) (b : Board)
        → LoadedModules later
        → New b (place (m ∷ later) number nets b) (length k.outputs)
        → length nets ≡ length k.inputs
        → ((x : ℕ) → x ∈ nets → x < b.next)
        → Clean b
        → Loaded b nets (place (m ∷ later) number nets b)
        (loads_inside (m ∷ later) number)
        (largest_load (m ∷ later) number)
        (length k.outputs)
    go number (first h) nets b l new count below clean = rw h (module_loaded l nets b ok count below clean (rw h at new))
    go number (behind h s) nets b l new count below clean = rw h (l.loaded number s nets b count below clean)
