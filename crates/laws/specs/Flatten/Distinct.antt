-- The outputs of what was placed are new nets, all different: an output is a driven net, and each driven net stands for the net
-- that a gate of its own drives.
use Rattle.std.specs.Prelude.{ℕ, suc, ◌≤◌, ◌≡◌, refl, Bool, ◌⊎◌, List, [], ◌∷◌, ◌++◌, length}
use Rattle.std.proofs.Common.{sym, subst, ◌∙◌, inl, inr, arith}
use Rattle.meaning.specs.Syntax.{Occurrence, Module}
use Rattle.meaning.specs.Members.{◌∈◌, Twice, again, further}
use Rattle.meaning.specs.Limits.{driven}
use Rattle.meaning.specs.Evaluation.{Env, look, look_all, pairs}
use Rattle.meaning.specs.Flattening.{Board, Placed, place_gate, place_referred, Walked, place_body, place_module, place}
use Rattle.laws.specs.WellFormed.{Reference, to_gate, to_module, Body, done, step, ModuleOk, Accepted, none, some}
use Rattle.laws.specs.Tests.{Tells, tells_true, tells_false, if_false}
use Rattle.laws.specs.Members.{here, there, in-none, same_in, in_left, in_either, subset_in}
use Rattle.laws.specs.Members.{member-tells, duplicates-tells, twice-none, twice-one}
use Rattle.laws.specs.Standing.{Stands, here as first, there as after, stands}
use Rattle.laws.specs.OutputCount.{length-of-look_all}
use Rattle.laws.specs.Flatten.Numbered.{Between}
use Rattle.laws.specs.Flatten.Environments.{look-given, look-apart, look-other}
use Rattle.laws.specs.Flatten.Matching.{in_front}

-- What was placed from a board on has so many nets; they are new, and none is listed twice.
pub record New (a : Board) (p : Placed) (count : ℕ) : Type 0 where
  pub grown : a.next ≤ p.board.next
  pub between : (x : ℕ) → x ∈ p.nets → Between a.next p.board.next x
  pub once : ¬ (Twice p.nets)
  pub counted : length p.nets ≡ count

-- The modules of a list are placed so.
pub record NewModules (ms : List Module) : Type 0 where
  pub new :
      (number : ℕ) {m : Module}
      → Stands number m ms
      → (nets : List ℕ) (b : Board)
      → New b (place ms number nets b) (length m.outputs)

-- A gate drives the next net.
pub gate-new : (kind : ℕ) (nets : List ℕ) (b : Board) → New b (place_gate kind nets b) 1
gate-new kind nets b = record { grown = omega arith; between = one; once = twice-one; counted = refl }
  where
    one : (x : ℕ) → x ∈ (b.next ∷ []) → Between b.next (suc b.next) x
    one x (here e) = omega arith
    one x (there i) = absurd (in-none i)

reference-new :
    {ms : List Module} {o : Occurrence} (nets : List ℕ) (b : Board)
    → NewModules ms
    → Reference ms o
    → New b (place_referred (place ms) o.refers nets b) (length o.drives)
reference-new {o = o} nets b later (to_gate g takes drives) = rw (g, ← drives) (gate-new o.refers nets b)
reference-new {ms} {o} nets b later (to_module m g found takes drives) =
    rw (g, drives) (later.new o.refers (stands o.refers ms found) nets b)

-- Where a walk over occurrences has come to: each net driven so far stands for a new net of its own.
record Drives (a : Board) (nets : List ℕ) (w : Walked) : Type 0 where
  grown : a.next ≤ w.board.next
  between : (x : ℕ) → x ∈ nets → Between a.next w.board.next (look 0 x w.env)
  apart : (x y : ℕ) → x ∈ nets → y ∈ nets → look 0 x w.env ≡ look 0 y w.env → x ≡ y

-- A net among those driven by an occurrence, or one that reads as before.
data Spot (drives ds nets : List ℕ) (env : Env ℕ) (x : ℕ) : Type 0 where
  given : x ∈ drives → Spot drives ds nets env x
  before : x ∈ ds → look 0 x (pairs 0 drives nets ++ env) ≡ look 0 x env → Spot drives ds nets env x

spot : (drives ds nets : List ℕ) (env : Env ℕ) (x : ℕ) → x ∈ (drives ++ ds) → Spot drives ds nets env x
spot drives ds nets env x i = go (member-tells x drives) (in_either drives i)
  where
    go : {b : Bool} → Tells (x ∈ drives) (¬ (x ∈ drives)) b → (x ∈ drives) ⊎ (x ∈ ds) → Spot drives ds nets env x
    go (tells_true j) k = given j
    go (tells_false out) (inl j) = given j
    go (tells_false out) (inr j) = before j (look-other env drives nets x out)

drives-further :
    {a : Board} {ds : List ℕ} {w : Walked} {p : Placed} (drives : List ℕ)
    → Drives a ds w
    → New w.board p (length drives)
    → Drives a (drives ++ ds) (record { env = pairs 0 drives p.nets ++ w.env; board = p.board })
drives-further {a} {ds} {w} {p} drives h new =
    record {
      grown = omega (arith, h.grown, new.grown);
      between = λ x i. between x (spot drives ds p.nets w.env x i);
      apart = λ x y i j. apart x y (spot drives ds p.nets w.env x i) (spot drives ds p.nets w.env y j);
    }
  where
    env : Env ℕ
    env = pairs 0 drives p.nets ++ w.env

    fresh : (x : ℕ) → x ∈ drives → Between w.board.next p.board.next (look 0 x env)
    fresh x i = new.between (look 0 x env) (look-given w.env drives p.nets (sym new.counted) x i)

    between : (x : ℕ) → Spot drives ds p.nets w.env x → Between a.next p.board.next (look 0 x env)
    between x (given i) = omega (arith, fresh x i, h.grown)
    between x (before i same) = rw same (omega (arith, h.between x i, new.grown))

    apart :
        (x y : ℕ)
        → Spot drives ds p.nets w.env x
        → Spot drives ds p.nets w.env y
        → look 0 x env ≡ look 0 y env
        → x ≡ y
    apart x y (given i) (given j) e = look-apart w.env drives p.nets (sym new.counted) new.once x y i j e
    apart x y (given i) (before j same) e = absurd (omega (arith, fresh x i, h.between y j, same))
    apart x y (before i same) (given j) e = absurd (omega (arith, fresh y j, h.between x i, same))
    apart x y (before i same) (before j same') e = h.apart x y i j (sym same ∙ e ∙ same')

body-drives :
    {ms : List Module} {signals ds : List ℕ} {os : List Occurrence} {a : Board} {w : Walked}
    → NewModules ms
    → Body ms signals os
    → Drives a ds w
    → Drives a (driven os ++ ds) (place_body (place ms) os w)
unfolding place_body driven
body-drives later done h = h
body-drives {ds = ds} {w = w} later (step {o = o} {os} ok rest) h =
    let new = reference-new (look_all 0 o.takes w.env) w.board later ok.reference in
    let w' = body-drives later rest (drives-further o.drives h new) in
    record {
      grown = w'.grown;
      between = λ x i. w'.between x (in_front o.drives (driven os) ds i);
      apart = λ x y i j. w'.apart x y (in_front o.drives (driven os) ds i) (in_front o.drives (driven os) ds j);
    }

-- What holds of each net's reading holds of every reading.
pub look_all-each :
    (P : ℕ → Type 0) (env : Env ℕ) (xs : List ℕ)
    → ((x : ℕ) → x ∈ xs → P (look 0 x env))
    → (y : ℕ)
    → y ∈ look_all 0 xs env
    → P y
unfolding look_all
look_all-each P env [] each y i = absurd (in-none i)
look_all-each P env (x ∷ xs) each y (here e) = subst P (sym e) (each x (here refl))
look_all-each P env (x ∷ xs) each y (there i) = look_all-each P env xs (λ z j. each z (there j)) y i

look_all-once :
    (env : Env ℕ) (xs : List ℕ)
    → ¬ (Twice xs)
    → ((x y : ℕ) → x ∈ xs → y ∈ xs → look 0 x env ≡ look 0 y env → x ≡ y)
    → ¬ (Twice (look_all 0 xs env))
unfolding look_all
look_all-once env [] once apart t = twice-none t
look_all-once env (x ∷ xs) once apart (again i) =
    look_all-each (λ y. ¬ (look 0 x env ≡ y)) env xs
    (λ y j e. once (again (same_in (apart x y (here refl) (there j) e) j))) (look 0 x env) i refl
look_all-once env (x ∷ xs) once apart (further t) =
    look_all-once env xs (λ u. once (further u)) (λ y z i j. apart y z (there i) (there j)) t

module_new :
    {m : Module} {ms : List Module} (nets : List ℕ) (b : Board)
    → NewModules ms
    → ModuleOk m ms
    → New b (place_module (place ms) m nets b) (length m.outputs)
unfolding place_module
module_new {m} {ms} nets b later ok =
    let start : Walked = record { env = pairs 0 m.inputs nets; board = b } in
    let before : Drives b [] start
    = record { grown = omega arith; between = λ x i. absurd (in-none i); apart = λ x y i j. absurd (in-none i) } in
    let w = body-drives later ok.body before in
    let env = (place_body (place ms) m.occurrences start).env in
    record {
      grown = w.grown;
      between = look_all-each _ env m.outputs (λ x i. w.between x (output x i));
      once =
          look_all-once env m.outputs (if_false (duplicates-tells m.outputs) ok.outputs_distinct)
          (λ x y i j. w.apart x y (output x i) (output y j));
      counted = length-of-look_all 0 m.outputs env;
    }
  where
    output : (x : ℕ) → x ∈ m.outputs → x ∈ (driven m.occurrences ++ [])
    output x i = in_left [] (subset_in m.outputs (driven m.occurrences) ok.outputs_driven i)

pub place-new : {ms : List Module} → Accepted ms → NewModules ms
unfolding place
place-new none = record { new = λ number s. elim s [ ] }
place-new (some {m} {later} ok rest) = record { new = λ number s nets b. go number s nets b (place-new rest) }
  where
    go :
        (number : ℕ) {k : Module}
        → Stands number k (m ∷ later)
        → (nets : List ℕ) (b : Board)
        → NewModules later
        → New b (place (m ∷ later) number nets b) (length k.outputs)
    go number (first h) nets b new = rw h (module_new nets b new ok)
    go number (after h s) nets b new = rw h (new.new number s nets b)
