-- The load is that of Brock and Hunt: on an accepted list LEVAL of document 000 gives for each module the loads of its inputs and outputs
-- inside it and its largest load, though it takes a body among all modules but the first, whichever module was found.
use Rattle.std.specs.Prelude.{ℕ, ◌≤◌, ◌≡◌, refl, true, false, cond, ◌⊎◌, List, [], ◌∷◌, ◌++◌, map, eqb}
use Rattle.std.proofs.Common.{◌∙◌, inl, inr, arith, le-ltb}
use Rattle.meaning.specs.Syntax.{Occurrence, Module}
use Rattle.meaning.specs.Gates.{is_gate}
use Rattle.meaning.specs.Members.{◌∈◌, Twice}
use Rattle.meaning.specs.Boxlist.{box, F, assoc}
use Rattle.meaning.specs.Limits.{driven}
use Rattle.meaning.specs.Verdict.{good, file_verdict}
use Rattle.meaning.specs.Figures.{largest}
use Rattle.meaning.specs.Loads.{referred_loads, net_load, module_loads, loads_inside, largest_in, largest_load}
use Rattle.meaning.specs.Leval.{Pair, loading_of, pairlist, Triple, lapply, leval_body, leval_box, leval}
use Rattle.laws.specs.WellFormed.{Reference, to_gate, to_module, Body, done, step, ModuleOk, Accepted, none, some}
use Rattle.laws.specs.Accepted.{good-accepted}
use Rattle.laws.specs.Tests.{if_true, if_false}
use Rattle.laws.specs.Members.{in_left, in_right, duplicates-tells, disjoint-tells}
use Rattle.laws.specs.Nets.{twice-append}
use Rattle.laws.specs.Standing.{Stands, here, there, stands, number_of, keeps-rules}
use Rattle.laws.specs.Suffix.{Searches, assoc_searches}
use Rattle.laws.specs.References.{another-number}
use Rattle.laws.specs.Loads.Suffix.{loads_inside_searches, largest_load_searches}
use Rattle.laws.specs.Loads.Places.{largest-has, largest-least, none-either_way}
use Rattle.laws.specs.Loads.Leval.Alist.{names, names-of-pairlist, collected}
use Rattle.laws.specs.Loads.Leval.Body.{Done, none_done, after, distinct, names-after, further-done}

-- What our figures say of a number, as LEVAL says it.
abbrev figures : List Module → ℕ → Triple
figures ms number =
    record {
      inputs = (loads_inside ms number).inputs;
      outputs = (loads_inside ms number).outputs;
      maximum = largest_load ms number;
    }

figures-search : Searches figures
figures-search =
    record { passes = λ m ms number h. rw (loads_inside_searches.passes m ms number h, largest_load_searches.passes m ms number h) }

-- LEVAL T of some list says this of gates and of the modules of a list.
record Agrees (leval-t : ℕ → Triple) (ms : List Module) : Type 0 where
  of-gate : (kind : ℕ) → is_gate kind ≡ true → leval-t kind ≡ lapply kind
  of_module : (number : ℕ) {m : Module} → is_gate number ≡ false → assoc number ms ≡ box m → leval-t number ≡ figures ms number

module _ {ms : List Module} {leval-t : ℕ → Triple} (agrees : Agrees leval-t ms) where
  abbrev costs : Occurrence → Triple
  costs o =
      record {
        inputs = (referred_loads (loads_inside ms) o).inputs;
        outputs = (referred_loads (loads_inside ms) o).outputs;
        maximum = cond (is_gate o.refers) 1 (largest_load ms o.refers);
      }

  costs-of : {o : Occurrence} → Reference ms o → leval-t o.refers ≡ costs o
  costs-of {o} (to_gate g takes drives) = agrees.of-gate o.refers g ∙ rw (g, takes)
  costs-of {o} (to_module m g found takes drives) = agrees.of_module o.refers g found ∙ rw g

unloaded : (x : ℕ) (xs : List ℕ) → loading_of x (pairlist xs []) ≡ 0
unfolding loading_of pairlist
unloaded x [] = refl
unloaded x (y ∷ ys) = rw (unloaded x ys) (none-either_way (eqb x y))

triple_same :
    {i j o p : List ℕ} {n k : ℕ}
    → i ≡ j
    → o ≡ p
    → n ≡ k
    → ◌≡◌ {A = Triple} (record { inputs = i; outputs = o; maximum = n }) (record { inputs = j; outputs = p; maximum = k })
triple_same e f g = cc

module _ {ms : List Module} {leval-t : ℕ → Triple} (agrees : Agrees leval-t ms) where
  body-done :
      {signals : List ℕ} {os : List Occurrence} (alist : List Pair)
      → Body ms signals os
      → ¬ (Twice signals)
      → names alist ≡ signals
      → Done ms signals os alist (leval_body leval-t os alist)
  unfolding leval_body
  body-done alist done once bound = none_done alist once bound
  body-done {signals} alist (step {o = o} ok rest) once bound =
      let apart = if_true (disjoint-tells o.drives signals) ok.fresh in
      let further = twice-append o.drives signals (distinct alist ok bound) once apart in
      rw (costs-of agrees ok.reference)
      (further-done alist ok bound (body-done (after alist ok bound) rest further (names-after alist ok bound)))

  -- A box whose references are among these modules.
  box-loads :
      (m : Module)
      → ModuleOk m ms
      → leval_box leval-t (box m)
      ≡ record {
        inputs = (module_loads (loads_inside ms) m).inputs;
        outputs = (module_loads (loads_inside ms) m).outputs;
        maximum = largest_in (loads_inside ms) (largest_load ms) m;
      }
  box-loads m ok =
      let load = net_load (loads_inside ms) m.occurrences in
      let own = m.inputs ++ driven m.occurrences in
      let once : ¬ (Twice m.inputs) = if_false (duplicates-tells m.inputs) ok.inputs_distinct in
      let d = body-done (pairlist m.inputs []) ok.body once (names-of-pairlist m.inputs []) in
      let result = leval_body leval-t m.occurrences (pairlist m.inputs []) in
      let reads : (x : ℕ) → loading_of x result.alist ≡ load x = λ x. omega (arith, d.reads x, unloaded x m.inputs) in
      let most = largest_in (loads_inside ms) (largest_load ms) m in
      let within : result.maximum ≤ most = d.least most (λ x i. omega (arith, reads x, net x i)) (omega arith) in
      let least = largest-least load own result.maximum (λ x i. omega (arith, reads x, d.has x)) in
      triple_same
      (collected load m.inputs result.alist reads)
      (collected load m.outputs result.alist reads)
      (omega (arith, d.referred))
    where
      net :
          (x : ℕ)
          → (x ∈ m.inputs) ⊎ (x ∈ driven m.occurrences)
          → net_load (loads_inside ms) m.occurrences x
          ≤ largest (map (net_load (loads_inside ms) m.occurrences) (m.inputs ++ driven m.occurrences))
      net x (inl i) = largest-has _ (m.inputs ++ driven m.occurrences) (in_left (driven m.occurrences) i)
      net x (inr i) = largest-has _ (m.inputs ++ driven m.occurrences) (in_right m.inputs i)

agrees-behind :
    {m : Module} {ms : List Module} {leval-t : ℕ → Triple} → assoc m.number ms ≡ F → Agrees leval-t (m ∷ ms) → Agrees leval-t ms
agrees-behind {m} {ms} unique agrees =
    record {
      of-gate = agrees.of-gate;
      of_module = λ number g found.
          let other = another-number number m.number ms found unique in
          agrees.of_module number g (assoc_searches.passes m ms number other ∙ found) ∙ figures-search.passes m ms number other;
    }

-- The box of a number, its body taken in the very list where it was found.
box-agrees :
    {ms : List Module} {leval-t : ℕ → Triple} {number : ℕ} {m : Module}
    → Accepted ms
    → Agrees leval-t ms
    → Stands number m ms
    → leval_box leval-t (box m) ≡ figures ms number
unfolding loads_inside largest_load
box-agrees none agrees s = elim s [ ]
box-agrees (some {m} ok rest) agrees (here h) = rw h (box-loads (agrees-behind ok.unique agrees) m ok)
box-agrees (some ok rest) agrees (there h s) = rw h (box-agrees rest (agrees-behind ok.unique agrees) s)

leval-agrees : {ms : List Module} → Accepted ms → Agrees (leval ms) ms
unfolding leval loads_inside largest_load
leval-agrees none =
    record { of-gate = λ kind g. rw g; of_module = λ number g found. elim (stands number [] found) [ ] }
leval-agrees (some {m} {later} ok rest) =
    record {
      of-gate = λ kind g. rw g;
      of_module = λ number g found. rw (g, found) (go (leval-agrees rest) (stands number (m ∷ later) found));
    }
  where
    go :
        {number : ℕ} {k : Module}
        → Agrees (leval later) later
        → Stands number k (m ∷ later)
        → leval_box (leval later) (box k) ≡ figures (m ∷ later) number
    go agrees (here h) = rw h (box-loads agrees m ok)
    go agrees (there h s) = rw h (box-agrees rest agrees s)

pub load-is-leval :
    (ms : List Module) (number : ℕ) (m : Module)
    → file_verdict ms ≡ good
    → assoc number ms ≡ box m
    → leval ms number
    ≡ record {
      inputs = (loads_inside ms number).inputs;
      outputs = (loads_inside ms number).outputs;
      maximum = largest_load ms number;
    }
load-is-leval ms number m accepted found =
    let ok = good-accepted ms accepted in
    let at = stands number ms found in
    (leval-agrees ok).of_module number (le-ltb number 16 (omega (arith, number_of at, (keeps-rules ok at).1.above))) found
