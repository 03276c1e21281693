-- A resolved file can be run on frames: of a file that fits, the resolved one is `FramesOk`.
use Rattle.std.specs.Prelude.{ℕ, zero, suc, ◌+◌, ◌<◌, ◌≡◌, refl, true, List, [], ◌∷◌, ◌++◌, map, length, get_or}
use Rattle.std.proofs.Common.{sym, ap, subst, ◌∙◌, append_assoc, not-suc-le-zero, le_of_suc-le-suc, length-append}
use Rattle.std.proofs.lemmas.List.{length-map}
use Rattle.meaning.specs.Syntax.{Occurrence, Module}
use Rattle.meaning.specs.Boxlist.{box, assoc, member, subset}
use Rattle.meaning.specs.Limits.{driven}
use Rattle.meaning.specs.Adder.{up_from}
use Rattle.laws.specs.WellFormed.{Reference, to_gate, to_module}
use Rattle.nets.specs.Slots.{slot_of}
use Rattle.nets.specs.Booleans.{and_left, and_right}
use Rattle.nets.specs.SlotLaws.{slot-below}
use Rattle.image.specs.Resolved.{position_of, nets_of, resolve_occurrence, resolve_module, resolve_from, resolve}
use Rattle.image.specs.Frames.{Filled, Framed, FrameOk, FramesOk}
use Rattle.image.specs.Fitting.{ModuleFits, Fits, none, some}
use Rattle.image.specs.Shapes.{inputs-of-resolved, outputs-of-resolved, length-of-nets, net_count-of-resolved}
use Rattle.image.specs.Searching.{assoc-search}
use Rattle.image.specs.Positions.{found_at, says_at}
use Rattle.image.specs.Referring.{Refers, refers-whole, refers-behind, refer_no_gate}
use Rattle.image.specs.Ordered.{Ordered, done, step, ordered, slot-known, outputs-known}
use Rattle.image.specs.OwnSlots.{own-slots}
use Rattle.image.specs.ResolvedLayout.{resolve_from-at, numbered-resolve_from}

-- A module that is found is found resolved, at its position.
pub found-resolved :
    {refer : ℕ → ℕ} {position : ℕ} {ms : List Module}
    → Refers refer position ms
    → (number : ℕ) (m : Module)
    → assoc number ms ≡ box m
    → assoc (refer number) (resolve_from refer position ms) ≡ box (resolve_module refer (position + position_of number ms) m)
found-resolved {refer} {position} {ms} refers number m e =
    ap (λ (n : ℕ). assoc n (resolve_from refer position ms)) (refers.modules number m e)
    ∙ says_at assoc-search (position_of number ms) (numbered-resolve_from refer position ms)
    (resolve_from-at refer position (position_of number ms) ms (found_at number ms e))

reference-resolved :
    {refer : ℕ → ℕ} {position : ℕ} {later : List Module} (slot : ℕ → ℕ) {o : Occurrence}
    → Refers refer position later
    → Reference later o
    → Reference (resolve_from refer position later) (resolve_occurrence slot refer o)
reference-resolved {refer} slot {o} refers (to_gate h arity drives) =
    let same = refers.gates o.refers h in
    to_gate (rw same h) (rw (same, length-map) arity) (rw length-map drives)
reference-resolved {refer} {position} {later} slot {o} refers (to_module m h e takes drives) =
    let at = position + position_of o.refers later in
    to_module (resolve_module refer at m) (refer_no_gate refers o.refers m e) (found-resolved refers o.refers m e)
    (length-map o.takes slot ∙ takes ∙ sym (inputs-of-resolved refer at m))
    (length-map o.drives slot ∙ drives ∙ sym (outputs-of-resolved refer at m))

filled-slots :
    (nets : List ℕ) {slot : ℕ → ℕ}
    → ((x : ℕ) → member x nets ≡ true → slot x ≡ slot_of x nets)
    → (xs : List ℕ)
    → subset xs nets ≡ true
    → Filled (length nets) (map slot xs)
unfolding subset
filled-slots nets {slot} slots xs within = record { slot = below xs within }
  where
    below : (xs : List ℕ) → subset xs nets ≡ true → (i : ℕ) → i < length (map slot xs) → get_or (map slot xs) i 0 < length nets
    below [] s i h = absurd (not-suc-le-zero h)
    below (x ∷ xs) s zero h =
        let among = and_left (member x nets) (subset xs nets) s in
        rw (slots x among) (slot-below x nets among)
    below (x ∷ xs) s (suc i) h = below xs (and_right (member x nets) (subset xs nets) s) i (le_of_suc-le-suc h)

framed-resolved :
    {refer : ℕ → ℕ} {position : ℕ} {later : List Module} (all : List ℕ) {nets : List ℕ} {os : List Occurrence}
    → Refers refer position later
    → all ≡ nets ++ driven os
    → Ordered later nets os
    → Framed (resolve_from refer position later) (length nets) (map (resolve_occurrence (λ x. slot_of x all) refer) os)
unfolding driven
framed-resolved all refers e done = Framed.done
framed-resolved {refer} {position} {later} all {nets} refers e (step {o} {os} ok rest) =
    Framed.step
    (filled-slots nets (slot-known all nets (driven (o ∷ os)) e) o.takes ok.bound)
    (reference-resolved (λ x. slot_of x all) refers ok.reference)
    (subst
    (λ (filled : ℕ). Framed (resolve_from refer position later) filled (map (resolve_occurrence (λ x. slot_of x all) refer) os))
    (length-append nets o.drives ∙ ap (λ (n : ℕ). length nets + n) (sym (length-map o.drives (λ x. slot_of x all))))
    (framed-resolved all refers (e ∙ sym (append_assoc nets o.drives (driven os))) rest))

module_resolved :
    {refer : ℕ → ℕ} {position : ℕ} {m : Module} {later : List Module}
    → Refers refer (suc position) later
    → ModuleFits m later
    → FrameOk position (resolve_module refer position m) (resolve_from refer (suc position) later)
unfolding resolve_module nets_of
module_resolved {refer} {position} {m} {later} refers ok =
    let count = net_count-of-resolved refer position m in
    record {
      numbered = refl;
      framed = rw length-map (framed-resolved (nets_of m) refers refl (ordered ok));
      answered = rw (count, ← length-of-nets m) (filled-slots (nets_of m) (λ x among. refl) m.outputs (outputs-known ok));
      nets = rw count ok.nets;
      slots = own-slots refer position ok ∙ ap (up_from 0) (sym count);
    }

file-resolved :
    {refer : ℕ → ℕ} {position : ℕ} {ms : List Module}
    → Refers refer position ms
    → Fits ms
    → FramesOk position (resolve_from refer position ms)
unfolding resolve_from
file-resolved refers none = FramesOk.none
file-resolved refers (some ok rest) =
    let behind = refers-behind ok refers in
    FramesOk.some (module_resolved behind ok) (file-resolved behind rest)

pub resolved-ok : {ms : List Module} → Fits ms → FramesOk 0 (resolve ms)
unfolding resolve
resolved-ok fits = file-resolved (refers-whole fits) fits
