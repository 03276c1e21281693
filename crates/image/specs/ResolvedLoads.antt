-- Resolution keeps loads: slots of two nets of a module differ where the nets do, so a slot stands as an argument wherever its net does,
-- and is driven where its net is.
use Prim.Native.Nat.{ℕ, suc, ◌+◌, max}
use Rattle.std.specs.Prelude.{◌≡◌, Bool, false, ◌||◌, eqb, get_or}
use Rattle.std.proofs.Math.Path.{refl, sym, ap, ap₂}
use Rattle.std.proofs.Common.{◌∙◌, true≢false, eqb-true, eq-eqb, ne_eqb}
use Rattle.std.proofs.Math.Bool.{true, cond}
use mathlib.Core.List.{List, [], ◌∷◌, ◌++◌, map, append_assoc}
use Rattle.std.proofs.lemmas.Bool.{eqb-false}
use Rattle.std.proofs.lemmas.List.{length-map}
use Rattle.meaning.specs.Syntax.{Occurrence, Module}
use Rattle.meaning.specs.Boxlist.{box, assoc, member, subset}
use Rattle.meaning.specs.Limits.{driven}
use Rattle.meaning.specs.Figures.{largest}
use Rattle.meaning.specs.Loads.{places_load, Loads, gate_loads, referred_loads, net_load, loads_inside, largest_load}
use Rattle.nets.specs.Slots.{slot_of}
use Rattle.nets.specs.Booleans.{and_left, and_right}
use Rattle.nets.specs.Members.{subset_append_left, subset_append_right, subset_self}
use Rattle.image.specs.Resolved.{position_of, nets_of, slot_in, resolve_occurrence, resolve_module, resolve_from, resolve}
use Rattle.image.specs.Fitting.{Fits}
use Rattle.image.specs.Shapes.{nets-of-resolved}
use Rattle.image.specs.Searching.{loads_of, loads_inside-search, largest_load_of, largest_load-search}
use Rattle.image.specs.Keeping.{Turn, kept_throughout, kept_in_file}
use Rattle.image.specs.Ordered.{Ordered, done, step, ordered}
use Rattle.image.specs.ResolvedFigures.{Equal, SameReferred, references_same, largest_referred-kept}

-- At a net's slot stands the net.
slot-entry : (x : ℕ) (nets : List ℕ) → member x nets ≡ true → get_or nets (slot_of x nets) 0 ≡ x
unfolding member slot_of
slot-entry x [] among = absurd (true≢false (sym among))
slot-entry x (y ∷ nets) among = go (eqb x y) refl among (slot-entry x nets)
  where
    go :
        (b : Bool) → eqb x y ≡ b → (b || member x nets) ≡ true
        → (member x nets ≡ true → get_or nets (slot_of x nets) 0 ≡ x)
        → get_or (y ∷ nets) (cond b 0 (suc (slot_of x nets))) 0 ≡ x
    go true e among' rest = sym (eqb-true x y e)
    go false e among' rest = rest among'

module _ (all : List ℕ) where
  slots-differ : (x y : ℕ) → member x all ≡ true → member y all ≡ true → eqb (slot_of x all) (slot_of y all) ≡ eqb x y
  slots-differ x y xs ys = go (eqb x y) refl
    where
      go : (b : Bool) → eqb x y ≡ b → eqb (slot_of x all) (slot_of y all) ≡ b
      go true e = eq-eqb _ _ (ap (λ (n : ℕ). slot_of n all) (eqb-true x y e))
      go false e =
          ne_eqb _ _ (λ same. eqb-false x y e (sym (slot-entry x all xs) ∙ ap (λ (s : ℕ). get_or all s 0) same ∙ slot-entry y all ys))

  places_load-kept :
      (x : ℕ) → member x all ≡ true
      → (places loads : List ℕ) → subset places all ≡ true
      → places_load (slot_of x all) (map (λ y. slot_of y all) places) loads ≡ places_load x places loads
  unfolding places_load subset
  places_load-kept x among [] loads within = refl
  places_load-kept x among (y ∷ places) [] within = refl
  places_load-kept x among (y ∷ places) (load ∷ loads) within =
      let here = and_left (member y all) (subset places all) within in
      ap₂ (λ (b : Bool) (n : ℕ). cond b load 0 + n) (slots-differ x y among here)
      (places_load-kept x among places loads (and_right (member y all) (subset places all) within))

  net_load-kept :
      {refer : ℕ → ℕ} {later : List Module} {l l' : ℕ → Loads}
      → SameReferred refer later l l'
      → {nets : List ℕ} {os : List Occurrence}
      → all ≡ nets ++ driven os
      → Ordered later nets os
      → (x : ℕ)
      → member x all ≡ true
      → net_load l' (map (resolve_occurrence (λ y. slot_of y all) refer) os) (slot_of x all) ≡ net_load l os x
  unfolding net_load driven
  net_load-kept references e done x among = refl
  net_load-kept {refer} {later} {l} {l'} references {nets} e (step {o} {os} ok rest) x among =
      ap₂ ◌+◌
      (ap₂ ◌+◌
      (ap (λ (ls : Loads). places_load (slot_of x all) (map (λ y. slot_of y all) o.takes) ls.inputs) loads
      ∙ places_load-kept x among o.takes _ known)
      (ap (λ (ls : Loads). places_load (slot_of x all) (map (λ y. slot_of y all) o.drives) ls.outputs) loads
      ∙ places_load-kept x among o.drives _ own))
      (net_load-kept references (e ∙ sym (append_assoc nets o.drives (driven os))) rest x among)
    where
      known : subset o.takes all ≡ true
      known = ap (subset o.takes) e ∙ subset_append_left o.takes nets (driven (o ∷ os)) ok.bound

      own : subset o.drives all ≡ true
      own =
          ap (subset o.drives) e
          ∙ subset_append_right o.drives nets (driven (o ∷ os))
          (subset_append_left o.drives o.drives (driven os) (subset_self o.drives))

      loads : referred_loads l' (resolve_occurrence (λ y. slot_of y all) refer o) ≡ referred_loads l o
      loads = rw length-map (references.same (λ kind. gate_loads o) o ok.reference)

  net_loads_kept :
      {refer : ℕ → ℕ} {later : List Module} {l l' : ℕ → Loads}
      → SameReferred refer later l l'
      → {nets : List ℕ} {os : List Occurrence}
      → all ≡ nets ++ driven os
      → Ordered later nets os
      → (xs : List ℕ)
      → subset xs all ≡ true
      → map (net_load l' (map (resolve_occurrence (λ y. slot_of y all) refer) os)) (map (λ y. slot_of y all) xs)
      ≡ map (net_load l os) xs
  unfolding subset
  net_loads_kept references e body [] within = refl
  net_loads_kept references e body (x ∷ xs) within =
      ap₂ ◌∷◌
      (net_load-kept references e body x (and_left (member x all) (subset xs all) within))
      (net_loads_kept references e body xs (and_right (member x all) (subset xs all) within))

loads_inside-kept :
    (refer : ℕ → ℕ) (position : ℕ) (m : Module) (later : List Module)
    → Turn Equal loads_inside loads_inside refer position m later
    → loads_of (resolve_module refer position m) (resolve_from refer (suc position) later) ≡ loads_of m later
unfolding resolve_module nets_of
loads_inside-kept refer position m later turn =
    ap₂ (λ (ins outs : List ℕ). record { inputs = ins; outputs = outs })
    (kept m.inputs (subset_append_left m.inputs m.inputs (driven m.occurrences) (subset_self m.inputs)))
    (kept m.outputs (subset_append_right m.outputs m.inputs (driven m.occurrences) turn.ok.outputs_driven))
  where
    kept :
        (xs : List ℕ)
        → subset xs (nets_of m) ≡ true
        → map (net_load (loads_inside (resolve_from refer (suc position) later)) (resolve_module refer position m).occurrences) (map (slot_in m) xs)
        ≡ map (net_load (loads_inside later) m.occurrences) xs
    kept = net_loads_kept (nets_of m) (references_same turn.refers turn.before) refl (ordered turn.ok)

largest_load-kept :
    (refer : ℕ → ℕ) (position : ℕ) (m : Module) (later : List Module)
    → Turn Equal largest_load largest_load refer position m later
    → largest_load_of (resolve_module refer position m) (resolve_from refer (suc position) later) ≡ largest_load_of m later
unfolding resolve_module nets_of
largest_load-kept refer position m later turn =
    let inside = kept_throughout Equal loads_inside-search loads_inside-search loads_inside-kept turn.rest turn.refers in
    ap₂ max
    (ap largest
    (ap (map (net_load (loads_inside (resolve_from refer (suc position) later)) (resolve_module refer position m).occurrences))
    (nets-of-resolved refer position m)
    ∙ net_loads_kept (nets_of m) (references_same turn.refers inside) refl (ordered turn.ok) (nets_of m) (subset_self (nets_of m))))
    (largest_referred-kept (references_same turn.refers turn.before) (slot_in m) turn.ok.body)

module _ {ms : List Module} (fits : Fits ms) (number : ℕ) (m : Module) (found : assoc number ms ≡ box m) where
  pub largest_load-resolved : largest_load (resolve ms) (16 + position_of number ms) ≡ largest_load ms number
  largest_load-resolved = kept_in_file Equal largest_load-search largest_load-search largest_load-kept fits number m found
