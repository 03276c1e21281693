-- A module marked and written part by part.
use Prim.Native.Nat.{ℕ, zero, suc, ◌+◌, ◌-◌, ◌*◌, ◌<◌}
use mathlib.Core.Path.{◌≡◌, refl, sym, ap, subst, ◌∙◌}
use mathlib.Core.Bool.{Bool, true, false, cond, ◌||◌, or_assoc, true≢false}
use mathlib.Core.List.{List, [], ◌∷◌, ◌++◌, map, append_assoc}
use native.Mathlib.Omega.{arith}
use lib.ListN.{length, get_or, take, drop, length-append, length-map}
use Rattle.meaning.specs.Lists.{All}
use Rattle.meaning.specs.Syntax.{Occurrence, Module}
use Rattle.meaning.specs.Boxlist.{member}
use Rattle.meaning.specs.Layout.{each, list_numbers, number_bytes, occurrence_numbers, module_numbers, encode}
use Rattle.meaning.specs.Withdrawn.{withdrawn, three_gates, body_nets, mentioned, unused, rewrite_body, rewrite_module, rewrite_file}
use Rattle.laws.specs.Lists.{each_append, each-of-each}
use Rattle.laws.specs.Written.{occurrence_bytes, module_bytes, bytes-of-file}
use Rattle.laws.specs.Adder.Distinct.{member-append}
use Rattle.laws.specs.Withdrawn.Suits.{fours}
use Rattle.laws.specs.Withdrawn.Counts.{occurrences_grow}
use Rattle.image.specs.Stands.{Stands, stands-front, stands-part}
use Rattle.image.specs.Pieces.{ModuleAt, module_at}
use Rattle.open_finding.specs.Here.{Here}
use Rattle.rewrite_bytes.specs.Used.{Stamped}
use Rattle.rewrite_bytes.specs.Modules.{Suited, Part}
use Rattle.rewrite_bytes.proofs.Stamping.{stamped-same}

-- Nothing is marked yet.
pub none-stamped : {table : List ℕ} {stamp : ℕ} → ((x : ℕ) → get_or table x 0 < stamp) → Stamped table stamp (λ x. false)
none-stamped older = record { inside = λ x e. absurd (true≢false (sym e)); outside = λ x e. older x }

pub all-stamped :
    (m : Module) {table : List ℕ} {stamp : ℕ} (xs ys : List ℕ)
    → xs ≡ m.inputs
    → ys ≡ m.outputs
    → Stamped table stamp (λ x. ((false || member x xs) || member x ys) || member x (body_nets m.occurrences))
    → Stamped table stamp (λ x. member x (mentioned m))
unfolding mentioned
all-stamped m xs ys is_x is_y s =
    stamped-same (λ x. ((false || member x xs) || member x ys) || member x (body_nets m.occurrences)) (λ x. member x (mentioned m))
    (λ x.
    rw (is_x, is_y, member-append x m.inputs (m.outputs ++ body_nets m.occurrences), member-append x m.outputs (body_nets m.occurrences))
    (sym (or_assoc (member x m.inputs) (member x m.outputs) (member x (body_nets m.occurrences)))))
    s

-- What stands in front of the count of occurrences.
abbrev pub front : Module → List ℕ
front m = m.number ∷ (list_numbers m.inputs ++ list_numbers m.outputs)

split : (m : Module) → module_numbers m ≡ front m ++ (length m.occurrences ∷ each occurrence_numbers m.occurrences)
unfolding module_numbers
split m = ap (λ (l : List ℕ). m.number ∷ l) (sym (append_assoc (list_numbers m.inputs) (list_numbers m.outputs) _))

front_long : (m : Module) → length (front m) ≡ 3 + length m.inputs + length m.outputs
front_long m = omega (arith, length-append (list_numbers m.inputs) (list_numbers m.outputs))

module _ {numbers : List ℕ} {start : ℕ} (m : Module) (s : Stands numbers start (module_numbers m)) where
  pub parts : ModuleAt numbers start m
  parts = module_at m s

  pub inputs-part : (n p : ℕ) → n ≡ length m.inputs → p ≡ start + 2 → take n (drop p numbers) ≡ m.inputs
  inputs-part n p count from = rw count (stands-part (parts.inputs p from))

  pub outputs-part : (n p : ℕ) → n ≡ length m.outputs → p ≡ start + 3 + length m.inputs → take n (drop p numbers) ≡ m.outputs
  outputs-part n p count from = rw count (stands-part (parts.outputs p from))

  pub front-part : (n : ℕ) → n ≡ 3 + length m.inputs + length m.outputs → take n (drop start numbers) ≡ front m
  front-part n count =
      let same : n ≡ length (front m) = omega (arith, front_long m) in
      rw same
      (stands-part (stands-front (length m.occurrences ∷ each occurrence_numbers m.occurrences) (subst (Stands numbers start) (split m) s)))

pub module-bytes :
    (m : Module)
    → module_bytes (rewrite_module m)
    ≡ each number_bytes (front m)
    ++ (number_bytes (length m.occurrences + 2 * fours m.occurrences) ++ each occurrence_bytes (rewrite_body (unused m) m.occurrences))
unfolding rewrite_module each
module-bytes m =
    rw (
      split (rewrite_module m),
      each_append number_bytes (front m) (length (rewrite_body (unused m) m.occurrences) ∷ each occurrence_numbers (rewrite_body (unused m) m.occurrences)),
      each-of-each number_bytes occurrence_numbers (rewrite_body (unused m) m.occurrences),
      occurrences_grow (unused m) m.occurrences,
    )

-- A module that has none of the four gates stays as it is.
kept-body : (fresh : List ℕ) (os : List Occurrence) → fours os ≡ 0 → rewrite_body fresh os ≡ os
unfolding fours rewrite_body
kept-body fresh [] few = refl
kept-body fresh (o ∷ os) few = go (withdrawn o.refers) few (kept-body fresh os)
  where
    go : (b : Bool) → cond b 1 0 + fours os ≡ 0 → (fours os ≡ 0 → rewrite_body fresh os ≡ os)
        → cond b (three_gates (get_or fresh 0 0) (get_or fresh 1 0) o ++ rewrite_body (drop 2 fresh) os) (o ∷ rewrite_body fresh os) ≡ o ∷ os
    go true few rest = absurd (omega arith)
    go false few rest = ap (λ (l : List Occurrence). o ∷ l) (rest (omega arith))

pub kept-bytes : (m : Module) → fours m.occurrences ≡ 0 → module_bytes (rewrite_module m) ≡ module_bytes m
unfolding rewrite_module module_numbers
kept-bytes m few = rw (kept-body (unused m) m.occurrences few)

pub kept-part :
    {file offsets : List ℕ} {k : ℕ} (m : Module) → Part file offsets k m → fours m.occurrences ≡ 0
    → take (get_or offsets (k + 1) 0 - get_or offsets k 0) (drop (get_or offsets k 0) file) ≡ module_bytes (rewrite_module m)
kept-part {file} {offsets} {k} m p few =
    let long : get_or offsets (k + 1) 0 - get_or offsets k 0 ≡ length (module_bytes m) = omega (arith, p.next) in
    ap (λ (n : ℕ). take n (drop (get_or offsets k 0) file)) long ∙ stands-part p.stands ∙ sym (kept-bytes m few)

-- The modules from a position on: the first one, and those behind it.
pub next_module :
    {ms : List Module} {k : ℕ} (h : Here ms k)
    → each module_bytes (rewrite_file (drop k ms)) ≡ module_bytes (rewrite_module h.m) ++ each module_bytes (rewrite_file (drop (k + 1) ms))
unfolding rewrite_file each
next_module h = rw (h.after, h.here)

suited-drop : (k : ℕ) {ms : List Module} → All Suited ms → All Suited (drop k ms)
suited-drop zero h = h
suited-drop (suc k) All.none = All.none
suited-drop (suc k) (All.more own h) = suited-drop k h

suited-first : {m : Module} {later : List Module} → All Suited (m ∷ later) → Suited m
suited-first (All.more own h) = own

pub suited-here : {ms : List Module} {k : ℕ} (h : Here ms k) → All Suited ms → Suited h.m
suited-here {k = k} h all = suited-first (rw h.here at (suited-drop k all))

-- Once a module is marked the table has no stamp above its own.
pub older-now : {table : List ℕ} {stamp : ℕ} (used : ℕ → Bool) → Stamped table stamp used → (x : ℕ) → get_or table x 0 < stamp + 1
older-now {table} {stamp} used s x = go (used x) refl
  where
    go : (b : Bool) → used x ≡ b → get_or table x 0 < stamp + 1
    go true e = omega (arith, s.inside x e)
    go false e = omega (arith, s.outside x e)

-- The count of modules, and the modules.
pub file-long :
    (ms : List Module) (modules : ℕ) → modules ≡ length ms
    → encode (rewrite_file ms) ≡ number_bytes modules ++ each module_bytes (rewrite_file ms)
unfolding rewrite_file
file-long ms modules e = bytes-of-file (map rewrite_module ms) ∙ rw (length-map ms rewrite_module, e)
