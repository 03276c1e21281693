-- A loop that notes where each module begins: the places noted so far and those still to come are all places.
use Prim.Native.Nat.{ℕ, suc, ◌+◌, ◌-◌, ◌≤◌, ◌<◌}
use mathlib.Core.Path.{◌≡◌, refl, ap, ◌∙◌}
use mathlib.Core.List.{List, [], ◌∷◌, ◌++◌, map, append_assoc, append-nil}
use native.Mathlib.Omega.{arith}
use lib.ListN.{length, set, length-append, length-map}
use Rattle.meaning.specs.Layout.{module_numbers}
use Rattle.meaning.specs.Reading.{refused, read_module}
use Rattle.read_parts.specs.Numbers.{laid}
use Rattle.read_file.specs.Starts.{behind, begun, numbers_to}
use Rattle.read_parts.specs.Steps.{step_from}
use Rattle.read_file.specs.Noted.{places_from, Noted}
use Rattle.read_parts.specs.Laid.{laid_more, laid-over, length-laid}
use Rattle.read_parts.specs.Reached.{Reached}
use Rattle.read_parts.specs.declared.way.Spot.{Spot}

-- One entry more is noted.
laid_next : (xs old now : List ℕ) (i v : ℕ) → now ≡ laid xs old → i ≡ length xs → i < length now
    → set now i v ≡ laid (xs ++ (v ∷ [])) old
laid_next xs old now i v lays e fits =
    let lies : laid xs now ≡ now = rw lays (laid-over xs xs old (omega arith)) in
    let l = length-append xs (v ∷ []) in
    laid_more xs now i v lies e fits
    ∙ ap (λ (t : List ℕ). laid (xs ++ (v ∷ [])) t) lays
    ∙ laid-over xs (xs ++ (v ∷ [])) old (omega arith)

map_more : (f : ℕ → ℕ) (xs : List ℕ) (v : ℕ) → map f (xs ++ (v ∷ [])) ≡ map f xs ++ (f v ∷ [])
map_more f [] v = refl
map_more f (x ∷ xs) v = ap (λ (t : List ℕ). f x ∷ t) (map_more f xs v)

-- The place of a module that is read, and those of the modules behind it.
places-next : {bytes old new : List ℕ} {spot next : Spot} (k : ℕ) → Reached module_numbers read_module bytes spot old next new
    → places_from bytes (suc k) spot ≡ spot.place ∷ places_from bytes k next
unfolding begun behind
places-next k w = rw w.step

-- The place of a module that is refused is the last.
places-ended : (bytes : List ℕ) (spot : Spot) {number place : ℕ} (k : ℕ) → step_from read_module bytes spot ≡ refused number place
    → places_from bytes (suc k) spot ≡ spot.place ∷ []
unfolding begun behind
places-ended bytes spot k e = rw e

pub record Noting (bytes all : List ℕ) (left : ℕ) (spot : Spot) (i : ℕ) (starts₀ starts offsets₀ offsets : List ℕ) : Type 0 where
  pub done : List ℕ
  pub count : i ≡ length done
  pub splits : all ≡ done ++ places_from bytes left spot
  pub noted : Noted bytes done starts₀ starts offsets₀ offsets

pub noting-first : {bytes starts offsets : List ℕ} {count : ℕ} {spot : Spot}
    → Noting bytes (places_from bytes count spot) count spot 0 starts starts offsets offsets
noting-first = record { done = []; count = refl; splits = refl; noted = record { in_numbers = refl; in_bytes = refl } }

module _ {bytes all starts₀ starts offsets₀ offsets : List ℕ} {left i : ℕ} {spot : Spot}
    (t : Noting bytes all left spot i starts₀ starts offsets₀ offsets) where
  -- Nothing is left to note.
  pub noting-last : left ≤ 0 → Noted bytes all starts₀ starts offsets₀ offsets
  unfolding begun
  noting-last h =
      let e : left ≡ 0 = omega arith in
      let same : all ≡ t.done = t.splits ∙ rw (e, append-nil) in
      rw same t.noted

  -- The lists stay as long as they are.
  pub noting_starts : i ≤ length starts₀ → length starts ≡ length starts₀
  noting_starts h =
      let l = length-map t.done (numbers_to bytes) in
      ap length t.noted.in_numbers ∙ length-laid (map (numbers_to bytes) t.done) starts₀ (omega (arith, t.count))

  pub noting_offsets : i ≤ length offsets₀ → length offsets ≡ length offsets₀
  noting_offsets h = ap length t.noted.in_bytes ∙ length-laid t.done offsets₀ (omega (arith, t.count))

  -- The place where reading stands is noted.
  module _ (count : spot.filled ≡ numbers_to bytes spot.place) (more : 0 < left)
      (fits : i < length starts) (fits' : i < length offsets) where
    to-come : all ≡ t.done ++ places_from bytes (suc (left - 1)) spot
    to-come =
        let k : left ≡ suc (left - 1) = omega arith in
        t.splits ∙ ap (λ (n : ℕ). t.done ++ places_from bytes n spot) k

    noted_here : Noted bytes (t.done ++ (spot.place ∷ []))
        starts₀ (set starts i spot.filled) offsets₀ (set offsets i spot.place)
    noted_here =
        let l = length-map t.done (numbers_to bytes) in
        record {
          in_numbers = rw (map_more, ← count)
              (laid_next (map (numbers_to bytes) t.done) starts₀ starts i spot.filled t.noted.in_numbers
              (omega (arith, t.count)) fits);
          in_bytes = laid_next t.done offsets₀ offsets i spot.place t.noted.in_bytes t.count fits';
        }

    pub noting-refused : {number place : ℕ} → step_from read_module bytes spot ≡ refused number place
        → Noted bytes all starts₀ (set starts i spot.filled) offsets₀ (set offsets i spot.place)
    noting-refused e =
        let same : all ≡ t.done ++ (spot.place ∷ []) = to-come ∙ rw (places-ended bytes spot (left - 1) e) in
        rw same noted_here

    pub noting-next : {old new : List ℕ} {next : Spot} → Reached module_numbers read_module bytes spot old next new
        → Noting bytes all (left - 1) next (i + 1) starts₀ (set starts i spot.filled) offsets₀ (set offsets i spot.place)
    noting-next w =
        let l = length-append t.done (spot.place ∷ []) in
        record {
          done = t.done ++ (spot.place ∷ []);
          count = omega (arith, t.count);
          splits = to-come ∙ rw (places-next (left - 1) w, append_assoc);
          noted = noted_here;
        }
