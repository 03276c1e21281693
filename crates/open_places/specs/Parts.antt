-- The bytes of a module are the part of its file between its place and the next.
use Rattle.std.specs.Prelude.{ℕ, ◌+◌, ◌<◌, ◌≡◌, get_or, drop}
use Rattle.std.proofs.Common.{sym, ◌∙◌, arith, length-append, length-drop, take-append-drop, take-add}
use Rattle.std.proofs.Math.Path.{ap}
use mathlib.Core.List.{List, [], ◌∷◌, ◌++◌, append-nil}
use Rattle.std.proofs.Math.ListN.{length, take}
use Rattle.std.proofs.Math.Seq.{drop-append_seam}
use Rattle.meaning.specs.Syntax.{Module}
use Rattle.meaning.specs.Layout.{each, number_bytes, module_numbers, file_numbers, encode}
use Rattle.meaning.specs.Shelves.{bytes_of}
use Rattle.laws.specs.Lists.{each_append}
use Rattle.image.specs.Stands.{Stands}
use Rattle.read_file.specs.Held.{in_front}
use Rattle.open_places.specs.Places.{Shelved}

module _ (ms : List Module) (k : ℕ) {m : Module} {later : List Module} (here : drop k ms ≡ m ∷ later) where
  -- What stands in front of the next module is what stands in front of this one, and this one.
  front-next : in_front ms (k + 1) ≡ in_front ms k ++ module_numbers m
  unfolding each
  front-next =
      ap (λ (l : List Module). length ms ∷ each module_numbers l) (take-add k 1 ms ∙ ap (λ (l : List Module). take k ms ++ take 1 l) here)
      ∙ ap (λ (l : List ℕ). length ms ∷ l) (each_append module_numbers (take k ms) (m ∷ []))
      ∙ ap (λ (l : List ℕ). length ms ∷ (each module_numbers (take k ms) ++ l)) (append-nil (module_numbers m))

  -- The whole, with the module in its place.
  file-around : encode ms ≡ each number_bytes (in_front ms k) ++ (bytes_of m ++ each number_bytes (each module_numbers later))
  unfolding encode file_numbers each
  file-around =
      ap (λ (l : List Module). each number_bytes (length ms ∷ each module_numbers l)) (sym (take-append-drop k ms) ∙ ap (λ (l : List Module). take k ms ++ l) here)
      ∙ ap (λ (l : List ℕ). each number_bytes (length ms ∷ l)) (each_append module_numbers (take k ms) (m ∷ later))
      ∙ each_append number_bytes (in_front ms k) (module_numbers m ++ each module_numbers later)
      ∙ ap (λ (l : List ℕ). each number_bytes (in_front ms k) ++ l) (each_append number_bytes (module_numbers m) (each module_numbers later))

stands-between : (file xs ys zs : List ℕ) (at : ℕ) → file ≡ xs ++ (ys ++ zs) → at ≡ length xs → Stands file at ys
stands-between file xs ys zs at is place =
    record {
      rest = zs;
      here = rw (is, place) (drop-append_seam xs (ys ++ zs));
      within = omega (arith, ap length is, length-append xs (ys ++ zs), length-append ys zs);
    }

module _ {file : List ℕ} {modules : ℕ} {names places : List ℕ} (s : Shelved file modules names places) (k : ℕ) {m : Module}
    {later : List Module} (here : drop k s.ms ≡ m ∷ later) where
  pub part-within : k < length s.ms
  part-within = omega (arith, ap length here, length-drop k s.ms)

  pub part-next : get_or places (k + 1) 0 ≡ get_or places k 0 + length (bytes_of m)
  part-next =
      let bytes : each number_bytes (in_front s.ms (k + 1)) ≡ each number_bytes (in_front s.ms k) ++ bytes_of m
      = ap (each number_bytes) (front-next s.ms k here) ∙ each_append number_bytes (in_front s.ms k) (module_numbers m) in
      let inside = part-within in
      omega (
        arith,
        s.begins k (omega arith),
        s.begins (k + 1) (omega arith),
        ap length bytes,
        length-append (each number_bytes (in_front s.ms k)) (bytes_of m),
      )

  pub part-stands : Stands file (get_or places k 0) (bytes_of m)
  part-stands =
      let inside = part-within in
      stands-between file (each number_bytes (in_front s.ms k)) (bytes_of m) (each number_bytes (each module_numbers later)) (get_or places k 0)
      (sym s.encodes.encoded ∙ file-around s.ms k here)
      (s.begins k (omega arith))
