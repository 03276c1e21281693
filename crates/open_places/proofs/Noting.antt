-- From what reading leaves to the modules' numbers and places.
use Prim.Native.Nat.{ℕ, ◌≤◌, ◌<◌}
use mathlib.Core.Path.{◌≡◌, sym, ap, ◌∙◌}
use mathlib.Core.List.{List, ◌∷◌, ◌++◌}
use native.Mathlib.Omega.{arith}
use lib.ListN.{length, get_or, set, drop, length-append, length-set, length-drop, get_or-append, take-append-drop}
use Rattle.meaning.specs.Syntax.{Module}
use Rattle.meaning.specs.Layout.{file_numbers}
use Rattle.meaning.specs.Ceilings.{Bytes, Encodes}
use Rattle.meaning.specs.Reading.{read}
use Rattle.laws.specs.Exactness.{exactness}
use Rattle.image.specs.Pieces.{ModuleAt, module_at}
use Rattle.image.specs.ResolvedLayout.{start_of, stands-at-start}
use Rattle.open_finding.specs.Here.{here-at}
use Rattle.read_file.specs.Answer.{Decoded}
use Rattle.read_file.specs.Held.{Held, held, IsRead, is_read}
use Rattle.read_file.specs.declared.Extent.{Extent}
use Rattle.refusals.specs.declared.Refusal.{Refusal}
use Rattle.std.specs.Prelude.{Result, Ok}
use Rattle.open_places.specs.Places.{Headed, Named, Shelved}
use Rattle.open_places.specs.Ends.{begins_with_end}

-- A module's number stands at its start.
module _ {file numbers starts places : List ℕ} {ms : List Module} (held : Held file ms numbers starts places) (k : ℕ) {m : Module}
    {later : List Module} (here : drop k ms ≡ m ∷ later) where
  at-start : ModuleAt (file_numbers ms) (start_of ms k) m
  at-start = module_at m (stands-at-start ms k here)

  start : get_or starts k 0 ≡ start_of ms k
  unfolding start_of
  start = held.starts_are k (omega (arith, ap length here, length-drop k ms))

  whole : numbers ≡ file_numbers ms ++ drop (length (file_numbers ms)) numbers
  whole =
      sym (take-append-drop (length (file_numbers ms)) numbers)
      ∙ ap (λ (l : List ℕ). l ++ drop (length (file_numbers ms)) numbers) held.numbers_are

  head-inside : get_or starts k 0 < length numbers
  head-inside = omega (arith, start, at-start.inside, ap length whole, length-append (file_numbers ms) (drop (length (file_numbers ms)) numbers))

  head-number : get_or numbers (get_or starts k 0) 0 ≡ m.number
  head-number =
      ap (λ (l : List ℕ). get_or l (get_or starts k 0) 0) whole
      ∙ ap (λ (i : ℕ). get_or (file_numbers ms ++ drop (length (file_numbers ms)) numbers) i 0) start
      ∙ get_or-append (file_numbers ms) (drop (length (file_numbers ms)) numbers) 0 (start_of ms k) at-start.inside
      ∙ at-start.number

module _ {file numbers numbers' starts starts' places places' : List ℕ} {reading : Result Extent Refusal} (bytes : Bytes file)
    (d : Decoded file numbers numbers' starts starts' places places' reading) {extent : Extent} (e : reading ≡ Ok extent)
  where
    abbrev pub modules : ℕ
    modules = extent.modules

    it : IsRead (read file) extent.modules extent.numbers
    it = is_read (sym e ∙ d.answers)

    kept : Held file it.ms numbers' starts' places'
    kept = held bytes d it.is

    encodes : Encodes file it.ms
    encodes = exactness file bytes it.ms it.is

    pub few : modules ≤ 128
    few = omega (arith, it.modules_are, encodes.within.modules.count)

    pub headed : {names : List ℕ} → 128 ≤ length starts' → 128 ≤ length names → Headed numbers' starts' modules names
    headed {names} started room =
        record {
          ms = it.ms;
          all = it.modules_are;
          started = omega (arith, few, it.modules_are);
          inside = λ k h. head-inside kept k (here-at it.ms k h).here;
          head = λ k here. head-number kept k here;
          room = omega (arith, few, it.modules_are);
        }

    pub shelved :
        {names names' : List ℕ}
        → 128 ≤ length starts'
        → 128 ≤ length names
        → length names' ≡ length names
        → 128 < length places'
        → ((h : Headed numbers' starts' modules names) → Named h.ms names')
        → Shelved file modules names' (set places' modules (length file))
    unfolding headed
    shelved started listed long room named =
        record {
          ms = it.ms;
          all = it.modules_are;
          reads = it.is;
          encodes = encodes;
          listed = omega (arith, few, it.modules_are);
          marked = omega (arith, few, it.modules_are, length-set places' modules (length file));
          named = named (headed started listed);
          begins = begins_with_end places' kept.offsets_are encodes it.modules_are (omega (arith, few));
        }
