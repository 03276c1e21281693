-- What was found in the modules of a file that are done, and what the check of those that are left asks.
use Rattle.std.specs.Prelude.{ℕ, ◌≤◌, ◌<◌, ◌≡◌, Result, Ok, Err, List, length, get_or, take, drop}
use Rattle.meaning.specs.Syntax.{Module}
use Rattle.meaning.specs.Layout.{file_numbers}
use Rattle.meaning.specs.Verdict.{good, refused, modules_verdict, sizes_verdict}
use Rattle.nets.specs.Slots.{Below}
use Rattle.image.specs.ResolvedLayout.{start_of}
use Rattle.image.specs.Fitting.{Fits}
use Rattle.check_lists.specs.Numbering.{Numbered, Ported, first_repeat}
use Rattle.check_lists.specs.Scene.{Indexes, Figured}
use Rattle.refusals.specs.Refused.{refusal_at}
use Rattle.refusals.specs.declared.Refusal.{Refusal}

-- The numbers are those of a file of so many modules, and each module's start is known.
pub record Laidout (numbers starts : List ℕ) (modules : ℕ) (ms : List Module) : Type 0 where
  pub numbers_are : numbers ≡ file_numbers ms
  pub starts_are : (k : ℕ) → k < length ms → get_or starts k 0 ≡ start_of ms k
  pub all : modules ≡ length ms
  pub few : length ms ≤ 128
  pub listed : length ms ≤ length starts

-- How the check ended: all fine, or what the file is refused with.
abbrev pub Found : Type 0
Found = Result (Unit {0}) Refusal

-- A size that is over its limit counts where nothing was found before.
abbrev pub over_of : Found → (place : ℕ) → Found
over_of (Ok fine) place = Err (refusal_at 17 place)
over_of (Err before) place = Err before

-- Why the modules from position k on are refused: one of them breaks a rule of 6 to 16, the first that does; or none does, and a size is
-- over its limit. Sizes count only where the whole file keeps rules 6 to 16.
pub data Refuses (r : Refusal) (k : ℕ) (ms : List Module) : Type 0 where
  broken : r.number ≤ 16 → modules_verdict k (drop k ms) ≡ refused r.number r.place → Refuses r k ms
  over : r.number ≡ 17 → modules_verdict k (drop k ms) ≡ good → (Fits ms → sizes_verdict k (drop k ms) ≡ refused 17 r.place) → Refuses r k ms

-- What was found in the modules from position k on.
abbrev pub Judges : Found → (k : ℕ) → (ms : List Module) → Type 0
Judges (Ok fine) k ms = (modules_verdict k (drop k ms) ≡ good) × (Fits ms → sizes_verdict k (drop k ms) ≡ good)
Judges (Err r) k ms = Refuses r k ms

-- The first position whose number stands on a later module too is known, of a file that is laid out; the count of modules where there is none.
pub record Repeating (numbers starts : List ℕ) (modules repeated : ℕ) : Type 0 where
  pub ms : List Module
  pub laidout : Laidout numbers starts modules ms
  pub repeats : repeated ≡ first_repeat ms
  pub short : length numbers ≤ 65535

-- What the modules from position k on come to is known without a check; where nothing was found there are none.
pub record Known (found : Found) (k : ℕ) (ms : List Module) : Type 0 where
  pub judged : Judges found k ms
  pub none : found ≡ Ok tt → k ≡ length ms

-- So many modules of a file are left, which no later module repeats; their numbers stand in front. What was found behind them is known.
pub record EachReady
    (numbers starts : List ℕ) (modules : ℕ) (found : Found) (first inputs outputs slots nets sizes rooms : List ℕ) : Type 0 where
  pub ms : List Module
  pub front : numbers ≡ take (start_of ms modules) (file_numbers ms)
  pub starts_are : (k : ℕ) → k < modules → get_or starts k 0 ≡ start_of ms k
  pub listed : modules ≤ length starts
  pub few : length ms ≤ 128
  pub numbered : Numbered first ms
  pub ported : Ported inputs outputs ms
  pub unrepeated : modules ≡ first_repeat ms
  pub behind : Known found modules ms
  pub indexes : Indexes first slots (file_numbers ms)
  pub short : length (file_numbers ms) ≤ 65535
  pub nets_long : modules ≤ length nets
  pub figured : Figured ms sizes rooms
  pub low_slots : Below 65536 slots
  pub low_rooms : Below 65536 rooms
