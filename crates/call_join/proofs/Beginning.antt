-- From the files' modules by number and place to the joined file's modules, gathered.
use Prim.Native.Nat.{ℕ, zero, suc, ◌+◌, ◌-◌, ◌≤◌, ◌<◌}
use mathlib.Core.Path.{◌≡◌, refl, sym, ap, subst, ◌∙◌}
use mathlib.Core.Bool.{Bool, true, false, cond}
use mathlib.Core.List.{List, [], ◌∷◌, ◌++◌, append-nil}
use native.Mathlib.Omega.{arith}
use lib.ListN.{length, get_or, take, drop, replicate, length-append, length-drop, length-replicate, take-append-drop}
use lib.Seq.{drop-append_seam, take_all}
use Rattle.meaning.specs.Lists.{All, more}
use Rattle.meaning.specs.Syntax.{Module}
use Rattle.meaning.specs.Boxlist.{assoc, is_box}
use Rattle.meaning.specs.Layout.{each, number_bytes}
use Rattle.meaning.specs.Ceilings.{ModuleWithin}
use Rattle.meaning.specs.Reading.{fails, read, most_bytes}
use Rattle.meaning.specs.Shelves.{bytes_of, lacking, joined, join_on, joining}
use Rattle.laws.specs.Lists.{each_append, all-behind}
use Rattle.laws.specs.Written.{bytes-of-file}
use Rattle.laws.specs.Joining.{joined-within}
use Rattle.bytes_out.specs.Filled.{Put}
use Rattle.bytes_out.specs.Puts.{put-more}
use Rattle.open_finding.specs.Here.{here-at}
use Rattle.open_finding.specs.Finding.{Searchable}
use Rattle.open_places.specs.Places.{Shelved, Notes}
use Rattle.refusals.specs.declared.Refusal.{Refusal}
use Rattle.std.specs.Prelude.{Result, Ok, Err}
use Rattle.write_joined.specs.Marks.{Marks, Markable}
use Rattle.write_joined.specs.Gathering.{Gathering, Gathers}
use Rattle.write_joined.specs.declared.gathering.Gathered.{Gathered}
use Rattle.join_ending.specs.Joins.{Joins, neither}
use Rattle.join_ending.specs.Assembling.{Assembled}
use Rattle.call_join.specs.Begun.{join_house, Begun, Spaces}
use Rattle.two_files.specs.Whose.{refusal_of}
use Rattle.two_files.specs.declared.ShelfRefusal.{ShelfRefusal}

-- What noting a file's modules says of its answer.
module _ (file names places : List ℕ) (r : Result ℕ Refusal) (n : Notes r file names places) where
  pub noted-shelved : (modules : ℕ) → r ≡ Ok modules → Shelved file modules names places
  noted-shelved modules e = subst (λ (x : Result ℕ Refusal). Notes x file names places) e n

  pub noted-fails : (refusal : Refusal) → r ≡ Err refusal → read file ≡ fails refusal.number refusal.place
  noted-fails refusal e = subst (λ (x : Result ℕ Refusal). Notes x file names places) e n

zeros-clear : (n x : ℕ) → ◌≡◌ {A = ℕ} (get_or (replicate n 0) x 0) 0
zeros-clear zero x = refl
zeros-clear (suc n) zero = refl
zeros-clear (suc n) (suc x) = zeros-clear n x

-- What the house has that the group lacks is no longer than what the house has.
lacking_shorter : (own others : List Module) → length (each bytes_of (lacking own others)) ≤ length (each bytes_of others)
unfolding lacking each
lacking_shorter own [] = omega arith
lacking_shorter own (m ∷ others) = go (is_box (assoc m.number own)) (lacking_shorter own others)
  where
    go : (b : Bool) → length (each bytes_of (lacking own others)) ≤ length (each bytes_of others)
        → length (each bytes_of (cond b (lacking own others) (m ∷ lacking own others))) ≤ length (bytes_of m ++ each bytes_of others)
    go true h = omega (arith, length-append (bytes_of m) (each bytes_of others))
    go false h = omega (arith, length-append (bytes_of m) (each bytes_of others), length-append (bytes_of m) (each bytes_of (lacking own others)))

module _ {file : List ℕ} {modules : ℕ} {names places : List ℕ} (s : Shelved file modules names places) where
  abbrev pub searchable : Searchable names modules
  searchable = record { ms = s.ms; all = s.all; listed = s.listed; name = λ k e. s.named.name k e }

  -- Every number is below 16,384.
  pub name-small : (k : ℕ) → k < modules → get_or names k 0 < 16384
  name-small k h =
      let p = here-at s.ms k (omega (arith, s.all)) in
      let parts : take k s.ms ++ (p.m ∷ p.later) ≡ s.ms
      = ap (λ (l : List Module). take k s.ms ++ l) (sym p.here) ∙ take-append-drop k s.ms in
      go (all-behind (take k s.ms) (subst (All ModuleWithin) (sym parts) s.encodes.within.modules.modules)) (s.named.name k p.here)
    where
      go : {m : Module} {later : List Module} → All ModuleWithin (m ∷ later) → get_or names k 0 ≡ m.number → get_or names k 0 < 16384
      go (more w rest) e = omega (arith, w.number)

  -- The modules' bytes stand behind the count.
  bytes-are : file ≡ number_bytes (length s.ms) ++ each bytes_of s.ms
  bytes-are = sym s.encodes.encoded ∙ bytes-of-file s.ms

  pub modules-length : (length (each bytes_of s.ms) ≤ length file) × (length file ≤ most_bytes)
  modules-length = (
    omega (arith, ap length bytes-are, length-append (number_bytes (length s.ms)) (each bytes_of s.ms)),
    omega (arith, ap length s.encodes.encoded, s.encodes.within.bytes),
  )

  first-is : get_or places 0 0 ≡ length (number_bytes (length s.ms))
  unfolding each
  first-is = s.begins 0 (omega arith) ∙ simp append-nil

  pub first-within : get_or places 0 0 ≤ length file
  first-within = omega (arith, first-is, ap length bytes-are, length-append (number_bytes (length s.ms)) (each bytes_of s.ms))

  pub rest-is : take (length file - get_or places 0 0) (drop (get_or places 0 0) file) ≡ each bytes_of s.ms
  rest-is =
      take_all (length file - get_or places 0 0) (drop (get_or places 0 0) file) (omega (arith, length-drop (get_or places 0 0) file))
      ∙ ap (λ (i : ℕ). drop i file) first-is
      ∙ ap (drop (length (number_bytes (length s.ms)))) bytes-are
      ∙ drop-append_seam (number_bytes (length s.ms)) (each bytes_of s.ms)

  -- The group's numbers can be marked.
  pub markable : Markable names modules (replicate 16384 0)
  markable =
      record {
        search = searchable;
        indexed = λ k h. omega (arith, name-small k h, length-replicate {A = ℕ} 16384 0);
        clear = zeros-clear 16384;
      }

-- The house's modules behind the group's.
module _ {house : List ℕ} {own : Gathered} {marks numbers bytes : List ℕ} (b : Begun house own marks numbers bytes) where
  module _ {modules : ℕ} {names places : List ℕ} (s : Shelved house modules names places) where
    pub pieces-fit : own.at + length (each bytes_of (lacking b.own s.ms)) ≤ length bytes
    pieces-fit = omega (arith, b.room, lacking_shorter b.own s.ms, (modules-length s).0, (modules-length s).1)

    abbrev pub gathering : Gathering house names places modules marks bytes own
    gathering =
        record {
          own = b.own;
          marked = b.marked;
          shelved = s;
          indexed = λ k h. omega (arith, name-small s k h, b.indexes);
          few = omega (arith, b.count, b.within.modules.count);
          room = pieces-fit;
        }

    module _ {bytes' : List ℕ} {all : Gathered} (g : Gathers b.own s.ms bytes bytes' own all) where
      pub joined-put : Put (each bytes_of (joined b.own s.ms)) b.before 2 bytes' all.at
      unfolding joined
      joined-put =
          subst (λ (l : List ℕ). Put l b.before 2 bytes' all.at) (sym (each_append bytes_of b.own (lacking b.own s.ms)))
          (put-more b.put b.front g.put)

      pub joined-count : all.modules ≡ length (joined b.own s.ms)
      unfolding joined
      joined-count = omega (arith, g.count, b.count, length-append b.own (lacking b.own s.ms))

      abbrev pub assembled : Assembled all bytes'
      assembled =
          record {
            ms = joined b.own s.ms;
            count = joined-count;
            within = λ few short. joined-within b.within s.encodes.within few short;
            before = b.before;
            put = joined-put;
            room = omega (arith, g.put.place, pieces-fit, b.kept);
          }

      pub joins_house :
          (out : ℕ) {before after : List ℕ} {result : Result ℕ ShelfRefusal}
          → Joins (neither (join_on out (joined b.own s.ms))) before after result
          → Joins (join_house b.own house out) before after result
      joins_house out j = rw s.reads j

-- The group's file does not read.
pub refused-group :
    (group house : List ℕ) (out : ℕ) (before : List ℕ) {number place : ℕ} → read group ≡ fails number place
    → Joins (joining group house out) before before (Err (refusal_of 1 number place))
unfolding joining
refused-group group house out before e = rw e (record { is = refl; out = refl })

-- The group's modules gathered.
module _ {group house : List ℕ} {numbers bytes : ℕ} (spaces : Spaces group house numbers bytes) where
  module _ {modules : ℕ} {names places : List ℕ} (s : Shelved group modules names places) where
    abbrev pub begun :
        {numbers' marks before bytes' : List ℕ} {at : ℕ}
        → length numbers' ≡ numbers
        → length before ≡ bytes
        → length bytes' ≡ bytes
        → 16384 ≤ length marks
        → Marks marks s.ms
        → Put (take (length group - get_or places 0 0) (drop (get_or places 0 0) group)) before 2 bytes' at
        → Begun house (record { modules = modules; at = at }) marks numbers' bytes'
    begun {before = before} {bytes'} {at} long_numbers long_before long_bytes indexes marked put =
        record {
          own = s.ms;
          count = s.all;
          within = s.encodes.within;
          marked = marked;
          indexes = indexes;
          numbers_fit = omega (arith, spaces.house_fits);
          before = before;
          put = subst (λ (l : List ℕ). Put l before 2 bytes' at) (rest-is s) put;
          front = omega (arith, spaces.bytes_fit);
          room = omega (arith, put.place, ap length (rest-is s), (modules-length s).0, (modules-length s).1, spaces.bytes_fit);
          kept = omega (arith, long_before, long_bytes);
        }

module _ {group : List ℕ} {modules : ℕ} {names places : List ℕ} (s : Shelved group modules names places) where
  pub joins_both :
      (house : List ℕ) (out : ℕ) {before after : List ℕ} {result : Result ℕ ShelfRefusal}
      → Joins (join_house s.ms house out) before after result
      → Joins (joining group house out) before after result
  unfolding joining
  joins_both house out j = rw s.reads j
