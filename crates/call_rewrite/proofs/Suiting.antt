-- The modules of an accepted file can be rewritten where the new file has few occurrences; and from the file's numbers and places the new file
-- can be written.
use Prim.Native.Nat.{ℕ, ◌*◌, ◌≤◌, zero, suc, ◌<◌}
use mathlib.Core.Path.{◌≡◌, sym, ap}
use mathlib.Core.Bool.{true, false, true≢false}
use mathlib.Core.List.{List, ◌∷◌, [], map}
use native.Mathlib.Omega.{arith}
use borrow.Author.Tests.{leb-true}
use lib.Dec.{leb}
use lib.ListN.{length, get_or, drop, length-drop, set, length-map, length-set}
use Rattle.meaning.specs.Lists.{All, none, more}
use Rattle.meaning.specs.Syntax.{Occurrence, Module}
use Rattle.meaning.specs.Layout.{module_numbers, encode}
use Rattle.meaning.specs.Ceilings.{Bytes, Encodes}
use Rattle.meaning.specs.Reading.{most_occurrences}
use Rattle.meaning.specs.Withdrawn.{rewrite_body, unused, rewrite_module, rewrite_file, occurrences_ok}
use Rattle.laws.specs.Tests.{and_both}
use Rattle.laws.specs.Exactness.{exactness}
use Rattle.laws.specs.WellFormed.{Reference, to_gate, to_module, Body, done, step, Accepted}
use Rattle.laws.specs.Withdrawn.Kinds.{four-told, four_is}
use Rattle.laws.specs.Withdrawn.Counts.{occurrences_grow}
use Rattle.laws.specs.Withdrawn.Enough.{module_suits}
use Rattle.image.specs.Stands.{Stands}
use Rattle.image.specs.ResolvedLayout.{start_of, stands-at-start}
use Rattle.image.specs.Positions.{nothing-at}
use Rattle.open_places.specs.Places.{Shelved}
use Rattle.open_places.specs.Ends.{begins_with_end}
use Rattle.open_places.specs.Parts.{part-stands, part-next}
use Rattle.read_file.specs.Held.{holds-small}
use Rattle.rewrite_bytes.specs.Bodies.{Single}
use Rattle.rewrite_bytes.specs.Modules.{Suited, Rewritable, Part}
use Rattle.call_rewrite.specs.Growing.{Keeping}
use Rattle.call_rewrite.proofs.Longer.{file-long}

-- A gate drives one net.
single-gate : {later : List Module} {o : Occurrence} → Reference later o → Single o
single-gate (to_gate h arity single) four = sym single
single-gate {o = o} (to_module m h found t d) four =
    let one = (four_is (four-told o.refers four)).is_one in
    let no : true ≡ false = cc in
    absurd (true≢false no)

singles : {later : List Module} {signals : List ℕ} {os : List Occurrence} → Body later signals os → All Single os
singles done = none
singles (step ok rest) = more (single-gate ok.reference) (singles rest)

pub suited-all : {ms : List Module} → Accepted ms → occurrences_ok (rewrite_file ms) ≡ true → All Suited ms
unfolding rewrite_file rewrite_module occurrences_ok
suited-all Accepted.none few = none
suited-all (Accepted.some {m = m} {later = later} ok rest) few =
    let both = and_both (leb (length (rewrite_body (unused m) m.occurrences)) most_occurrences) (occurrences_ok (rewrite_file later)) few in
    more
    (record {
      suits = module_suits ok;
      single = singles ok.body;
      few = omega (arith, leb-true (length (rewrite_body (unused m) m.occurrences)) most_occurrences both.0, occurrences_grow (unused m) m.occurrences);
    })
    (suited-all rest both.1)

-- A module by its number, in the list of all numbers.
named-at : (ms : List Module) (j : ℕ) {m : Module} {later : List Module} → drop j ms ≡ m ∷ later → get_or (map (λ m. m.number) ms) j 0 ≡ m.number
named-at [] j e = absurd (nothing-at j e)
named-at (first ∷ ms) zero {m} e = let same : first ≡ m = cc in ap (λ (n : Module). n.number) same
named-at (first ∷ ms) (suc j) e = named-at ms j e

module _ {file numbers starts offsets own : List ℕ} {modules : ℕ} (bytes : Bytes file) (k : Keeping file numbers starts offsets modules own) where
  pub encodes : Encodes file k.ms
  encodes = exactness file bytes k.ms k.reads

  pub last_fits : modules < length offsets
  last_fits = omega (arith, k.all, encodes.within.modules.count, k.offsets_long)

  pub stands : (j : ℕ) (m : Module) (later : List Module) → drop j k.ms ≡ m ∷ later → Stands numbers (get_or starts j 0) (module_numbers m)
  unfolding start_of
  stands j m later here =
      let start : get_or starts j 0 ≡ start_of k.ms j = k.starts_are j (omega (arith, ap length here, length-drop j k.ms)) in
      rw (k.numbers_are, start) (stands-at-start k.ms j here)

  shelved : Shelved file modules (map (λ m. m.number) k.ms) (set offsets modules (length file))
  shelved =
      record {
        ms = k.ms;
        all = k.all;
        reads = k.reads;
        encodes = encodes;
        listed = omega (arith, length-map k.ms (λ m. m.number));
        marked = omega (arith, k.all, last_fits, length-set offsets modules (length file));
        named = record { name = λ j here. named-at k.ms j here };
        begins = begins_with_end offsets k.offsets_are encodes k.all last_fits;
      }

  pub parts : (j : ℕ) (m : Module) (later : List Module) → drop j k.ms ≡ m ∷ later → Part file (set offsets modules (length file)) j m
  unfolding shelved
  parts j m later here = record { stands = part-stands shelved j here; next = part-next shelved j here }

  -- The new file has at most three bytes for one of the file, so these are enough for it.
  pub new-fits : (new : ℕ) → 3 * length file ≤ new → length (encode (rewrite_file k.ms)) ≤ new
  new-fits new enough = omega (arith, file-long k.accepted, ap length encodes.encoded)

  pub file-short : length file ≤ 65535
  file-short = omega (arith, ap length encodes.encoded, encodes.within.bytes)

  abbrev pub rewritable : (new : ℕ) → 3 * length file ≤ new → Rewritable file numbers starts (set offsets modules (length file)) modules own new
  rewritable new enough =
      record {
        ms = k.ms;
        all = k.all;
        few = encodes.within.modules.count;
        small = rw k.numbers_are (holds-small file k.ms k.reads bytes);
        starts_long = k.starts_long;
        offsets_long = omega (arith, k.all, last_fits, length-set offsets modules (length file));
        own_long = omega (arith, encodes.within.modules.count, k.own_long);
        stands = stands;
        parts = parts;
        owned = k.owned;
        suited = suited-all k.accepted k.few;
        room = new-fits new enough;
      }
