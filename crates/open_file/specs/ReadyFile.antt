-- From what reading leaves to the check of the modules, and from what that found to the answer on the file.
use Rattle.std.specs.Prelude.{ℕ, ◌≤◌, ◌<◌, ◌≡◌, List, ◌∷◌, ◌++◌, get_or, take, drop, Result, Ok, Err}
use Rattle.std.proofs.Common.{sym, subst, ◌∙◌, append_assoc, arith, length-append}
use Rattle.std.proofs.Math.Path.{ap}
use Rattle.std.proofs.Math.ListN.{length, length-drop}
use Rattle.std.proofs.lemmas.List.{drop-append-le}
use Rattle.meaning.specs.Syntax.{Module}
use Rattle.meaning.specs.Layout.{module_numbers, file_numbers}
use Rattle.meaning.specs.Ceilings.{Bytes, Within}
use Rattle.meaning.specs.Reading.{holds, read}
use Rattle.meaning.specs.Verdict.{refused, verdict_of, verdict}
use Rattle.laws.specs.Exactness.{exactness}
use Rattle.nets.specs.Slots.{Below}
use Rattle.image.specs.Stands.{Stands}
use Rattle.image.specs.Pieces.{moved}
use Rattle.image.specs.Resolved.{refer_to, resolve_module, resolve}
use Rattle.image.specs.ResolvedLayout.{start_of, stands-at-start, start-of-resolved, resolved-at}
use Rattle.refusals.specs.declared.Refusal.{Refusal}
use Rattle.read_file.specs.Answer.{Decoded}
use Rattle.read_file.specs.Held.{Held, held, IsRead, is_read, is-refused}
use Rattle.read_file.specs.declared.Extent.{Extent}
use Rattle.check_steps.specs.Found.{Found, Laidout}
use Rattle.check_files.specs.Files.{FileReady, FileFound}
use Rattle.open_file.specs.Prepared.{Space, prepared_of, Prepares}

-- A refusal of reading is the file's verdict.
pub read-refused : {file numbers numbers' starts starts' offsets offsets' : List ℕ} {reading : Result Extent Refusal} {refusal : Refusal} → Decoded file numbers numbers' starts starts' offsets offsets' reading
    → reading ≡ Err refusal → verdict file ≡ refused refusal.number refusal.place
unfolding verdict
read-refused {file} {refusal} d e = ap verdict_of (is-refused {file = read file} {refusal = refusal} (sym e ∙ d.answers))

-- What stands in a list stands in it whatever follows.
stands-before : {im : List ℕ} (rest : List ℕ) {at : ℕ} {xs : List ℕ} → Stands im at xs → Stands (im ++ rest) at xs
stands-before {im} rest {at} {xs} s =
    record {
      rest = s.rest ++ rest;
      here =
          drop-append-le at im rest (omega (arith, s.within))
          ∙ ap (λ (l : List ℕ). l ++ rest) s.here
          ∙ append_assoc xs s.rest rest;
      within = omega (arith, s.within, length-append im rest);
    }

-- Each module of the file stands resolved in the image.
stands-resolved :
    (ms : List Module) {image : List ℕ} → image ≡ file_numbers (resolve ms) → (k : ℕ) {start : ℕ} → start ≡ start_of ms k
    → {m : Module} {later : List Module}
    → drop k ms ≡ m ∷ later
    → Stands image start (module_numbers (resolve_module (refer_to ms) k m))
stands-resolved ms is k begins e =
    rw is (moved (start_of (resolve ms) k) (begins ∙ sym (start-of-resolved ms k)) (stands-at-start (resolve ms) k (resolved-at ms k e)))

module _ {file numbers numbers' starts starts' offsets offsets' : List ℕ} {reading : Result Extent Refusal} (bytes : Bytes file)
    (d : Decoded file numbers numbers' starts starts' offsets offsets' reading) {extent : Extent} (e : reading ≡ Ok extent)
  where
    abbrev pub modules : ℕ
    modules = extent.modules

    abbrev pub count : ℕ
    count = extent.numbers

    it : IsRead (read file) modules count
    it = is_read (sym e ∙ d.answers)

    -- The file that was read.
    pub ms : List Module
    ms = it.ms

    pub reads : read file ≡ holds ms
    unfolding ms
    reads = it.is

    all : modules ≡ length ms
    unfolding ms
    all = it.modules_are

    many : count ≡ length (file_numbers ms)
    unfolding ms
    many = it.numbers_are

    kept : Held file ms numbers' starts' offsets'
    kept = held bytes d reads

    within : Within ms
    within = (exactness file bytes ms reads).within

    numbers-are : take count numbers' ≡ file_numbers ms
    numbers-are = ap (λ (n : ℕ). take n numbers') many ∙ kept.numbers_are

    starts-are : (k : ℕ) → k < length ms → get_or starts' k 0 ≡ start_of ms k
    unfolding start_of
    starts-are k h = kept.starts_are k h

    pub count_long : (count ≤ 65535) × (count ≤ length file)
    count_long =
        let x = exactness file bytes ms reads in
        (omega (arith, many, kept.few, ap length x.encoded, within.bytes), omega (arith, many, kept.few))

    laidout : 128 ≤ length starts' → Laidout (take count numbers') starts' modules ms
    laidout long =
        record {
          numbers_are = numbers-are;
          starts_are = starts-are;
          all = all;
          few = within.modules.count;
          listed = omega (arith, within.modules.count);
        }

    module _
        {image names nets sizes rooms first slots : List ℕ} (s : Space file image starts names nets sizes rooms first slots)
        (starts_kept : length starts' ≡ length starts) where
      -- The check can begin.
      pub file-ready : FileReady (take count numbers') starts' modules first slots names nets sizes rooms
      file-ready =
          let few = within.modules.count in
          let indexed = s.indexes ms reads in
          record {
            ms = ms;
            laidout = laidout (omega (arith, s.starts_long));
            indexes =
                record {
                  in_first = subst (Below (length first)) (sym numbers-are) indexed.in_first;
                  in_slots = subst (Below (length slots)) (sym numbers-are) indexed.in_slots;
                };
            short = omega (arith, count_long.0, many, ap length numbers-are);
            names_long = omega (arith, all, s.names_long);
            nets_long = omega (arith, all, s.nets_long);
            figured =
                record {
                  sizes_long = omega (arith, s.sizes_long);
                  rooms_long = omega (arith, s.rooms_long);
                  small = s.low_sizes;
                };
            clear_first = s.clear_first;
            low_slots = s.low_slots;
            low_rooms = s.low_rooms;
          }

      -- What it found is the answer on the file, whatever stands behind the image.
      module _ {image' names' nets' sizes' rooms' : List ℕ} (behind : List ℕ) (nets_kept : length nets' ≡ length nets)
          (sizes_kept : length sizes' ≡ length sizes) (rooms_kept : length rooms' ≡ length rooms) where
        answer : (r : Found) → FileFound r ms image' names' nets' sizes' rooms'
            → Prepares (prepared_of r modules) file (image' ++ behind) starts' names' nets' sizes' rooms'
        unfolding verdict
        answer (Err r) f = ap verdict_of reads ∙ f.outcome
        answer (Ok fine) f =
            let few = within.modules.count in
            let o = f.outcome in
            record {
              ms = ms;
              reads = reads;
              all = all;
              held =
                  record {
                    good = o.accepted;
                    within = within;
                    shelved =
                        record {
                          standing = λ k e.
                              stands-before behind
                              (stands-resolved ms o.image k (starts-are k (omega (arith, ap length e, length-drop k ms))) e);
                          counted = λ k {m} {later} e. o.counted.count k m later e;
                          started = omega (arith, s.starts_long);
                          tabled = omega (arith, s.nets_long);
                        };
                    starts_are = starts-are;
                  };
              named = f.named;
              sizes_long = omega (arith, s.sizes_long);
              rooms_long = omega (arith, s.rooms_long);
              sizes_are = λ k m later e. o.tabled.size k m later (omega arith) e;
              rooms_are = λ k m later e. o.tabled.room k m later (omega arith) e;
            }

        pub answered :
            {r : Found} {prepared : Result ℕ Refusal}
            → ((ms : List Module) → Laidout (take count numbers') starts' modules ms → FileFound r ms image' names' nets' sizes' rooms')
            → prepared ≡ prepared_of r modules
            → Prepares prepared file (image' ++ behind) starts' names' nets' sizes' rooms'
        answered {r} found same = rw same (answer r (found ms (laidout (omega (arith, s.starts_long)))))
