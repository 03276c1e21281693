-- The count in front of the gathered modules makes the file whole.
use Prim.Native.Nat.{ℕ, ◌+◌, ◌-◌, ◌/◌, ◌≤◌, ◌<◌}
use mathlib.Core.Path.{◌≡◌, refl, sym, ap, ◌∙◌}
use mathlib.Core.List.{List, ◌++◌, append_assoc}
use native.Mathlib.Decide.{dec_lt}
use native.Mathlib.Omega.{arith}
use borrow.Author.Tests.{le-leb, lt-leb}
use lib.ListN.{length, take, drop, length-append}
use lib.Seq.{length-take-le, take_at, drop_at}
use Rattle.meaning.specs.Layout.{each, number_bytes, encode}
use Rattle.meaning.specs.Reading.{most_modules, most_bytes}
use Rattle.meaning.specs.Verdict.{file_verdict}
use Rattle.meaning.specs.Calls.{if_good, fitting}
use Rattle.meaning.specs.Shelves.{bytes_of, join_on}
use Rattle.laws.specs.Written.{bytes-of-low, bytes-of-high, bytes-of-file}
use Rattle.bytes_out.specs.Filled.{Put}
use Rattle.bytes_out.specs.Puts.{length-put}
use Rattle.write_joined.specs.declared.gathering.Gathered.{Gathered}
use Rattle.join_ending.specs.Assembling.{Whole, Assembled}
use Rattle.std.specs.Prelude.{Result, Err}
use Rattle.refusals.specs.Refused.{refusal_at}
use Rattle.refusals.specs.declared.Refusal.{Refusal}
use Rattle.answers.specs.Answers.{Answers}

-- The count takes the byte at place 1, or both in front of place 2.
count-bytes : (n : ℕ) → n ≤ 128 → 1 - n / 128 + length (number_bytes n) ≡ 2
count-bytes n few = go (dec_lt n 128)
  where
    go : Dec (n < 128) → 1 - n / 128 + length (number_bytes n) ≡ 2
    go (yes low) = omega (arith, ap length (bytes-of-low n low))
    go (no high) = omega (arith, ap length (bytes-of-high n (omega arith)))

module _ {all : Gathered} {bytes : List ℕ} (a : Assembled all bytes) where
  pub end_after : 2 ≤ all.at
  end_after = omega (arith, a.put.place)

  pub assembled-length : length bytes ≡ length a.before
  assembled-length = length-put a.put (omega (arith, end_after, a.room)) a.room

  module _ (few : all.modules ≤ 128) where
    pub room_for_count : 1 - all.modules / 128 + length (number_bytes all.modules) ≤ length bytes
    room_for_count = omega (arith, count-bytes all.modules few, assembled-length, end_after, a.room)

    file-is : number_bytes all.modules ++ each bytes_of a.ms ≡ encode a.ms
    file-is = ap (λ (n : ℕ). number_bytes n ++ each bytes_of a.ms) a.count ∙ sym (bytes-of-file a.ms)

    pub file-length : length (encode a.ms) ≡ all.at - (1 - all.modules / 128)
    file-length =
        omega (
          arith,
          ap length file-is,
          length-append (number_bytes all.modules) (each bytes_of a.ms),
          count-bytes all.modules few,
          a.put.place,
        )

    pub too_long : (out : ℕ) (before : List ℕ) → 65535 < all.at - (1 - all.modules / 128) → Answers (join_on out a.ms) before before (Err (refusal_at 1 0))
    too_long out before long =
        rw (
          le-leb (length a.ms) most_modules (omega (arith, a.count)),
          lt-leb (length (encode a.ms)) most_bytes (omega (arith, file-length)),
        )
        (record { is = refl; out = refl })

    module _ (short : all.at - (1 - all.modules / 128) ≤ 65535) where
      pub fits : length (encode a.ms) ≤ most_bytes
      fits = omega (arith, file-length)

      abbrev pub start : ℕ
      start = 1 - all.modules / 128

      module _ {bytes' : List ℕ} {next : ℕ} (p : Put (number_bytes all.modules) bytes start bytes' next) where
        behind : drop 2 bytes ≡ each bytes_of a.ms ++ drop all.at a.before
        behind =
            ap (drop 2) a.put.holds
            ∙ drop_at (take 2 a.before) (each bytes_of a.ms ++ drop all.at a.before) 2
            (length-take-le 2 a.before (omega (arith, end_after, a.room)))

        pub from_start : drop start bytes' ≡ encode a.ms ++ drop all.at a.before
        from_start =
            let second : next ≡ 2 = omega (arith, p.place, count-bytes all.modules few) in
            ap (drop start) p.holds
            ∙ drop_at (take start bytes) (number_bytes all.modules ++ drop next bytes) start
            (length-take-le start bytes (omega (arith, room_for_count)))
            ∙ ap (λ (n : ℕ). number_bytes all.modules ++ drop n bytes) second
            ∙ ap (λ (l : List ℕ). number_bytes all.modules ++ l) behind
            ∙ sym (append_assoc (number_bytes all.modules) (each bytes_of a.ms) (drop all.at a.before))
            ∙ ap (λ (l : List ℕ). l ++ drop all.at a.before) file-is

        abbrev pub whole : Whole (take (all.at - start) (drop start bytes'))
        whole =
            record {
              ms = a.ms;
              within = a.within (omega (arith, a.count)) fits;
              is =
                  ap (take (all.at - start)) from_start
                  ∙ take_at (encode a.ms) (drop all.at a.before) (all.at - start) file-length;
            }

      pub whole_answers :
          (out : ℕ) {before after : List ℕ} {result : Result ℕ Refusal}
          → Answers (if_good (file_verdict a.ms) (fitting (encode a.ms) 0 out)) before after result
          → Answers (join_on out a.ms) before after result
      whole_answers out answers =
          rw (
            le-leb (length a.ms) most_modules (omega (arith, a.count)),
            le-leb (length (encode a.ms)) most_bytes fits,
          )
          answers
