-- Each way out of the two calls is the definition's: refusals in their order, then the answer.
use Prim.Native.Nat.{ℕ, suc, ◌≤◌, ◌<◌}
use mathlib.Core.Path.{◌≡◌, refl, sym, ap, subst, ◌∙◌}
use mathlib.Core.Logic.{◌⊎◌, ⊎_elim}
use mathlib.Core.Bool.{Bool, true, false, cond}
use mathlib.Core.List.{List, [], ◌∷◌, map}
use Rattle.std.proofs.Common.{Ok, Err}
use native.Mathlib.Omega.{arith}
use borrow.Author.Tests.{le-leb, lt-leb, eq-eqb, ne_eqb}
use lib.Dec.{ltb}
use lib.ListN.{length}
use Rattle.meaning.specs.Filing.{base, first_other, shelf_of, word_count, words_of, table_of, filing_word, filing_sequence}
use Rattle.laws.specs.Filing.Sequences.{how_many-words}
use Rattle.filing.specs.Placing.{placed_of, Sorts}
use Rattle.refusals.specs.Refused.{refusal_at}
use Rattle.refusals.specs.declared.Refusal.{Refusal}

pub other-most : (bytes : List ℕ) → first_other bytes ≤ length bytes
unfolding first_other
other-most [] = omega arith
other-most (b ∷ bytes) = go (ltb (base b) 4) (other-most bytes)
  where
    go : (t : Bool) → first_other bytes ≤ length bytes → cond t (suc (first_other bytes)) 0 ≤ suc (length bytes)
    go true h = omega arith
    go false h = omega arith

module _ (word : List ℕ) where
  word-empty : length word < 1 → Err (refusal_at 30 0) ≡ placed_of (filing_word word)
  unfolding filing_word
  word-empty h = rw (lt-leb 1 (length word) h)

  word-long : 16 < length word → Err (refusal_at 30 0) ≡ placed_of (filing_word word)
  unfolding filing_word
  word-long h = rw (le-leb 1 (length word) (omega arith), lt-leb (length word) 16 h)

  pub word-refused : {r : Refusal} → r ≡ refusal_at 30 0 → (length word < 1) ⊎ (16 < length word) → Err r ≡ placed_of (filing_word word)
  word-refused is h = ap Err is ∙ ⊎_elim word-empty word-long h

  module _ (some : 1 ≤ length word) (few : length word ≤ 16) where
    word-other : (place : ℕ) → place ≡ first_other word → place < length word → Err (refusal_at 31 place) ≡ placed_of (filing_word word)
    unfolding filing_word
    word-other place is h =
        rw (
          is,
          le-leb 1 (length word) some,
          le-leb (length word) 16 few,
          ne_eqb (first_other word) (length word) (λ e. omega (arith, is, e)),
        )

    pub word-stopped : {r : Refusal} → r ≡ refusal_at 31 (first_other word) → first_other word < length word → Err r ≡ placed_of (filing_word word)
    word-stopped is h = ap Err is ∙ word-other (first_other word) refl h

    pub word-filed : (shelf : ℕ) → length word ≤ first_other word → shelf ≡ shelf_of word → Ok shelf ≡ placed_of (filing_word word)
    unfolding filing_word
    word-filed shelf none is =
        rw (
          is,
          le-leb 1 (length word) some,
          le-leb (length word) 16 few,
          eq-eqb (first_other word) (length word) (omega (arith, other-most word)),
        )

module _ (sequence : List ℕ) (n : ℕ) (table : List ℕ) where
  abbrev Refuses : (number place : ℕ) → Type 0
  Refuses number place = Sorts (filing_sequence sequence n (length table)) table table (Err (refusal_at number place))

  length_none : n < 1 → Refuses 30 0
  unfolding filing_sequence
  length_none h = record { is = rw (lt-leb 1 n h); table = rw (lt-leb 1 n h) }

  length_over : 16 < n → Refuses 30 0
  unfolding filing_sequence
  length_over h =
      record {
        is = rw (le-leb 1 n (omega arith), lt-leb n 16 h);
        table = rw (le-leb 1 n (omega arith), lt-leb n 16 h);
      }

  pub sequence_refused : {r : Refusal} → r ≡ refusal_at 30 0 → (n < 1) ⊎ (16 < n) → Sorts (filing_sequence sequence n (length table)) table table (Err r)
  sequence_refused is h = subst (λ (r : Refusal). Sorts (filing_sequence sequence n (length table)) table table (Err r)) (sym is) (⊎_elim length_none length_over h)

  module _ (some : 1 ≤ n) (few : n ≤ 16) where
    pub sequence_over : 65535 < length sequence → Refuses 32 0
    unfolding filing_sequence
    sequence_over h =
        record {
          is = rw (le-leb 1 n some, le-leb n 16 few, lt-leb (length sequence) 65535 h);
          table = rw (le-leb 1 n some, le-leb n 16 few, lt-leb (length sequence) 65535 h);
        }

    module _ (short : length sequence ≤ 65535) where
      pub table-other : ¬ (length table ≡ 33) → Refuses 34 0
      unfolding filing_sequence
      table-other h =
          record {
            is = rw (le-leb 1 n some, le-leb n 16 few, le-leb (length sequence) 65535 short, ne_eqb (length table) 33 h);
            table = rw (le-leb 1 n some, le-leb n 16 few, le-leb (length sequence) 65535 short, ne_eqb (length table) 33 h);
          }

      module _ (whole : length table ≡ 33) where
        sequence_other : (place : ℕ) → place ≡ first_other sequence → place < length sequence → Refuses 31 place
        unfolding filing_sequence
        sequence_other place is h =
            let apart : ¬ (first_other sequence ≡ length sequence) = λ e. omega (arith, is, e) in
            record {
              is =
                  rw (
                    is,
                    le-leb 1 n some,
                    le-leb n 16 few,
                    le-leb (length sequence) 65535 short,
                    eq-eqb (length table) 33 whole,
                    ne_eqb (first_other sequence) (length sequence) apart,
                  );
              table =
                  rw (
                    le-leb 1 n some,
                    le-leb n 16 few,
                    le-leb (length sequence) 65535 short,
                    eq-eqb (length table) 33 whole,
                    ne_eqb (first_other sequence) (length sequence) apart,
                  );
            }

        pub sequence_stopped : {r : Refusal} → r ≡ refusal_at 31 (first_other sequence) → first_other sequence < length sequence
            → Sorts (filing_sequence sequence n (length table)) table table (Err r)
        sequence_stopped is h =
            subst (λ (r : Refusal). Sorts (filing_sequence sequence n (length table)) table table (Err r)) (sym is)
            (sequence_other (first_other sequence) refl h)

        pub sequence_filed :
            (words : ℕ) (after : List ℕ) → length sequence ≤ first_other sequence
            → words ≡ word_count n (length sequence)
            → after ≡ table_of (map shelf_of (words_of n sequence))
            → Sorts (filing_sequence sequence n (length table)) table after (Ok words)
        unfolding filing_sequence
        sequence_filed words after none count is =
            let all : first_other sequence ≡ length sequence = omega (arith, other-most sequence) in
            record {
              is =
                  rw (
                    count,
                    ← how_many-words n sequence,
                    le-leb 1 n some,
                    le-leb n 16 few,
                    le-leb (length sequence) 65535 short,
                    eq-eqb (length table) 33 whole,
                    eq-eqb (first_other sequence) (length sequence) all,
                  );
              table =
                  rw (
                    is,
                    le-leb 1 n some,
                    le-leb n 16 few,
                    le-leb (length sequence) 65535 short,
                    eq-eqb (length table) 33 whole,
                    eq-eqb (first_other sequence) (length sequence) all,
                  );
            }
