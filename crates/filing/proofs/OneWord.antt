-- One word: a block of one row, and its shelf.
use Prim.Native.Nat.{ℕ, ◌*◌, ◌-◌}
use mathlib.Core.Path.{◌≡◌, refl, sym, ap, ◌∙◌}
use mathlib.Core.List.{List, map}
use native.Mathlib.Omega.{arith}
use lib.ListN.{length, take, get_or}
use lib.Seq.{take-length}
use Rattle.meaning.specs.Layout.{encode}
use Rattle.meaning.specs.Counter.{counter}
use Rattle.meaning.specs.Filing.{shelf_of, word_count, words_from}
use Rattle.laws.specs.Filing.Counting.{shelves_bytes}
use Rattle.filing.specs.Running.{Word, Block}
use Rattle.filing.specs.Reading.{six_bits, shelves_in}
use Rattle.filing.proofs.Tallying.{shelves_of-words}

pub block-of-one : (file : List ℕ) (n : ℕ) → Word n → file ≡ encode (counter 32) → Block file n n 32 32 6
block-of-one file n w written =
    record {
      written = written;
      layable =
          record {
            some = w.some;
            few = w.few;
            count = 1;
            one = omega arith;
            most = omega arith;
            words = omega arith;
            long = omega arith;
            whole = refl;
          };
      fits = omega arith;
    }

pub shelf-of-one :
    (word outputs : List ℕ) → Word (length word)
    → take (word_count (length word) (length word) * 6) outputs ≡ shelves_bytes (words_from (word_count (length word) (length word)) (length word) word)
    → six_bits outputs 0 ≡ shelf_of word
unfolding shelves_in words_from
shelf-of-one word outputs w is =
    let one : word_count (length word) (length word) ≡ 1 = omega arith in
    let all : shelves_in 1 outputs ≡ map shelf_of (words_from 1 (length word) word) =
    sym (ap (λ (k : ℕ). shelves_in k outputs) one)
    ∙ shelves_of-words word outputs (length word) w.few is
    ∙ ap (λ (k : ℕ). map shelf_of (words_from k (length word) word)) one in
    ap (λ (l : List ℕ). get_or l 0 0) all ∙ ap shelf_of (take-length word)
