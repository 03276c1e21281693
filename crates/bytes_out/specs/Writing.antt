-- A buffer into which the numbers of a list are written one after the other from a place on: the state of the loop that does so.
use Rattle.std.specs.Prelude.{ℕ, ◌+◌, ◌≤◌, ◌<◌, ◌≡◌, refl, List, length, take, get_or}
use Rattle.std.proofs.Common.{arith, take_all}
use Rattle.meaning.specs.Layout.{each, number_bytes}
use Rattle.bytes_out.specs.Filled.{Put}
use Rattle.bytes_out.specs.Puts.{put-none, put-more, length-put}
use Rattle.bytes_out.specs.Sizes.{Sized, sized-more, sized-part, bytes-of-one-more}

-- All of them have room from the place on. The first `i` are written, and `at` is the place behind them.
pub record Writing (numbers before : List ℕ) (from : ℕ) (after : List ℕ) (at i : ℕ) : Type 0 where
  pub room : from + length (each number_bytes numbers) ≤ length before
  pub within : i ≤ length numbers
  pub put : Put (each number_bytes (take i numbers)) before from after at

pub writing-none : (numbers before : List ℕ) (from : ℕ) → from + length (each number_bytes numbers) ≤ length before
    → Writing numbers before from before from 0
unfolding each
writing-none numbers before from room = record { room = room; within = omega arith; put = put-none before from }

module _ {numbers before : List ℕ} {from : ℕ} {after : List ℕ} {at i : ℕ} (w : Writing numbers before from after at i) where
  sized : Sized numbers i (length (each number_bytes (take i numbers)))
  sized = record { within = w.within; is = refl }

  pub writing-length : length after ≡ length before
  writing-length = length-put w.put (omega (arith, w.room)) (omega (arith, w.room, w.put.place, sized-part sized))

  pub writing-room : i < length numbers → at + length (number_bytes (get_or numbers i 0)) ≤ length after
  writing-room h =
      let next : ℕ = length (each number_bytes (take i numbers)) + length (number_bytes (get_or numbers i 0)) in
      omega (arith, w.room, w.put.place, sized-part (sized-more sized {next = next} h refl), writing-length)

  pub writing_more : {later : List ℕ} {next : ℕ} → i < length numbers
      → Put (number_bytes (get_or numbers i 0)) after at later next → Writing numbers before from later next (i + 1)
  writing_more h p =
      record {
        room = w.room;
        within = omega arith;
        put = rw (bytes-of-one-more numbers i h) (put-more w.put (omega (arith, w.room)) p);
      }

  pub writing-all : length numbers ≤ i → Put (each number_bytes numbers) before from after at
  writing-all h = rw (take_all i numbers) at w.put
