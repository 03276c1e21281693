-- Bytes that are put into a buffer piece by piece from a place on: what is laid and what is left make the whole.
use Rattle.std.specs.Prelude.{ℕ, ◌+◌, ◌≤◌, ◌≡◌, refl, List, [], ◌++◌, length}
use Rattle.std.proofs.Common.{arith, ap, subst, ◌∙◌, append_assoc, length-append}
use Rattle.bytes_out.specs.Filled.{Put}
use Rattle.bytes_out.specs.Puts.{put-none, put-more, length-put}

pub record Laying (whole left before : List ℕ) (at : ℕ) (after : List ℕ) (next : ℕ) : Type 0 where
  pub room : at + length whole ≤ length before
  pub laid : List ℕ
  pub all : laid ++ left ≡ whole
  pub put : Put laid before at after next

pub laying-start : {whole before : List ℕ} {at : ℕ} → at + length whole ≤ length before → Laying whole whole before at before at
laying-start {before = before} {at = at} room = record { room = room; laid = []; all = refl; put = put-none before at }

module _ {whole left before : List ℕ} {at : ℕ} {after : List ℕ} {next : ℕ} (l : Laying whole left before at after next) where
  place-of-rest : next + length left ≡ at + length whole
  place-of-rest = omega (arith, l.put.place, ap length l.all, length-append l.laid left)

  -- There is room for what is left, and with it all is put.
  pub laying-room : next + length left ≤ length after
  laying-room =
      omega (arith, place-of-rest, l.room, length-put l.put (omega (arith, l.room)) (omega (arith, place-of-rest, l.room)))

  pub laying-last : {later : List ℕ} {end : ℕ} → Put left after next later end → Put whole before at later end
  laying-last {later} {end} p =
      subst (λ (bytes : List ℕ). Put bytes before at later end) l.all (put-more l.put (omega (arith, l.room)) p)

-- What is left starts with a piece.
module _ {whole before : List ℕ} {at : ℕ} (piece rest : List ℕ) {after : List ℕ} {next : ℕ}
    (l : Laying whole (piece ++ rest) before at after next) where
  pub laying-piece : next + length piece ≤ length after
  laying-piece = omega (arith, laying-room l, length-append piece rest)

  pub laying-more : {later : List ℕ} {place : ℕ} → Put piece after next later place → Laying whole rest before at later place
  laying-more p =
      record {
        room = l.room;
        laid = l.laid ++ piece;
        all = append_assoc l.laid piece rest ∙ l.all;
        put = put-more l.put (omega (arith, l.room)) p;
      }
