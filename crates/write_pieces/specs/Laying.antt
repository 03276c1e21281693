-- Pieces that are put one behind the other, in the forms that the writers use: with what is left named, and with the room for it.
use Rattle.std.specs.Prelude.{ℕ, ◌+◌, ◌≤◌, ◌≡◌, refl, List, [], ◌∷◌, ◌++◌, length, set}
use Rattle.std.proofs.Common.{arith, ap, subst, append-nil, length-append}
use Rattle.bytes_out.specs.Filled.{Put}
use Rattle.bytes_out.proofs.Filling.{put_stores}
use Rattle.write_pieces.specs.Rooms.{Room}
use Rattle.bytes_out.specs.Puts.{put-none, length-put}
use Rattle.bytes_out.specs.Laying.{Laying}
use Rattle.bytes_out.specs.Laying as bytes

pub laying-none : {whole left : List ℕ} (before : List ℕ) (at : ℕ) → left ≡ whole → at + length whole ≤ length before
    → Laying whole left before at before at
laying-none before at all room = record { room = room; laid = []; all = all; put = put-none before at }

pub laying-start : {whole before : List ℕ} {at : ℕ} → Room whole before at → Laying whole whole before at before at
laying-start {before = before} {at = at} room = laying-none before at refl room.fits

module _ {whole left before after : List ℕ} {at next : ℕ} (l : Laying whole left before at after next) where
  laying-place : next + length left ≡ at + length whole
  laying-place = omega (arith, ap length l.all, length-append l.laid left)

  pub laying-length : length after ≡ length before
  laying-length = length-put l.put (omega arith) (omega (arith, laying-place))

  -- There is room for what is left, and so for its first piece.
  pub laying-left : Room left after next
  laying-left = omega (arith, laying-place, laying-length, l.room)

  pub laying-room : (piece rest : List ℕ) → left ≡ piece ++ rest
      → (length after ≡ length before) × (next + length piece ≤ length before)
  laying-room piece rest e = omega (arith, laying-place, laying-length, ap length e, length-append piece rest)

  pub laying-more : (piece rest : List ℕ) {later : List ℕ} {place : ℕ} → left ≡ piece ++ rest → Put piece after next later place
      → Laying whole rest before at later place
  laying-more piece rest e p = bytes.laying-more piece rest (subst (λ (xs : List ℕ). Laying whole xs before at after next) e l) p

  -- One number, stored.
  pub laying_store : {x : ℕ} {rest : List ℕ} → left ≡ x ∷ rest → Laying whole rest before at (set after next x) (next + 1)
  laying_store {x} {rest} e =
      laying-more (x ∷ []) rest e (put_stores (x ∷ []) after next (omega (arith, laying-room (x ∷ []) rest e)))

  pub laying-all : left ≡ [] → Put whole before at after next
  laying-all e = rw (← l.all, e, append-nil) l.put

-- There is room for the first of two pieces where there is room for both.
pub room-first : {xs before : List ℕ} {at : ℕ} (ys : List ℕ) → Room (xs ++ ys) before at → Room xs before at
room-first {xs} ys room = omega (arith, length-append xs ys)

-- A piece is put, and the rest is left; or the last one is put.
pub laying-put : {piece rest whole before after later : List ℕ} {at next place : ℕ}
    → Put piece after next later place → Laying whole (piece ++ rest) before at after next → Laying whole rest before at later place
laying-put {piece} {rest} p l = laying-more l piece rest refl p

pub laying-last : {left whole before after later : List ℕ} {at next place : ℕ}
    → Put left after next later place → Laying whole left before at after next → Put whole before at later place
laying-last p l = bytes.laying-last l p
