-- Pieces that are put into a list one behind the other make one piece, and what is put at its front is found there.
use Rattle.std.specs.Prelude.{ℕ, ◌≤◌, ◌≡◌, List, [], ◌++◌, length, take, drop}
use Rattle.std.proofs.Common.{arith, sym, append_assoc, length-append, length-drop, take-append-drop, length-take-le, take_at, drop_at, drop-drop}
use Rattle.bytes_out.specs.Filled.{Put, Filled}

pub put-none : (before : List ℕ) (at : ℕ) → Put [] before at before at
put-none before at = record { place = omega arith; holds = sym (take-append-drop at before) }

module _ {xs before middle : List ℕ} {at next : ℕ} (p : Put xs before at middle next) (fits : at ≤ length before) where
  length-of-front : length (take at before ++ xs) ≡ next
  length-of-front = simp (length-append, length-take-le at before fits) (sym p.place)

  grouped : middle ≡ (take at before ++ xs) ++ drop next before
  grouped = rw append_assoc p.holds

  take_put : take next middle ≡ take at before ++ xs
  take_put = rw grouped (take_at (take at before ++ xs) (drop next before) next length-of-front)

  drop-put : drop next middle ≡ drop next before
  drop-put = rw grouped (drop_at (take at before ++ xs) (drop next before) next length-of-front)

  pub length-put : next ≤ length before → length middle ≡ length before
  length-put inside = rw (grouped, length-append (take at before ++ xs), length-of-front, length-drop) (omega arith)

  pub put-more : {ys after : List ℕ} {later : ℕ} → Put ys middle next after later → Put (xs ++ ys) before at after later
  put-more {ys} {after} {later} q =
      record {
        place = rw length-append (omega arith);
        holds =
            rw (q.holds, take_put, q.place, ← drop-drop (length ys) next middle, drop-put, drop-drop)
            (simp append_assoc);
      }

pub put_front : {xs before after : List ℕ} {next : ℕ} → Put xs before 0 after next → Filled xs before after next
put_front p = record { size = omega arith; holds = p.holds }

module _ {xs before after : List ℕ} {count : ℕ} (f : Filled xs before after count) where
  pub front-within : count ≤ length after
  front-within = rw (f.holds, length-append) (omega arith)

  pub take-front : take count after ≡ xs
  take-front = rw f.holds (take_at xs (drop count before) count (sym f.size))
