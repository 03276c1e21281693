-- The lines of a file, written one behind the other: what is written and what is left are the whole.
use Prim.Native.Nat.{ℕ, ◌+◌, ◌-◌, ◌*◌, ◌≤◌, ◌<◌}
use mathlib.Core.Path.{◌≡◌, refl, sym, ap, ◌∙◌}
use mathlib.Core.List.{List, [], ◌∷◌, ◌++◌, append_assoc, append-nil}
use native.Mathlib.Omega.{arith}
use native.Mathlib.Numerals.{add-one}
use borrow.Rule.Slice.PartMut.{mid_of, put_mid, mid_len}
use lib.ListN.{length, take, drop, take-append-drop, drop_of_length-le}
use lib.Seq.{drop-drop, drop-append-le}
use Rattle.meaning.specs.Syntax.{Module}
use Rattle.meaning.specs.Family.{summary}
use Rattle.meaning.specs.Listing.{line, lines, listing_scratch}
use Rattle.image.specs.Laid.{laid}
use Rattle.open_finding.specs.Here.{Here}
use Rattle.list_text.specs.Pieces.{PutDown}
use Rattle.list_text.specs.Lines.{longest_line}
use Rattle.list_text.proofs.Pieces.{put-length, put-nothing, put-after}
use Rattle.list_file.specs.Sheet.{Listable, longest_listing}

-- A text put down at the front of a part is put down in the whole.
pub put_in_part :
    {text out part : List ℕ} (at end : ℕ) {used : ℕ}
    → at ≤ end
    → end ≤ length out
    → PutDown text (mid_of at (end - at) out) 0 part used
    → PutDown text out at (put_mid at (end - at) out part) (at + used)
unfolding laid
put_in_part {text} {out} {part} at end ordered fits d =
    let inside : length text ≤ length (mid_of at (end - at) out) = omega (arith, d.next, d.inside) in
    record {
      put = ap (λ (l : List ℕ). take at out ++ (l ++ drop (end - at) (drop at out))) d.put
          ∙ ap (λ (l : List ℕ). take at out ++ l)
          (append_assoc text (drop (0 + length text) (mid_of at (end - at) out)) (drop (end - at) (drop at out))
          ∙ ap (λ (l : List ℕ). text ++ l) (behind inside));
      next = omega (arith, d.next);
      inside = omega (arith, d.inside, mid_len at end out fits);
    }
  where
    behind : length text ≤ length (mid_of at (end - at) out)
        → drop (0 + length text) (mid_of at (end - at) out) ++ drop (end - at) (drop at out) ≡ drop (at + length text) out
    behind inside =
        let front : 0 + length text ≡ length text = omega arith in
        ap (λ (n : ℕ). drop n (mid_of at (end - at) out) ++ drop (end - at) (drop at out)) front
        ∙ sym (drop-append-le (length text) (mid_of at (end - at) out) (drop (end - at) (drop at out)) inside)
        ∙ ap (drop (length text)) (take-append-drop (end - at) (drop at out))
        ∙ drop-drop (length text) at out

-- The line of a module.
abbrev line_of : (file family : List ℕ) (position : ℕ) → Module → List ℕ
line_of file family position m = line position m.number (summary file m.number family listing_scratch)

-- The lines of the modules in front of a position are written.
pub record Sofar (file family : List ℕ) (ms : List Module) (position : ℕ) (out₀ out : List ℕ) (at : ℕ) : Type 0 where
  pub done : List ℕ
  pub put : PutDown done out₀ 0 out at
  pub whole : done ++ lines file family position (drop position ms) ≡ lines file family 0 ms
  pub short : at ≤ longest_line * position

pub none : (file family : List ℕ) (ms : List Module) (out : List ℕ) → Sofar file family ms 0 out out 0
none file family ms out = record { done = []; put = put-nothing out 0 (omega arith); whole = refl; short = omega arith }

module _ {file family : List ℕ} {ms : List Module} {position : ℕ} {out₀ out : List ℕ} {at : ℕ} (s : Sofar file family ms position out₀ out at) where
  -- There is room for one more.
  module _
      {image starts names nets sizes rooms : List ℕ} {modules : ℕ} {loads scratch : List ℕ}
      (l : Listable image starts names nets sizes rooms modules loads scratch out₀) (less : position < modules) where
    pub low : at + longest_line ≤ longest_listing
    low = omega (arith, s.short, l.opened.all, l.opened.held.within.modules.count)

    pub room : at + longest_line ≤ length out
    room = omega (arith, low, l.room, put-length s.put)

    pub part-long : length (mid_of at (at + longest_line - at) out) ≡ longest_line
    part-long = mid_len at (at + longest_line) out room ∙ omega arith

  -- One more is written.
  pub more :
      (h : Here ms position) (end : ℕ) {part : List ℕ} {used : ℕ}
      → end ≡ at + longest_line
      → end ≤ length out
      → PutDown (line_of file family position h.m) (mid_of at (end - at) out) 0 part used
      → Sofar file family ms (position + 1) out₀ (put_mid at (end - at) out part) (at + used)
  unfolding lines
  more h end ends fits put =
      record {
        done = s.done ++ line_of file family position h.m;
        put = put-after s.put (put_in_part at end (omega arith) fits put);
        whole =
            append_assoc s.done (line_of file family position h.m) (lines file family (position + 1) (drop (position + 1) ms))
            ∙ ap (λ (l : List ℕ). s.done ++ l) (step h.m h.later h.here h.after)
            ∙ s.whole;
        short = omega (arith, s.short, put.inside, mid_len at end out fits);
      }
    where
      step : (m : Module) (later : List Module) → drop position ms ≡ m ∷ later → drop (position + 1) ms ≡ later
          → line_of file family position m ++ lines file family (position + 1) (drop (position + 1) ms) ≡ lines file family position (drop position ms)
      step m later here after = rw (here, after, add-one)

  -- All are written.
  pub all-put : length ms ≤ position → PutDown (lines file family 0 ms) out₀ 0 out at
  unfolding lines
  all-put beyond =
      let same : s.done ≡ lines file family 0 ms =
      sym (append-nil s.done) ∙ ap (λ (l : List Module). s.done ++ lines file family position l) (sym (drop_of_length-le ms beyond)) ∙ s.whole in
      rw (← same) s.put
