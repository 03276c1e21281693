-- Entries put into a buffer piece by piece: what stands there and what is left to put are always all of it.
use Prim.Native.Nat.{ℕ, suc, ◌+◌, ◌-◌, ◌≤◌, ◌<◌}
use mathlib.Core.Path.{◌≡◌, refl, sym, ap, ap₂, ◌∙◌}
use mathlib.Core.List.{List, [], ◌∷◌, ◌++◌}
use native.Mathlib.Omega.{arith}
use lib.ListN.{length, take, drop, set, length-set, length-take, length-append}
use lib.Seq.{take-nil}
use Rattle.image.specs.Laid.{laid, laid-after, laid-nothing}
use Rattle.list_text.specs.Pieces.{PutDown}
use Rattle.list_text.proofs.Pieces.{put-length, put_byte}
use Rattle.row_lines.specs.Words.{values_of}

pub record Goes (out₀ : List ℕ) (from : ℕ) (all out : List ℕ) (at : ℕ) (rest : List ℕ) : Type 0 where
  pub room : at + length rest ≤ length out
  pub same : length out ≡ length out₀
  pub put : laid out at rest ≡ laid out₀ from all
  pub next : at + length rest ≡ from + length all

pub goes-begin : (out : List ℕ) (from : ℕ) (all : List ℕ) → from + length all ≤ length out → Goes out from all out from all
goes-begin out from all h = record { room = h; same = refl; put = refl; next = refl }

module _ {out₀ : List ℕ} {from : ℕ} {all out : List ℕ} {at : ℕ} where
  -- A piece more, which was the first of what is left.
  pub goes-piece : {left xs rest out' : List ℕ} {at' : ℕ} → left ≡ xs ++ rest → PutDown xs out at out' at'
      → Goes out₀ from all out at left → Goes out₀ from all out' at' rest
  goes-piece {left} {xs} {rest} {out'} {at'} parts d g =
      record {
        room = omega (arith, long, g.room, d.next, put-length d);
        same = put-length d ∙ g.same;
        put =
            ap₂ (λ (l : List ℕ) (n : ℕ). laid l n rest) d.put d.next
            ∙ laid-after out at xs rest (omega (arith, long, g.room))
            ∙ ap (laid out at) (sym parts)
            ∙ g.put;
        next = omega (arith, long, d.next, g.next);
      }
    where
      long : length left ≡ length xs + length rest
      long = ap length parts ∙ length-append xs rest

  -- Nothing is left.
  pub goes_end : {left : List ℕ} → left ≡ [] → Goes out₀ from all out at left → PutDown all out₀ from out at
  goes_end {left} none g =
      record {
        put = sym (laid-nothing out at) ∙ ap (laid out at) (sym none) ∙ g.put;
        next = omega (arith, ap length none, g.next);
        inside = omega (arith, g.room, g.same);
      }

-- As many entries as there is room for behind a place.
abbrev pub fitting : (out : List ℕ) (at : ℕ) → List ℕ → List ℕ
fitting out at entries = take (length out - at) entries

pub fitting-fits : (out : List ℕ) (at : ℕ) (entries : List ℕ) → at ≤ length out → at + length (fitting out at entries) ≤ length out
fitting-fits out at entries h = omega (arith, length-take (length out - at) entries)

pub fitting-none : (out : List ℕ) (at : ℕ) {entries : List ℕ} → entries ≡ [] → fitting out at entries ≡ []
fitting-none out at e = ap (take (length out - at)) e ∙ take-nil (length out - at)

pub fitting-full : (out : List ℕ) (at : ℕ) (entries : List ℕ) → at ≡ length out → fitting out at entries ≡ []
fitting-full out at entries e = let none : length out - at ≡ 0 = omega arith in ap (λ (m : ℕ). take m entries) none

-- The first of them stored, the others fit behind it.
pub fitting-more : (out : List ℕ) (at v : ℕ) {entries rest : List ℕ} → at < length out → entries ≡ v ∷ rest
    → fitting out at entries ≡ (v ∷ []) ++ fitting (set out at v) (at + 1) rest
fitting-more out at v {entries} {rest} h e =
    ap₂ take one_more e ∙ ap (λ (m : ℕ). v ∷ take m rest) (ap (λ (m : ℕ). m - (at + 1)) (sym (length-set out at v)))
  where
    one_more : length out - at ≡ suc (length out - (at + 1))
    one_more = omega arith

-- How far a word is put.
pub record Puts (word values₀ : List ℕ) (from : ℕ) (values : List ℕ) (at i : ℕ) : Type 0 where
  pub passed : i ≤ length word
  pub inside : at ≤ length values
  pub goes : Goes values₀ from (fitting values₀ from (values_of word)) values at (fitting values at (values_of (drop i word)))

module _ {word values₀ : List ℕ} {from : ℕ} {values : List ℕ} {at i : ℕ} (p : Puts word values₀ from values at i) (more : i < length word) where
  pub puts-value : {v : ℕ} {values' : List ℕ} {at' : ℕ} → values_of (drop i word) ≡ v ∷ values_of (drop (i + 1) word) → (at ≡ length values → ⊥)
      → values' ≡ set values at v → at' ≡ at + 1 → Puts word values₀ from values' at' (i + 1)
  puts-value {v} one full stored behind =
      rw (stored, behind)
      record {
        passed = omega arith;
        inside = omega (arith, below, d.inside, put-kept);
        goes = goes-piece (fitting-more values at v below one) d p.goes;
      }
    where
      below : at < length values
      below = let h = p.inside in omega (arith, full)

      d : PutDown (v ∷ []) values at (set values at v) (at + 1)
      d = put_byte v values at below

      put-kept : length (set values at v) ≡ length values
      put-kept = simp length-set

  pub puts_none : {values' : List ℕ} {at' : ℕ} → values_of (drop i word) ≡ values_of (drop (i + 1) word) → values' ≡ values → at' ≡ at
      → Puts word values₀ from values' at' (i + 1)
  puts_none none kept stays =
      rw (kept, stays)
      record { passed = omega arith; inside = p.inside; goes = rw (ap (fitting values at) none) at p.goes }
