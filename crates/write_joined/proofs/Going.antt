-- Modules gathered one by one: what is gathered and what is left make the whole.
use Prim.Native.Nat.{ℕ, ◌+◌, ◌-◌, ◌≤◌}
use mathlib.Core.Path.{◌≡◌, refl, sym, ap, subst, ◌∙◌}
use mathlib.Core.Bool.{Bool, true, false, cond}
use mathlib.Core.List.{List, [], ◌∷◌, ◌++◌, append-nil}
use native.Mathlib.Omega.{arith}
use lib.ListN.{length, get_or, take, drop, length-append, drop_of_length-le}
use Rattle.meaning.specs.Syntax.{Module}
use Rattle.meaning.specs.Boxlist.{assoc, is_box}
use Rattle.meaning.specs.Layout.{each}
use Rattle.meaning.specs.Shelves.{bytes_of, lacking}
use Rattle.laws.specs.Lists.{each_append}
use Rattle.bytes_out.specs.Filled.{Put}
use Rattle.bytes_out.specs.Puts.{put-none}
use Rattle.bytes_out.specs.Laying.{Laying}
use Rattle.write_pieces.specs.Laying.{laying-none, laying-room, laying-more, laying-all}
use Rattle.open_finding.specs.Here.{Here}
use Rattle.image.specs.Stands.{stands-part}
use Rattle.open_places.specs.Parts.{part-next, part-stands}
use Rattle.write_joined.specs.Gathering.{Gathers, Takes, At}
use Rattle.write_joined.specs.declared.gathering.Gathered.{Gathered}

lacking-first : (own : List Module) (m : Module) (later : List Module) → lacking own (m ∷ later) ≡ lacking own (m ∷ []) ++ lacking own later
unfolding lacking
lacking-first own m later = go (is_box (assoc m.number own))
  where
    go : (b : Bool) → cond b (lacking own later) (m ∷ lacking own later) ≡ cond b [] (m ∷ []) ++ lacking own later
    go true = refl
    go false = refl

lacking-one : (own : List Module) (m : Module) → length (lacking own (m ∷ [])) ≤ 1
unfolding lacking
lacking-one own m = go (is_box (assoc m.number own))
  where
    go : (b : Bool) → length (cond b [] (m ∷ [])) ≤ 1
    go true = omega arith
    go false = omega arith

-- None is taken, or one with its bytes.
pub takes_none : {own : List Module} {m : Module} (bytes : List ℕ) (so_far : Gathered) → lacking own (m ∷ []) ≡ [] → Takes own m bytes bytes so_far so_far
unfolding each
takes_none bytes so_far none =
    record {
      took =
          record {
            count = omega (arith, ap length none);
            put = rw none (put-none bytes so_far.at);
          };
    }

bytes-of-one : (own : List Module) {m : Module} → lacking own (m ∷ []) ≡ m ∷ [] → each bytes_of (lacking own (m ∷ [])) ≡ bytes_of m
unfolding each
bytes-of-one own {m} one = rw one (append-nil (bytes_of m))

pub takes_one :
    {own : List Module} {m : Module} {bytes bytes' piece : List ℕ} (modules at at' : ℕ)
    → lacking own (m ∷ []) ≡ m ∷ []
    → piece ≡ bytes_of m
    → Put piece bytes at bytes' at'
    → Takes own m bytes bytes' (record { modules = modules; at = at }) (record { modules = modules + 1; at = at' })
takes_one {own} {m} {bytes} {bytes'} modules at at' one is put =
    record {
      took =
          record {
            count = omega (arith, ap length one);
            put = subst (λ (l : List ℕ). Put l bytes at bytes' at') (is ∙ sym (bytes-of-one own one)) put;
          };
    }

-- The module's part of the file.
module _ {house names places : List ℕ} {k : ℕ} {marks bytes : List ℕ} {done : Gathered} (a : At house names places k marks bytes done) where
  pub place-order : get_or places (k + 1) 0 ≡ get_or places k 0 + length (bytes_of a.m)
  place-order = part-next a.shelved k a.here

  pub part_end : get_or places (k + 1) 0 ≤ length house
  part_end = omega (arith, place-order, (part-stands a.shelved k a.here).within)

  pub part-is : take (get_or places (k + 1) 0 - get_or places k 0) (drop (get_or places k 0) house) ≡ bytes_of a.m
  part-is =
      let long : get_or places (k + 1) 0 - get_or places k 0 ≡ length (bytes_of a.m) = omega (arith, place-order) in
      ap (λ (n : ℕ). take n (drop (get_or places k 0) house)) long ∙ stands-part (part-stands a.shelved k a.here)

  pub part-fits :
      lacking a.own (a.m ∷ []) ≡ a.m ∷ []
      → done.at + length (take (get_or places (k + 1) 0 - get_or places k 0) (drop (get_or places k 0) house)) ≤ length bytes
  part-fits one = omega (arith, a.room, ap length part-is, ap length (bytes-of-one a.own one))

-- The modules in front of position k are gathered.
pub record Going (own others : List Module) (bytes₀ bytes : List ℕ) (so_far all : Gathered) (k : ℕ) : Type 0 where
  pub count : all.modules + length (lacking own (drop k others)) ≡ so_far.modules + length (lacking own others)
  pub few : all.modules ≤ so_far.modules + k
  pub laying : Laying (each bytes_of (lacking own others)) (each bytes_of (lacking own (drop k others))) bytes₀ so_far.at bytes all.at

pub going-none :
    (own others : List Module) (bytes : List ℕ) (so_far : Gathered)
    → so_far.at + length (each bytes_of (lacking own others)) ≤ length bytes
    → Going own others bytes bytes so_far so_far 0
going-none own others bytes so_far room =
    record { count = refl; few = omega arith; laying = laying-none bytes so_far.at refl room }

module _ {own others : List Module} {bytes₀ bytes : List ℕ} {so_far all : Gathered} {k : ℕ} (g : Going own others bytes₀ bytes so_far all k) where
  left-of : (h : Here others k) → lacking own (drop k others) ≡ lacking own (h.m ∷ []) ++ lacking own (drop (k + 1) others)
  left-of h =
      ap (lacking own) h.here
      ∙ lacking-first own h.m h.later
      ∙ ap (λ (l : List Module). lacking own (h.m ∷ []) ++ lacking own l) (sym h.after)

  left-bytes : (h : Here others k) → each bytes_of (lacking own (drop k others)) ≡ each bytes_of (lacking own (h.m ∷ [])) ++ each bytes_of (lacking own (drop (k + 1) others))
  left-bytes h = ap (each bytes_of) (left-of h) ∙ each_append bytes_of (lacking own (h.m ∷ [])) (lacking own (drop (k + 1) others))

  pub going-room : (h : Here others k) → all.at + length (each bytes_of (lacking own (h.m ∷ []))) ≤ length bytes
  going-room h =
      let r = laying-room g.laying (each bytes_of (lacking own (h.m ∷ []))) (each bytes_of (lacking own (drop (k + 1) others))) (left-bytes h) in
      omega (arith, r)

  pub going_more : (h : Here others k) {bytes' : List ℕ} {all' : Gathered} → Takes own h.m bytes bytes' all all' → Going own others bytes₀ bytes' so_far all' (k + 1)
  going_more h t =
      record {
        count = omega (
          arith,
          g.count,
          t.took.count,
          ap length (left-of h),
          length-append (lacking own (h.m ∷ [])) (lacking own (drop (k + 1) others)),
        );
        few = omega (arith, g.few, t.took.count, lacking-one own h.m);
        laying =
            laying-more g.laying (each bytes_of (lacking own (h.m ∷ []))) (each bytes_of (lacking own (drop (k + 1) others))) (left-bytes h) t.took.put;
      }

  pub going-all : length others ≤ k → Gathers own others bytes₀ bytes so_far all
  unfolding lacking each
  going-all h =
      let none : drop k others ≡ [] = drop_of_length-le others h in
      record {
        count = omega (arith, g.count, ap (λ (l : List Module). length (lacking own l)) none);
        put = laying-all g.laying (ap (λ (l : List Module). each bytes_of (lacking own l)) none);
      }
