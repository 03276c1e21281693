-- What a table that knows the nets of a list tells of them, how it learns one more, and how it starts afresh; and what learning and
-- resolving a list ask and come to.
use Rattle.std.specs.Prelude.{◌≡◌, ℕ, ◌+◌, ◌%◌, ◌^◌, ◌<◌, ◌≤◌, Bool, true, false, ◌||◌, List, [], ◌∷◌, ◌++◌, map, length, ◌==◌, nat_le, slice_index, slice_set, refl}
use Rattle.std.proofs.Common.{arith, sym, ◌∙◌, true≢false, le-leb, eqb-true, get_or-set_same, get_or-set_other}
use Rattle.std.proofs.Math.Bool.{or-false}
use Rattle.std.proofs.lemmas.Bool.{lt-leb, eqb-false}
use Rattle.meaning.specs.Boxlist.{member, disjoint, duplicates, subset}
use Rattle.nets.specs.Slots.{slot_of, Knows, Below}
use Rattle.nets.specs.Booleans.{or_left, or_right}
use Rattle.nets.specs.Members.{member-append}
use Rattle.nets.specs.Fronts.{Front}
use Rattle.nets.specs.SlotLaws.{slot-below, slot-append, slot-behind, slot-fresh}

-- A net is known if its entry is not below the base.
pub known_member :
    (table : List ℕ) (base : ℕ) (nets : List ℕ) → Knows table base nets → (x : ℕ) → member x nets ≡ nat_le base (slice_index table x)
known_member table base nets k x = go (member x nets) refl
  where
    go : (b : Bool) → member x nets ≡ b → b ≡ nat_le base (slice_index table x)
    go true e = let h = k.inside x e in sym (le-leb base (slice_index table x) (omega arith))
    go false e = sym (lt-leb base (slice_index table x) (k.outside x e))

-- With the next slot stored at a new net the table knows that net too.
pub knows-one :
    {table : List ℕ} {base : ℕ} {nets : List ℕ} (x : ℕ) → x < length table → member x nets ≡ false → Knows table base nets
    → Knows (slice_set table x (base + length nets)) base (nets ++ (x ∷ []))
unfolding member
knows-one {table} {base} {nets} x h m k =
    record { inside = λ y e. inside y (y == x) refl e; outside = λ y e. outside y (y == x) refl e }
  where
    both : (y : ℕ) (b : Bool) → (y == x) ≡ b → member y (nets ++ (x ∷ [])) ≡ (member y nets || b)
    both y b q = member-append y nets (x ∷ []) ∙ rw (or-false (y == x), q)

    inside :
        (y : ℕ) (b : Bool) → (y == x) ≡ b → member y (nets ++ (x ∷ [])) ≡ true
        → slice_index (slice_set table x (base + length nets)) y ≡ base + slot_of y (nets ++ (x ∷ []))
    inside y true q e =
        rw (eqb-true y x q, get_or-set_same table x (base + length nets) 0 h, slot-fresh x nets [] m)
    inside y false q e =
        let e' : member y nets ≡ true = sym (or-false (member y nets)) ∙ sym (both y false q) ∙ e in
        rw (get_or-set_other table x y (base + length nets) 0 (eqb-false y x q), slot-append y nets (x ∷ []) e') (k.inside y e')

    outside :
        (y : ℕ) (b : Bool) → (y == x) ≡ b → member y (nets ++ (x ∷ [])) ≡ false
        → slice_index (slice_set table x (base + length nets)) y < base
    outside y true q e = absurd (true≢false (or_right (member y nets) true (sym (both y true q) ∙ e)))
    outside y false q e =
        rw (get_or-set_other table x y (base + length nets) 0 (eqb-false y x q))
        (k.outside y (or_left (member y nets) false (sym (both y false q) ∙ e)))

-- No entry is above the slots: the next module's base lies there.
pub known-below : {table : List ℕ} {base : ℕ} {nets : List ℕ} (d : ℕ) → Knows table base nets → length nets ≤ d → Below (base + d) table
known-below {table} {base} {nets} d k h = record { below = λ x. go x (member x nets) refl }
  where
    go : (x : ℕ) (b : Bool) → member x nets ≡ b → slice_index table x < base + d
    go x true e = omega (arith, k.inside x e, slot-below x nets e)
    go x false e = omega (arith, k.outside x e)

-- A table whose entries are all below the base knows no net.
pub knows-none : {table : List ℕ} {base : ℕ} → Below base table → Knows table base []
unfolding member
knows-none low = record { inside = λ x e. absurd (true≢false (sym e)); outside = λ x e. low.below x }

-- The slot of a net, counted from the base modulo 2 ^ 32, where the table knows `more` behind `nets` and the limit is between them.
module _
    {table : List ℕ} {base limit : ℕ} (nets more : List ℕ) (k : Knows table base (nets ++ more)) (between : limit ≡ length nets)
    (high : base + limit ≤ 2 ^ 32) (x slot : ℕ) (small : slot < 2 ^ 32) (counted : (slot + base) % 2 ^ 32 ≡ slice_index table x) where
  -- A net in front of the limit has its slot there.
  pub slot_in_front : member x nets ≡ true → slot ≡ slot_of x (nets ++ more)
  slot_in_front e =
      let entry = k.inside x (member-append x nets more ∙ rw e) in
      let front = slot-append x nets more e in
      let below = slot-below x nets e in
      omega arith

  pub front_below : slot < limit → member x nets ≡ true
  front_below h = go (member x nets) (member x more) refl refl
    where
      go : (b d : Bool) → member x nets ≡ b → member x more ≡ d → b ≡ true
      go true d e f = refl
      go false true e f =
          let entry = k.inside x (member-append x nets more ∙ rw (e, f)) in
          let behind = slot-behind x nets more e in
          absurd (omega arith)
      go false false e f = let entry = k.outside x (member-append x nets more ∙ rw (e, f)) in absurd (omega arith)

  pub front_above : limit ≤ slot → member x nets ≡ false
  front_above h = go (member x nets) refl
    where
      go : (b : Bool) → member x nets ≡ b → b ≡ false
      go true e =
          let is = slot_in_front e in
          let front = slot-append x nets more e in
          let below = slot-below x nets e in
          absurd (omega arith)
      go false e = refl

-- What learning a list of nets asks: no two of them are the same, they are indices of the table, and slots from `first` on fit a number.
pub record Learnable (list table : List ℕ) (base first : ℕ) : Type 0 where
  pub single : duplicates list ≡ false
  pub in_table : Below (length table) list
  pub few : first + length list ≤ 65536
  pub high : base + 65536 ≤ 2 ^ 32

-- What it comes to where the table knew `nets`: a count at the list's front, of all nets just if none is among those, and then the table
-- knows them too and their slots have taken their places.
pub record Learnt (nets list : List ℕ) (base : ℕ) (list' table' : List ℕ) (r : ℕ) : Type 0 where
  pub front : Front list (disjoint list nets) r
  pub knows : r ≡ length list → Knows table' base (nets ++ list)
  pub written : r ≡ length list → list' ≡ map (λ (x : ℕ). slot_of x (nets ++ list)) list

-- What resolving a list of nets asks likewise.
pub record Resolvable (list table : List ℕ) (base limit : ℕ) : Type 0 where
  pub in_table : Below (length table) list
  pub few : limit ≤ 65536
  pub high : base + 65536 ≤ 2 ^ 32

-- What it comes to where the table knows `more` behind `nets`: a count at the list's front, of all nets just if they are among `nets`, and
-- then their slots have taken their places.
pub record Resolved (nets more list list' : List ℕ) (r : ℕ) : Type 0 where
  pub front : Front list (subset list nets) r
  pub written : r ≡ length list → list' ≡ map (λ (x : ℕ). slot_of x (nets ++ more)) list
