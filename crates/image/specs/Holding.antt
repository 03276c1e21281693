-- An environment and a frame of the same nets: the frame has at each net's slot the value that the environment gives it. They stay so
-- when further nets are given values.
use Rattle.std.specs.Prelude.{ℕ, suc, ◌+◌, ◌≡◌, Bool, ◌||◌, eqb, length}
use Rattle.std.proofs.Math.Path.{refl, sym, ap₂}
use Rattle.std.proofs.Common.{ap, ◌∙◌, true≢false, arith, zero-add, suc-add, length-append, get_or-append-add}
use Rattle.std.proofs.Math.Bool.{true, false, cond, or-false}
use mathlib.Core.List.{List, [], ◌∷◌, ◌++◌, map, append-nil}
use Rattle.std.proofs.Math.ListN.{get_or, get_or-append}
use Rattle.meaning.specs.Boxlist.{member, disjoint, subset}
use Rattle.meaning.specs.Evaluation.{Env, look, look_all, pairs}
use Rattle.laws.specs.Members.{member_in, out-member, disjoint-out}
use Rattle.nets.specs.Slots.{slot_of}
use Rattle.nets.specs.Booleans.{or_left, or_right, and_left, and_right}
use Rattle.nets.specs.Members.{member-append}
use Rattle.nets.specs.SlotLaws.{slot-below, slot-append}
use Rattle.image.specs.Frames.{read_slots}

-- A net of the second list only.
slot-behind : (x : ℕ) (xs ys : List ℕ) → member x xs ≡ false → slot_of x (xs ++ ys) ≡ length xs + slot_of x ys
unfolding member slot_of
slot-behind x [] ys out = sym (zero-add (slot_of x ys))
slot-behind x (y ∷ xs) ys out =
    rw (or_left (eqb x y) (member x xs) out, suc-add (length xs) (slot_of x ys))
    (ap suc (slot-behind x xs ys (or_right (eqb x y) (member x xs) out)))

module _ {A : Type 0} (unset : A) where
  -- Nets given values, in front of an environment.
  look-given :
      (x : ℕ) (nets : List ℕ) (vs : List A) (env : Env A)
      → length vs ≡ length nets
      → member x nets ≡ true
      → look unset x (pairs unset nets vs ++ env) ≡ get_or vs (slot_of x nets) unset
  unfolding member slot_of look pairs
  look-given x [] vs env count among = absurd (true≢false (sym among))
  look-given x (y ∷ nets) [] env count among = absurd (omega arith)
  look-given x (y ∷ nets) (v ∷ vs) env count among = go (eqb x y) among (look-given x nets vs env (omega arith))
    where
      go :
          (b : Bool) → (b || member x nets) ≡ true
          → (member x nets ≡ true → look unset x (pairs unset nets vs ++ env) ≡ get_or vs (slot_of x nets) unset)
          → cond b v (look unset x (pairs unset nets vs ++ env)) ≡ get_or (v ∷ vs) (cond b 0 (suc (slot_of x nets))) unset
      go true e rest = refl
      go false e rest = rest e

  look-past :
      (x : ℕ) (nets : List ℕ) (vs : List A) (env : Env A)
      → length vs ≡ length nets
      → member x nets ≡ false
      → look unset x (pairs unset nets vs ++ env) ≡ look unset x env
  unfolding member look pairs
  look-past x [] vs env count out = refl
  look-past x (y ∷ nets) [] env count out = absurd (omega arith)
  look-past x (y ∷ nets) (v ∷ vs) env count out =
      rw (or_left (eqb x y) (member x nets) out)
      (look-past x nets vs env (omega arith) (or_right (eqb x y) (member x nets) out))

  pub record Holds (env : Env A) (nets : List ℕ) (frame : List A) : Type 0 where
    pub long : length frame ≡ length nets
    pub value : (x : ℕ) → member x nets ≡ true → look unset x env ≡ get_or frame (slot_of x nets) unset

  pub holds_more :
      {env : Env A} {nets : List ℕ} {frame : List A} (drives : List ℕ) (vs : List A)
      → Holds env nets frame
      → disjoint drives nets ≡ true
      → length vs ≡ length drives
      → Holds (pairs unset drives vs ++ env) (nets ++ drives) (frame ++ vs)
  holds_more {env} {nets} {frame} drives vs holds fresh count =
      record { long = simp length-append (omega (arith, holds.long)); value = λ x among. go x (member x drives) refl among }
    where
      go :
          (x : ℕ) (b : Bool) → member x drives ≡ b → member x (nets ++ drives) ≡ true
          → look unset x (pairs unset drives vs ++ env) ≡ get_or (frame ++ vs) (slot_of x (nets ++ drives)) unset
      go x true driven among =
          let out = out-member x nets (disjoint-out drives nets fresh (member_in x drives driven)) in
          rw (look-given x drives vs env count driven, slot-behind x nets drives out, ← holds.long)
          (sym (get_or-append-add frame vs (slot_of x drives) unset))
      go x false driven among =
          let either : (member x nets || member x drives) ≡ true = sym (member-append x nets drives) ∙ among in
          let before : member x nets ≡ true = rw (driven, or-false (member x nets)) at either in
          let below = slot-below x nets before in
          look-past x drives vs env count driven
          ∙ holds.value x before
          ∙ rw (slot-append x nets drives before) (sym (get_or-append frame vs unset (slot_of x nets) (omega (arith, holds.long))))

  -- The values of known nets, read at their slots.
  pub read_known :
      {env : Env A} {nets : List ℕ} {frame : List A} {slot : ℕ → ℕ}
      → Holds env nets frame
      → ((x : ℕ) → member x nets ≡ true → slot x ≡ slot_of x nets)
      → (xs : List ℕ)
      → subset xs nets ≡ true
      → read_slots unset frame (map slot xs) ≡ look_all unset xs env
  unfolding read_slots look_all subset
  read_known holds slots [] within = refl
  read_known {nets = nets} {frame = frame} holds slots (x ∷ xs) within =
      let among = and_left (member x nets) (subset xs nets) within in
      ap₂ ◌∷◌
      (ap (λ (s : ℕ). get_or frame s unset) (slots x among) ∙ sym (holds.value x among))
      (read_known holds slots xs (and_right (member x nets) (subset xs nets) within))

  -- A module's inputs are the first nets that are given values.
  pub holds-inputs : (nets : List ℕ) (vs : List A) → length vs ≡ length nets → Holds (pairs unset nets vs) nets vs
  holds-inputs nets vs count =
      record {
        long = count;
        value = λ x among. ap (look unset x) (sym (append-nil (pairs unset nets vs))) ∙ look-given x nets vs [] count among;
      }
