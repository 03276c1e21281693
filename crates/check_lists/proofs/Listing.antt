-- A count with its list of nets: where the nets stand, and what putting slots in their places leaves.
use Prim.Native.Nat.{ℕ, ◌+◌, ◌-◌, ◌<◌, ◌≤◌}
use mathlib.Core.Path.{◌≡◌, sym, ap, subst, ◌∙◌}
use mathlib.Core.Bool.{true, false, true≢false}
use mathlib.Core.List.{List, [], ◌∷◌, ◌++◌, map}
use native.Mathlib.Omega.{arith}
use borrow.Rule.Slice.PartMut.{put_mid, Post-is, drop_put}
use lib.ListN.{length, take, drop, length-map}
use Rattle.meaning.specs.Layout.{list_numbers}
use Rattle.meaning.specs.Boxlist.{duplicates}
use Rattle.nets.specs.Slots.{Knows, Below, slot_of}
use Rattle.nets.specs.Fronts.{front-short}
use Rattle.nets.specs.Tables.{Learnable, Learnt, Resolvable, Resolved}
use Rattle.image.specs.Stands.{Stands, stands-front, stands-tail}
use Rattle.image.specs.Laid.{laid, laid-behind-own}
use Rattle.check_lists.specs.Lists.{Behind, ListReady, ListLearnt, ListWritten}
use Rattle.check_lists.specs.Parts.{part, part-stands}

-- The nets as a part of the whole, up to the place behind them.
pub record ListAt (numbers : List ℕ) (at e : ℕ) (list : List ℕ) : Type 0 where
  pub behind : e ≡ at + 1 + length list
  pub is : part (at + 1) e numbers ≡ list
  pub end : e ≤ length numbers

pub list_at : {numbers : List ℕ} {at e : ℕ} (list : List ℕ) → Stands numbers at (list_numbers list) → Behind numbers at e → ListAt numbers at e list
list_at {e = e} list s behind =
    let b = behind list s in
    record { behind = b; is = part-stands e b (stands-tail s); end = omega (arith, s.within) }

-- The numbers with another list in the nets' place.
abbrev pub replacing : (numbers : List ℕ) (at e : ℕ) (xs : List ℕ) → List ℕ
replacing numbers at e xs = put_mid (at + 1) (e - (at + 1)) numbers xs

-- Where each net became its slot, the count still stands in front.
listed :
    {numbers : List ℕ} {at e : ℕ} {list xs : List ℕ} (slot : ℕ → ℕ) → Stands numbers at (list_numbers list) → ListAt numbers at e list
    → xs ≡ map slot list
    → replacing numbers at e xs ≡ laid numbers at (list_numbers (map slot list))
unfolding laid
listed {numbers} {at} {e} {list} slot s l is =
    let long : length (map slot list) ≡ length list = length-map list slot in
    let end : e ≡ at + 1 + length (map slot list) = omega arith in
    ap (λ (ys : List ℕ). replacing numbers at e ys) is
    ∙ ap (λ (r : List ℕ). take (at + 1) numbers ++ (map slot list ++ r))
    (Post-is (at + 1) e numbers (omega arith) ∙ ap (λ (p : ℕ). drop p numbers) end)
    ∙ laid-behind-own at (length list ∷ []) (map slot list) (omega arith) (stands-front list s)
    ∙ ap (λ (n : ℕ). laid numbers at (n ∷ map slot list)) (sym long)

repeats-some : (list : List ℕ) → duplicates list ≡ true → 0 < length list
unfolding duplicates
repeats-some [] e = absurd (true≢false (sym e))
repeats-some (x ∷ list) e = omega arith

module _ {numbers slots : List ℕ} {base at limit e : ℕ} where
  module _ (w : ListReady numbers slots base at limit) (l : ListAt numbers at e w.listed.list) where
    in_table : Below (length slots) (part (at + 1) e numbers)
    in_table = subst (Below (length slots)) (sym l.is) w.in_slots

    pub learnable : limit ≤ at → duplicates (part (at + 1) e numbers) ≡ false → Learnable (part (at + 1) e numbers) slots base limit
    learnable low once = record { single = once; in_table = in_table; few = omega (arith, ap length l.is); high = w.high }

    pub resolvable : Resolvable (part (at + 1) e numbers) slots base limit
    resolvable = record { in_table = in_table; few = w.few; high = w.high }

  -- A list that repeats a net is not looked at further.
  pub list-repeats :
      Behind numbers at e → true ≡ duplicates (part (at + 1) e numbers) → ListLearnt numbers slots base at limit slots numbers 0
  list-repeats behind twice =
      record {
        learnt = λ list nets s k count.
            let l = list_at list s behind in
            let again = subst (λ (ys : List ℕ). true ≡ duplicates ys) l.is twice in
            let some = repeats-some list (sym again) in
            (front-short some (rw (← again)), λ none. absurd (omega arith), λ none. absurd (omega arith));
        low = λ b. b;
      }

  module _ {xs : List ℕ} {r : ℕ} (behind : Behind numbers at e) where
    pub list-learnt :
        {slots' : List ℕ} → duplicates (part (at + 1) e numbers) ≡ false
        → ((nets : List ℕ) → Knows slots base nets → limit ≡ length nets → Learnt nets (part (at + 1) e numbers) base xs slots' r)
        → (Below (base + 65536) slots → Below (base + 65536) slots')
        → ListLearnt numbers slots base at limit slots' (replacing numbers at e xs) r
    list-learnt {slots'} once learnt low =
        record {
          learnt = λ list nets s k count.
              let l = list_at list s behind in
              let a = subst (λ (ys : List ℕ). Learnt nets ys base xs slots' r) l.is (learnt nets k count) in
              let single = subst (λ (ys : List ℕ). duplicates ys ≡ false) l.is once in
              (rw single a.front, a.knows, λ t. listed (λ (x : ℕ). slot_of x (nets ++ list)) s l (a.written t));
          low = low;
        }

    pub list_written :
        length xs ≡ length (part (at + 1) e numbers)
        → ((nets more : List ℕ) → Knows slots base (nets ++ more) → limit ≡ length nets → Resolved nets more (part (at + 1) e numbers) xs r)
        → ListWritten numbers slots base at limit (replacing numbers at e xs) r
    list_written long resolved =
        record {
          written = λ list nets more s k count.
              let l = list_at list s behind in
              let a = subst (λ (ys : List ℕ). Resolved nets more ys xs r) l.is (resolved nets more k count) in
              (a.front, λ t. listed (λ (x : ℕ). slot_of x (nets ++ more)) s l (a.written t));
          behind = λ list s.
              let l = list_at list s behind in
              subst (λ (p : ℕ). drop p (replacing numbers at e xs) ≡ drop p numbers) l.behind
              (drop_put (at + 1) e numbers xs (omega arith) l.end (omega (arith, ap length l.is)));
        }
