-- The desk in a list of numbers, and what the code does to it.
use Rattle.std.specs.Prelude.{ℕ, suc, ◌+◌, ◌≤◌, ◌<◌, ◌≡◌, refl, Bool, true, false, cond, ◌||◌, ◌⊎◌, List, [], ◌∷◌, ◌++◌, eqb, leb, length, take, get_or, set}
use Rattle.std.proofs.Common.{add-one, arith, sym, ◌∙◌, ap, inl, inr, append_assoc, length-set, take-suc-set, get_or-take, length-take-le, ne_eqb, leb-false}
use Rattle.std.proofs.Math.Seq.{take-set-lt}
use Rattle.text_desk.specs.declared.Marks.{Marks}
use Rattle.text_desk.specs.Desk.{Desk, raised, with_raised, with_list, with_body, opened, opened_over, with_name, with_net}
use Rattle.text_desk.specs.Ready.{Openable}

abbrev pub desk_of : List ℕ → Marks → Desk
desk_of numbers marks = record { numbers = take marks.at numbers; list = marks.list; body = marks.body }

pub record Testable (mode : ℕ) (numbers : List ℕ) (marks : Marks) : Type 0 where
  pub room : marks.at ≤ length numbers
  pub ready : Openable mode (desk_of numbers marks)

pub record Raisable (numbers : List ℕ) (place : ℕ) : Type 0 where
  pub within : place < length numbers
  pub small : get_or numbers place 0 < 65535

pub record Opening (mode : ℕ) (numbers : List ℕ) (marks : Marks) : Type 0 where
  pub room : marks.at < length numbers
  pub ready : Openable mode (desk_of numbers marks)
  pub few : opened_over mode (desk_of numbers marks) ≡ false

-- What comes of it: so it is on the desk, and at most so many numbers are new.
pub record Opens (mode : ℕ) (before : List ℕ) (marks : Marks) (after : List ℕ) (marks' : Marks) : Type 0 where
  pub is : desk_of after marks' ≡ opened mode (desk_of before marks)
  pub most : marks'.at ≤ marks.at + 1

pub record Puts (change : Desk → Desk) (before : List ℕ) (marks : Marks) (after : List ℕ) (marks' : Marks) : Type 0 where
  pub is : desk_of after marks' ≡ change (desk_of before marks)
  pub most : marks'.at ≤ marks.at + 2

pub record Naming (numbers : List ℕ) (marks : Marks) : Type 0 where
  pub room : marks.at + 2 ≤ length numbers

pub record Netting (numbers : List ℕ) (marks : Marks) : Type 0 where
  pub room : marks.at + 2 ≤ length numbers
  pub within : marks.list < marks.at
  pub few : get_or numbers marks.list 0 < 65535

module _ (numbers : List ℕ) (marks : Marks) where
  -- A count that is raised.
  pub raised_desk : (q : ℕ) (after : List ℕ) → q < marks.at → after ≡ raised numbers q → desk_of after marks ≡ with_raised q (desk_of numbers marks)
  raised_desk q after l e =
      ap (λ xs. record { numbers = xs; list = marks.list; body = marks.body })
      (ap (take marks.at) e
      ∙ take-set-lt marks.at numbers q (get_or numbers q 0 + 1) l
      ∙ ap (λ k. set (take marks.at numbers) q (k + 1)) (sym (get_or-take marks.at numbers q 0 l)))

  -- A number behind all.
  pub one-behind : (x : ℕ) → marks.at < length numbers → take (marks.at + 1) (set numbers marks.at x) ≡ take marks.at numbers ++ (x ∷ [])
  one-behind x l = ap (λ k. take k (set numbers marks.at x)) (add-one marks.at) ∙ take-suc-set numbers marks.at x l

  pub desk_length : marks.at ≤ length numbers → length (take marks.at numbers) ≡ marks.at
  desk_length l = length-take-le marks.at numbers l

  module _ (mode : ℕ) (o : Opening mode numbers marks) where
    -- The counts of modules and of occurrences.
    pub first_raisable : mode ≡ 2 → Raisable numbers 0
    first_raisable e =
        let at : 0 < length (take marks.at numbers) = o.ready.first e in
        let is : length (take marks.at numbers) ≡ marks.at = desk_length (omega arith) in
        let few : leb 128 (get_or (take marks.at numbers) 0 0) ≡ false = sym (ap (λ m. opened_over m (desk_of numbers marks)) e) ∙ o.few in
        let small : get_or (take marks.at numbers) 0 0 < 128 = leb-false 128 _ few in
        let same : get_or (take marks.at numbers) 0 0 ≡ get_or numbers 0 0 = get_or-take marks.at numbers 0 0 (omega arith) in
        record { within = omega arith; small = omega arith }

    pub body_raisable : mode ≡ 9 → Raisable numbers marks.body
    body_raisable e =
        let at : marks.body < length (take marks.at numbers) = o.ready.body e in
        let is : length (take marks.at numbers) ≡ marks.at = desk_length (omega arith) in
        let few : leb 4096 (get_or (take marks.at numbers) marks.body 0) ≡ false = sym (ap (λ m. opened_over m (desk_of numbers marks)) e) ∙ o.few in
        let small : get_or (take marks.at numbers) marks.body 0 < 4096 = leb-false 4096 _ few in
        let same : get_or (take marks.at numbers) marks.body 0 ≡ get_or numbers marks.body 0 = get_or-take marks.at numbers marks.body 0 (omega arith) in
        record { within = omega arith; small = omega arith }

    pub opens_none : (mode ≡ 4) ⊎ (mode ≡ 12) → Opens mode numbers marks numbers marks
    opens_none (inl e) = record { is = sym (ap (λ m. opened m (desk_of numbers marks)) e); most = omega arith }
    opens_none (inr e) = record { is = sym (ap (λ m. opened m (desk_of numbers marks)) e); most = omega arith }

    pub opens_module : mode ≡ 2 → (after : List ℕ) → after ≡ raised numbers 0 → Opens mode numbers marks after marks
    opens_module e after f =
        let at : 0 < length (take marks.at numbers) = o.ready.first e in
        let is : length (take marks.at numbers) ≡ marks.at = desk_length (omega arith) in
        record { is = raised_desk 0 after (omega arith) f ∙ sym (ap (λ m. opened m (desk_of numbers marks)) e); most = omega arith }

    pub opens_occurrence : mode ≡ 9 → (after : List ℕ) → after ≡ raised numbers marks.body → Opens mode numbers marks after marks
    opens_occurrence e after f =
        let at : marks.body < length (take marks.at numbers) = o.ready.body e in
        let is : length (take marks.at numbers) ≡ marks.at = desk_length (omega arith) in
        record { is = raised_desk marks.body after (omega arith) f ∙ sym (ap (λ m. opened m (desk_of numbers marks)) e); most = omega arith }

    pub opens_body : mode ≡ 8
        → Opens mode numbers marks (set numbers marks.at 0) (record { at = marks.at + 1; list = marks.list; body = marks.at })
    opens_body e =
        record {
          is = ap (λ xs. record { numbers = xs; list = marks.list; body = marks.at }) (one-behind 0 o.room)
              ∙ ap (λ k. record { numbers = take marks.at numbers ++ (0 ∷ []); list = marks.list; body = k }) (sym (desk_length (omega arith)))
              ∙ sym (ap (λ m. opened m (desk_of numbers marks)) e);
          most = omega arith;
        }

    pub opens_list : (mode ≡ 4 → ⊥) → (mode ≡ 12 → ⊥) → (mode ≡ 2 → ⊥) → (mode ≡ 9 → ⊥) → (mode ≡ 8 → ⊥)
        → Opens mode numbers marks (set numbers marks.at 0) (record { at = marks.at + 1; list = marks.at; body = marks.body })
    opens_list a b c d e =
        record {
          is = ap (λ xs. record { numbers = xs; list = marks.at; body = marks.body }) (one-behind 0 o.room)
              ∙ ap (λ k. record { numbers = take marks.at numbers ++ (0 ∷ []); list = k; body = marks.body }) (sym (desk_length (omega arith)))
              ∙ rw (ne_eqb mode 4 a, ne_eqb mode 12 b, ne_eqb mode 2 c, ne_eqb mode 9 d, ne_eqb mode 8 e);
          most = omega arith;
        }

  -- A name, and the count behind it.
  pub puts_name : (x : ℕ) → Naming numbers marks
      → Puts (with_name x) numbers marks (set (set numbers marks.at x) (marks.at + 1) 0) (record { at = marks.at + 2; list = marks.at + 1; body = marks.body })
  puts_name x n =
      let room : marks.at + 2 ≤ length numbers = n.room in
      let long : length (set numbers marks.at x) ≡ length numbers = length-set numbers marks.at x in
      let two : marks.at + 2 ≡ suc (marks.at + 1) = omega arith in
      record {
        is = ap (λ xs. record { numbers = xs; list = marks.at + 1; body = marks.body })
            (ap (λ k. take k (set (set numbers marks.at x) (marks.at + 1) 0)) two
            ∙ take-suc-set (set numbers marks.at x) (marks.at + 1) 0 (omega arith)
            ∙ ap (λ xs. xs ++ (0 ∷ [])) (one-behind x (omega arith))
            ∙ append_assoc (take marks.at numbers) (x ∷ []) (0 ∷ []))
            ∙ ap (λ k. record { numbers = take marks.at numbers ++ (x ∷ 0 ∷ []); list = k + 1; body = marks.body }) (sym (desk_length (omega arith)));
        most = omega arith;
      }

  -- A net.
  pub puts_net : (x : ℕ) (after : List ℕ) → after ≡ raised numbers marks.list → Netting numbers marks
      → Puts (with_net x) numbers marks (set after marks.at x) (record { at = marks.at + 1; list = marks.list; body = marks.body })
  puts_net x after e n =
      let room : marks.at + 2 ≤ length numbers = n.room in
      let long : length after ≡ length numbers = ap length e ∙ length-set numbers marks.list (get_or numbers marks.list 0 + 1) in
      record {
        is = ap (λ xs. record { numbers = xs; list = marks.list; body = marks.body })
            (ap (λ k. take k (set after marks.at x)) (add-one marks.at)
            ∙ take-suc-set after marks.at x (omega arith)
            ∙ ap (λ (d : Desk). d.numbers ++ (x ∷ [])) (raised_desk marks.list after n.within e));
        most = omega arith;
      }

  -- The two tests.
  pub tests-modules : (mode : ℕ) → Testable mode numbers marks → mode ≡ 2 → leb 128 (get_or numbers 0 0) ≡ opened_over mode (desk_of numbers marks)
  tests-modules mode t e =
      let at : 0 < length (take marks.at numbers) = t.ready.first e in
      let is : length (take marks.at numbers) ≡ marks.at = desk_length t.room in
      ap (leb 128) (sym (get_or-take marks.at numbers 0 0 (omega arith))) ∙ sym (ap (λ m. opened_over m (desk_of numbers marks)) e)

  pub tests-body : (mode : ℕ) → Testable mode numbers marks → mode ≡ 9 → leb 4096 (get_or numbers marks.body 0) ≡ opened_over mode (desk_of numbers marks)
  tests-body mode t e =
      let at : marks.body < length (take marks.at numbers) = t.ready.body e in
      let is : length (take marks.at numbers) ≡ marks.at = desk_length t.room in
      ap (leb 4096) (sym (get_or-take marks.at numbers marks.body 0 (omega arith))) ∙ sym (ap (λ m. opened_over m (desk_of numbers marks)) e)

  pub tests-none : (mode : ℕ) → (mode ≡ 2 → ⊥) → (mode ≡ 9 → ⊥) → false ≡ opened_over mode (desk_of numbers marks)
  tests-none mode f g = rw (ne_eqb mode 2 f, ne_eqb mode 9 g)

  pub tested-first : (mode : ℕ) → Testable mode numbers marks → mode ≡ 2 → 0 < length numbers
  tested-first mode t e =
      let at : 0 < length (take marks.at numbers) = t.ready.first e in
      let is : length (take marks.at numbers) ≡ marks.at = desk_length t.room in
      let room : marks.at ≤ length numbers = t.room in
      omega arith

  pub tested-body : (mode : ℕ) → Testable mode numbers marks → mode ≡ 9 → marks.body < length numbers
  tested-body mode t e =
      let at : marks.body < length (take marks.at numbers) = t.ready.body e in
      let is : length (take marks.at numbers) ≡ marks.at = desk_length t.room in
      let room : marks.at ≤ length numbers = t.room in
      omega arith
