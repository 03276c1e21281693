-- Work in the part of scratch behind a frame: the part is lent from a place on and comes back; values are passed to it before, and fetched
-- from it into the next slots of the frame afterwards.
use Rattle.std.specs.Prelude.{ℕ, ◌+◌, ◌-◌, ◌≤◌, ◌≡◌, List, [], ◌++◌, length, take, drop}
use Rattle.std.proofs.Common.{sym, ap, ap₂, ◌∙◌, append-nil, arith, length-drop, length-append, drop_of_length-le, take_all, take-take, take_at, drop_at, length-take-le}
use borrow.Rule.Slice.PartMut.{mid_of, put_mid}
use Rattle.image.specs.Frames.{read_slots, Filled}
use Rattle.image.specs.FrameLengths.{length-of-read_slots}
use Rattle.image.specs.Laid.{laid, length-laid, from-laid, take-laid, drop-laid, front-of-laid}
use Rattle.image.specs.Reading.{read-front}
use Rattle.image.specs.Entries.{same-behind, same-further}

-- What was lent is all that stands there.
pub lent_is : {A : Type 0} (a : ℕ) (xs : List A) → mid_of a (length xs - a) xs ≡ drop a xs
lent_is a xs = take_all (length xs - a) (drop a xs) (omega (arith, length-drop a xs))

-- With the part that came back in its place.
pub record Back {A : Type 0} (a : ℕ) (xs part ys : List A) : Type 0 where
  pub front : take a ys ≡ take a xs
  pub lent : drop a ys ≡ part
  pub size : length ys ≡ length xs

pub back :
    {A : Type 0} (a : ℕ) (xs part : List A) → a ≤ length xs → length part ≡ length (mid_of a (length xs - a) xs)
    → Back a xs part (put_mid a (length xs - a) xs part)
back {A} a xs part h long =
    rw whole
    (record {
      front = take_at (take a xs) part a (length-take-le a xs h);
      lent = drop_at (take a xs) part a (length-take-le a xs h);
      size =
          length-append (take a xs) part ∙ omega (arith, length-take-le a xs h, long, ap length (lent_is a xs), length-drop a xs);
    })
  where
    nothing : drop (length xs - a) (drop a xs) ≡ []
    nothing = drop_of_length-le (drop a xs) {i = length xs - a} (omega (arith, length-drop a xs))

    whole : put_mid a (length xs - a) xs part ≡ take a xs ++ part
    whole = ap (λ (l : List A). take a xs ++ (part ++ l)) nothing ∙ ap (λ (l : List A). take a xs ++ l) (append-nil part)

-- The values at the slots `takes` of the frame are passed to the front of the part.
pub record Passed {A : Type 0} (none : A) (takes : List ℕ) (frame filled : ℕ) (scratch scratch₁ : List A) : Type 0 where
  pub slots : Filled filled takes
  pub enough : frame + length takes ≤ length scratch
  pub is : scratch₁ ≡ laid scratch frame (read_slots none scratch takes)

module _
    {A : Type 0} {none : A} {takes : List ℕ} {frame filled : ℕ} {scratch scratch₁ : List A} (p : Passed none takes frame filled scratch scratch₁)
  where
    abbrev args : List A
    args = read_slots none scratch takes

    args_fit : frame + length args ≤ length scratch
    args_fit = omega (arith, length-of-read_slots none scratch takes, p.enough)

    pub passed-size : length scratch₁ ≡ length scratch
    passed-size = ap length p.is ∙ length-laid scratch frame args args_fit

    -- The part begins with what the frame has at the slots.
    pub given : take (length takes) (drop frame scratch₁) ≡ read_slots none (take filled scratch) takes
    given =
        ap (λ (l : List A). take (length takes) (drop frame l)) p.is
        ∙ ap (take (length takes)) (from-laid scratch frame args args_fit)
        ∙ take_at args (drop (frame + length args) scratch) (length takes) (length-of-read_slots none scratch takes)
        ∙ sym (read-front none scratch takes p.slots)

    front_kept : take frame scratch₁ ≡ take frame scratch
    front_kept = ap (take frame) p.is ∙ take-laid scratch frame args args_fit

    behind-kept : (bound : ℕ) → frame + length takes ≤ bound → drop bound scratch₁ ≡ drop bound scratch
    behind-kept bound wide =
        same-further scratch₁ scratch (frame + length args) bound (omega (arith, length-of-read_slots none scratch takes))
        (ap (drop (frame + length args)) p.is ∙ drop-laid scratch frame args args_fit)

-- And after the part came back, the values at its slots `outputs` are fetched.
pub record Exchange
    {A : Type 0} (none : A) (takes outputs : List ℕ) (frame filled : ℕ) (scratch scratch₁ part scratch₂ scratch₃ : List A) : Type 0 where
  pub passed : Passed none takes frame filled scratch scratch₁
  pub fits : filled + length outputs ≤ frame
  pub back : Back frame scratch₁ part scratch₂
  pub fetched : scratch₃ ≡ laid scratch₂ filled (read_slots none (drop frame scratch₂) outputs)

module _
    {A : Type 0} {none : A} {takes outputs : List ℕ} {frame filled : ℕ} {scratch scratch₁ part scratch₂ scratch₃ : List A}
    (x : Exchange none takes outputs frame filled scratch scratch₁ part scratch₂ scratch₃)
  where
    abbrev values : List A
    values = read_slots none (drop frame scratch₂) outputs

    values-long : length values ≡ length outputs
    values-long = length-of-read_slots none (drop frame scratch₂) outputs

    values-fit : filled + length values ≤ length scratch₂
    values-fit = omega (arith, values-long, x.fits, x.passed.enough, x.back.size, passed-size x.passed)

    pub size : length scratch₃ ≡ length scratch
    size = ap length x.fetched ∙ length-laid scratch₂ filled values values-fit ∙ x.back.size ∙ passed-size x.passed

    -- The frame grows by what was fetched,
    pub grown : take (filled + length outputs) scratch₃ ≡ take filled scratch ++ read_slots none part outputs
    grown =
        ap (take (filled + length outputs)) x.fetched
        ∙ ap (λ (n : ℕ). take (filled + n) (laid scratch₂ filled values)) (sym values-long)
        ∙ front-of-laid scratch₂ filled values values-fit
        ∙ ap₂ ◌++◌ kept (ap (λ (l : List A). read_slots none l outputs) x.back.lent)
      where
        kept : take filled scratch₂ ≡ take filled scratch
        kept =
            let low : filled ≤ frame = omega (arith, x.fits) in
            sym (take-take filled frame scratch₂ low)
            ∙ ap (take filled) (x.back.front ∙ front_kept x.passed)
            ∙ take-take filled frame scratch low

    -- and what the part leaves as it was, is as it was.
    pub untouched :
        (bound : ℕ)
        → frame + length takes ≤ bound
        → drop (bound - frame) part ≡ drop (bound - frame) (drop frame scratch₁)
        → drop bound scratch₃ ≡ drop bound scratch
    untouched bound wide same =
        same-further scratch₃ scratch₂ (filled + length values) bound (omega (arith, values-long, x.fits))
        (ap (drop (filled + length values)) x.fetched ∙ drop-laid scratch₂ filled values values-fit)
        ∙ same-behind scratch₂ scratch₁ frame bound (omega arith) (ap (drop (bound - frame)) x.back.lent ∙ same)
        ∙ behind-kept x.passed bound wide
