-- Reading a number stops only at bytes that are none, reading a count also at one over its ceiling.
use Rattle.std.specs.Prelude.{ℕ, suc, ◌+◌, ◌*◌, ◌-◌, ◌≤◌, ◌⊎◌, ◌≡◌, refl, Bool, true, false, cond, ◌||◌, List, [], ◌∷◌, ltb, leb, eqb}
use Rattle.std.proofs.Common.{add-zero, arith, inl, inr, sym, ap, ◌∙◌, append-nil, ltb-false, eqb-true, leb-true, leb-false}
use Rattle.meaning.specs.Layout.{each, number_bytes}
use Rattle.meaning.specs.Reading.{Step, got, refused, onward, second_group, read_number, read_count}
use Rattle.meaning.specs.Ceilings.{most_number, Small, Bytes}
use Rattle.meaning.specs.Fronts.{Unread, ill_formed, nothing, half, bad_second, over}
use Rattle.laws.specs.Reading.{exact-last}
use Rattle.laws.specs.Exactness.{number-exact, count-exact}
use Rattle.laws.specs.Unreadable.Refusing.{RefusedAt, Refuses, got_not_refused, Laid}

-- In front of a number, or a count, by itself stands nothing.
pub data NumberFront (most : ℕ) : List ℕ → ℕ → Type 0 where
  due : NumberFront most [] most

-- So its refusal is that of the bytes that stand there.
at_once :
    {most n k : ℕ} {rest : List ℕ} (p : ℕ)
    → Unread most rest n k
    → (number place : ℕ)
    → ◌≡◌ {A = Step ℕ} (refused n (p + k)) (refused number place)
    → RefusedAt (NumberFront most) p rest number place
unfolding each
at_once {most} {n} {k} {rest} p u number place e =
    let same : n ≡ number = cc in
    let there : p + k ≡ place = cc in
    record {
      before = [];
      rest = rest;
      most = most;
      behind = k;
      front = due;
      unread = rw same at u;
      bytes-are = refl;
      place_is = omega arith;
    }

second-refused :
    {most : ℕ} (p b : ℕ) (rest : List ℕ) (number place : ℕ)
    → 128 ≤ b
    → second_group (b - 128) p rest ≡ refused number place
    → RefusedAt (NumberFront most) p (b ∷ rest) number place
unfolding second_group
second-refused {most} p b [] number place high h =
    let behind : suc p ≡ p + 1 = omega arith in
    at_once p (ill_formed (half high)) number place (rw behind at h)
second-refused {most} p b (second ∷ rest) number place high h = go (eqb second 0) refl (leb 128 second) refl h
  where
    bad :
        (second ≡ 0) ⊎ (128 ≤ second)
        → ◌≡◌ {A = Step ℕ} (refused 3 p) (refused number place)
        → RefusedAt (NumberFront most) p (b ∷ second ∷ rest) number place
    bad why e = at_once p (ill_formed (bad_second high why)) number place (ap (refused 3) (add-zero p) ∙ e)

    go :
        (a : Bool)
        → eqb second 0 ≡ a
        → (c : Bool)
        → leb 128 second ≡ c
        → cond (a || c) (refused 3 p) (got (b - 128 + 128 * second) (suc (suc p)) rest) ≡ refused number place
        → RefusedAt (NumberFront most) p (b ∷ second ∷ rest) number place
    go true e c e' h = bad (inl (eqb-true second 0 e)) h
    go false e true e' h = bad (inr (leb-true 128 second e')) h
    go false e false e' h = absurd (got_not_refused h)

-- Whatever the ceiling of the number,
number-refuses : (most : ℕ) → Refuses read_number (NumberFront most)
unfolding read_number
number-refuses most = record { told = go }
  where
    first :
        (p b : ℕ) (rest : List ℕ) (number place : ℕ) (low : Bool)
        → ltb b 128 ≡ low
        → cond low (got b (suc p) rest) (second_group (b - 128) p rest) ≡ refused number place
        → RefusedAt (NumberFront most) p (b ∷ rest) number place
    first p b rest number place true e h = absurd (got_not_refused h)
    first p b rest number place false e h = second-refused p b rest number place (ltb-false b 128 e) h

    go :
        (p : ℕ) (bytes : List ℕ)
        → Bytes bytes
        → (number place : ℕ)
        → read_number p bytes ≡ refused number place
        → RefusedAt (NumberFront most) p bytes number place
    go p [] ok number place h = at_once p (ill_formed nothing) number place (ap (refused 2) (add-zero p) ∙ h)
    go p (b ∷ rest) ok number place h = first p b rest number place (ltb b 128) refl h

-- and a count where it is over its own.
count-refuses : (most : ℕ) → Refuses (read_count most) (NumberFront most)
unfolding read_count
count-refuses most = record { told = λ p bytes ok number place. go p bytes ok number place (read_number p bytes) refl }
  where
    go :
        (p : ℕ) (bytes : List ℕ)
        → Bytes bytes
        → (number place : ℕ) (s : Step ℕ)
        → read_number p bytes ≡ s
        → onward (λ n q rest. cond (leb n most) (got n q rest) (refused 4 p)) s ≡ refused number place
        → RefusedAt (NumberFront most) p bytes number place
    go p bytes ok number place (refused n q) e h = (number-refuses most).told p bytes ok number place (e ∙ (cc))
    go p bytes ok number place (got n q rest) e h = over_ceiling (leb n most) refl h
      where
        over_ceiling :
            (fits : Bool)
            → leb n most ≡ fits
            → cond fits (got n q rest) (refused 4 p) ≡ refused number place
            → RefusedAt (NumberFront most) p bytes number place
        over_ceiling true f h = absurd (got_not_refused h)
        over_ceiling false f h =
            let t = number-exact.took p bytes ok n q rest e in
            rw t.bytes-are
            (at_once p (over n rest (leb-false n most f) t.good) number place (ap (refused 4) (add-zero p) ∙ h))

-- So both are laid out as the one number.
pub number-laid : Laid read_number (λ n. n ∷ []) Small (NumberFront most_number)
unfolding each
number-laid =
    record { exact = exact-last number-exact (λ n g. sym (append-nil (number_bytes n))) (λ n g. g); refuses = number-refuses most_number }

pub count-laid : (most : ℕ) → Laid (read_count most) (λ n. n ∷ []) (λ n. n ≤ most) (NumberFront most)
unfolding each
count-laid most =
    record { exact = exact-last (count-exact most) (λ n g. sym (append-nil (number_bytes n))) (λ n g. g); refuses = count-refuses most }
