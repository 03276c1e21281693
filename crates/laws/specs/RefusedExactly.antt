-- Each of the seventeen refusals of a file means what its row says: a file is refused with a number and a place exactly where
-- `FileRefusal` holds of its bytes, the number and the place.
use Rattle.std.specs.Prelude.{ℕ, ◌↔◌, ◌≡◌, refl, List}
use Rattle.std.proofs.Common.{sym, ap, ◌∙◌}
use Rattle.meaning.specs.Reading.{File, holds, fails, read}
use Rattle.meaning.specs.Ceilings.{Bytes}
use Rattle.meaning.specs.Verdict.{refused, verdict_of, verdict}
use Rattle.meaning.specs.Refusals.{FileRefusal, unreadable, breaks}
use Rattle.laws.specs.Exactness.{exactness}
use Rattle.laws.specs.RoundTrip.{encodes-reads}
use Rattle.laws.specs.Refusals.{verdict-outcome}
use Rattle.laws.specs.Unreadable.Exactly.{unreadable_exactly}

pub refused_exactly : (bytes : List ℕ) → Bytes bytes → (n p : ℕ) → verdict bytes ≡ refused n p ↔ FileRefusal bytes n p
unfolding verdict
refused_exactly bytes ok n p = (go (read bytes) refl, back)
  where
    go : (f : File) → read bytes ≡ f → verdict_of f ≡ refused n p → FileRefusal bytes n p
    go (holds ms) e v = breaks ms (exactness bytes ok ms e) ((verdict-outcome ms (refused n p)).0 v)
    go (fails n' p') e v = unreadable ((unreadable_exactly bytes ok n p).0 (e ∙ (cc)))

    back : {n p : ℕ} → FileRefusal bytes n p → verdict_of (read bytes) ≡ refused n p
    back (unreadable {number} {place} u) = ap verdict_of ((unreadable_exactly bytes ok number place).1 u)
    back (breaks {number} {place} ms e o) = ap verdict_of (encodes-reads e) ∙ (verdict-outcome ms (refused number place)).1 o

-- So no bytes have two refusals.
pub one-refusal : {bytes : List ℕ} {n p m q : ℕ} → Bytes bytes → FileRefusal bytes n p → FileRefusal bytes m q → (n ≡ m) × (p ≡ q)
one-refusal {bytes} {n} {p} {m} {q} ok r s =
    let same : refused n p ≡ refused m q = sym ((refused_exactly bytes ok n p).1 r) ∙ (refused_exactly bytes ok m q).1 s in
    ((cc), (cc))
