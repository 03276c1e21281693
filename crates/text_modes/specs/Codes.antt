-- The kind of a byte, from its number.
use Rattle.std.specs.Prelude.{ℕ, ◌<◌, ◌≡◌, refl}
use Rattle.std.proofs.Common.{arith}
use Rattle.meaning.specs.ListForm.{Sign, mark, opening, closing, stray, Kind, letter, space, Kind.sign as sign_kind}
use Rattle.text_modes.specs.Modes.{sign_code, kind_code}

pub code-space : (k : Kind) → kind_code k ≡ 5 → k ≡ space
code-space letter e = absurd (omega arith)
code-space space e = refl
code-space (sign_kind mark) e = absurd (omega arith)
code-space (sign_kind opening) e = absurd (omega arith)
code-space (sign_kind closing) e = absurd (omega arith)
code-space (sign_kind stray) e = absurd (omega arith)

-- What is no letter and no space is a sign.
pub record SignOf (k : Kind) (part : ℕ) : Type 0 where
  pub it : Sign
  pub is : k ≡ sign_kind it
  pub code : part ≡ sign_code it

pub sign_of : (k : Kind) (part : ℕ) → part ≡ kind_code k → (part ≡ 4 → ⊥) → (part ≡ 5 → ⊥) → SignOf k part
sign_of letter part e f g = absurd (f e)
sign_of space part e f g = absurd (g e)
sign_of (sign_kind s) part e f g = record { it = s; is = refl; code = e }

pub part-few : (k : Kind) (part : ℕ) → part ≡ kind_code k → (part ≡ 5 → ⊥) → part < 5
part-few letter part e f = omega arith
part-few space part e f = absurd (f e)
part-few (sign_kind mark) part e f = omega arith
part-few (sign_kind opening) part e f = omega arith
part-few (sign_kind closing) part e f = omega arith
part-few (sign_kind stray) part e f = omega arith
