-- The bytes in front of the gates in a file of one module, whose lists of inputs and outputs stand in an image.
use Rattle.std.specs.Prelude.{ℕ, ◌+◌, ◌≤◌, List, ◌++◌, length}
use Rattle.meaning.specs.Layout.{number_bytes}
use Rattle.meaning.specs.Ceilings.{Small, NetsWithin}
use Rattle.laws.specs.Written.{nets_bytes}
use Rattle.bytes_out.specs.Filled.{Put}
use Rattle.image.specs.Slots.{Readable}
use Rattle.image.specs.declared.places.Header.{Header}
use Rattle.flat_bytes.specs.Slots.{nets_at}

abbrev pub front_bytes : (number : ℕ) (inputs outputs : List ℕ) (gates : ℕ) → List ℕ
front_bytes number inputs outputs gates =
    number_bytes 1 ++ (number_bytes number ++ (nets_bytes inputs ++ (nets_bytes outputs ++ number_bytes gates)))

-- The nets of the inputs and of the outputs of a module whose numbers begin at a place.
abbrev pub ins_at : (image : List ℕ) (start : ℕ) (h : Header) (scratch : List ℕ) → List ℕ
ins_at image start h scratch = nets_at image (start + 2) (start + 2 + h.inputs) scratch

abbrev pub outs_at : (image : List ℕ) (h : Header) (scratch : List ℕ) → List ℕ
outs_at image h scratch = nets_at image h.from h.to scratch

-- Both lists can be read, all numbers can be written, and there is room for them.
pub record Frontable (image : List ℕ) (start : ℕ) (h : Header) (number gates : ℕ) (scratch bytes : List ℕ) (at : ℕ) : Type 0 where
  pub own : Small number
  pub counted : Small gates
  pub ins : Readable image (start + 2) (start + 2 + h.inputs) 0 (length scratch)
  pub ins_within : NetsWithin (ins_at image start h scratch)
  pub outs : Readable image h.from h.to 0 (length scratch)
  pub outs_within : NetsWithin (outs_at image h scratch)
  pub room : at + length (front_bytes number (ins_at image start h scratch) (outs_at image h scratch) gates) ≤ length bytes

abbrev pub Fronted :
    (image : List ℕ) (start : ℕ) (h : Header) (number gates : ℕ) (scratch before : List ℕ) (at : ℕ) (after : List ℕ) (r : ℕ) → Type 0
Fronted image start h number gates scratch before at after r =
    Put (front_bytes number (ins_at image start h scratch) (outs_at image h scratch) gates) before at after r
