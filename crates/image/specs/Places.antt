-- Where the parts of a module and of an occurrence stand in the image, as the code reads them off.
use Rattle.std.specs.Prelude.{ℕ, ◌+◌, ◌≡◌, List, length}
use Rattle.meaning.specs.Syntax.{Occurrence, Module}
use Rattle.meaning.specs.Layout.{each, occurrence_numbers, module_numbers}
use Rattle.image.specs.Stands.{Stands}
use Rattle.image.specs.declared.places.Header.{Header}
use Rattle.image.specs.declared.places.Place.{Place}

-- Some module's numbers stand at a place.
pub record ModuleThere (image : List ℕ) (at : ℕ) : Type 0 where
  pub m : Module
  pub stands : Stands image at (module_numbers m)

pub record HeaderOf (image : List ℕ) (at : ℕ) (m : Module) (h : Header) : Type 0 where
  pub inputs : h.inputs ≡ length m.inputs
  pub from : h.from ≡ at + 3 + length m.inputs
  pub to : h.to ≡ h.from + length m.outputs
  pub count : h.count ≡ length m.occurrences
  pub outputs : Stands image h.from m.outputs
  pub body : Stands image (h.to + 1) (each occurrence_numbers m.occurrences)

-- It is that of any module that stands there.
abbrev pub Headed : (image : List ℕ) (at : ℕ) (h : Header) → Type 0
Headed image at h = (m : Module) → Stands image at (module_numbers m) → HeaderOf image at m h

-- Some occurrence's numbers stand at a place.
pub record OccurrenceThere (image : List ℕ) (at : ℕ) : Type 0 where
  pub o : Occurrence
  pub stands : Stands image at (occurrence_numbers o)

pub record PlaceOf (image : List ℕ) (at : ℕ) (o : Occurrence) (p : Place) : Type 0 where
  pub drives : p.drives ≡ length o.drives
  pub driven : Stands image (at + 1) o.drives
  pub refers : p.refers ≡ o.refers
  pub from : p.from ≡ at + 3 + length o.drives
  pub takes : Stands image p.from o.takes
  pub to : p.to ≡ p.from + length o.takes
  pub next : p.to ≡ at + length (occurrence_numbers o)
