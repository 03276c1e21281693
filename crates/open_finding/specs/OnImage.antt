-- A module that stands, as the engines see it: at its position of the file that is resolved in the image.
use Rattle.std.specs.Prelude.{ℕ, ◌+◌, ◌≡◌, List, length, get_or}
use Rattle.std.proofs.Common.{sym, ap, ◌∙◌, arith}
use Rattle.meaning.specs.Syntax.{Module}
use Rattle.meaning.specs.Layout.{module_numbers}
use Rattle.image.specs.Stands.{Stands}
use Rattle.image.specs.Resolved.{position_of, refer_to, resolve_module, resolve}
use Rattle.image.specs.ResolvedLayout.{resolved-at}
use Rattle.image.specs.Shapes.{inputs-of-resolved, outputs-of-resolved}
use Rattle.image.specs.Imaged.{imaged}
use Rattle.image.specs.Places.{HeaderOf}
use Rattle.image.specs.Scenes.{Scene, module_stands}
use Rattle.image.specs.declared.places.Header.{Header}
use Rattle.open_finding.specs.Standing.{Standing, fits}
use Rattle.open_finding.specs.declared.Site.{Site}

module _ {image starts nets : List ℕ} {site : Site} (s : Standing image starts nets site) where
  abbrev pub scene : Scene image starts nets (resolve s.ms) site.position
  scene =
      record {
        imaged = imaged (fits s.held) s.held.shelved;
        m = resolve_module (refer_to s.ms) site.position s.found.m;
        later = _;
        here = resolved-at s.ms site.position s.found.here;
      }

  -- What resolution keeps of the number is so at the position.
  pub at_position :
      {C : Type 0} (f : List Module → ℕ → C) → f (resolve s.ms) (16 + position_of site.number s.ms) ≡ f s.ms site.number
      → f (resolve s.ms) (16 + site.position) ≡ f s.ms site.number
  at_position f kept = ap (λ (p : ℕ). f (resolve s.ms) (16 + p)) (sym s.found.placed) ∙ kept

  -- The header in the image says what the file's module has.
  module _ {h : Header}
      (read : (m : Module) → Stands image (get_or starts site.position 0) (module_numbers m) → HeaderOf image (get_or starts site.position 0) m h) where
    header : HeaderOf image (get_or starts site.position 0) scene.m h
    header = read scene.m (module_stands scene)

    pub inputs_are : h.inputs ≡ length s.found.m.inputs
    inputs_are = header.inputs ∙ inputs-of-resolved (refer_to s.ms) site.position s.found.m

    pub outputs-are : h.to ≡ h.from + length s.found.m.outputs
    outputs-are = omega (arith, header.to, outputs-of-resolved (refer_to s.ms) site.position s.found.m)
