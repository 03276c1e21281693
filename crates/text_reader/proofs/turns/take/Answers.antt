use Rattle.std.proofs.Common.{ap, ◌∙◌}
use Rattle.text_modes.specs.Kinds.{code_of, coded}
use Rattle.text_reader.specs.Turning.{at-space}
use Rattle.text_reader.proofs.turns.take.Goals as goal

pub returns-in-Space : goal.returns-in-Space
returns-in-Space c =
    at-space _ _ _ _ _ c.requires (code_of c.kind-part.result) (ap code_of c.kind-part.ensures ∙ coded _) (ap code_of c.in-Space.is)
