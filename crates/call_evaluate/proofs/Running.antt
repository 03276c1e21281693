-- From the module that stands to the engine: it can be called, and what it leaves is what the file means.
use Prim.Native.Nat.{ℕ, ◌≤◌}
use mathlib.Core.Path.{◌≡◌, sym, ap, subst, ◌∙◌}
use mathlib.Core.List.{List, ◌++◌, map}
use native.Mathlib.Omega.{arith}
use lib.ListN.{length, drop}
use Rattle.meaning.specs.Values.{value, code}
use Rattle.meaning.specs.Evaluation.{evaluate}
use Rattle.meaning.specs.Figures.{room}
use Rattle.image.specs.Resolved.{refer_to, resolve}
use Rattle.image.specs.ResolvedFigures.{room-resolved}
use Rattle.image.specs.Shapes.{inputs-of-resolved, outputs-of-resolved}
use Rattle.run_engine.specs.Calls.{Evaluable, Evaluated, cleared}
use Rattle.run_engine.specs.Evaluating.{evaluate-means}
use Rattle.open_finding.specs.Standing.{Standing, accepted, fits}
use Rattle.open_finding.specs.OnImage.{scene, at_position}
use Rattle.open_finding.specs.declared.Site.{Site}

module _ {image starts nets : List ℕ} {site : Site} (s : Standing image starts nets site) {values scratch out : List ℕ}
    (fed : length values ≡ length s.found.m.inputs) (wide : site.room ≤ length scratch) (long : length s.found.m.outputs ≤ length out)
  where
    abbrev pub runnable : Evaluable image starts nets site.position site.room values scratch out
    runnable =
        record {
          callable =
              record {
                rs = resolve s.ms;
                scene = scene s;
                wide = omega (arith, at_position s room (room-resolved (fits s.held) site.number s.found.m s.found.found), s.room_is);
                enough = wide;
              };
          fed = fed ∙ sym (inputs-of-resolved (refer_to s.ms) site.position s.found.m);
          fits = omega (arith, outputs-of-resolved (refer_to s.ms) site.position s.found.m);
        }

    module _ {scratch' out' : List ℕ} (ran : Evaluated (resolve s.ms) site.position site.room values scratch out scratch' out') where
      pub outputs-are :
          out' ≡ map code (evaluate s.ms site.number (map value values)) ++ drop (length (map code (evaluate s.ms site.number (map value values)))) out
      outputs-are =
          evaluate-means (accepted s.held) site.number s.found.m s.found.found fed
          (subst (λ (p : ℕ). Evaluated (resolve s.ms) p site.room values scratch out scratch' out') (sym s.found.placed) ran)

      pub cleared-are : scratch' ≡ cleared (room s.ms site.number) scratch
      cleared-are = ran.clean ∙ ap (λ (n : ℕ). cleared n scratch) s.room_is
