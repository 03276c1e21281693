-- Each refusal of 19 to 22 once those before it are passed, and that a refused call leaves what was lent.
use Rattle.std.specs.Prelude.{Err}
use Rattle.refusals.specs.Refused.{refusal_at}
use Prim.Native.Nat.{ℕ, ◌≤◌, ◌<◌}
use mathlib.Core.Path.{◌≡◌, sym, ap}
use mathlib.Core.List.{List}
use native.Mathlib.Omega.{arith}
use borrow.Author.Tests.{eq-eqb, ne_eqb, le-leb, lt-leb}
use lib.ListN.{length}
use Rattle.meaning.specs.Figures.{room}
use Rattle.meaning.specs.Calls.{Decision, refusal, first_above, Written, out_after, scratch_after, evaluation_on}
use Rattle.answers.specs.Answers.{writing_of}
use Rattle.answers.specs.Settled.{Settles}
use Rattle.open_finding.specs.Standing.{Standing}
use Rattle.open_finding.specs.declared.Site.{Site}

pub refused :
    {d : Decision Written} {number place : ℕ} (scratch out : List ℕ) → d ≡ refusal number place
    → Settles d scratch out scratch out (Err (refusal_at number place))
refused scratch out e =
    record {
      answered =
          record { is = sym (ap writing_of e); out = sym (ap (λ (d : Decision Written). out_after d out) e) };
      scratched = sym (ap (λ (d : Decision Written). scratch_after (λ w. w.cleared) d scratch) e);
    }

module _ {image starts nets : List ℕ} {site : Site} (s : Standing image starts nets site) (values scratch out : List ℕ) where
  abbrev decision : Decision Written
  decision = evaluation_on site.number values (length scratch) (length out) s.ms s.found.m

  pub other-count : (length values ≡ length s.found.m.inputs → ⊥) → Settles decision scratch out scratch out (Err (refusal_at 19 0))
  other-count apart = refused scratch out (rw (ne_eqb _ _ apart))

  module _ (fed : length values ≡ length s.found.m.inputs) where
    pub value-above :
        {above : ℕ} → above ≡ first_above values → above < length values → Settles decision scratch out scratch out (Err (refusal_at 20 above))
    value-above is within =
        refused scratch out (rw (eq-eqb _ _ fed, ne_eqb (first_above values) (length values) (λ e. omega (arith, is, within, e)), is))

    module _ (small : first_above values ≡ length values) where
      pub scratch-short : length scratch < site.room → Settles decision scratch out scratch out (Err (refusal_at 21 0))
      scratch-short short =
          refused scratch out
          (rw (eq-eqb _ _ fed, eq-eqb _ _ small, lt-leb (room s.ms site.number) (length scratch) (omega (arith, s.room_is, short))))

      pub out-short :
          site.room ≤ length scratch → length out < length s.found.m.outputs → Settles decision scratch out scratch out (Err (refusal_at 22 0))
      out-short wide short =
          refused scratch out
          (rw
          (eq-eqb _ _ fed, eq-eqb _ _ small, le-leb (room s.ms site.number) (length scratch) (omega (arith, s.room_is, wide)), lt-leb _ _ short))
