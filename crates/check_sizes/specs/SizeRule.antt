-- Rule 17 from the last module to the first: what the verdict on a module and the later ones is, by the later ones' and its own size.
use Rattle.std.specs.Prelude.{ℕ, suc, ◌≤◌, ◌<◌, ◌≡◌, List, ◌∷◌}
use borrow.Author.Tests.{le-leb, lt-leb}
use Rattle.meaning.specs.Syntax.{Module}
use Rattle.meaning.specs.Limits.{body_size, expanded_size, most_size}
use Rattle.meaning.specs.Verdict.{good, refused, sizes_verdict}

module _ (place : ℕ) (m : Module) (later : List Module) where
  -- The later ones keep the rule, and the module does or does not.
  module _ (behind : sizes_verdict (suc place) later ≡ good) where
    pub sizes-kept : body_size (expanded_size later) m.occurrences ≤ most_size → sizes_verdict place (m ∷ later) ≡ good
    unfolding sizes_verdict
    sizes-kept h = rw (behind, le-leb (body_size (expanded_size later) m.occurrences) most_size h)

    pub sizes-broken : most_size < body_size (expanded_size later) m.occurrences → sizes_verdict place (m ∷ later) ≡ refused 17 place
    unfolding sizes_verdict
    sizes-broken h = rw (behind, lt-leb (body_size (expanded_size later) m.occurrences) most_size h)

  -- One of the later ones breaks it.
  pub sizes-broken-later :
      {number at : ℕ} → sizes_verdict (suc place) later ≡ refused number at
      → sizes_verdict place (m ∷ later) ≡ refused number at
  unfolding sizes_verdict
  sizes-broken-later behind = rw behind
