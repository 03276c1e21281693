-- Measuring a module of a file that keeps rules 6 to 16, once the tables have the figures of the modules behind it: the sums over its
-- references are its figures in the file. They decide rule 17, and with them the tables have the figures from this module on.
use Rattle.std.specs.Prelude.{ℕ, suc, ◌+◌, ◌≤◌, ◌<◌, ◌≡◌, List, ◌∷◌, map, length, get_or, set}
use Rattle.std.proofs.Common.{⊎_elim, ap₂, ◌∙◌, arith, eq-or-lt_of_le, get_or-set_same, get_or-set_other}
use Rattle.meaning.specs.Syntax.{Module}
use Rattle.meaning.specs.Limits.{net_count, body_size, expanded_size, most_size}
use Rattle.meaning.specs.Figures.{largest_referred, room}
use Rattle.meaning.specs.Verdict.{good, refused, sizes_verdict}
use Rattle.image.specs.Resolved.{refer_to, slot_in, resolve_occurrence}
use Rattle.image.specs.Fitting.{Fits}
use Rattle.image.specs.Searching.{expanded_size-search, room-search}
use Rattle.image.specs.ResolvedFigures.{body_size-kept, largest_referred-kept}
use Rattle.check_sizes.specs.Measured.{At, Tabled}
use Rattle.check_sizes.specs.Walks.{Summed}
use Rattle.check_sizes.specs.Behind.{inside, ruled}
use Rattle.check_sizes.specs.Referred.{same-referred}
use Rattle.check_sizes.specs.SizeRule.{sizes-kept, sizes-broken}
use Rattle.check_sizes.specs.declared.Sums.{Sums}

-- Behind the last module there is nothing to have.
pub tabled-none : (k : ℕ) (ms : List Module) (sizes rooms : List ℕ) → length ms ≤ k → Tabled k ms sizes rooms
tabled-none k ms sizes rooms end =
    record {
      size = λ j m later h e. absurd (omega (arith, inside ms j e));
      room = λ j m later h e. absurd (omega (arith, inside ms j e));
    }

-- A table by position with an entry for the module at k stored, where it had those of the modules behind it.
module _ (ms : List Module) (k : ℕ) {m : Module} {later : List Module} (e : At ms k m later) (own : Module → List Module → ℕ) where
  pub stored :
      (table : List ℕ) (x : ℕ)
      → k < length table
      → x ≡ own m later
      → ((j : ℕ) (n : Module) (rest : List Module) → k + 1 ≤ j → At ms j n rest → get_or table j 0 ≡ own n rest)
      → (j : ℕ) (n : Module) (rest : List Module)
      → k ≤ j
      → At ms j n rest
      → get_or (set table k x) j 0 ≡ own n rest
  stored table x h new before j n rest from at = ⊎_elim here-it behind-it (eq-or-lt_of_le from)
    where
      here-it : k ≡ j → get_or (set table k x) j 0 ≡ own n rest
      here-it same =
          let first : At ms k n rest = rw same at in
          let same-module : m ≡ n = cc in
          let same_rest : later ≡ rest = cc in
          rw (← same, get_or-set_same table k x 0 h, new, same-module, same_rest)

      behind-it : k < j → get_or (set table k x) j 0 ≡ own n rest
      behind-it further =
          get_or-set_other table k j x 0 (λ same. omega arith) ∙ before j n rest (omega arith) at

module _
    {ms : List Module} (fits : Fits ms) (k : ℕ) {m : Module} {later : List Module} (e : At ms k m later)
    {sizes rooms : List ℕ} (tabled : Tabled (k + 1) ms sizes rooms)
    {sums : Sums} (summed : Summed sizes rooms (map (resolve_occurrence (slot_in m) (refer_to ms)) m.occurrences) sums) where
  sized : sums.size ≡ body_size (expanded_size later) m.occurrences
  sized =
      summed.sized
      ∙ body_size-kept (same-referred fits k e expanded_size-search sizes tabled.size) (slot_in m) (ruled k fits e).fits.body

  roomed : sums.room ≡ largest_referred (room later) m.occurrences
  roomed =
      summed.roomed
      ∙ largest_referred-kept (same-referred fits k e room-search rooms tabled.room) (slot_in m) (ruled k fits e).fits.body

  -- Rule 17, where the modules behind it keep it.
  module _ (behind : sizes_verdict (suc k) later ≡ good) where
    pub measured_fine : sums.size ≤ most_size → sizes_verdict k (m ∷ later) ≡ good
    measured_fine h = sizes-kept k m later behind (rw sized at h)

    pub measured_over : most_size < sums.size → sizes_verdict k (m ∷ later) ≡ refused 17 k
    measured_over h = sizes-broken k m later behind (rw sized at h)

  pub tabled-more :
      {own : ℕ} → own ≡ net_count m → k < length sizes → k < length rooms
      → Tabled k ms (set sizes k sums.size) (set rooms k (own + sums.room))
  tabled-more {own} counted in_sizes in_rooms =
      record {
        size =
            stored ms k e (λ n rest. body_size (expanded_size rest) n.occurrences) sizes sums.size in_sizes sized tabled.size;
        room =
            stored ms k e (λ n rest. net_count n + largest_referred (room rest) n.occurrences) rooms (own + sums.room) in_rooms
            (ap₂ ◌+◌ counted roomed) tabled.room;
      }
