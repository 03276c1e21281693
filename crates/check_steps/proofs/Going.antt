-- One module more is done, in front of those from position k on: what was found then, and what the lists hold.
use Prim.Native.Nat.{ℕ, suc, ◌+◌, ◌≤◌, ◌<◌}
use mathlib.Core.Path.{◌≡◌, refl, ◌∙◌}
use mathlib.Core.List.{List, ◌++◌}
use native.Mathlib.Numerals.{add-one}
use lib.ListN.{length, drop, set}
use lib.Seq.{drop-drop}
use Rattle.meaning.specs.Syntax.{Module}
use Rattle.meaning.specs.Layout.{each, module_numbers}
use Rattle.meaning.specs.Limits.{net_count, most_size}
use Rattle.meaning.specs.Verdict.{Verdict, good, refused, module_verdict, modules_verdict, sizes_verdict}
use Rattle.image.specs.Resolved.{resolve}
use Rattle.image.specs.ResolvedLayout.{resolved-at}
use Rattle.check_sizes.specs.Behind.{behind}
use Rattle.check_sizes.specs.SizeRule.{sizes-broken-later}
use Rattle.check_sizes.specs.Measuring.{stored, measured_fine, measured_over, tabled-more}
use Rattle.check_sizes.specs.declared.Sums.{Sums}
use Rattle.check_lists.specs.Filed.{At}
use Rattle.check_modules.specs.Modules.{Settled}
use Rattle.std.specs.Prelude.{Ok, Err}
use Rattle.refusals.specs.Refused.{refusal_at}
use Rattle.check_steps.specs.Found.{Found, Judges, broken, over, over_of}
use Rattle.check_steps.specs.Going.{Done}
use Rattle.check_steps.proofs.Rules.{rule-low}

-- The module at k, in front of those that are done.
module _ (ms : List Module) (k : ℕ) {m : Module} {later : List Module} (e : At ms k m later) where
  -- It breaks a rule: then that one counts.
  pub judged-broken : {rule : ℕ} → module_verdict k m later ≡ refused rule k → Judges (Err (refusal_at rule k)) k ms
  unfolding modules_verdict
  judged-broken breaks = broken (rule-low k m later breaks) (rw (e, breaks) refl)

  module _ (fine : module_verdict k m later ≡ good) where
    modules-behind : modules_verdict k (drop k ms) ≡ modules_verdict (k + 1) (drop (k + 1) ms)
    unfolding modules_verdict
    modules-behind = rw (e, fine, behind ms k e, add-one k)

    sizes-behind : {v : Verdict} → sizes_verdict (k + 1) (drop (k + 1) ms) ≡ v → sizes_verdict (suc k) later ≡ v
    sizes-behind h = rw (behind ms k e, add-one k) at h

    over-behind : {place : ℕ} → sizes_verdict (k + 1) (drop (k + 1) ms) ≡ refused 17 place → sizes_verdict k (drop k ms) ≡ refused 17 place
    over-behind h = rw e (sizes-broken-later k m later (sizes-behind h))

    module _ {tail nets sizes rooms piece : List ℕ} {own : ℕ} {sums : Sums} (s : Settled ms m k sizes rooms piece own sums) where
      -- It is within the limit, or above.
      pub judged-kept :
          (found : Found) → (found ≡ Ok tt → Done ms (k + 1) tail nets sizes rooms) → Judges found (k + 1) ms → sums.size ≤ most_size → Judges found k ms
      judged-kept (Ok tt) done j small = (
        modules-behind ∙ j.0,
        λ fits. rw e (measured_fine fits k e ((done refl).tabled fits) s.summed (sizes-behind (j.1 fits)) small),
      )
      judged-kept (Err r) done (broken low b) small = broken low (modules-behind ∙ b)
      judged-kept (Err r) done (over is fine_behind size) small = over is (modules-behind ∙ fine_behind) (λ fits. over-behind (size fits))

      pub judged-over :
          (found : Found) → (found ≡ Ok tt → Done ms (k + 1) tail nets sizes rooms) → Judges found (k + 1) ms → most_size < sums.size → Judges (over_of found k) k ms
      judged-over (Ok tt) done j large =
          over refl (modules-behind ∙ j.0)
          (λ fits. rw e (measured_over fits k e ((done refl).tabled fits) s.summed (sizes-behind (j.1 fits)) large))
      judged-over (Err r) done (broken low b) large = broken low (modules-behind ∙ b)
      judged-over (Err r) done (over is fine_behind size) large = over is (modules-behind ∙ fine_behind) (λ fits. over-behind (size fits))

      -- Its image, its nets and its figures join those of the others.
      pub done_more :
          k < length nets → k < length sizes → k < length rooms → Done ms (k + 1) tail nets sizes rooms
          → Done ms k (piece ++ tail) (set nets k own) (set sizes k sums.size) (set rooms k (own + sums.room))
      unfolding each
      done_more in_nets in_sizes in_rooms d =
          record {
            image = image;
            counted = stored ms k e (λ n rest. net_count n) nets own in_nets s.count d.counted;
            tabled = λ fits. tabled-more fits k e (d.tabled fits) s.summed s.count in_sizes in_rooms;
          }
        where
          image : piece ++ tail ≡ each module_numbers (drop k (resolve ms))
          image =
              let there = resolved-at ms k e in
              rw (s.written, d.image, ← drop-drop 1 k (resolve ms), there)

-- A size over the limit is found, so the check is not fine any more.
pub over_not_fine : (found : Found) (place : ℕ) → over_of found place ≡ Ok tt → ⊥
over_not_fine (Ok fine) place e = cc
over_not_fine (Err before) place e = cc
