-- The tables are those of the file in the image, and each test says what its ceiling comes to.
use Rattle.std.proofs.Common.{ℕ, ◌≤◌, ◌≡◌, true, length, replicate, refl, ◌∙◌, arith}
use Rattle.std.specs.Prelude.{Bool, false, not, Option, None, Some, is_some}
use Rattle.meaning.specs.Verdict.{good}
use lib.ListN.{length-replicate}
use Rattle.meaning.specs.Reading.{most_modules}
use Rattle.meaning.specs.Withdrawn.{rewrite_file}
use Rattle.image.specs.Resolved.{resolve}
use Rattle.rewrite_counts.specs.Fours.{Counted}
use Rattle.rewrite_counts.specs.Ceilings.{verdict_by}
use Rattle.call_rewrite.specs.Standing.{owns, own-table}
use Rattle.call_rewrite.specs.Growing.{Grown}
use Rattle.call_rewrite.proofs.Tables.{stood, growable, peopled, netted, sized, too_many, crowded, large, kept-all}
use Rattle.call_rewrite.proofs.deciding.decide.Goals as goal
use Rattle.call_rewrite.proofs.deciding.decide.Goals.{After-count_fours}

no_user : (found : Option ℕ) (none : Bool) → is_some found ≡ not none → none ≡ true → verdict_by 28 found ≡ good
no_user None none told is = refl
no_user (Some k) true told is = cc
no_user (Some k) false told is = cc

long : most_modules ≤ length (replicate {A = ℕ} 128 0)
long = omega (arith, length-replicate {A = ℕ} 128 0)

pub count_fours-requires : goal.count_fours-requires
count_fours-requires c = growable c.requires long

module _
    (c : After-count_fours) (g : Grown c.args.image.numbers.now c.args.image.starts.now c.args.image.nets.now c.args.sizes.now c.args.modules (length c.args.own.now))
  where
    wide : most_modules ≤ length c.count_fours.new.own
    wide = omega (arith, g.own_long, c.count_fours.auto.own)

    counted : Counted (resolve g.ms) 0 c.count_fours.new.own c.count_fours.new.reached
    counted = c.count_fours.ensures (growable g long)

pub first_user-requires : goal.first_user-requires
first_user-requires c =
    let g = c.requires in
    let n = (goal.at.first_user-requires c).After-count_fours in
    own-table (stood g) (wide n g) (counted n g)

pub returns-then-is_none : goal.returns-then-is_none
returns-then-is_none c g =
    let n = (goal.at.returns-then-is_none c).After-count_fours in
    record {
      says = c.first_user.ensures (own-table (stood g) (wide n g) (counted n g)) ∙ no_user _ _ c.is_none.ensures c.if-is_none.true;
      owned = owns (stood g) (counted n g);
    }

pub few_occurrences-requires : goal.few_occurrences-requires
few_occurrences-requires c =
    let g = c.requires in
    let n = (goal.at.few_occurrences-requires c).After-count_fours in
    peopled g (wide n g) (counted n g)

pub returns-then-not-few_occurrences : goal.returns-then-not-few_occurrences
returns-then-not-few_occurrences c g =
    let n = (goal.at.returns-then-not-few_occurrences c).After-count_fours in
    record {
      says = λ out.
          too_many (rewrite_file g.ms) out (c.few_occurrences.ensures (peopled g (wide n g) (counted n g)) ∙ c.if-not-few_occurrences.true);
      owned = owns (stood g) (counted n g);
    }

pub first_crowded-requires : goal.first_crowded-requires
first_crowded-requires c =
    let g = c.requires in
    let n = (goal.at.first_crowded-requires c).After-count_fours in
    netted g (wide n g) (counted n g)

pub returns-in-Some : goal.returns-in-Some
returns-in-Some c g =
    let n = (goal.at.returns-in-Some c).After-count_fours in
    let few = c.few_occurrences.ensures (peopled g (wide n g) (counted n g)) ∙ c.if-not-few_occurrences.false in
    record {
      says = λ out. crowded (rewrite_file g.ms) out few (c.first_crowded.ensures (netted g (wide n g) (counted n g))) c.in-Some.is;
      owned = owns (stood g) (counted n g);
    }

pub last_large-requires : goal.last_large-requires
last_large-requires c =
    let g = c.requires in
    let n = (goal.at.last_large-requires c).After-count_fours in
    sized g (wide n g) (counted n g)

pub returns-in-Some-last_large : goal.returns-in-Some-last_large
returns-in-Some-last_large c g =
    let n = (goal.at.returns-in-Some-last_large c).After-count_fours in
    let few = c.few_occurrences.ensures (peopled g (wide n g) (counted n g)) ∙ c.if-not-few_occurrences.false in
    record {
      says = λ out.
          large (rewrite_file g.ms) out few (c.first_crowded.ensures (netted g (wide n g) (counted n g))) c.in-None.is
          (c.last_large.ensures (sized g (wide n g) (counted n g)))
          c.in-Some-last_large.is;
      owned = owns (stood g) (counted n g);
    }

pub returns-in-None-last_large : goal.returns-in-None-last_large
returns-in-None-last_large c g =
    let n = (goal.at.returns-in-None-last_large c).After-count_fours in
    let few = c.few_occurrences.ensures (peopled g (wide n g) (counted n g)) ∙ c.if-not-few_occurrences.false in
    record {
      says = (
        few,
        λ out.
            kept-all (rewrite_file g.ms) out few (c.first_crowded.ensures (netted g (wide n g) (counted n g))) c.in-None.is
            (c.last_large.ensures (sized g (wide n g) (counted n g)))
            c.in-None-last_large.is,
      );
      owned = owns (stood g) (counted n g);
    }
