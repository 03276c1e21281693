-- The first module that has one of the four gates is the first that uses one.
use Rattle.std.proofs.Common.{ℕ, ◌≤◌, length, replicate, sym, ap, ◌∙◌, arith}
use lib.ListN.{length-replicate}
use Rattle.answers.specs.Judged.{check_of}
use Rattle.rewrite_counts.specs.Ceilings.{verdict_by}
use Rattle.call_rewrite.specs.Standing.{countable, own-table}
use Rattle.call_rewrite.proofs.strict.judge.Goals as goal

long : 128 ≤ length (replicate {A = ℕ} 128 0)
long = omega (arith, length-replicate {A = ℕ} 128 0)

pub count_fours-requires : goal.count_fours-requires
count_fours-requires c = countable c.requires long long

pub first_user-requires : goal.first_user-requires
first_user-requires c =
    own-table c.requires (omega (arith, c.count_fours.auto.own, long)) (c.count_fours.ensures (countable c.requires long long))

pub returns-in-None : goal.returns-in-None
returns-in-None c s =
    let table = own-table s (omega (arith, c.count_fours.auto.own, long)) (c.count_fours.ensures (countable s long long)) in
    sym (ap check_of (c.first_user.ensures table ∙ ap (verdict_by 28) c.in-None.is))

pub returns-in-Some : goal.returns-in-Some
returns-in-Some c s =
    let table = own-table s (omega (arith, c.count_fours.auto.own, long)) (c.count_fours.ensures (countable s long long)) in
    sym (ap check_of (c.first_user.ensures table ∙ ap (verdict_by 28) c.in-Some.is))
