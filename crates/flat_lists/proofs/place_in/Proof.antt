-- The walk leaves the bytes of the flattened file, its gates first, and they are the answer.
use borrow.Author.Rules.{rules}
use Rattle.flat_lists.proofs.Engine.{flattenable}
use Rattle.flat_lists.proofs.Walked.{whole-within, gates-within, parts_flatten}
use Rattle.flat_lists.proofs.place_in.Statement.{statement}
use Rattle.flat_lists.proofs.place_in.Tie as tie

-- The walk from where the room is known, and the function's entry from where the walk is called.
abbrev walk : tie.After-struct_known-1 → tie.After-flatten-ends
walk c = c.before.before.before.before.before

answer-requires : tie.Need-answer-requires
answer-requires c κs =
    let pre = c.requires in
    (gates-within c.flatten-ends.ensures pre.0, (whole-within c.flatten-ends.ensures pre.0, pre.1))

returns : tie.Need-returns
returns c p =
    parts_flatten c.flatten-ends.ensures p c.answer.ensures

pub place_in_spec : {M : Type 1} → statement M
place_in_spec =
    tie.close
    (tie.spec
    (λ c κs. flattenable c.requires.0)
    (λ c. search rules)
    answer-requires
    (λ c. search rules)
    (λ c. search rules)
    (λ c. search rules)
    (λ c. search rules)
    returns)
