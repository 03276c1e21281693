-- The count answers for the scratch of the listing.
use Rattle.std.proofs.Common.{ℕ, ap, ◌∙◌}
use Rattle.meaning.specs.Family.{summary_on}
use Rattle.meaning.specs.Listing.{listing_scratch}
use Rattle.call_count.specs.Answers.{counted_of}
use Rattle.list_file.proofs.lines.put_line.Goals as goal

pub returns : goal.returns
returns c s =
    let number = c.args.site.number in
    let family = c.args.family.delays in
    c.put_counted.ensures (summary_on family number listing_scratch s.ms s.found.m)
    ((c.count_at-counted.ensures s).is
    ∙ ap (λ (n : ℕ). counted_of (summary_on family number n s.ms s.found.m)) c.requires.scratch_len)
