-- `end_line` meets its contract: it stores one byte. Assumes nothing.
use borrow.Author.Rules.{rules}
use Rattle.meaning.specs.Listing.{line_feed}
use Rattle.list_text.proofs.Pieces.{put_byte}
use Rattle.list_text.proofs.end_line.Statement.{statement}
use Rattle.list_text.proofs.end_line.Tie as tie

returns : tie.Need-returns
returns c = put_byte line_feed c.args.out.now c.args.at c.requires

pub end_line_spec : {M : Type 1} → statement M
end_line_spec = tie.close (tie.spec (λ c. search rules) (λ c. search rules) (λ c. search rules) returns)
