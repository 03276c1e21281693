-- Each way out is the definition's.
use Rattle.std.proofs.lemmas.Result.{err_from_is_err_and}
use Rattle.filing.proofs.Deciding.{word-refused, word-stopped, word-filed}
use Rattle.filing.proofs.file_word.Goals as goal

pub returns-in_err-check_letters : goal.returns-in_err-check_letters
returns-in_err-check_letters c =
    let p = err_from_is_err_and c.from_residual.result c.from_residual.ensures.1 in
    rw (p.1, p.2) (word-refused c.args.word.now c.in_err-check_letters.ensures.refusal.0 c.in_err-check_letters.ensures.refusal.1)

pub returns-in_err-check_bases : goal.returns-in_err-check_bases
returns-in_err-check_bases c =
    let p = err_from_is_err_and c.from_residual-in_err-check_bases.result c.from_residual-in_err-check_bases.ensures.1 in
    rw (p.1, p.2)
    (word-stopped c.args.word.now c.in_ok-check_letters.ensures.fits.0 c.in_ok-check_letters.ensures.fits.1
    c.in_err-check_bases.ensures.refusal.0 c.in_err-check_bases.ensures.refusal.1)

pub returns : goal.returns
returns c =
    word-filed c.args.word.now c.in_ok-check_letters.ensures.fits.0 c.in_ok-check_letters.ensures.fits.1 _ c.in_ok-check_bases.ensures.all c.shelf_of.ensures
