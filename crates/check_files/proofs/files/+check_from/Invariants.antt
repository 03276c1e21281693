-- The count of modules from position k on falls, since the call is for the strictly later ones.
use Rattle.std.proofs.Common.{◌-◌}
use Rattle.check_files.proofs.files.+check_from.Given as goal

abbrev pub decreases-check_from : goal.decreases-check_from
decreases-check_from l = l.modules - l.k
