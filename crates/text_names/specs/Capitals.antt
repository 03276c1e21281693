-- A byte in capitals, by where it stands.
use Rattle.std.specs.Prelude.{ℕ, ◌-◌, ◌≤◌, ◌<◌, ◌≡◌}
use Rattle.std.proofs.Common.{arith, le-leb}
use Rattle.std.proofs.lemmas.Bool.{lt-leb}
use Rattle.meaning.specs.ListForm.{capital}

pub capital-lower : (b : ℕ) → 97 ≤ b → b ≤ 122 → capital b ≡ b - 32
unfolding capital
capital-lower b l h = rw (le-leb 97 b l, le-leb b 122 h)

pub capital-under : (b : ℕ) → b < 97 → capital b ≡ b
unfolding capital
capital-under b l = rw (lt-leb 97 b l)

pub capital-over : (b : ℕ) → 122 < b → capital b ≡ b
unfolding capital
capital-over b l = rw (lt-leb b 122 l, le-leb 97 b (omega arith))
