-- A file whose last part stands first in a list, since it was written first.
use Rattle.std.specs.Prelude.{ℕ, ◌-◌, List, ◌++◌, take, drop}

-- The bytes up to `whole`, those from the seam on first.
abbrev pub front_first : (bytes : List ℕ) (seam whole : ℕ) → List ℕ
front_first bytes seam whole = take (whole - seam) (drop seam bytes) ++ take seam bytes
