-- What a byte of a name can be.
use Rattle.std.specs.Prelude.{ℕ, Bool, not, ◌&&◌, List, leb, length}
use Rattle.meaning.specs.Ndl.{is_space, is_digit, is_capital_or_digit, every, like_module}
use Rattle.ndl_names.specs.declared.Kind.{Kind as Kinds}
use Rattle.ndl_names.specs.declared.Kind.TheVariants.{Space, Digit, CapitalOrDigit}

abbrev pub belongs : Kinds → ℕ → Bool
belongs Space = is_space
belongs Digit = is_digit
belongs CapitalOrDigit = is_capital_or_digit

-- What makes a name good, by its letters and what stands behind them.
abbrev pub spelled : (word rest : List ℕ) → Bool
spelled word rest = leb 1 (length word) && every is_capital_or_digit word && every is_space rest && not (like_module word)
