-- What is written to order, at each width, and so many bytes as are enough for it.
use Rattle.std.specs.Prelude.{ℕ, ◌+◌, ◌*◌, List}
use Rattle.meaning.specs.Syntax.{Module}
use Rattle.meaning.specs.Adder.{adder}
use Rattle.meaning.specs.FastAdder.{fast_adder}
use Rattle.meaning.specs.Counter.{counter}
use Rattle.meaning.specs.Alu.{alu}
use Rattle.write_order.specs.declared.order.Order.{Order}
use Rattle.write_order.specs.declared.order.Order.TheVariants.{Adder, FastAdder, Counter, Alu}

abbrev pub modules_of : Order → ℕ → List Module
modules_of Adder = adder
modules_of FastAdder = fast_adder
modules_of Counter = counter
modules_of Alu = alu

abbrev pub enough_for : Order → ℕ → ℕ
enough_for Adder width = 1019
enough_for FastAdder width = 86 * width + 132
enough_for Counter width = 1019
enough_for Alu width = 100 * width + 720
