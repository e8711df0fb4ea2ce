-- The registers' own records.
use Rattle.std.specs.Prelude.{List, map}
use Rattle.calculator.specs.declared.registers.Registers.{Registers}
use Rattle.life.specs.View.{Register, of_count}

abbrev pub registers_of : Registers → List Register
registers_of r = map (λ x. of_count x.count) r.records
