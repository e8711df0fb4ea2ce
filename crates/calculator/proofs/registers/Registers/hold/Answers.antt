use Rattle.std.proofs.Common.{arith, rules}
use lib.ListN.{length-map}
use Rattle.std.proofs.lemmas.List.{map-set}
use Rattle.calculator.proofs.registers.Registers.hold.Goals as goal

pub returns-clause-records : goal.returns-clause-records
returns-clause-records c = grind (rules, map-set)

pub returns-clause-held : goal.returns-clause-held
returns-clause-held c = grind (arith, rules, map-set, length-map)
