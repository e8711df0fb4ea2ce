use Rattle.std.proofs.Common.{◌-◌, take}
use Rattle.text.specs.Output.{Lays}
use Rattle.sheet.specs.Writing.{write_literals}
use Rattle.sheet.proofs.writing.put_literals.Given as goal

abbrev pub invariant-loop-variable : goal.invariant-loop-variable
invariant-loop-variable g l = Lays l.initial.writer (write_literals 1 (take (l.variable - 1) (g.C.CubeNotation.slots l.cube))) l.writer
