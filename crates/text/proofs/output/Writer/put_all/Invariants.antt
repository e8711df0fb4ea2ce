use Rattle.std.proofs.Common.{take}
use Rattle.text.specs.Output.{Lays}
use Rattle.text.proofs.output.Writer.put_all.Given as goal

abbrev pub invariant-loop-b : goal.invariant-loop-b
invariant-loop-b l = Lays l.initial.self (take l.b-index l.text) l.self
