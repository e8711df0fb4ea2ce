use Rattle.std.proofs.Common.{◌≡◌, ◌-◌, ◌<◌, take}
use Rattle.sheet.specs.Writing.{filled}
use Rattle.sheet.proofs.writing.count_literals.Given as goal

abbrev pub invariant-loop-v : goal.invariant-loop-v
invariant-loop-v g l = (l.count < l.v) × (l.count ≡ filled (take (l.v - 1) (g.C.CubeNotation.slots l.cube)))
