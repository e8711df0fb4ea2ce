use Rattle.std.proofs.Common.{[], length}
use Rattle.command.specs.Cut.{lines_left}
use Rattle.session.specs.Run.{Setting}
use Rattle.session.specs.Run.Status.{waiting}
use Rattle.session.specs.Midway.{Midway}
use Rattle.session.proofs.run.open.Given as goal

abbrev pub invariant-loop-line : goal.invariant-loop-line
invariant-loop-line l = (at : Setting) → Midway at (lines_left l.initial.lines) (lines_left l.lines) waiting []

abbrev pub decreases-loop-line : goal.decreases-loop-line
decreases-loop-line l = length (lines_left l.lines)
