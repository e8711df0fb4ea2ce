use Rattle.session.proofs.Midway.{at_first, coming}
use Rattle.session.proofs.run.open.Goals as goal

pub loop-line-init : goal.loop-line-init
loop-line-init c at = at_first _

pub loop-line-preserved : goal.loop-line-preserved
loop-line-preserved c at = rw c.in_default-2.is at (c.in_ok-calculator.ensures at _ _ (coming (c.loop-line.invariant at) c.in-Some.ensures.steps))

pub returns-in-Some-2 : goal.returns-in-Some-2
returns-in-Some-2 c at = rw c.in-Some-2.is at (c.in_ok-calculator.ensures at _ _ (coming (c.loop-line.invariant at) c.in-Some.ensures.steps))
