use Rattle.std.proofs.Common.{sym}
use Rattle.std.proofs.lemmas.List.{take_more}
use Rattle.text.proofs.Overlays.{lays_then, lays_as}
use Rattle.text.proofs.output.Writer.put_all.Goals as goal

pub loop-b-preserved : goal.loop-b-preserved
loop-b-preserved c = lays_as (sym (take_more c.args.text.now c.loop-b.b-index 0 c.loop-b-test.true)) (lays_then c.loop-b.invariant c.put.ensures)
