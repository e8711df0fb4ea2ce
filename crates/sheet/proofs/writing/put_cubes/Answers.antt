use Rattle.text.proofs.Overlays.{lays_then, lays_as}
use Rattle.sheet.proofs.Lines.{cubes_more}
use Rattle.sheet.proofs.writing.put_cubes.Goals as goal

pub loop-cube-preserved : goal.loop-cube-preserved
loop-cube-preserved g c = lays_as (cubes_more c.args.shape.variables.value g.C.CubeNotation.slots c.args.cubes.now c.loop-cube.cube-index c.cube-item.result c.loop-cube-test.true c.cube-item.is) (lays_then c.loop-cube.invariant c.put_cube.ensures)
