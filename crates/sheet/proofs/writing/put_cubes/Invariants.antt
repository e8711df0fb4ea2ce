use Rattle.std.proofs.Common.{map, take}
use Rattle.cube.specs.Slots.{blank_above}
use Rattle.text.specs.Output.{Lays}
use Rattle.sheet.specs.Writing.{write_cubes}
use Rattle.sheet.proofs.writing.put_cubes.Given as goal

abbrev pub invariant-loop-cube : goal.invariant-loop-cube
invariant-loop-cube g l = Lays l.initial.writer (write_cubes (map (blank_above l.shape.variables.value) (map g.C.CubeNotation.slots (take l.cube-index l.cubes)))) l.writer
