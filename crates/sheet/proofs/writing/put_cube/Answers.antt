use Rattle.sheet.proofs.Lines.{cube_lays}
use Rattle.sheet.proofs.writing.put_cube.Goals as goal

pub returns : goal.returns
returns g c = search cube_lays
