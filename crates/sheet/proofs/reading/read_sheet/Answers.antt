use Rattle.std.proofs.Common.{map, length, rules}
use Rattle.sheet.specs.Reading.{read_into, Reads}
use Rattle.sheet.proofs.Sheets.{accepts_from}
use Rattle.sheet.proofs.reading.read_sheet.Goals as goal

pub returns-clause-accepted : goal.returns-clause-accepted
returns-clause-accepted g c =
    let n = c.args.shape.variables.value in
    let most = c.args.shape.places.value in
    let table = map g.C.CubeNotation.slots c.read_within.new.out in
    let r : Reads (read_into n most (length c.args.out.now) c.args.text.now) c.read_within.result table = search rules in
    accepts_from n most (length c.args.out.now) c.args.text.now c.read_within.result table r
