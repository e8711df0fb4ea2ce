use Rattle.std.proofs.Common.{arith}
use Rattle.calculator.proofs.Lives.{short_write_lives, write_lives}
use Rattle.calculator.proofs.calculator.Calculator.write.Goals as goal

pub returns-then-table-from-clause-lives : goal.returns-then-table-from-clause-lives
returns-then-table-from-clause-lives g c =
    short_write_lives g.C.CubeNotation.slots c.args.self.now c.args.table.now c.args.a.number.value (omega arith) _ 0 (omega arith)

pub returns-clause-lives : goal.returns-clause-lives
returns-clause-lives g c =
    write_lives g.C.CubeNotation.slots c.args.self.now c.args.table.now c.args.a.number.value (omega arith)
    _ _ _ _ _ c.write_sheet.ensures.result c.write_sheet.ensures.exact (omega arith) c.first_place-start.ensures (omega arith)
