use Rattle.std.proofs.Common.{sym, ap}
use Rattle.text.proofs.Overlays.{lays_then, lays_as}
use Rattle.sheet.specs.Writing.{write_literal}
use Rattle.sheet.proofs.writing.put_literal.Goals as goal

pub returns-in-No : goal.returns-in-No
returns-in-No c = lays_as (ap (write_literal c.args.variable) (sym c.in-No.is)) (lays_then c.put.ensures (lays_then c.put-in-No.ensures c.put_number.ensures))

pub returns-in-Yes : goal.returns-in-Yes
returns-in-Yes c = lays_as (ap (write_literal c.args.variable) (sym c.in-Yes.is)) (lays_then c.put-in-Yes.ensures c.put_number-in-Yes.ensures)
