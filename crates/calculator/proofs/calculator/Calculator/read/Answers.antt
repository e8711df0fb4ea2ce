use Rattle.std.proofs.Common.{◌+◌, ◌*◌, ◌≤◌, length, take, Err, sym, ap, ◌∙◌, arith}
use Rattle.std.proofs.lemmas.List.{length-take-le}
use Rattle.std.proofs.lemmas.Result.{err_from_is_err_and}
use Rattle.calculator.specs.Kept.{count_of}
use Rattle.calculator.proofs.Lives.{short_read_lives, working_read_lives, faulty_read_lives, full_read_lives}
use Rattle.calculator.proofs.Parts.{within_table, elsewhere}
use Rattle.calculator.proofs.calculator.Calculator.read.Goals as goal
use Rattle.calculator.proofs.calculator.Calculator.read.Goals.{then-table-places-via-then-table-places, then-table-places-via-else-table-places+then-working-places}

pub returns-then-table-places-clause-lives : goal.returns-then-table-places-clause-lives
returns-then-table-places-clause-lives g c =
    let slots = g.C.CubeNotation.slots in
    let m = c.args.self.now in
    let t = c.args.table.now in
    let k = c.args.k.number.value in
    let bytes = c.args.text.now in
    let w = length c.args.working.now in
    elim c.then-table-places.branch [
      | then-table-places-via-then-table-places h ↦ short_read_lives slots m t k (omega arith) bytes w (omega (arith, h.if-table-places.true))
      | then-table-places-via-else-table-places+then-working-places h ↦ working_read_lives slots m t k (omega arith) bytes w
          (omega (arith, h.if-table-places.false)) (omega (arith, h.if-working-places.true))
    ]

pub returns-in_err-count-clause-lives : goal.returns-in_err-count-clause-lives
returns-in_err-count-clause-lives g c =
    let p = err_from_is_err_and c.from_residual.result c.from_residual.ensures.1 in
    faulty_read_lives g.C.CubeNotation.slots c.args.self.now c.args.table.now c.args.k.number.value (omega arith) c.args.text.now (length c.args.working.now) _
    c.from_residual.result c.in_err-count.field-0.0 (omega arith) (omega arith) c.in_err-count.ensures.result (p.1 ∙ ap Err p.2)

pub returns-clause-lives : goal.returns-clause-lives
returns-clause-lives g c =
    full_read_lives g.C.CubeNotation.slots c.args.self.now c.args.table.now c.args.k.number.value (omega arith) c.args.text.now (length c.args.working.now) c.read_sheet.new.out
    c.fill.new.table c.in_ok-count.count c.fill.new.self (omega arith) (omega arith) (omega (arith, c.read_sheet.auto.out)) c.in_ok-count.ensures.result c.in_ok-count.ensures.within
    c.fill.ensures.shape c.fill.ensures.records c.fill.ensures.cells

pub returns-clause-kept : goal.returns-clause-kept
returns-clause-kept g c =
    let k = c.args.k.number.value in
    let t = c.args.table.now in
    let count = c.in_ok-count.count in
    let work = c.read_sheet.new.out in
    let places = c.args.self.now.shape.places.value in
    let few : count ≤ places = c.in_ok-count.ensures.within in
    let long = length-take-le count work (omega (arith, c.read_sheet.auto.out)) in
    let there : k * places + length (take count work) ≤ length t =
    let h = within_table k places count (length t) (omega arith) few (omega arith) in omega arith in
    (c.fill.ensures.shape, elsewhere t c.fill.new.table (take count work) (k * places) (count_of c.fill.new.self k) there (c.fill.ensures.held ∙ sym long) c.fill.ensures.cells)
