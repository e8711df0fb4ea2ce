use Rattle.std.proofs.Common.{◌≡◌, ◌+◌, ◌-◌, ◌≤◌, length, get_or, take, ap, ◌∙◌, arith}
use Rattle.cube.specs.declared.slot.Slot.TheVariants.{Blank}
use Rattle.text.specs.Output.{Lays}
use Rattle.sheet.specs.Writing.{write_literals}
use Rattle.sheet.proofs.Lines.{literal_next}
use Rattle.sheet.proofs.writing.put_literals.Given.{Over}
use Rattle.sheet.proofs.writing.put_literals.Goals as goal
use Rattle.sheet.proofs.writing.put_literals.Goals.{After-put_literal}

more : (g : Over) (c : After-put_literal g) (k : _) → k ≡ c.loop-variable.variable → Lays c.args.writer.now (write_literals 1 (take k (g.C.CubeNotation.slots c.args.cube))) c.put_literal.new.writer
more g c k e =
    let ss = g.C.CubeNotation.slots c.args.cube in
    let v = c.loop-variable.variable in
    let fits : v ≤ length ss = omega (arith, g.met.C.CubeNotation.twenty c.args.cube) in
    let place : c.nearest.result.number.value - 1 ≡ v - 1 = omega (arith, c.nearest.ensures) in
    literal_next ss v k _ (omega arith) fits e (c.slot-slot.ensures ∙ ap (λ i. get_or ss i Blank) place) c.loop-variable.invariant c.put_literal.ensures

pub loop-variable-preserved : goal.loop-variable-preserved
loop-variable-preserved g c = more g (goal.at.loop-variable-preserved g c).After-put_literal (c.loop-variable.variable + 1 - 1) (omega arith)

pub returns-2 : goal.returns-2
returns-2 g c = more g (goal.at.returns-2 g c).After-put_literal c.args.shape.variables.value (omega arith)
