use Rattle.std.proofs.Common.{◌≤◌, length, arith, rules}
use Rattle.text.specs.Tokens.{tok_of}
use Rattle.sheet.proofs.Steps.{step_keeps, room_below, ready_in}
use Rattle.sheet.proofs.reading.read_within.Goals as goal

pub perform-count-requires : goal.perform-count-requires
perform-count-requires g c =
    let most = c.args.shape.places.value in
    let l = c.loop-token in
    let fits : most ≤ length l.out = omega arith in
    let k = step_keeps c.args.shape.variables.value most l.count l.state (tok_of c.in_ok-token.field-0) (c.in_ok-next.next, c.in_ok-next.deed) c.args.shape.variables.high c.in_ok-next.ensures l.invariant.1 in
    record { ready = ready_in most (length l.out) l.count c.in_ok-next.deed fits k.ready; within = k.within; fits = omega (arith, room_below most l.count l.state l.invariant.1) }

pub loop-token-preserved : goal.loop-token-preserved
loop-token-preserved g c =
    let l = c.loop-token in
    let k = step_keeps c.args.shape.variables.value c.args.shape.places.value l.count l.state (tok_of c.in_ok-token.field-0) (c.in_ok-next.next, c.in_ok-next.deed) c.args.shape.variables.high c.in_ok-next.ensures l.invariant.1 in
    search rules
