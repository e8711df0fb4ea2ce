use Rattle.std.proofs.Common.{List, [], vec_items}
use Rattle.cube.specs.Slots.{Cover}
use Rattle.command.specs.Cut.{lines_left}
use Rattle.command.specs.Lines.{Line}
use Rattle.session.specs.Run.Status.{running}
use Rattle.session.specs.Desk.{IsKept, setting_at, seen}
use Rattle.session.specs.Midway.{Midway}
use Rattle.session.proofs.line.Desk.run_lines.Given as goal

abbrev pub invariant-loop-line : goal.invariant-loop-line
invariant-loop-line g l =
    let slots = g.C.CubeNotation.slots in
    let first = l.initial.self in
    record {
      ran : (cells : Cover) (ls : List Line) → Midway (setting_at cells first) ls (lines_left l.fn.lines) (running (seen slots first)) []
          → Midway (setting_at cells first) ls (lines_left l.line-iterator) (running (seen slots l.self)) (vec_items l.output);
      kept : IsKept first l.self;
    }
