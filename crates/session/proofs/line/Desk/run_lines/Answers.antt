use Rattle.std.proofs.Common.{vec_items, sym, refl, ap, ◌∙◌}
use Rattle.session.proofs.Midway.{in_setting, coming, same_setting, ended, finished}
use Rattle.session.proofs.line.Desk.run_lines.Goals as goal
use Rattle.session.proofs.line.Desk.run_lines.Goals.{in-Some+in_ok-run_and_print+then-is_break, in-None}

pub returns-clause-ran : goal.returns-clause-ran
returns-clause-ran g c = λ cells ls m.
    let now = c.loop-line.invariant.ran cells ls m in
    let same = same_setting cells c.loop-line.invariant.kept in
    elim c.match-next.branch [
      | in-Some+in_ok-run_and_print+then-is_break w ↦
          let next = w.in_ok-run_and_print.ensures.ran cells ls _ (coming (in_setting (sym same) now) w.in-Some.ensures.steps) in
          finished g.C.CubeNotation.slots w.self-is (ap vec_items w.output-is) (ended w.in_ok-run_and_print.field-0 (sym w.is_break.ensures ∙ w.if-is_break.true) (in_setting same next)) refl
      | in-None w ↦ finished g.C.CubeNotation.slots w.self-is (ap vec_items w.output-is) (coming now w.in-None.ensures.steps.0) refl
    ]
