use Rattle.std.proofs.Common.{Ok, sym, refl, ap, ◌∙◌}
use Rattle.cube.specs.Refusals.{fault_of}
use Rattle.command.specs.Asked.{parsed}
use Rattle.session.proofs.Putting.{put_none}
use Rattle.session.proofs.Turning.{done_put, line_idle, line_refused}
use Rattle.session.proofs.line.Desk.run_line.Goals as goal

pub returns-in_default-clause-ran : goal.returns-in_default-clause-ran
returns-in_default-clause-ran g c = λ cells. done_put (line_idle _ _ _ (sym c.in-Ok.ensures ∙ ap (λ o. parsed (Ok o)) c.in_default.is)) (put_none refl)

pub returns-in-Err-clause-ran : goal.returns-in-Err-clause-ran
returns-in-Err-clause-ran g c = λ cells. done_put (line_refused _ _ _ (fault_of c.in-Err.refusal) (sym c.in-Err.ensures)) (rw c.refused_at-refused.ensures at c.refuse.ensures)
