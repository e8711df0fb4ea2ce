use Rattle.std.proofs.Common.{Some, Ok, refl, ap, ◌∙◌, subst}
use Rattle.command.specs.Asked.{asked}
use Rattle.session.specs.Seen.{Into, report_of}
use Rattle.session.proofs.Putting.{put_none}
use Rattle.session.proofs.Turning.{done_put, line_quits}
use Rattle.session.proofs.line.Desk.run_command.Goals as goal

pub returns-in-Ok-clause-ran : goal.returns-in-Ok-clause-ran
returns-in-Ok-clause-ran g c = λ asks cells.
    done_put (c.in-Ok.ensures.done cells (asks ∙ ap (λ k. Ok (Some (asked k))) c.in-Read.is)) (put_none c.in-Ok.ensures.page)

pub returns-in-Err-clause-ran : goal.returns-in-Err-clause-ran
returns-in-Err-clause-ran g c = λ asks cells.
    done_put (c.in-Err.ensures.done cells (asks ∙ ap (λ k. Ok (Some (asked k))) c.in-Read.is))
    (subst (λ out. Into (report_of c.in-Err.refused) out c.refuse.result c.refuse.new.out) c.in-Err.ensures.page c.refuse.ensures)

pub returns-in-Quit-clause-ran : goal.returns-in-Quit-clause-ran
returns-in-Quit-clause-ran g c = λ asks cells. done_put (line_quits _ _ _ (asks ∙ ap (λ k. Ok (Some (asked k))) c.in-Quit.is)) (put_none refl)
