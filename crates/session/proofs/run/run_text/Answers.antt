use Rattle.std.proofs.Common.{ap, Some, [], length, refl, rules}
use Rattle.session.specs.Seen.{setting}
use Rattle.session.proofs.Midway.{after_all, text_ran, finished_text}
use Rattle.session.proofs.run.run_text.Goals as goal

pub returns-in-Ok-None-clause-short : goal.returns-in-Ok-None-clause-short
returns-in-Ok-None-clause-short g c = λ h.
    let m = rw c.in-Ok-None.field-0-is at c.in-Ok-None.ensures in
    rw c.without_calculator-in-Ok-None.ensures (text_ran _ _ c.new-lines.ensures (m _) c.new.ensures.items refl)

pub returns-in-Err-clause-short : goal.returns-in-Err-clause-short
returns-in-Err-clause-short g c = λ h.
    -- what is printed depends on the room alone
    let any = setting c.args.files.now [] 0 (length c.args.page.now) in
    rw c.without_calculator-in-Err.ensures (text_ran _ _ c.new-lines.ensures (after_all _ (c.in-Err.ensures _)) (c.in_ok-print_refused-in-Err.ensures any refl) refl)

pub returns-clause-short : goal.returns-clause-short
returns-clause-short g c = λ h.
    let m = rw c.in-Ok-Some.field-0-is at c.in-Ok-Some.ensures in
    finished_text g.C.CubeNotation.slots _ _ c.new-lines.ensures (c.in_ok-output.ensures.ran _ _ (m _)) (ap Some (search rules)) (search rules)
