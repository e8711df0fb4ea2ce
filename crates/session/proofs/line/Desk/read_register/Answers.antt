use Rattle.std.proofs.Common.{arith, rules}
use Rattle.session.proofs.Turning.{file_missing, file_large, read_ran, refused_as}
use Rattle.session.proofs.line.Desk.read_register.Goals as goal

pub returns-in_default-clause-done : goal.returns-in_default-clause-done
returns-in_default-clause-done g c = λ cells asks. rw c.refused_at.ensures (file_missing _ _ _ _ asks (search rules))

pub returns-then-bytes-gt-MOST_SHEET_BYTES-clause-done : goal.returns-then-bytes-gt-MOST_SHEET_BYTES-clause-done
returns-then-bytes-gt-MOST_SHEET_BYTES-clause-done g c = λ cells asks. rw c.refused_at-then-bytes-gt-MOST_SHEET_BYTES.ensures (file_large _ _ _ _ asks c.in-Some.bytes.now (search rules) (omega arith))

pub returns-clause-done : goal.returns-clause-done
returns-clause-done g c = λ cells asks.
    read_ran _ _ _ _ asks _ (search rules) _ (omega arith) _ _ c.read.ensures.lives.step (λ x e. search rules) (λ f e. refused_as _ (rw e at c.map_err.ensures.cases))
