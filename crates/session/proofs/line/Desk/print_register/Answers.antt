use Rattle.std.proofs.Common.{◌≡◌, refl, rules}
use Rattle.cube.specs.declared.refusal.Refusal.TheVariants.{OutputTooShort}
use Rattle.cube.specs.Refusals.{fault_of}
use Rattle.session.proofs.Turning.{still, print_done, print_too_long, print_refused, not_too_short}
use Rattle.session.proofs.line.Desk.print_register.Goals as goal

pub returns-in-Ok-clause-ran : goal.returns-in-Ok-clause-ran
returns-in-Ok-clause-ran g c = λ asks cells.
    let kept = c.in-Ok.ensures.kept in
    still c.write.ensures.same (print_done _ _ _ _ _ asks _ _ c.write.auto.page kept.1 kept.2 c.in-Ok.ensures.step)

pub returns-in-Err-clause-ran : goal.returns-in-Err-clause-ran
returns-in-Err-clause-ran g c = λ asks cells.
    let is : c.in-Err.refusal ≡ OutputTooShort = search rules in
    still c.write.ensures.same (print_too_long _ _ _ _ _ c.in-Err.refusal is refl asks c.in-Err.ensures.step c.in-Err.ensures.kept.1)

pub returns-in-Err-2-clause-ran : goal.returns-in-Err-2-clause-ran
returns-in-Err-2-clause-ran g c = λ asks cells.
    let isnt : c.in-Err.refusal ≡ OutputTooShort → ⊥ = search rules in
    still c.write.ensures.same
    (print_refused _ _ _ _ _ asks (fault_of c.in-Err.refusal) c.of_call.result (not_too_short c.in-Err.refusal isnt) c.in-Err.ensures.step c.of_call.ensures c.in-Err.ensures.kept.1 (rw c.refused_at-refused.ensures at c.refuse.ensures))
