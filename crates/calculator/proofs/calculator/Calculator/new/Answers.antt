use Rattle.std.proofs.Common.{get_or, refl, ap, ◌∙◌, arith}
use Rattle.life.specs.View.{of_count}
use Rattle.life.proofs.Lawful.{begins}
use Rattle.life.proofs.Sound.{no_registers}
use Rattle.calculator.proofs.calculator.Calculator.new.Goals as goal

pub invariant_of-result : goal.invariant_of-result
invariant_of-result c = record {
  within = λ k. let h = ap (λ r. r.count) (ap (λ rs. get_or rs k (of_count 0)) c.new.ensures ∙ no_registers 32 k) in omega (arith, h);
}

pub returns-clause-lives : goal.returns-clause-lives
returns-clause-lives c = λ cells. begins (record {
  variables = (omega arith, omega arith);
  room = (omega arith, omega arith);
  empty = c.new.ensures;
  unarmed = refl;
})
