use Rattle.std.proofs.Common.{rules, arith}
use Rattle.text.proofs.Streams.{digits_pass}
use Rattle.text.proofs.tokens.past_digits.Goals as goal

pub returns-clause-same : goal.returns-clause-same
returns-clause-same c =
    λ start first s. digits_pass c.args.text.now c.args.from c.first_from.result (omega arith) (omega arith) start first s (λ k h. let passed = c.first_from.ensures.passed k h in search rules)
