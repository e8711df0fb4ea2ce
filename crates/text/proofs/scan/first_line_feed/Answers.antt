use Rattle.std.proofs.Common.{rules}
use Rattle.text.proofs.scan.first_line_feed.Goals as goal

pub returns-clause-passed : goal.returns-clause-passed
returns-clause-passed c = λ k h. let passed = c.first_from.ensures.passed k h in search rules
