use Rattle.std.proofs.Common.{◌≡◌, ◌∙◌, refl, sym, rules, arith}
use Rattle.text.specs.Tokens.{tokens_from}
use Rattle.text.specs.declared.bytes.Kind.TheVariants.{LineFeed}
use Rattle.text.proofs.Streams.{feed_more, separators_pass}
use Rattle.text.proofs.tokens.TokensIterator.next.Goals as goal
use Rattle.text.proofs.tokens.TokensIterator.next.Goals.{After-past_separators-start}

passed : (c : After-past_separators-start) → tokens_from c.args.self.now.text.now c.args.self.now.place ≡ tokens_from c.args.self.now.text.now c.past_separators-start.result
passed c = let s = c.past_separators-start.ensures in separators_pass _ _ _ (omega arith) s.within s.passed

pub returns-in-Ok-clause-steps : goal.returns-in-Ok-clause-steps
returns-in-Ok-clause-steps c = let same = passed (goal.at.returns-in-Ok-clause-steps c).After-past_separators-start in search rules

pub returns-in-Err-clause-steps : goal.returns-in-Err-clause-steps
returns-in-Err-clause-steps c = let same = passed (goal.at.returns-in-Err-clause-steps c).After-past_separators-start in search rules

pub returns-then-eq-clause-steps : goal.returns-then-eq-clause-steps
returns-then-eq-clause-steps c =
    let s = c.past_separators-start.ensures in
    let same = passed (goal.at.returns-then-eq-clause-steps c).After-past_separators-start in
    let is : c.from.result ≡ LineFeed = search rules in (
      refl,
      record {
        further = omega (arith, s.after);
        within = omega (arith, s.within);
        same = same ∙ feed_more _ _ (omega (arith, s.within)) (sym c.from.ensures ∙ is);
      },
    )
