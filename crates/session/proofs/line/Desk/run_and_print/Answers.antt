use Rattle.std.proofs.Common.{[], refl, rules}
use Rattle.session.specs.Desk.{setting_at}
use Rattle.session.proofs.Midway.{next_line, last_line, put_within}
use Rattle.session.proofs.line.Desk.run_and_print.Goals as goal

pub append-requires : goal.append-requires
append-requires g c = search (rules, put_within _ _ _ c.in-Continue.put (c.in-Continue.ensures.ran []).put)

pub returns-in_ok-append-in-Continue-clause-ran : goal.returns-in_ok-append-in-Continue-clause-ran
returns-in_ok-append-in-Continue-clause-ran g c = λ cells ls rest m.
    let r = c.in-Continue.ensures.ran cells in
    next_line m r.turned (c.in_ok-append-in-Continue.ensures (setting_at cells c.args.self.now) r.text _ refl r.put)

pub returns-in-Break-clause-ran : goal.returns-in-Break-clause-ran
returns-in-Break-clause-ran g c = λ cells ls rest m. last_line m (c.in-Break.ensures.ran cells)
