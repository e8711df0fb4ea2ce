use Rattle.std.proofs.Common.{◌++◌, ap, ◌∙◌}
use Rattle.session.specs.Run.{printed}
use Rattle.session.specs.Seen.{report_of}
use Rattle.session.proofs.line.print_refused.Goals as goal

pub returns : goal.returns
returns c at room =
    let r = c.args.refused in
    c.in_ok-append.ensures at (report_of r) c.args.page.now room c.refuse-put.ensures ∙ ap (λ xs. xs ++ printed at r.line (report_of r)) c.new-output.ensures.items
