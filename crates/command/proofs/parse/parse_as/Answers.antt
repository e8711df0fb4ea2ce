use Rattle.std.proofs.Common.{◌≡◌, ◌-◌, Bool, true, false, length, drop, sym, ap, ◌∙◌, arith}
use Rattle.text.specs.Tokens.{tokens_from}
use Rattle.command.specs.Asked.{admitted, asked_by, asked_on, numbers_in, with_numbers}
use Rattle.command.proofs.Asking.{rest, begun, refused, idle, handed_on}
use Rattle.command.proofs.Counting.{faulty, counted}
use Rattle.command.proofs.parse.parse_as.Given.{Over}
use Rattle.command.proofs.parse.parse_as.Goals as goal
use Rattle.command.proofs.parse.parse_as.Goals.{After-numbers_from}

-- a letter that may begin a command stands there, and its numbers after it
letter_begins : (g : Over) (c : After-numbers_from g) (first : Bool) → true ≡ admitted first c.from-letter.result → asked_on first c.args.line.start (drop c.args.line.start c.args.line.text.now) ≡ with_numbers c.from-letter.result (numbers_in (tokens_from c.args.line.text.now (length c.args.line.text.now - length (rest (rest c.args.line.text.now c.past_separators-at.result) 1))))
letter_begins g c first may =
    let s = c.past_separators-at.ensures in
    begun first _ _ _ s.after s.within s.stopped s.passed _ c.in-len1-up.len_at_least c.from-letter.ensures may

pub returns-in-empty : goal.returns-in-empty
returns-in-empty g c first see admits asks =
    let s = c.past_separators-at.ensures in
    sym (idle first _ _ _ s.after s.within s.stopped s.passed (omega arith))

pub returns-then-not-admits : goal.returns-then-not-admits
returns-then-not-admits g c first see admits asks =
    let s = c.past_separators-at.ensures in
    let b = c.from-letter.result in
    let same = refused first _ _ _ s.after s.within s.stopped s.passed b c.in-len1-up.len_at_least c.from-letter.ensures (admits b false c.if-not-admits.ensures) in
    cc

pub returns-in_err-numbers-in-len1-up : goal.returns-in_err-numbers-in-len1-up
returns-in_err-numbers-in-len1-up g c first see admits asks =
    let b = c.from-letter.result in
    let same = letter_begins g (goal.at.returns-in_err-numbers-in-len1-up g c).After-numbers_from first (admits b true c.if-not-admits.ensures) in
    handed_on see _ _ c.from_residual.ensures.1 ∙ sym (same ∙ faulty b _ _ c.in_err-numbers-in-len1-up.ensures)

pub returns-in_err-ask-in-len1-up : goal.returns-in_err-ask-in-len1-up
returns-in_err-ask-in-len1-up g c first see admits asks =
    let b = c.from-letter.result in
    let may = admits b true c.if-not-admits.ensures in
    let same = letter_begins g (goal.at.returns-in_err-ask-in-len1-up g c).After-numbers_from first may in
    let is = asks b c.as_slice.result _ (sym may) c.in_err-ask-in-len1-up.ensures ∙ ap (asked_by b) c.as_slice.ensures.value in
    handed_on see _ _ c.from_residual-in_err-ask-in-len1-up.ensures.1 ∙ sym (same ∙ counted b _ _ _ c.in_ok-numbers-in-len1-up.ensures is)

pub returns-in_ok-ask-in-len1-up : goal.returns-in_ok-ask-in-len1-up
returns-in_ok-ask-in-len1-up g c first see admits asks =
    let b = c.from-letter.result in
    let may = admits b true c.if-not-admits.ensures in
    let same = letter_begins g (goal.at.returns-in_ok-ask-in-len1-up g c).After-numbers_from first may in
    let is = asks b c.as_slice.result _ (sym may) c.in_ok-ask-in-len1-up.ensures ∙ ap (asked_by b) c.as_slice.ensures.value in
    sym (same ∙ counted b _ _ _ c.in_ok-numbers-in-len1-up.ensures is)
