use Rattle.std.proofs.Common.{w32, SFits, to_z, of_z, Some, Ok, sym, ap, ◌∙◌, subst, rules}
use Rattle.std.proofs.lemmas.Int.{to_z-of_z}
use Rattle.text.specs.Tokens.{Next, tokens_from}
use Rattle.command.specs.Asked.{and_then, numbers_in}
use Rattle.command.specs.Counted.{two_of}
use Rattle.command.proofs.Counting.{two_more}
use Rattle.command.proofs.parse.numbers_from.Goals as goal

pub loop-token-preserved-in-Number : goal.loop-token-preserved-in-Number
loop-token-preserved-in-Number c =
    let now = c.loop-token in
    let steps = c.in-Some.ensures.steps in
    let text = steps.0 ∙ now.invariant.text in
    let came = subst (λ xs. Next xs now.token-iterator.place (Some c.in-Some.token) c.next.new.self.place) now.invariant.text steps.1 in
    let token = subst (λ r. Next c.args.text.now now.token-iterator.place (Some r) c.next.new.self.place) (c.in_ok-numeral.was ∙ ap Ok c.in-Number.is) came in
    let here = ap (λ s. two_of now.numbers.items (numbers_in s)) token.same in
    let push = c.try_push.ensures in
    let others = numbers_in (tokens_from c.args.text.now c.next.new.self.place) in
    let fits : SFits w32 c.value.result = search rules in
    let read = ap (λ z. two_of now.numbers.items (and_then z others)) (sym c.value.ensures ∙ sym (to_z-of_z w32 _ fits)) in
    let more = two_more c.try_push.result now.numbers c.try_push.new.self (to_z w32 (of_z w32 c.value.result)) others push.ok push.err push.full in
    record {
      text = text;
      room = search rules;
      same = now.invariant.same ∙ here ∙ read ∙ more;
    }
