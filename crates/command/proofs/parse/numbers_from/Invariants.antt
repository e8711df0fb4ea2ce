use Rattle.std.proofs.Common.{◌≡◌, ◌≤◌, length}
use Rattle.text.specs.Tokens.{tokens_from}
use Rattle.command.specs.Asked.{numbers_in}
use Rattle.command.specs.Counted.{first_two, two_of}
use Rattle.command.proofs.parse.numbers_from.Given as goal

abbrev pub invariant-loop-token : goal.invariant-loop-token
invariant-loop-token l = record {
  text : l.token-iterator.text.now ≡ l.text;
  room : length l.numbers.items ≤ 2;
  same : first_two (numbers_in (tokens_from l.text l.start)) ≡ two_of l.numbers.items (numbers_in (tokens_from l.text l.token-iterator.place));
}
