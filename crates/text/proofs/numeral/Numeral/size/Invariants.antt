use Rattle.std.proofs.Common.{◌≡◌, ◌^◌, ◌<◌, drop}
use Rattle.text.specs.Numerals.{size_from}
use Rattle.text.proofs.numeral.Numeral.size.Given as goal

abbrev pub invariant-loop-b : goal.invariant-loop-b
invariant-loop-b l = (l.size < 10 ^ l.b-index) × (size_from l.size (drop l.b-index l.self.text.now) ≡ size_from 0 l.self.text.now)
