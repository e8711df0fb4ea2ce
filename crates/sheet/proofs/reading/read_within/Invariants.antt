use Rattle.std.proofs.Common.{◌≡◌, [], map, take, drop}
use Rattle.text.specs.Tokens.{tokens_from}
use Rattle.sheet.specs.Reading.{run}
use Rattle.sheet.specs.Places.{Room}
use Rattle.sheet.specs.declared.reading.ReaderState.TheVariants.{BeforeLine1}
use Rattle.sheet.proofs.reading.read_within.Given as goal

abbrev pub invariant-loop-token : goal.invariant-loop-token
invariant-loop-token g l =
    let n = l.shape.variables.value in
    let most = l.shape.places.value in
    (l.token-iterator.text.now ≡ l.text)
    × Room most l.state l.count
    × (run n most l.state (take l.count (map g.C.CubeNotation.slots l.out)) (tokens_from l.text l.token-iterator.place) ≡ run n most BeforeLine1 [] (tokens_from l.text 0))
    × (drop most l.out ≡ drop most l.initial.out)
