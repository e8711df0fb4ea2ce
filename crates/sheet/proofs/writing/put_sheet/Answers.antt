use Rattle.std.proofs.Common.{◌≡◌, [], ◌∷◌, ◌++◌, map, length, decimal, sym, ap, ◌∙◌, rules}
use Rattle.std.proofs.lemmas.List.{length-map}
use Rattle.cube.specs.Slots.{Cover, blank_above}
use Rattle.text.specs.Output.{Lays}
use Rattle.text.proofs.Overlays.{lays_then, lays_as}
use Rattle.sheet.specs.Writing.{write_cubes, write_sheet}
use Rattle.sheet.proofs.Lines.{sheet_pieces}
use Rattle.sheet.proofs.writing.put_sheet.Goals as goal

pub returns : goal.returns
returns g c =
    let n = c.args.shape.variables.value in
    let xs = c.args.cubes.now in
    let cs : Cover = map (blank_above n) (map g.C.CubeNotation.slots xs) in
    let count : length xs ≡ length cs = sym (length-map (map g.C.CubeNotation.slots xs) (blank_above n) ∙ length-map xs g.C.CubeNotation.slots) in
    let puts : Lays c.new-sheet.result (write_sheet n cs) c.put_cubes.new.writer = lays_as
    (ap (λ m. (decimal m ++ 10 ∷ (decimal (length xs) ++ 10 ∷ [])) ++ write_cubes cs) c.variables.ensures.value ∙ ap (λ k. (decimal n ++ 10 ∷ (decimal k ++ 10 ∷ [])) ++ write_cubes cs) count ∙ sheet_pieces n cs)
    (lays_then (lays_then c.put_number.ensures (lays_then c.put.ensures (lays_then c.put_number-2.ensures c.put-2.ensures))) c.put_cubes.ensures) in
    search rules
