use Rattle.std.proofs.Common.{◌≡◌, Some, map, length, take, sym, ap, ◌∙◌, subst, rules, arith}
use Rattle.cube.specs.Slots.{with_slot}
use Rattle.sheet.specs.declared.reading.Deed.TheVariants.{Open, Put}
use Rattle.sheet.specs.Reading.{act}
use Rattle.sheet.specs.Places.{Ready, Within}
use Rattle.sheet.proofs.Runs.{opens_cube, puts_slot}
use Rattle.sheet.proofs.reading.perform.Goals as goal

pub returns-in-Some-Open-clause-cubes : goal.returns-in-Some-Open-clause-cubes
returns-in-Some-Open-clause-cubes g c =
    let xs = c.args.out.now in
    let f = g.C.CubeNotation.slots in
    let is : c.args.deed ≡ Some Open = search rules in
    opens_cube f xs c.args.count c.blank.result (subst (λ d. Ready (length xs) d c.args.count) is c.requires.ready) c.blank.ensures ∙ ap (λ d. act d (take c.args.count (map f xs))) (sym is)

pub returns-in-Some-Put-clause-cubes : goal.returns-in-Some-Put-clause-cubes
returns-in-Some-Put-clause-cubes g c =
    let xs = c.args.out.now in
    let f = g.C.CubeNotation.slots in
    let w = c.in-Some-Put.variable in
    let v = c.in-Some-Put.slot in
    let x = c.index-out-count.result in
    let is : c.args.deed ≡ Some (Put w v) = search rules in
    let ready = subst (λ d. Ready (length xs) d c.args.count) is c.requires.ready in
    let named = subst (λ d. Within 20 d) is c.requires.within in
    let same : c.nearest.result.number.value ≡ w = omega (arith, c.nearest.ensures, named.0, named.1) in
    puts_slot f xs c.args.count x c.set.result w v ready.0 ready.1 c.index-out-count.is (c.set.ensures ∙ ap (λ k. with_slot (f x) k v) same) ∙ ap (λ d. act d (take c.args.count (map f xs))) (sym is)
