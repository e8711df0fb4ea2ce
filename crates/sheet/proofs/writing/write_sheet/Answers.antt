use Rattle.std.proofs.Common.{◌≤◌, map, length, refl, inr, Ok, ⊎_elim, arith}
use Rattle.std.proofs.lemmas.List.{length-map}
use Rattle.cube.specs.Slots.{Cover, blank_above}
use Rattle.text.proofs.Overlays.{laid_front}
use Rattle.sheet.specs.Writing.{write_sheet, Writes}
use Rattle.sheet.proofs.Lengths.{above_short}
use Rattle.sheet.proofs.Lines.{sheet_long}
use Rattle.sheet.proofs.Wrotes.{good_above, returns_from, wrote_from}
use Rattle.sheet.proofs.writing.write_sheet.Goals as goal

pub returns-then-cubes-gt-MOST_BYTES-clause-result : goal.returns-then-cubes-gt-MOST_BYTES-clause-result
returns-then-cubes-gt-MOST_BYTES-clause-result g c =
    let n = c.args.shape.variables.value in
    let xs = c.args.cubes.now in
    let f = g.C.CubeNotation.slots in
    let cs : Cover = map (blank_above n) (map f xs) in
    (inr (omega (arith, sheet_long n cs, length-map (map f xs) (blank_above n), length-map xs f, c.if-cubes-gt-MOST_BYTES.true)), refl, refl)

pub returns-then-length-out-clause-exact : goal.returns-then-length-out-clause-exact
returns-then-length-out-clause-exact g c few =
    let f = g.C.CubeNotation.slots in
    let short = above_short c.args.shape.variables.value f c.args.cubes.now c.args.shape.variables.high few g.met.C.CubeNotation.twenty in
    ⊎_elim (λ lt. omega (arith, c.put_sheet-length.ensures.place)) (λ q. absurd (omega (arith, q.1, c.put_sheet-length.ensures.place))) c.then-length-out.either

pub returns : goal.returns
returns g c =
    let n = c.args.shape.variables.value in
    let xs = c.args.cubes.now in
    let f = g.C.CubeNotation.slots in
    let cs : Cover = map (blank_above n) (map f xs) in
    let text = write_sheet n cs in
    let fits : length text ≤ length c.args.out.now = omega (arith, c.put_sheet-length.ensures.place) in
    let front = laid_front c.put_sheet.ensures fits (omega arith) in
    let w : Writes text c.args.out.now (Ok c.put_sheet.result) c.put_sheet.new.out = (fits, omega (arith, c.put_sheet-length.ensures.place), front.0, front.1) in
    let back = returns_from n cs c.args.out.now c.put_sheet.new.out (Ok c.put_sheet.result) c.args.shape.variables.high (good_above n f xs g.met.C.CubeNotation.twenty) w in
    record { result = w; exact = tt; sheet = wrote_from n cs c.put_sheet.new.out (Ok c.put_sheet.result) back; reads_back = back }
