use Rattle.std.proofs.Common.{◌≡◌, ◌≢◌, ◌+◌, ◌-◌, ◌≤◌, [], ◌∷◌, length, get_or, take, ap, ◌∙◌, sym, rules, arith}
use Rattle.cube.specs.declared.slot.Slot.TheVariants.{Blank}
use Rattle.sheet.specs.Writing.{filled}
use Rattle.sheet.proofs.Lines.{filled_next, filled_one, filled_none, filled_few}
use Rattle.sheet.proofs.writing.count_literals.Given.{Over}
use Rattle.sheet.proofs.writing.count_literals.Goals as goal
use Rattle.sheet.proofs.writing.count_literals.Goals.{Joined-ne, then-ne, else-ne}

counted : (g : Over) (c : Joined-ne g) → (c.if-ne.count ≤ c.loop-v.count + 1) × (c.if-ne.count ≡ filled (take c.loop-v.v (g.C.CubeNotation.slots c.args.cube)))
counted g c =
    let ss = g.C.CubeNotation.slots c.args.cube in
    let v = c.loop-v.v in
    let s = c.slot.result in
    let fits : v ≤ length ss = omega (arith, g.met.C.CubeNotation.twenty c.args.cube) in
    let place : c.nearest.result.number.value - 1 ≡ v - 1 = omega (arith, c.nearest.ensures) in
    let added : c.if-ne.count ≡ c.loop-v.count + filled (s ∷ []) = elim c.if-ne.branch [
      | then-ne w ↦ let not : s ≢ Blank = search rules in omega (arith, w.count-is, filled_one s not)
      | else-ne w ↦ let is : s ≡ Blank = search rules in omega (arith, w.count-is, filled_none s is)
    ] in
    let next = filled_next ss v s (omega arith) fits (c.slot.ensures ∙ ap (λ i. get_or ss i Blank) place) in
    (omega (arith, added, filled_few s), omega (arith, added, next))

pub loop-v-preserved : goal.loop-v-preserved
loop-v-preserved g c =
    let h = counted g (goal.at.loop-v-preserved g c).Joined-ne in
    let i : c.loop-v.v + 1 - 1 ≡ c.loop-v.v = omega arith in
    (omega (arith, h.0), h.1 ∙ ap (λ k. filled (take k (g.C.CubeNotation.slots c.args.cube))) (sym i))

pub returns-after-ne : goal.returns-after-ne
returns-after-ne g c =
    let h = counted g (goal.at.returns-after-ne g c).Joined-ne in
    let i : c.loop-v.v ≡ c.args.shape.variables.value = omega arith in
    h.1 ∙ ap (λ k. filled (take k (g.C.CubeNotation.slots c.args.cube))) i
