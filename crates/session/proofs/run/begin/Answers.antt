use Rattle.std.proofs.Common.{◌≡◌, ℕ, ◌<◌, true, ◌⊎◌, ℤ, pos, Some, None, Ok, sym, refl, ap, ◌∙◌, subst, inl, inr, arith, w32, SFits, rules}
use Rattle.std.proofs.lemmas.Int.{to_z-of_z}
use Rattle.cube.specs.Ranges.{Outside}
use Rattle.command.specs.declared.report.Layer.TheVariants.{Command, Calculator}
use Rattle.command.specs.Asked.{asked_on}
use Rattle.command.specs.Asked.Asked.{make}
use Rattle.command.specs.Cut.{line_of}
use Rattle.session.specs.Run.Turned.{idle_waiting, first_refused, shape_refused, makes}
use Rattle.session.proofs.Midway.{silent_line, refused_first}
use Rattle.session.proofs.run.begin.Goals as goal

few_places : (p : ℕ) → pos p ≡ pos 64 → p ≡ 64
few_places p e = cc

outside : (z : ℤ) → Outside 1 20 z ⊎ ((64 < 1) ⊎ (256 < 64)) → Outside 1 20 z
outside z (inl h) = h
outside z (inr (inl h)) = absurd (omega arith)
outside z (inr (inr h)) = absurd (omega arith)

pub returns-in-Ok-None : goal.returns-in-Ok-None
returns-in-Ok-None c at ls rest m =
    let l = line_of c.args.line in
    let e : asked_on true l.at l.bytes ≡ Ok None = search rules in
    silent_line m (idle_waiting e)

pub returns-in-Err : goal.returns-in-Err
returns-in-Err c at ls rest m = rw c.refused_at.ensures (refused_first Command refl m (first_refused (sym c.in-Err.ensures)))

pub returns-in-Ok : goal.returns-in-Ok
returns-in-Ok c at ls rest m =
    let l = line_of c.args.line in
    let fits : SFits w32 c.in-Ok-Some.variables = search rules in
    let asks : asked_on true l.at l.bytes ≡ Ok (Some (make c.in-Ok-Some.variables)) = search rules in
    let e = c.in-Ok.ensures in
    let same = c.new-in-Ok.ensures.made.0 in
    let n = ap (λ s. pos s.variables.value) same ∙ e.0 ∙ to_z-of_z w32 _ fits in
    silent_line m (makes (asks ∙ ap (λ z. Ok (Some (make z))) (sym n)) (c.new-in-Ok.ensures.made.1 at.cells) (ap (λ s. s.places.value) same ∙ few_places _ e.1) refl)

pub returns-in-Err-new : goal.returns-in-Err-new
returns-in-Err-new c at ls rest m =
    let l = line_of c.args.line in
    let z = c.in-Ok-Some.variables in
    let fits : SFits w32 z = search rules in
    let asks : asked_on true l.at l.bytes ≡ Ok (Some (make z)) = search rules in
    let e = c.in-Err-new.ensures in
    rw c.refused_at-in-Err-new.ensures (refused_first Calculator e.0 m (shape_refused asks (subst (Outside 1 20) (to_z-of_z w32 z fits) (outside _ e.1))))
