-- What holds of a view and its events at every moment of a life.
use Rattle.std.proofs.Common.{◌≡◌, ℕ, zero, suc, ◌*◌, ◌^◌, ◌<◌, ◌≤◌, Bool, true, false, cond, List, [], ◌∷◌, map, length, get_or, take, drop, replicate, sym, refl, ap, ◌∙◌, subst, arith}
use Rattle.std.proofs.lemmas.Bool.{cond_both}
use Rattle.cube.specs.Refusals.{Fault}
use Rattle.cube.specs.Says.{Truth, yes_at}
use Rattle.cube.specs.Slots.{Cover, blank_above}
use Rattle.life.specs.Call.{Call, Event, event, Outcome, Answer, Given, reads, fills, makes, spells, leads, Numbered}
use Rattle.life.specs.Call.Outcome.{refused, accepted}
use Rattle.life.specs.Cause.{causes, first_of}
use Rattle.life.specs.View.{View, of_count, given, held, operand, filling, staged, New, Accepted, Stepped}
use Rattle.life.specs.History.{is_at, rows, expression, stage_after, Lived}
use Rattle.life.specs.History.Lived.{made, called}
use Rattle.life.proofs.Overs.{Every, every_blank, every_cond}
use Rattle.life.proofs.Makes.{none_of, Ranged, fit, placed, AlikeIn, alike_in, same_makes, same_causes, Below, leads_below}
use Rattle.life.proofs.Holds.{Kept, filled}

pub record Sound (g : Given) (v : View) (es : List Event) : Type 0 where
  pub same : given v ≡ g
  pub ranged : Ranged g
  pub kept : Kept v
  pub over : (k : ℕ) → Every g.n (rows g es k)
  pub few : (k : ℕ) → length (rows g es k) ≤ g.places
  pub follows : (k s : ℕ) → s < 2 ^ g.n → yes_at (rows g es k) s ≡ expression g es k s
  pub holds : (k : ℕ) → k < 32 → held v k ≡ rows g es k
  pub stage : v.stage ≡ stage_after es
  pub below : Below (stage_after es)

-- an operand is what its register holds
pub operand_is : (v : View) (es : List Event) → Sound (given v) v es → (a : ℕ) → a < 32 → operand v a ≡ rows (given v) es a
operand_is v es s a h = ap (map (blank_above v.n)) (s.holds a h) ∙ every_blank v.n (rows (given v) es a) (s.over a)

pub no_registers : (m k : ℕ) → get_or (replicate m (of_count 0)) k (of_count 0) ≡ of_count 0
no_registers zero k = refl
no_registers (suc m) zero = refl
no_registers (suc m) (suc k) = no_registers m k

new_sound : (v : View) → New v → Sound (given v) v []
new_sound v n =
    let c : (k : ℕ) → get_or v.registers k (of_count 0) ≡ of_count 0 = λ k. ap (λ r. get_or r k (of_count 0)) n.empty ∙ no_registers 32 k in
    record {
      same = refl;
      ranged = record { small = n.variables.1; fits = n.room.1 };
      kept = record { all = ap length n.empty; counts = λ k. let h = ap (λ r. r.count) (c k) in omega (arith, h) };
      over = λ k. tt;
      few = λ k. omega arith;
      follows = λ k s h. refl;
      holds = λ k h. ap (λ r. take r.count (drop (k * v.places) v.cells)) (c k);
      stage = n.unarmed;
      below = tt;
    }

follow_cond : (b : Bool) (L F : Cover) (f e : Truth) (s : ℕ) → yes_at L s ≡ f s → yes_at F s ≡ e s → yes_at (cond b L F) s ≡ cond b f e s
follow_cond true L F f e s p q = p
follow_cond false L F f e s p q = q

-- one call
module _ (v : View) (es : List Event) (c : Call) (x : ℕ) (sound : Sound (given v) v es) (numbered : Numbered c) where
  pub alike : AlikeIn (reads (stage_after es) c) (operand v) (rows (given v) es)
  alike = alike_in (stage_after es) (operand v) (rows (given v) es) c sound.below numbered (operand_is v es sound)

  -- the causes are those that the rows show
  pub causes_are : first_of (causes (given v) x c (operand v)) ≡ first_of (causes (given v) x c (rows (given v) es))
  causes_are = ap first_of (same_causes (given v) x (stage_after es) (operand v) (rows (given v) es) c alike)

  refused_sound : (f : Fault) → Sound (given v) v (event c x (refused f) ∷ es)
  refused_sound f = record {
    same = refl;
    ranged = sound.ranged;
    kept = sound.kept;
    over = sound.over;
    few = sound.few;
    follows = sound.follows;
    holds = sound.holds;
    stage = sound.stage;
    below = sound.below;
  }

  accepted_sound : (w : View) (answer : Answer) → Accepted v (event c x (accepted answer)) answer w → Sound (given v) w (event c x (accepted answer) ∷ es)
  accepted_sound w answer a =
      let g = given v in
      let R = rows g es in
      let E = expression g es in
      let none = none_of (causes g x c R) (sym causes_are ∙ a.no_cause) in
      let m = fit g x c R E sound.ranged numbered none sound.over sound.few sound.follows in
      let d = filled v (fills c) (makes g c R) sound.kept (placed g x c R numbered none) m.few in
      let e : w ≡ staged (filling v (fills c) (makes g c R)) (leads c v.stage) =
      a.leaves ∙ ap (λ L. staged (filling v (fills c) L) (leads c v.stage)) (same_makes g (stage_after es) (operand v) R c alike) in
      subst (λ u. Sound g u (event c x (accepted answer) ∷ es)) (sym e) (record {
        same = d.same;
        ranged = sound.ranged;
        kept = record { all = d.kept.all; counts = d.kept.counts };
        over = λ k. every_cond g.n (is_at (fills c) k) (makes g c R) (R k) m.over (sound.over k);
        few = λ k. cond_both (is_at (fills c) k) (makes g c R) (R k) (λ L. length L ≤ g.places) (λ _. m.few) (λ _. sound.few k);
        follows = λ k s h. follow_cond (is_at (fills c) k) (makes g c R) (R k) (spells g c E) (E k) s (m.follows s h) (sound.follows k s h);
        holds = λ k h. d.holds k ∙ ap (cond (is_at (fills c) k) (makes g c R)) (sound.holds k h);
        stage = ap (leads c) sound.stage;
        below = leads_below c (stage_after es) numbered sound.below;
      })

  pub step_sound : (o : Outcome) (w : View) → Stepped v (event c x o) w → Sound (given v) w (event c x o ∷ es)
  step_sound (refused f) w s = subst (λ u. Sound (given v) u (event c x (refused f) ∷ es)) (sym s.kept) (refused_sound f)
  step_sound (accepted answer) w s = accepted_sound w answer s

own : (g : Given) (v : View) (es : List Event) → Sound g v es → Sound (given v) v es
own g v es s = subst (λ h. Sound h v es) (sym s.same) s

pub sound_of : {v : View} {es : List Event} → Lived v es → Sound (given v) v es
sound_of (made {v} n) = new_sound v n
sound_of (called {v} {w} {e} {es} l n a s) = own (given v) w (e ∷ es) (step_sound v es e.call e.working (sound_of l) n e.outcome w s)
