-- A run's calculator lives its calls.
use Rattle.std.proofs.Common.{◌≡◌, ℕ, List, [], ◌++◌, Some, None, sym, refl, ap, ◌∙◌, subst}
use Rattle.life.specs.Call.{Call, Event, event, Outcome, leads}
use Rattle.life.specs.Call.Outcome.{refused, accepted}
use Rattle.life.specs.Call.Stage.{free}
use Rattle.life.specs.View.{View, Stepped}
use Rattle.life.specs.History.{Lived}
use Rattle.life.specs.History.Lived.{made, called}
use Rattle.life.proofs.Lawful.{lawful}
use Rattle.command.specs.Lines.{Line}
use Rattle.session.specs.Run.{Status, Setting, Turned, Ran, Alive}
use Rattle.session.specs.Run.Status.{waiting, running, over}
use Rattle.session.specs.Run.Turned.{idle_waiting, idle_running, after_end, first_refused, shape_refused, makes, refused_line, quits, no_file, large_file, reads, writes}
use Rattle.session.specs.Run.Ran.{begun, then}
use Rattle.session.proofs.Asking.{read_below, print_below}

-- as long as it runs, its calculator is unarmed
abbrev Lives : Status → List Event → Type 0
Lives waiting es = es ≡ []
Lives (running v) es = Lived v es × (v.stage ≡ free)
Lives (over None) es = es ≡ []
Lives (over (Some v)) es = Lived v es

stays_free : (v w : View) (c : Call) (x : ℕ) (o : Outcome) → leads c free ≡ free → Stepped v (event c x o) w → v.stage ≡ free → w.stage ≡ free
stays_free v w c x (refused f) l s h = ap (λ u. u.stage) s.kept ∙ h
stays_free v w c x (accepted answer) l s h = ap (λ u. u.stage) s.leaves ∙ ap (leads c) h ∙ l

turned_lives : {at : Setting} {s t : Status} {l : Line} {new : List Event} {more : List ℕ} → Turned at s l new t more → (es : List Event) → Lives s es → Lives t (new ++ es)
turned_lives (idle_waiting e) es h = h
turned_lives (idle_running e) es h = h
turned_lives after_end es h = h
turned_lives (first_refused e) es h = h
turned_lives (shape_refused e o) es h = h
turned_lives (makes {v} e new p c) es h = (subst (λ z. Lived v z) (sym h) (made new), new.unarmed)
turned_lives (refused_line e) es h = h
turned_lives (quits e) es h = h.0
turned_lives (no_file e f) es h = h
turned_lives (large_file e f n) es h = h
turned_lives (reads {l} {v} {w} {k} {bytes} {o} e f n step) es h = (called h.0 (read_below l k e) h.1 step, stays_free v w _ _ o refl step h.1)
turned_lives (writes {l} {v} {k} {o} e step) es h = (called h.0 (print_below l k e) h.1 step, stays_free v v _ _ o refl step h.1)

ran_lives : {at : Setting} {ls : List Line} {es : List Event} {s : Status} {out : List ℕ} → Ran at ls es s out → Lives s es
ran_lives begun = refl
ran_lives (then {es} r t) = turned_lives t es (ran_lives r)

lives_alive : (s : Status) (es : List Event) → Lives s es → Alive s es
lives_alive waiting es h = h
lives_alive (running v) es h = (h.0, lawful h.0)
lives_alive (over None) es h = h
lives_alive (over (Some v)) es h = (h, lawful h)

pub ran_alive : {at : Setting} {ls : List Line} {es : List Event} {s : Status} {out : List ℕ} → Ran at ls es s out → Alive s es
ran_alive {es} {s} r = lives_alive s es (ran_lives r)
