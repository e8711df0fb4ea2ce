-- A run goes on line by line.
use Rattle.std.proofs.Common.{is_some, map, ControlFlow, Continue, Break, ◌≡◌, ℕ, ◌≤◌, true, List, [], ◌∷◌, ◌++◌, length, take, drop, IfOk, Some, None, Ok, Err, vec_items, Option, Result, sym, refl, ap, ◌∙◌, subst, append_assoc, append-nil, arith, length-append}
use Rattle.std.proofs.lemmas.List.{nil_from_length, take_at}
use Rattle.std.proofs.lemmas.Bool.{cond-true, le-leb}
use Rattle.cube.specs.Refusals.{Fault}
use Rattle.cube.specs.Slots.{Cube, Cover}
use Rattle.life.specs.Call.{Event}
use Rattle.life.specs.View.{View}
use Rattle.command.specs.declared.report.Layer.{Layer}
use Rattle.command.specs.Lines.{Line, lines_of}
use Rattle.command.specs.Output.{Put}
use Rattle.command.specs.Report.{report}
use Rattle.calculator.specs.declared.calculator.Calculator.{Calculator}
use Rattle.session.specs.declared.run.Run.{Run}
use Rattle.session.specs.Run.{Status, Setting, Turned, Ran, printed}
use Rattle.session.specs.Run.Status.{waiting, over}
use Rattle.session.specs.Run.Turned.{after_end}
use Rattle.session.specs.Run.Ran.{begun, then}
use Rattle.session.specs.declared.failure.Failure.{Failure}
use Rattle.session.specs.Seen.{Into, LineRan, Left, status_after}
use Rattle.session.specs.declared.line.Desk.{Desk}
use Rattle.session.specs.Desk.{IsKept, setting_at}
use Rattle.std.specs.ControlFlow.{break_value}
use Rattle.session.specs.Midway.{Midway, Finished}
use Rattle.session.specs.Ran.{TextRan}
use Rattle.session.proofs.Lives.{ran_alive}

none_printed : (at : Setting) (n : ℕ) → printed at n [] ≡ []
none_printed at n = cond-true _ _ _ (le-leb 0 at.room (omega arith))

module _ {at : Setting} where
  -- the first of the lines to come was run
  pub next_line : {ls rest : List Line} {l : Line} {s t : Status} {new : List Event} {out out' more : List ℕ} → Midway at ls (l ∷ rest) s out → Turned at s l new t more → out' ≡ out ++ printed at l.number more → Midway at ls rest t out'
  next_line {ls} {rest} {l} {s} {t} {new} {out} {out'} m turned e = record {
    seen = m.seen ++ l ∷ [];
    events = new ++ m.events;
    split = m.split ∙ sym (append_assoc m.seen (l ∷ []) rest);
    ran = subst (λ o. Ran at (m.seen ++ l ∷ []) (new ++ m.events) t o) (sym e) (then m.ran turned);
  }

  -- and printed nothing
  pub silent_line : {ls rest : List Line} {l : Line} {s t : Status} {new : List Event} {out : List ℕ} → Midway at ls (l ∷ rest) s out → Turned at s l new t [] → Midway at ls rest t out
  silent_line {l} {out} m turned = next_line m turned (sym (append-nil out) ∙ ap (λ more. out ++ more) (sym (none_printed at l.number)))

  -- lines after the end change nothing
  pub after_all : {ls : List Line} {o : Option View} {out : List ℕ} (rest : List Line) → Midway at ls rest (over o) out → Midway at ls [] (over o) out
  after_all [] m = m
  after_all (l ∷ rest) m = after_all rest (silent_line m after_end)

  pub coming : {ls before after : List Line} {s : Status} {out : List ℕ} → Midway at ls before s out → before ≡ after → Midway at ls after s out
  coming {ls} {before} {after} {s} {out} m e = subst (λ r. Midway at ls r s out) e m

  pub at_first : (ls : List Line) → Midway at ls ls waiting []
  at_first ls = record { seen = []; events = []; split = refl; ran = begun }

  -- all lines of the text were run
  pub text_ran : {ls : List Line} {text out : List ℕ} {s : Status} (run : Run) (cells : Cover) → ls ≡ lines_of text → Midway at ls [] s out → vec_items run.output ≡ out → Left at.cells s run.calculator cells → TextRan at text run cells
  text_ran {ls} {text} {out} {s} run cells is m prints left = record {
    events = m.events;
    status = s;
    ran = subst (λ o. Ran at (lines_of text) m.events s o) (sym prints) (subst (λ l. Ran at l m.events s out) (sym (append-nil m.seen) ∙ sym m.split ∙ is) m.ran);
    left = left;
    alive = ran_alive m.ran;
  }

-- a line that goes on nowhere has printed nothing
pub last_line : {at : Setting} {ls rest : List Line} {l : Line} {s t : Status} {out page page' : List ℕ} → Midway at ls (l ∷ rest) s out → LineRan at s l t page (Ok 0) page' → Midway at ls rest t out
last_line {at} {l} {s} {t} m r = silent_line m (subst (λ text. Turned at s l r.events t text) (nil_from_length r.text (sym r.put.size)) r.turned)

-- the first command was refused, and its line is printed
pub refused_first : {at : Setting} {ls rest : List Line} {l : Line} (layer : Layer) {f g : Fault} → g ≡ f → Midway at ls (l ∷ rest) waiting [] → Turned at waiting l [] (over None) (report l.number layer f) → Midway at ls rest (over None) (printed at l.number (report l.number layer g))
refused_first {at} {l} layer same m turned = next_line m turned (ap (λ h. printed at l.number (report l.number layer h)) same)

-- a line ended the run
pub ended : {B C : Type 0} {at : Setting} {ls rest : List Line} {out : List ℕ} {v : View} (flow : ControlFlow B C) → is_some (break_value flow) ≡ true → Midway at ls rest (status_after flow v) out → Midway at ls [] (over (Some v)) out
ended (Continue c) e m = let no : ◌≡◌ {A = ℕ} 0 1 = cc in absurd (omega arith)
ended {rest} (Break b) e m = after_all rest m

pub same_setting : {C : Type 0} {old new : Desk C} (cells : Cover) → IsKept old new → setting_at cells new ≡ setting_at cells old
same_setting cells k = cc

pub finished : {C : Type 0} (slots : C → Cube) {at : Setting} {ls : List Line} {s : Status} {out out' : List ℕ} {d e : Desk C} → d ≡ e → out' ≡ out → Midway at ls [] s out → Left at.cells s (Some e.calculator.now) (map slots e.table.now) → Finished at ls d.calculator.now (map slots d.table.now) out'
finished slots {at} {ls} {s} is prints m left = record {
  status = s;
  midway = subst (λ o. Midway at ls [] s o) (sym prints) m;
  left = subst (λ d. Left at.cells s (Some d.calculator.now) (map slots d.table.now)) (sym is) left;
}

-- the same run in the same setting
pub in_setting : {at at' : Setting} {ls rest : List Line} {s : Status} {out : List ℕ} → at ≡ at' → Midway at ls rest s out → Midway at' ls rest s out
in_setting {at} {at'} {ls} {rest} {s} {out} e m = subst (λ z. Midway z ls rest s out) e m

pub of_text : {at : Setting} {ls ls' rest : List Line} {s : Status} {out : List ℕ} → ls ≡ ls' → Midway at ls rest s out → Midway at ls' rest s out
of_text {at} {ls} {ls'} {rest} {s} {out} e m = subst (λ z. Midway at z rest s out) e m

-- what was put into the bytes is no longer than they are
pub put_within : (t before after : List ℕ) (r : Result ℕ Failure) → Into t before r after → IfOk r (λ k. k ≤ length after)
put_within t before after (Ok k) p = omega (arith, p.size, simp length-append at (ap length p.over))
put_within t before after (Err f) p = tt

-- what was put into the bytes stands at their front, and is printed
pub front_printed : (at : Setting) (line : ℕ) {t before after : List ℕ} {k : ℕ} → at.room ≡ length before → Put t before k after → take k after ≡ printed at line t
front_printed at line {t} {before} {after} {k} room p =
    let fits : length t ≤ at.room = omega (arith, p.fits) in
    ap (take k) p.over ∙ take_at t (drop k before) k (sym p.size) ∙ sym (cond-true _ _ _ (le-leb (length t) at.room fits))

-- the run that finished leaves the table as it is behind the reference
pub finished_text : {C : Type 0} (slots : C → Cube) {at : Setting} {ls : List Line} {table table' : List C} {calculator : Calculator} (text : List ℕ) (run : Run) → ls ≡ lines_of text → Finished at ls calculator (map slots table) (vec_items run.output) → run.calculator ≡ Some calculator → table' ≡ table → TextRan at text run (map slots table')
finished_text slots {at} {table} {table'} text run is f left same =
    text_ran run (map slots table') is f.midway refl (subst (λ t. Left at.cells f.status run.calculator (map slots t)) (sym same) (subst (λ k. Left at.cells f.status k (map slots table)) (sym left) f.left))
