-- Every life keeps the law.
use Rattle.std.proofs.Common.{◌≡◌, ℕ, ◌≤◌, eqb, ◌↔◌, List, [], ◌∷◌, length, Some, None, sym, refl, ap, ◌∙◌, subst, arith}
use Rattle.std.proofs.lemmas.Bool.{cond-true, eq-eqb}
use Rattle.cube.specs.Refusals.{Fault}
use Rattle.cube.specs.Says.{yes_at}
use Rattle.cube.specs.Slots.{Cover}
use Rattle.sheet.specs.Reading.{read_sheet}
use Rattle.sheet.specs.Sheet.{Sheet, shown}
use Rattle.sheet.specs.Writing.{write_sheet}
use Rattle.sheet.proofs.Sheets.{sheets_are_read}
use Rattle.life.specs.Call.{Call, Event, event, Outcome, Answer, Answers, Given, Numbered, Allowed}
use Rattle.life.specs.Call.Source.{sheet}
use Rattle.life.specs.Call.Call.{read, write}
use Rattle.life.specs.Call.Answer.{text}
use Rattle.life.specs.Call.Outcome.{refused, accepted}
use Rattle.life.specs.Cause.{causes, first_of, LongTables}
use Rattle.life.specs.View.{View, given, operand, New, Stepped}
use Rattle.life.specs.History.{rows, stage_after, Lived, Past, Happened}
use Rattle.life.specs.History.Lived.{made, called}
use Rattle.life.specs.History.Past.{now, earlier}
use Rattle.life.specs.Law.{taken_in, Law, Goes, LivesOn}
use Rattle.life.proofs.Sheets.{written_is_a_sheet}
use Rattle.life.proofs.Makes.{none_of, sheet_of, same_answers}
use Rattle.life.proofs.Sound.{Sound, alike, causes_are, step_sound, sound_of}
use Rattle.life.proofs.Steps.{no_fault, read_first}

-- the life up to a moment, under the same n, places and table
pub record LivedTo (g : Given) (past : List Event) : Type 0 where
  pub view : View
  pub lived : Lived view past
  pub same : given view ≡ g

pub moment : {past es : List Event} {v : View} → Lived v es → Past past es → LivedTo (given v) past
moment {v} l now = record { view = v; lived = l; same = refl }
moment (called {v} {w} {e} {es} l n a s) (earlier p) =
    let m = moment l p in
    record { view = m.view; lived = m.lived; same = m.same ∙ sym (step_sound v es e.call e.working (sound_of l) n e.outcome w s).same }

-- what every moment has of the rows, under the n, places and table of the whole life
pub sound_at : {past es : List Event} {v : View} → Lived v es → Past past es → (u : View) × Sound (given v) u past
sound_at {past} l p = let m = moment l p in (m.view, subst (λ g. Sound g m.view past) m.same (sound_of m.lived))

-- a call of a life: the view before it, and the step
pub record Moment (g : Given) (c : Call) (x : ℕ) (o : Outcome) (before : List Event) : Type 0 where
  pub view : View
  pub after : View
  pub same : given view ≡ g
  pub sound : Sound (given view) view before
  pub numbered : Numbered c
  pub allowed : Allowed view.stage c
  pub step : Stepped view (event c x o) after

last_call : {v : View} {c : Call} {x : ℕ} {o : Outcome} {before : List Event} → Lived v (event c x o ∷ before) → Moment (given v) c x o before
last_call (called {v} {w} {e} {es} l n a s) = record {
  view = v;
  after = w;
  same = sym (step_sound v es e.call e.working (sound_of l) n e.outcome w s).same;
  sound = sound_of l;
  numbered = n;
  allowed = a;
  step = s;
}

pub call_of : {v : View} {es before : List Event} {c : Call} {x : ℕ} {o : Outcome} → Lived v es → Happened (event c x o) before es → Moment (given v) c x o before
call_of {v} {es} {before} {c} {x} {o} l h = let m = moment l h in subst (λ g. Moment g c x o before) m.same (last_call m.lived)

pub sound_before : {g : Given} {c : Call} {x : ℕ} {o : Outcome} {before : List Event} → (m : Moment g c x o before) → Sound g m.view before
sound_before {before} m = subst (λ g. Sound g m.view before) m.same m.sound

-- refusals
refused_iff : {g : Given} {c : Call} {x : ℕ} {before : List Event} (o : Outcome) → Moment g c x o before → (f : Fault)
    → (o ≡ refused f) ↔ (first_of (causes g x c (rows g before)) ≡ Some f)
refused_iff {g} {c} {x} {before} (refused a) m f =
    let first : first_of (causes g x c (rows g before)) ≡ Some a =
    subst (λ h. first_of (causes h x c (rows h before)) ≡ Some a) m.same (sym (causes_are m.view before c x m.sound m.numbered) ∙ m.step.first_cause) in
    ((λ e. cc), (λ e. cc))
refused_iff {g} {c} {x} {before} (accepted answer) m f =
    let none : first_of (causes g x c (rows g before)) ≡ None =
    subst (λ h. first_of (causes h x c (rows h before)) ≡ None) m.same (sym (causes_are m.view before c x m.sound m.numbered) ∙ m.step.no_cause) in
    ((λ e. absurd (cc)), (λ e. absurd (cc)))

accepted_iff : {g : Given} {c : Call} {x : ℕ} {before : List Event} (o : Outcome) → Moment g c x o before
    → ((answer : Answer) × (o ≡ accepted answer)) ↔ (first_of (causes g x c (rows g before)) ≡ None)
accepted_iff {g} {c} {x} {before} (refused a) m =
    let first = (refused_iff (refused a) m a).0 refl in
    ((λ p. absurd (cc p.1)), (λ e. absurd (cc)))
accepted_iff {g} {c} {x} {before} (accepted answer) m =
    let none : first_of (causes g x c (rows g before)) ≡ None =
    subst (λ h. first_of (causes h x c (rows h before)) ≡ None) m.same (sym (causes_are m.view before c x m.sound m.numbered) ∙ m.step.no_cause) in
    (λ p. none, λ e. (answer, refl))

-- what was answered
answers_at : {g : Given} {c : Call} {x : ℕ} {before : List Event} {answer : Answer} → Moment g c x (accepted answer) before → Answers g (stage_after before) c (rows g before) answer
answers_at {g} {c} {x} {before} {answer} m =
    let s = m.sound in
    let v = m.view in
    let a = subst (λ st. Answers (given v) st c (operand v) answer) s.stage m.step.answers in
    subst (λ h. Answers h (stage_after before) c (rows h before) answer) m.same
    (same_answers (given v) (stage_after before) (operand v) (rows (given v) before) c answer (alike v before c x s m.numbered) a)

-- a sheet that was read
read_rows : (g : Given) (k : ℕ) (bytes : List ℕ) (x : ℕ) (before : List Event) → rows g (taken_in k bytes x ∷ before) k ≡ shown bytes
read_rows g k bytes x before = cond-true (eqb k k) (shown bytes) (rows g before k) (eq-eqb k k refl)

read_sheet_at : {g : Given} {k x : ℕ} {bytes : List ℕ} {answer : Answer} {before : List Event} → Moment g (read k (sheet bytes)) x (accepted answer) before → Sheet g.n g.places bytes (shown bytes)
read_sheet_at {g} {k} {x} {bytes} {answer} {before} m =
    sheet_of g.n g.places bytes (none_of (causes g x (read k (sheet bytes)) (rows g before)) ((accepted_iff (accepted answer) m).0 (answer, refl))).1.1

-- a text that was refused
read_refused : {g : Given} {k x : ℕ} {bytes : List ℕ} {before : List Event} (o : Outcome) → Moment g (read k (sheet bytes)) x o before → LongTables g x
    → ((f : Fault) × (o ≡ refused f)) ↔ ((F : Cover) → Sheet g.n g.places bytes F → ⊥)
read_refused {g} {k} {x} {bytes} {before} (refused f) m h = (
  λ p F s.
      let first = sym (read_first g k x bytes (rows g before) h) ∙ (refused_iff (refused f) m f).0 refl in
      let none = no_fault (read_sheet g.n g.places bytes) F ((sheets_are_read g.n g.places bytes F).1 s) in
      cc,
  λ none. (f, refl),
)
read_refused {g} {k} {x} {bytes} {before} (accepted answer) m h = (
  λ p. absurd (cc p.1),
  λ none. absurd (none (shown bytes) (read_sheet_at m)),
)

-- a sheet that was written
write_sheet_at : {g : Given} {a room x : ℕ} {bytes : List ℕ} {before : List Event} → Moment g (write a room) x (accepted (text bytes)) before
    → (most : ℕ) → length (rows g before a) ≤ most → Sheet g.n most bytes (rows g before a)
write_sheet_at {g} {a} {room} {x} {bytes} {before} m most h =
    let s = sound_before m in
    let F = rows g before a in
    let same : write_sheet g.n F ≡ bytes = let r = answers_at m in cc in
    let few : length F ≤ 256 = let l = s.few a in let r = s.ranged.fits in omega arith in
    subst (λ t. Sheet g.n most t F) same (written_is_a_sheet g.n most F s.ranged.small few (s.over a) h)

pub lawful : {v : View} {es : List Event} → Lived v es → Law v es
lawful {v} {es} l =
    let s = sound_of l in
    record {
      register_holds_rows = s.holds;
      register_follows_expression = λ k t h b. ap (λ F. yes_at F t) (s.holds k h) ∙ s.follows k t b;
      rows_follow_expression = λ past p. (sound_at l p).1.follows;
      refused_by_first_cause = λ c w o before h. refused_iff o (call_of l h);
      accepted_without_cause = λ c w o before h. accepted_iff o (call_of l h);
      answers_as_defined = λ c w answer before h. answers_at (call_of l h);
      called_in_its_stage = λ c w o before h. let m = call_of l h in subst (λ st. Allowed st c) m.sound.stage m.allowed;
      read_took_a_sheet = λ k bytes w before h. subst (Sheet v.n v.places bytes) (sym (read_rows (given v) k bytes w before)) (read_sheet_at (call_of l h));
      read_refused_iff_no_sheet = λ k bytes w o before h long. read_refused o (call_of l h) long;
      write_left_a_sheet = λ a room w bytes before h. write_sheet_at (call_of l h);
    }

pub goes_on : {v w : View} {e : Event} → Numbered e.call → Allowed v.stage e.call → Stepped v e w → Goes v e w
goes_on n a s = λ es l. let m = called l n a s in (m, lawful m)

-- what each call of a calculator uses: from its own step to the law
pub lives_on : {v w : View} {e : Event} → Numbered e.call → Allowed v.stage e.call → Stepped v e w → LivesOn v e w
lives_on n a s = record { step = s; law = goes_on n a s }

pub begins : {v : View} → New v → Lived v [] × Law v []
begins n = let l = made n in (l, lawful l)
