-- The law of lives: what holds of every calculator, at every moment of its life.
use Rattle.std.specs.Prelude.{◌≡◌, ℕ, ◌^◌, ◌<◌, ◌≤◌, ◌↔◌, List, [], ◌∷◌, length, Some, None}
use Rattle.cube.specs.Refusals.{Fault}
use Rattle.cube.specs.Says.{yes_at}
use Rattle.cube.specs.Slots.{Cover}
use Rattle.sheet.specs.Sheet.{Sheet}
use Rattle.life.specs.Call.{Call, Event, event, Outcome, Answer, Given, Answers, Numbered, Allowed}
use Rattle.life.specs.Call.Source.{sheet}
use Rattle.life.specs.Call.Call.{read, write}
use Rattle.life.specs.Call.Answer.{done, text}
use Rattle.life.specs.Call.Outcome.{refused, accepted}
use Rattle.life.specs.Cause.{causes, first_of, LongTables}
use Rattle.life.specs.View.{View, given, held, New, Stepped}
use Rattle.life.specs.History.{rows, expression, stage_after, Lived, Past, Happened}

-- a sheet was read into register k
abbrev pub taken_in : (k : ℕ) (bytes : List ℕ) (w : ℕ) → Event
taken_in k bytes w = event (read k (sheet bytes)) w (accepted done)

pub record LawUnder (g : Given) (v : View) (es : List Event) : Type 0 where
  -- a register holds the list that the accepted calls define
  pub register_holds_rows : (k : ℕ) → k < 32 → held v k ≡ rows g es k
  -- and says yes to a state exactly when the expression that they spell does
  pub register_follows_expression : (k s : ℕ) → k < 32 → s < 2 ^ g.n → yes_at (held v k) s ≡ expression g es k s
  -- and so it was at every moment
  pub rows_follow_expression : (past : List Event) → Past past es → (k s : ℕ) → s < 2 ^ g.n
      → yes_at (rows g past k) s ≡ expression g past k s
  -- each call was refused exactly by the first of its causes that applied, and accepted exactly when none did
  pub refused_by_first_cause : (c : Call) (w : ℕ) (o : Outcome) (before : List Event) → Happened (event c w o) before es → (f : Fault)
      → (o ≡ refused f) ↔ (first_of (causes g w c (rows g before)) ≡ Some f)
  pub accepted_without_cause : (c : Call) (w : ℕ) (o : Outcome) (before : List Event) → Happened (event c w o) before es
      → ((answer : Answer) × (o ≡ accepted answer)) ↔ (first_of (causes g w c (rows g before)) ≡ None)
  -- each accepted call answered as defined, and each call came in the stage to which it belongs
  pub answers_as_defined : (c : Call) (w : ℕ) (answer : Answer) (before : List Event) → Happened (event c w (accepted answer)) before es
      → Answers g (stage_after before) c (rows g before) answer
  pub called_in_its_stage : (c : Call) (w : ℕ) (o : Outcome) (before : List Event) → Happened (event c w o) before es
      → Allowed (stage_after before) c
  -- an accepted read had a sheet of exactly the cubes that the register then held
  pub read_took_a_sheet : (k : ℕ) (bytes : List ℕ) (w : ℕ) (before : List Event) → Happened (taken_in k bytes w) before es
      → Sheet g.n g.places bytes (rows g (taken_in k bytes w ∷ before) k)
  -- given long tables, a read was refused exactly when its text is a sheet of no cover
  pub read_refused_iff_no_sheet : (k : ℕ) (bytes : List ℕ) (w : ℕ) (o : Outcome) (before : List Event)
      → Happened (event (read k (sheet bytes)) w o) before es → LongTables g w
      → ((f : Fault) × (o ≡ refused f)) ↔ ((F : Cover) → Sheet g.n g.places bytes F → ⊥)
  -- an accepted write left a sheet of the list that the register held, which every M of at least its length takes
  pub write_left_a_sheet : (a room w : ℕ) (bytes : List ℕ) (before : List Event) → Happened (event (write a room) w (accepted (text bytes))) before es
      → (most : ℕ) → length (rows g before a) ≤ most → Sheet g.n most bytes (rows g before a)

abbrev pub Law : View → List Event → Type 0
Law v es = LawUnder (given v) v es

-- a call goes on with every life, and keeps the law
abbrev pub Goes : View → Event → View → Type 0
Goes v e w = (es : List Event) → Lived v es → Lived w (e ∷ es) × Law w (e ∷ es)

-- the view v becomes w by this event, and with it every life goes on
pub record LivesOn (v : View) (e : Event) (w : View) : Type 0 where
  pub step : Stepped v e w
  pub law : Goes v e w

-- every life keeps the law
abbrev pub LivesKeepTheLaw : Type 0
LivesKeepTheLaw = (v : View) (es : List Event) → Lived v es → Law v es

-- a new calculator lives, whatever its register table holds
abbrev pub NewCalculatorsLive : Type 0
NewCalculatorsLive = (v : View) → New v → Lived v [] × Law v []

-- a call that steps goes on with every life
abbrev pub CallsGoOn : Type 0
CallsGoOn = (v w : View) (e : Event) → Numbered e.call → Allowed v.stage e.call → Stepped v e w → Goes v e w
