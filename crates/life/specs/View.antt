-- What a calculator and its register table hold, free of the notation of the cubes, and one call.
use Rattle.std.specs.Prelude.{◌≡◌, ℕ, ◌+◌, ◌*◌, ◌≤◌, List, ◌++◌, map, length, take, drop, replicate, Some, None, Option, slice_index_or, slice_set}
use Rattle.cube.specs.Refusals.{Fault}
use Rattle.cube.specs.Slots.{Cover, blank_above}
use Rattle.life.specs.Call.{Event, Outcome, Answer, Given, Stage, fills, makes, leads, Answers}
use Rattle.life.specs.Call.Outcome.{refused, accepted}
use Rattle.life.specs.Call.Stage.{free}
use Rattle.life.specs.Cause.{causes, first_of}

-- a register's own record
pub record Register : Type 0 where
  pub count : ℕ

pub record View : Type 0 where
  pub n : ℕ
  pub places : ℕ
  pub registers : List Register
  pub cells : Cover
  pub stage : Stage

abbrev pub given : View → Given
given v = record { n = v.n; places = v.places; table = length v.cells }

abbrev pub of_count : ℕ → Register
of_count m = record { count = m }

-- the cubes of register k: as many as its record says, from place k × M on
abbrev pub held : View → ℕ → Cover
held v k = take (slice_index_or v.registers k (of_count 0)).count (drop (k * v.places) v.cells)

-- the same as a call reads them: slots above n are taken as Blank
abbrev pub operand : View → ℕ → Cover
operand v k = map (blank_above v.n) (held v k)

-- a list with another written over it from a place on
abbrev pub written : {X : Type 0} → List X → ℕ → List X → List X
written xs start new = take start xs ++ (new ++ drop (start + length new) xs)

-- register k holds another list, and all else is as it was
abbrev pub holding : View → ℕ → Cover → View
holding v k new = record {
  n = v.n;
  places = v.places;
  registers = slice_set v.registers k (of_count (length new));
  cells = written v.cells (k * v.places) new;
  stage = v.stage;
}

abbrev pub filling : View → Option ℕ → Cover → View
filling v None new = v
filling v (Some k) new = holding v k new

abbrev pub staged : View → Stage → View
staged v st = record { n = v.n; places = v.places; registers = v.registers; cells = v.cells; stage = st }

-- a new calculator, with any register table
pub record New (v : View) : Type 0 where
  pub variables : (1 ≤ v.n) × (v.n ≤ 20)
  pub room : (1 ≤ v.places) × (v.places ≤ 256)
  pub empty : v.registers ≡ replicate 32 (of_count 0)
  pub unarmed : v.stage ≡ free

-- refused by its first cause, with all as it was
pub record Refused (v : View) (e : Event) (f : Fault) (w : View) : Type 0 where
  pub first_cause : first_of (causes (given v) e.working e.call (operand v)) ≡ Some f
  pub kept : w ≡ v

-- accepted for want of a cause, with its answer, its list and its stage
pub record Accepted (v : View) (e : Event) (answer : Answer) (w : View) : Type 0 where
  pub no_cause : first_of (causes (given v) e.working e.call (operand v)) ≡ None
  pub answers : Answers (given v) v.stage e.call (operand v) answer
  pub leaves : w ≡ staged (filling v (fills e.call) (makes (given v) e.call (operand v))) (leads e.call v.stage)

abbrev pub Ended : View → Event → Outcome → View → Type 0
Ended v e (refused f) w = Refused v e f w
Ended v e (accepted answer) w = Accepted v e answer w

-- the view v becomes w by this event
abbrev pub Stepped : View → Event → View → Type 0
Stepped v e w = Ended v e e.outcome w
