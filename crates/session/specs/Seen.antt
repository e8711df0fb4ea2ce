-- How the values of the code are seen in a run.
use Rattle.std.specs.Prelude.{◌≡◌, ℕ, List, [], Some, None, Ok, Err, Option, Result}
use Rattle.std.specs.declared.ops.ControlFlow.{ControlFlow}
use Rattle.std.specs.declared.ops.ControlFlow.TheVariants.{Continue, Break}
use Rattle.cube.specs.Refusals.{fault_of}
use Rattle.cube.specs.Slots.{Cover}
use Rattle.calculator.specs.declared.calculator.Calculator.{Calculator}
use Rattle.calculator.specs.Seen.{view}
use Rattle.command.specs.declared.files.Files.{Files}
use Rattle.command.specs.Files.{file_of}
use Rattle.command.specs.Lines.{Line}
use Rattle.command.specs.Output.{Puts}
use Rattle.command.specs.Report.{report}
use Rattle.command.specs.declared.report.RefusedLine.{RefusedLine}
use Rattle.life.specs.Call.{Event}
use Rattle.session.specs.declared.failure.Failure.{Failure}
use Rattle.session.specs.declared.failure.Failure.TheVariants.{Refused, OutOfMemory}
use Rattle.life.specs.View.{View}
use Rattle.session.specs.Run.{Status, Setting, Turned}
use Rattle.session.specs.Run.Status.{waiting, running, over}

abbrev pub setting : Files → Cover → ℕ → ℕ → Setting
setting files cells working room = record { files = file_of files; cells = cells; working = working; room = room }

-- the text of a refused line
abbrev pub report_of : RefusedLine → List ℕ
report_of x = report x.line x.layer (fault_of x.refusal)

-- the text of a call that prints nothing unless it is refused
abbrev pub text_of : {A : Type 0} → Result A RefusedLine → List ℕ
text_of (Ok a) = []
text_of (Err x) = report_of x

-- the text was put into the bytes given, or they are as they were
abbrev pub Into : List ℕ → List ℕ → Result ℕ Failure → List ℕ → Type 0
Into text out (Ok k) out' = Puts text out (Ok k) out'
Into text out (Err (Refused f)) out' = Puts text out (Err f) out'
Into text out (Err OutOfMemory) out' = out' ≡ out

-- a line was run, and this is its text
pub record LineDone (at : Setting) (s : Status) (l : Line) (t : Status) (text : List ℕ) : Type 0 where
  pub events : List Event
  pub turned : Turned at s l events t text

-- a line was run, and its text put into the bytes given
pub record LineRan (at : Setting) (s : Status) (l : Line) (t : Status) (out : List ℕ) (r : Result ℕ Failure) (out' : List ℕ) : Type 0 where
  pub events : List Event
  pub text : List ℕ
  pub turned : Turned at s l events t text
  pub put : Into text out r out'

-- what a line that goes on printed, or nothing
abbrev pub printed_of : {B : Type 0} → ControlFlow B (Result ℕ Failure) → Result ℕ Failure
printed_of (Continue put) = put
printed_of (Break b) = Ok 0

abbrev pub status_after : {B C : Type 0} → ControlFlow B C → View → Status
status_after (Continue c) v = running v
status_after (Break b) v = over (Some v)

-- the calculator that a run leaves, if it made one; where it made none, the register table is as it was at first
abbrev pub Left : Cover → Status → Option Calculator → Cover → Type 0
Left first waiting None cells = cells ≡ first
Left first waiting (Some c) cells = ⊥
Left first (running v) None cells = ⊥
Left first (running v) (Some c) cells = v ≡ view c cells
Left first (over None) None cells = cells ≡ first
Left first (over None) (Some c) cells = ⊥
Left first (over (Some v)) None cells = ⊥
Left first (over (Some v)) (Some c) cells = v ≡ view c cells
