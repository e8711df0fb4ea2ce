-- A run on its way: some lines were run, and the others are to come.
use Rattle.std.specs.Prelude.{◌≡◌, ℕ, List, [], ◌++◌, Some, None, Ok, Err, Option, Result}
use Rattle.calculator.specs.declared.calculator.Calculator.{Calculator}
use Rattle.calculator.specs.Seen.{view}
use Rattle.cube.specs.Slots.{Cover}
use Rattle.command.specs.Lines.{Line}
use Rattle.command.specs.declared.report.RefusedLine.{RefusedLine}
use Rattle.life.specs.Call.{Event}
use Rattle.session.specs.Run.{Status, Setting, Ran, printed}
use Rattle.session.specs.Run.Status.{waiting, running, over}
use Rattle.session.specs.Seen.{report_of, Left}

pub record Midway (at : Setting) (ls rest : List Line) (s : Status) (out : List ℕ) : Type 0 where
  pub seen : List Line
  pub events : List Event
  pub split : ls ≡ seen ++ rest
  pub ran : Ran at seen events s out

-- the lines up to the first command: there is none, it was refused, or it made a calculator
abbrev pub Opens : Setting → List Line → Result (Option Calculator) RefusedLine → List Line → Type 0
Opens at ls (Ok None) rest = Midway at ls [] waiting []
Opens at ls (Ok (Some calculator)) rest = Midway at ls rest (running (view calculator at.cells)) []
Opens at ls (Err x) rest = Midway at ls rest (over None) (printed at x.line (report_of x))

-- one line before the first command: it has none, it is refused, or it makes a calculator
abbrev pub Begins : Setting → List Line → Result (Option Calculator) RefusedLine → List Line → Type 0
Begins at ls (Ok None) rest = Midway at ls rest waiting []
Begins at ls (Ok (Some calculator)) rest = Opens at ls (Ok (Some calculator)) rest
Begins at ls (Err x) rest = Opens at ls (Err x) rest

-- all lines were run, and they left this calculator with these cubes
pub record Finished (at : Setting) (ls : List Line) (calculator : Calculator) (cells : Cover) (out : List ℕ) : Type 0 where
  pub status : Status
  pub midway : Midway at ls [] status out
  pub left : Left at.cells status (Some calculator) cells
