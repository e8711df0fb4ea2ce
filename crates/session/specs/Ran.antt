-- What a whole command text does.
use Rattle.std.specs.Prelude.{◌≡◌, ℕ, List, None, vec_items}
use Rattle.cube.specs.Refusals.{fault}
use Rattle.cube.specs.Slots.{Cover}
use Rattle.life.specs.Call.{Event}
use Rattle.command.specs.declared.report.Layer.TheVariants.{Command}
use Rattle.command.specs.Lines.{lines_of}
use Rattle.command.specs.Report.{report}
use Rattle.session.specs.declared.run.Run.{Run}
use Rattle.session.specs.Run.{Setting, Status, Ran, Alive}
use Rattle.session.specs.Seen.{Left}

-- a text of at most 4,096 bytes was run line by line, and the calculator that it left has lived its calls
pub record TextRan (at : Setting) (text : List ℕ) (run : Run) (cells : Cover) : Type 0 where
  pub events : List Event
  pub status : Status
  pub ran : Ran at (lines_of text) events status (vec_items run.output)
  pub left : Left at.cells status run.calculator cells
  pub alive : Alive status events

-- a longer one was refused as a whole
pub record TextRefused (run : Run) : Type 0 where
  pub prints : vec_items run.output ≡ report 0 Command (fault 23 0)
  pub makes_none : run.calculator ≡ None
