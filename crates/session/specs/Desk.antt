-- How a calculator at work is seen in a run.
use Rattle.std.specs.Prelude.{◌≡◌, ℕ, map, length, false, Some, Ok, Result, ⊤}
use Rattle.std.specs.declared.ops.ControlFlow.{ControlFlow}
use Rattle.cube.specs.Slots.{Cube, Cover}
use Rattle.calculator.specs.Seen.{view}
use Rattle.command.specs.declared.lines.CommandLine.{CommandLine}
use Rattle.command.specs.Asked.{Asked}
use Rattle.command.specs.Cut.{line_of, line_asks}
use Rattle.life.specs.View.{View}
use Rattle.session.specs.declared.line.Desk.{Desk}
use Rattle.session.specs.declared.failure.Failure.{Failure}
use Rattle.session.specs.Run.{Setting}
use Rattle.session.specs.Run.Status.{running}
use Rattle.session.specs.Seen.{setting, LineRan, printed_of, status_after}

-- a line after the first command asks this
abbrev pub LaterAsks : CommandLine → Asked → Type 0
LaterAsks line a = line_asks false line ≡ Ok (Some a)

abbrev pub setting_at : {C : Type 0} → Cover → Desk C → Setting
setting_at cells d = setting d.files.now cells (length d.working.now) (length d.page.now)

abbrev pub seen : {C : Type 0} → (C → Cube) → Desk C → View
seen slots d = view d.calculator.now (map slots d.table.now)

-- the files are the same, and the calculator, the tables and the page are still the ones that were lent
pub record IsKept {C : Type 0} (old new : Desk C) : Type 0 where
  pub files : new.files.now ≡ old.files.now
  pub calculator : new.calculator.ghost_name ≡ old.calculator.ghost_name
  pub table : new.table.ghost_name ≡ old.table.ghost_name
  pub working : new.working.ghost_name ≡ old.working.ghost_name
  pub page : new.page.ghost_name ≡ old.page.ghost_name
  pub table_length : length new.table.now ≡ length old.table.now
  pub working_length : length new.working.now ≡ length old.working.now
  pub page_length : length new.page.now ≡ length old.page.now

-- the line was run on the desk, which is now the second one: the result tells whether the run goes on, and what was put into the page
abbrev pub RanOn : {C : Type 0} → (C → Cube) → Desk C → CommandLine → ControlFlow ⊤ (Result ℕ Failure) → Desk C → Type 0
RanOn slots old line result new = (cells : Cover) → LineRan (setting_at cells old) (running (seen slots old)) (line_of line) (status_after result (seen slots new)) old.page.now (printed_of result) new.page.now
