-- The bytes that a line of the console can need.
use Rattle.std.specs.Prelude.{ℕ, ◌^◌, ◌<◌, ◌≤◌, List, length}
use Rattle.cube.specs.Refusals.{Fault}
use Rattle.sheet.specs.Writing.{write_sheet}
use Rattle.life.specs.Call.{Event}
use Rattle.life.specs.View.{View, operand}
use Rattle.life.specs.History.{Lived}
use Rattle.command.specs.declared.report.Layer.{Layer}
use Rattle.command.specs.Report.{report}

-- so many bytes hold the sheet of any register, at any moment of any life with at most 64 places a register
abbrev pub SheetsFit : ℕ → Type 0
SheetsFit bytes = (v : View) (es : List Event) → Lived v es → v.places ≤ 64 → (k : ℕ) → k < 32 → length (write_sheet v.n (operand v k)) ≤ bytes

-- so many bytes hold the line of any refusal
abbrev pub ReportsFit : ℕ → Type 0
ReportsFit bytes = (line : ℕ) (layer : Layer) (f : Fault) → line < 2 ^ 64 → f.number < 2 ^ 64 → f.offset < 2 ^ 64 → length (report line layer f) ≤ bytes
