-- A command text cut into lines.
use Rattle.std.specs.Prelude.{Bool, List, [], drop, Some, None, Option, Result}
use Rattle.cube.specs.Refusals.{Fault}
use Rattle.text.specs.Words.{split, feed}
use Rattle.command.specs.Asked.{Asked, asked_on}
use Rattle.command.specs.Lines.{Line, numbered}
use Rattle.command.specs.declared.lines.CommandLine.{CommandLine}
use Rattle.command.specs.declared.lines.Lines.{Lines}

abbrev pub line_of : CommandLine → Line
line_of l = record { number = l.number; at = l.start; bytes = drop l.start l.text.now }

-- what a line asks, as the first command or as a later one
abbrev pub line_asks : Bool → CommandLine → Result (Option Asked) Fault
line_asks first l = asked_on first l.start (drop l.start l.text.now)

-- the lines that are still to come
abbrev pub lines_left : Lines → List Line
lines_left l = elim l.start [ None ↦ [] | Some at ↦ numbered l.number at (split feed [] (drop at l.text.now)) ]
