-- The line that is printed for a refusal.
use Rattle.std.specs.Prelude.{ℕ, cond, ◌&&◌, List, [], ◌∷◌, ◌++◌, codes, decimal, nat_le}
use Rattle.cube.specs.Refusals.{Fault}
use Rattle.command.specs.declared.report.Layer.{Layer}
use Rattle.command.specs.declared.report.Layer.TheVariants.{Sheet, Command, Calculator}

abbrev pub layer_name : Layer → List ℕ
layer_name Sheet = codes "sheet"
layer_name Command = codes "command"
layer_name Calculator = codes "calculator"

-- `line L LAYER C at P` and a line end
unfoldable pub report : ℕ → Layer → Fault → List ℕ
report line layer f =
    codes "line " ++ (decimal line ++ (codes " " ++ (layer_name layer ++ (codes " " ++ (decimal f.number ++ (codes " at " ++ (decimal f.offset ++ 10 ∷ [])))))))

-- the layer of a refused call: 20 to 36 are faults of its sheet
abbrev pub layer_of : Fault → Layer
layer_of f = cond (nat_le 20 f.number && nat_le f.number 36) Sheet Calculator
