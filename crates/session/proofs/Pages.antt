-- The texts of a line are short.
use Rattle.std.proofs.Common.{ℕ, ◌^◌, ◌<◌, ◌≤◌, [], ◌∷◌, ◌++◌, length, codes, decimal, sym, subst, arith}
use Rattle.std.proofs.lemmas.Fmt.{length-decimal-le}
use Rattle.std.proofs.lemmas.List.{length-append}
use Rattle.sheet.specs.Writing.{write_sheet}
use Rattle.sheet.proofs.Lengths.{sheet_short}
use Rattle.life.specs.View.{given}
use Rattle.life.specs.History.{rows}
use Rattle.life.proofs.Sheets.{every_twenty}
use Rattle.life.proofs.Sound.{sound_of, operand_is}
use Rattle.command.specs.declared.report.Layer.{Layer}
use Rattle.command.specs.declared.report.Layer.TheVariants.{Sheet, Command, Calculator}
use Rattle.command.specs.Report.{layer_name, report}
use Rattle.session.specs.Page.{SheetsFit, ReportsFit}

pub sheets_fit : SheetsFit 9612
sheets_fit v es lived few k h =
    let s = sound_of lived in
    let F = rows (given v) es k in
    let m = s.few k in
    let b = sheet_short v.n F s.ranged.small (omega arith) (every_twenty v.n F (s.over k)) in
    let short : length (write_sheet v.n F) ≤ 9612 = omega arith in
    subst (λ G. length (write_sheet v.n G) ≤ 9612) (sym (operand_is v es s k h)) short

digits : (k : ℕ) → k < 2 ^ 64 → length (decimal k) ≤ 20
digits k h = length-decimal-le 20 k (omega arith) (omega arith) (omega arith)

name_short : (l : Layer) → length (layer_name l) ≤ 10
name_short Sheet = omega arith
name_short Command = omega arith
name_short Calculator = omega arith

pub reports_fit : ReportsFit 9612
unfolding report
reports_fit line layer f a b c =
    let x = digits line a in
    let y = digits f.number b in
    let z = digits f.offset c in
    let n = name_short layer in
    let tail = decimal f.offset ++ 10 ∷ [] in
    let last = codes " at " ++ tail in
    let number = decimal f.number ++ last in
    let named = layer_name layer ++ (codes " " ++ number) in
    omega (arith, length-append (decimal f.offset) (10 ∷ []), length-append (decimal f.number) last, length-append (layer_name layer) (codes " " ++ number), length-append (decimal line) (codes " " ++ named))
