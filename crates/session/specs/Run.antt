-- What a command text does, line by line, and what it prints.
use Rattle.std.specs.Prelude.{◌≡◌, ℕ, ◌<◌, ◌≤◌, true, false, cond, List, [], ◌∷◌, ◌++◌, length, ℤ, pos, Some, None, Ok, Err, Option, ◌==◌, nat_le}
use Rattle.cube.specs.Ranges.{Outside}
use Rattle.cube.specs.Refusals.{Fault, fault}
use Rattle.cube.specs.Slots.{Cover}
use Rattle.sheet.specs.Writing.{write_sheet}
use Rattle.life.specs.Call.{Event, event, Outcome}
use Rattle.life.specs.Call.Call.{read as reading, write as writing}
use Rattle.life.specs.Call.Source.{sheet}
use Rattle.life.specs.Call.Outcome.{refused, accepted}
use Rattle.life.specs.View.{View, New, Stepped, operand}
use Rattle.life.specs.History.{Lived}
use Rattle.life.specs.Law.{Law}
use Rattle.command.specs.declared.report.Layer.TheVariants.{Sheet, Command, Calculator}
use Rattle.command.specs.Asked.{asked_on}
use Rattle.command.specs.Asked.Asked.{make, read, print, quit}
use Rattle.command.specs.Lines.{Line}
use Rattle.command.specs.Report.{report, layer_of}

-- before the first command, with a calculator, or at the end, with the calculator if one was made
pub data Status : Type 0 where
  waiting : Status
  running : View → Status
  over : Option View → Status

-- the files of the registers, the register table at first, the length of the working table, and the bytes given for a line
pub record Setting : Type 0 where
  pub files : ℕ → Option (List ℕ)
  pub cells : Cover
  pub working : ℕ
  pub room : ℕ

-- the text of a call: what it answers, or its refusal; a sheet for which there is no room is still the text of its line
abbrev pub text_of_read : ℕ → Outcome → List ℕ
text_of_read line (refused f) = report line (layer_of f) f
text_of_read line (accepted answer) = []

abbrev pub text_of_write : ℕ → View → ℕ → Outcome → List ℕ
text_of_write line v k (refused f) = cond (f.number == 8) (write_sheet v.n (operand v k)) (report line (layer_of f) f)
text_of_write line v k (accepted answer) = write_sheet v.n (operand v k)

-- one line: the calls that it makes, the latest first, the status after it, and its text
pub data Turned (at : Setting) : Status → Line → List Event → Status → List ℕ → Type 0 where
  -- lines of separators alone, and lines after the end
  idle_waiting : {l : Line} → asked_on true l.at l.bytes ≡ Ok None → Turned at waiting l [] waiting []
  idle_running : {l : Line} {v : View} → asked_on false l.at l.bytes ≡ Ok None → Turned at (running v) l [] (running v) []
  after_end : {l : Line} {o : Option View} → Turned at (over o) l [] (over o) []
  -- the first command: refused, it ends the run; accepted, it makes a calculator with 64 places a register
  first_refused : {l : Line} {f : Fault} → asked_on true l.at l.bytes ≡ Err f
      → Turned at waiting l [] (over None) (report l.number Command f)
  shape_refused : {l : Line} {z : ℤ} → asked_on true l.at l.bytes ≡ Ok (Some (make z)) → Outside 1 20 z
      → Turned at waiting l [] (over None) (report l.number Calculator (fault 3 0))
  makes : {l : Line} {v : View} → asked_on true l.at l.bytes ≡ Ok (Some (make (pos v.n)))
      → New v → v.places ≡ 64 → v.cells ≡ at.cells → Turned at waiting l [] (running v) []
  -- a later command
  refused_line : {l : Line} {v : View} {f : Fault} → asked_on false l.at l.bytes ≡ Err f
      → Turned at (running v) l [] (running v) (report l.number Command f)
  quits : {l : Line} {v : View} → asked_on false l.at l.bytes ≡ Ok (Some quit) → Turned at (running v) l [] (over (Some v)) []
  no_file : {l : Line} {v : View} {k : ℕ} → asked_on false l.at l.bytes ≡ Ok (Some (read k)) → at.files k ≡ None
      → Turned at (running v) l [] (running v) (report l.number Command (fault 52 0))
  large_file : {l : Line} {v : View} {k : ℕ} {bytes : List ℕ} → asked_on false l.at l.bytes ≡ Ok (Some (read k))
      → at.files k ≡ Some bytes → 8192 < length bytes → Turned at (running v) l [] (running v) (report l.number Sheet (fault 23 0))
  reads : {l : Line} {v w : View} {k : ℕ} {bytes : List ℕ} {o : Outcome} → asked_on false l.at l.bytes ≡ Ok (Some (read k))
      → at.files k ≡ Some bytes → length bytes ≤ 8192 → Stepped v (event (reading k (sheet bytes)) at.working o) w
      → Turned at (running v) l (event (reading k (sheet bytes)) at.working o ∷ []) (running w) (text_of_read l.number o)
  writes : {l : Line} {v : View} {k : ℕ} {o : Outcome} → asked_on false l.at l.bytes ≡ Ok (Some (print k))
      → Stepped v (event (writing k at.room) 0 o) v
      → Turned at (running v) l (event (writing k at.room) 0 o ∷ []) (running v) (text_of_write l.number v k o)

-- what is printed of a line: its text, or 8 where that is longer than the bytes given
abbrev pub printed : Setting → ℕ → List ℕ → List ℕ
printed at line t = cond (nat_le (length t) at.room) t (report line Calculator (fault 8 0))

-- the lines so far, from the first on
pub data Ran (at : Setting) : List Line → List Event → Status → List ℕ → Type 0 where
  begun : Ran at [] [] waiting []
  then : {ls : List Line} {es new : List Event} {s t : Status} {out more : List ℕ} {l : Line} → Ran at ls es s out
      → Turned at s l new t more → Ran at (ls ++ l ∷ []) (new ++ es) t (out ++ printed at l.number more)

-- the calculator, if one was made, has lived these events and keeps the law
abbrev pub Alive : Status → List Event → Type 0
Alive waiting es = es ≡ []
Alive (running v) es = Lived v es × Law v es
Alive (over None) es = es ≡ []
Alive (over (Some v)) es = Lived v es × Law v es
