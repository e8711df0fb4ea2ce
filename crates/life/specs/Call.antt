-- The calls as data, and what each of them reads, fills, makes, spells and answers. A new call is one more clause in each.
use Rattle.std.specs.Prelude.{◌≡◌, ℕ, ◌<◌, false, List, [], ◌∷◌, Some, None, Option}
use Rattle.cube.specs.Refusals.{Fault}
use Rattle.cube.specs.Says.{Truth, yes_at}
use Rattle.cube.specs.Slots.{Cover}
use Rattle.sheet.specs.Sheet.{shown}
use Rattle.sheet.specs.Writing.{write_sheet}

-- what is read: the bytes of a sheet
pub data Source : Type 0 where
  sheet : List ℕ → Source

-- registers count from 0; a write has room for so many bytes
pub data Call : Type 0 where
  read : (k : ℕ) (source : Source) → Call
  write : (a room : ℕ) → Call

-- the text that a write left
pub data Answer : Type 0 where
  done : Answer
  text : List ℕ → Answer

pub data Outcome : Type 0 where
  refused : Fault → Outcome
  accepted : Answer → Outcome

-- a call, the length of the working table that came with it (0 where none does), and what came of it
pub record Event : Type 0 where
  pub call : Call
  pub working : ℕ
  pub outcome : Outcome

abbrev pub event : Call → ℕ → Outcome → Event
event c w o = record { call = c; working = w; outcome = o }

-- what stays as it is for a whole life: n, M, and the length of the register table
pub record Given : Type 0 where
  pub n : ℕ
  pub places : ℕ
  pub table : ℕ

-- what a calculator may be asked
pub data Stage : Type 0 where
  free : Stage

-- the cubes that a source shows
abbrev pub cubes_of : Source → Cover
cubes_of (sheet bytes) = shown bytes

-- the registers that a call reads
abbrev pub reads : Stage → Call → List ℕ
reads st (read k t) = []
reads st (write a room) = a ∷ []

-- the register that it fills if it is accepted
abbrev pub fills : Call → Option ℕ
fills (read k t) = Some k
fills (write a room) = None

-- the list that it fills it with, from the lists before
abbrev pub makes : Given → Call → (ℕ → Cover) → Cover
makes g (read k t) R = cubes_of t
makes g (write a room) R = []

-- the truth that it fills it with, from the expressions before
abbrev pub spells : Given → Call → (ℕ → Truth) → Truth
spells g (read k t) E s = yes_at (cubes_of t) s
spells g (write a room) E s = false

-- the stage that it leads to, and the stage to which it belongs
abbrev pub leads : Call → Stage → Stage
leads (read k t) st = st
leads (write a room) st = st

abbrev pub Allowed : Stage → Call → Type 0
Allowed st (read k t) = st ≡ free
Allowed st (write a room) = st ≡ free

-- register numbers are below 32
abbrev pub Numbered : Call → Type 0
Numbered (read k t) = k < 32
Numbered (write a room) = a < 32

-- what it answers if it is accepted, from the lists before
abbrev pub Answers : Given → Stage → Call → (ℕ → Cover) → Answer → Type 0
Answers g st (read k t) R w = w ≡ done
Answers g st (write a room) R w = w ≡ text (write_sheet g.n (R a))
