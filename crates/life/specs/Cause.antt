-- The causes of refusal of each call, in the order in which they count.
use Rattle.std.specs.Prelude.{ℕ, ◌*◌, ◌≤◌, Bool, true, cond, List, [], ◌∷◌, length, Some, None, Ok, Err, Option, Result, nat_lt}
use Rattle.cube.specs.Refusals.{Fault, fault}
use Rattle.cube.specs.Slots.{Cover}
use Rattle.sheet.specs.Reading.{read_sheet}
use Rattle.sheet.specs.Writing.{write_sheet}
use Rattle.life.specs.Call.{Source, Call, Given}
use Rattle.life.specs.Call.Source.{sheet}
use Rattle.life.specs.Call.Call.{read, write}

-- whether it applies, and what is then returned
pub record Cause : Type 0 where
  pub applies : Bool
  pub returns : Fault

abbrev pub cause : Bool → Fault → Cause
cause b f = record { applies = b; returns = f }

-- what the first that applies returns
abbrev pub first_of : List Cause → Option Fault
first_of [] = None
first_of (c ∷ cs) = cond c.applies (Some c.returns) (first_of cs)

-- a table is too short
abbrev pub short_table : Given → Cause
short_table g = cause (nat_lt g.table (32 * g.places)) (fault 4 0)

abbrev pub short_working : Given → ℕ → Cause
short_working g w = cause (nat_lt w (64 * g.places)) (fault 4 0)

-- a text is longer than the bytes given
abbrev pub too_long : ℕ → List ℕ → Cause
too_long room bytes = cause (nat_lt room (length bytes)) (fault 8 0)

-- the text is no sheet, by its first fault
abbrev pub faulty : Result Cover Fault → List Cause
faulty (Ok F) = []
faulty (Err f) = cause true f ∷ []

abbrev pub reading : Given → Source → Result Cover Fault
reading g (sheet bytes) = read_sheet g.n g.places bytes

-- the causes of a call, from the length of the working table and the lists before
abbrev pub causes : Given → ℕ → Call → (ℕ → Cover) → List Cause
causes g w (read k t) R = short_table g ∷ short_working g w ∷ faulty (reading g t)
causes g w (write a room) R = short_table g ∷ too_long room (write_sheet g.n (R a)) ∷ []

-- both tables are long enough
abbrev pub LongTables : Given → ℕ → Type 0
LongTables g w = (32 * g.places ≤ g.table) × (64 * g.places ≤ w)
