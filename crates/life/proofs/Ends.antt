-- The ends of each call, from what its code shows.
use Rattle.std.proofs.Common.{◌≡◌, ℕ, ◌*◌, ◌<◌, ◌≤◌, List, [], ◌∷◌, length, Ok, Err, refl, ap, ◌∙◌, arith}
use Rattle.cube.specs.Refusals.{Fault, fault}
use Rattle.cube.specs.Slots.{Cover}
use Rattle.sheet.specs.Reading.{read_sheet}
use Rattle.sheet.specs.Writing.{write_sheet}
use Rattle.sheet.proofs.Sheets.{sheets_are_read}
use Rattle.life.specs.Call.{event}
use Rattle.life.specs.Call.Source.{sheet}
use Rattle.life.specs.Call.Call.{read, write}
use Rattle.life.specs.Call.Answer.{done, text}
use Rattle.life.specs.Call.Outcome.{refused, accepted}
use Rattle.life.specs.Cause.{Cause, faulty, short_working, too_long, LongTables}
use Rattle.life.specs.View.{View, given, operand, holding, Stepped}
use Rattle.life.proofs.Steps.{table_short, table_long, working_short, text_too_long, text_fits, no_fault, with_fault, read_first}

-- the causes of a read and of a write after the first
abbrev of_text : View → List ℕ → List Cause
of_text v bytes = faulty (read_sheet v.n v.places bytes)

abbrev of_working : View → List ℕ → ℕ → List Cause
of_working v bytes w = short_working (given v) w ∷ of_text v bytes

abbrev of_room : View → ℕ → ℕ → List Cause
of_room v a room = too_long room (write_sheet v.n (operand v a)) ∷ []

module _ (v : View) (k : ℕ) (bytes : List ℕ) (w : ℕ) where
  pub read_table_short : length v.cells < 32 * v.places → Stepped v (event (read k (sheet bytes)) w (refused (fault 4 0))) v
  read_table_short h = record { first_cause = table_short (given v) (of_working v bytes w) h; kept = refl }

  pub read_working_short : 32 * v.places ≤ length v.cells → w < 64 * v.places → Stepped v (event (read k (sheet bytes)) w (refused (fault 4 0))) v
  read_working_short h l = record { first_cause = table_long (given v) (of_working v bytes w) h ∙ working_short (given v) w (of_text v bytes) l; kept = refl }

  pub read_at_fault : (f : Fault) → LongTables (given v) w → read_sheet v.n v.places bytes ≡ Err f → Stepped v (event (read k (sheet bytes)) w (refused f)) v
  read_at_fault f h e = record { first_cause = read_first (given v) k w bytes (operand v) h ∙ with_fault _ f e; kept = refl }

  pub read_taken : (F : Cover) (u : View) → LongTables (given v) w → read_sheet v.n v.places bytes ≡ Ok F → u ≡ holding v k F
      → Stepped v (event (read k (sheet bytes)) w (accepted done)) u
  read_taken F u h e r = record {
    no_cause = read_first (given v) k w bytes (operand v) h ∙ no_fault _ F e;
    answers = refl;
    leaves = r ∙ ap (holding v k) ((sheets_are_read v.n v.places bytes F).0 e).shows;
  }

module _ (v : View) (a room w : ℕ) where
  pub write_table_short : length v.cells < 32 * v.places → Stepped v (event (write a room) w (refused (fault 4 0))) v
  write_table_short h = record { first_cause = table_short (given v) (of_room v a room) h; kept = refl }

  pub write_without_room : 32 * v.places ≤ length v.cells → room < length (write_sheet v.n (operand v a)) → Stepped v (event (write a room) w (refused (fault 8 0))) v
  write_without_room h l = record { first_cause = table_long (given v) (of_room v a room) h ∙ text_too_long room (write_sheet v.n (operand v a)) [] l; kept = refl }

  pub write_made : (bytes : List ℕ) → 32 * v.places ≤ length v.cells → bytes ≡ write_sheet v.n (operand v a) → length bytes ≤ room
      → Stepped v (event (write a room) w (accepted (text bytes))) v
  write_made bytes h e l = record {
    no_cause = table_long (given v) (of_room v a room) h ∙ text_fits room (write_sheet v.n (operand v a)) [] (let m = ap length e in omega arith);
    answers = ap text e;
    leaves = refl;
  }
