-- One life: a sheet of the rule x1 is read, a text that is no sheet is refused, and the rule is written, once with too little room.
use Rattle.std.specs.Prelude.{◌≡◌, ℕ, true, false, List, [], ◌∷◌, replicate}
use Rattle.cube.specs.Refusals.{fault}
use Rattle.cube.specs.Slots.{blank_cube}
use Rattle.life.specs.Call.{Event, event}
use Rattle.life.specs.Call.Source.{sheet}
use Rattle.life.specs.Call.Call.{read, write}
use Rattle.life.specs.Call.Answer.{done, text}
use Rattle.life.specs.Call.Outcome.{refused, accepted}
use Rattle.life.specs.Call.Stage.{free}
use Rattle.life.specs.View.{View, of_count, given}
use Rattle.life.specs.History.{expression, Lived}

-- one variable, two places a register
abbrev pub example_view : View
example_view = record { n = 1; places = 2; registers = replicate 32 (of_count 0); cells = replicate 64 blank_cube; stage = free }

-- the lines `1`, `1`, `1 1`
abbrev pub example_text : List ℕ
example_text = 49 ∷ 10 ∷ 49 ∷ 10 ∷ 49 ∷ 32 ∷ 49 ∷ 10 ∷ []

abbrev pub example_events : List Event
example_events =
    event (write 0 7) 0 (refused (fault 8 0))
    ∷ event (write 0 8) 0 (accepted (text example_text))
    ∷ event (read 0 (sheet (50 ∷ []))) 128 (refused (fault 30 0))
    ∷ event (read 0 (sheet example_text)) 128 (accepted done)
    ∷ event (read 0 (sheet example_text)) 127 (refused (fault 4 0))
    ∷ []

pub record ExampleIsLived : Type 0 where
  pub lived : (v : View) × Lived v example_events
  pub says_no : expression (given example_view) example_events 0 0 ≡ false
  pub says_yes : expression (given example_view) example_events 0 1 ≡ true
