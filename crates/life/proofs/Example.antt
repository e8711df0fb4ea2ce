-- The example's steps.
use Rattle.std.proofs.Common.{List, [], ◌∷◌, refl, arith}
use Rattle.std.specs.Fmt.{digits}
use Rattle.cube.specs.Refusals.{fault}
use Rattle.cube.specs.Says.{bits}
use Rattle.life.specs.Call.{Call, Event, event, fills, makes}
use Rattle.life.specs.Call.Source.{sheet}
use Rattle.life.specs.Call.Call.{read, write}
use Rattle.life.specs.Call.Answer.{done, text}
use Rattle.life.specs.Call.Outcome.{refused, accepted}
use Rattle.life.specs.View.{View, given, operand, filling, New}
use Rattle.life.specs.History.{Lived}
use Rattle.life.specs.History.Lived.{made, called}
use Rattle.life.specs.Example.{example_view, example_text, example_events, ExampleIsLived}

abbrev rule : Call
rule = read 0 (sheet example_text)

abbrev short : List Event
short = event rule 127 (refused (fault 4 0)) ∷ []

abbrev taken : List Event
taken = event rule 128 (accepted done) ∷ short

abbrev faulty : List Event
faulty = event (read 0 (sheet (50 ∷ []))) 128 (refused (fault 30 0)) ∷ taken

abbrev told : List Event
told = event (write 0 8) 0 (accepted (text example_text)) ∷ faulty

-- with the rule in register 0
abbrev filled : View
filled = filling example_view (fills rule) (makes (given example_view) rule (operand example_view))

new : New example_view
new = record { variables = (omega arith, omega arith); room = (omega arith, omega arith); empty = refl; unarmed = refl }

lived_short : Lived example_view short
lived_short = called {v = example_view} (made new) (omega arith) refl (record { first_cause = refl; kept = refl })

lived_taken : Lived filled taken
lived_taken = called {v = example_view} lived_short (omega arith) refl (record { no_cause = refl; answers = refl; leaves = refl })

lived_faulty : Lived filled faulty
lived_faulty = called {v = filled} lived_taken (omega arith) refl (record { first_cause = refl; kept = refl })

lived_told : Lived filled told
unfolding digits
lived_told = called {v = filled} lived_faulty (omega arith) refl (record { no_cause = refl; answers = refl; leaves = refl })

lived_all : Lived filled example_events
unfolding digits
lived_all = called {v = filled} lived_told (omega arith) refl (record { first_cause = refl; kept = refl })

pub example_is_lived_lem : ExampleIsLived
unfolding bits
example_is_lived_lem = record { lived = (filled, lived_all); says_no = refl; says_yes = refl }
