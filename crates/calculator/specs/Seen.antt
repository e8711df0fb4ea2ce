-- How the values of the code are seen: a calculator with its register table, and what a call returns.
use Rattle.std.specs.Prelude.{ℕ, List, take, Ok, Err, Result}
use Rattle.cube.specs.declared.refusal.Refusal.{Refusal}
use Rattle.cube.specs.Refusals.{fault_of}
use Rattle.cube.specs.Slots.{Cover}
use Rattle.calculator.specs.declared.calculator.Calculator.{Calculator}
use Rattle.calculator.specs.Records.{registers_of}
use Rattle.life.specs.Call.{Outcome}
use Rattle.life.specs.Call.Outcome.{refused, accepted}
use Rattle.life.specs.Call.Answer.{done, text}
use Rattle.life.specs.Call.Stage.{free}
use Rattle.life.specs.View.{View}

abbrev pub view : Calculator → Cover → View
view c cells = record { n = c.shape.variables.value; places = c.shape.places.value; registers = registers_of c.registers; cells = cells; stage = free }

abbrev pub done_outcome : {X : Type 0} → Result X Refusal → Outcome
done_outcome (Ok x) = accepted done
done_outcome (Err f) = refused (fault_of f)

-- the text stands at the front of the bytes given
abbrev pub text_outcome : Result ℕ Refusal → List ℕ → Outcome
text_outcome (Ok k) out = accepted (text (take k out))
text_outcome (Err f) out = refused (fault_of f)
