-- What a list of events, the latest first, defines for each register, and the lives of a calculator.
use Rattle.std.specs.Prelude.{ℕ, Bool, true, false, cond, ◌&&◌, List, [], ◌∷◌, Some, None, Option, ◌==◌}
use Rattle.cube.specs.Says.{Truth}
use Rattle.cube.specs.Slots.{Cover}
use Rattle.life.specs.Call.{Call, Event, Outcome, Given, Stage, fills, makes, spells, leads, Numbered, Allowed}
use Rattle.life.specs.Call.Outcome.{refused, accepted}
use Rattle.life.specs.Call.Stage.{free}
use Rattle.life.specs.View.{View, New, Stepped}

abbrev pub is_accepted : Outcome → Bool
is_accepted (refused f) = false
is_accepted (accepted answer) = true

abbrev pub is_at : Option ℕ → ℕ → Bool
is_at None k = false
is_at (Some j) k = k == j

-- the events fold over the registers: an accepted call sets the one that it fills, from what all of them were before
abbrev pub fold : {X : Type 0} → (Call → (ℕ → X) → X) → X → List Event → ℕ → X
fold make start [] k = start
fold make start (e ∷ es) k =
    cond (is_accepted e.outcome && is_at (fills e.call) k) (make e.call (fold make start es)) (fold make start es k)

-- the list, and the truth, that the accepted calls define for each register
abbrev pub rows : Given → List Event → ℕ → Cover
rows g = fold (makes g) []

abbrev pub expression : Given → List Event → ℕ → Truth
expression g = fold (spells g) (λ s. false)

-- the stage that the accepted calls lead to
abbrev pub stage_after : List Event → Stage
stage_after [] = free
stage_after (e ∷ es) = cond (is_accepted e.outcome) (leads e.call (stage_after es)) (stage_after es)

-- the lives: made, and then call by call
pub data Lived : View → List Event → Type 0 where
  made : {v : View} → New v → Lived v []
  called : {v w : View} {e : Event} {es : List Event} → Lived v es → Numbered e.call → Allowed v.stage e.call
      → Stepped v e w → Lived w (e ∷ es)

-- what had happened at some moment of a life
pub data Past (past : List Event) : List Event → Type 0 where
  now : Past past past
  earlier : {e : Event} {es : List Event} → Past past es → Past past (e ∷ es)

-- an event of a life, and what had happened before it
abbrev pub Happened : Event → List Event → List Event → Type 0
Happened e before es = Past (e ∷ before) es
