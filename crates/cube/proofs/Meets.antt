-- A meet slot by slot, under a test of each. Assumes nothing.
use Rattle.std.proofs.Common.{◌≡◌, Bool, true, false, ◌&&◌, List, ◌∷◌, refl}
use Rattle.std.specs.Bool.{then_some}
use Rattle.std.specs.Option.{IfSome, option_map}
use Rattle.cube.specs.declared.slot.Slot.{Slot}
use Rattle.cube.specs.Slots.{prepend}

pub prepend_then_some : (d t : Bool) (s : Slot) (rest : List Slot)
    → prepend (then_some d s) (then_some t rest) ≡ then_some (d && t) (s ∷ rest)
prepend_then_some true true s rest = refl
prepend_then_some true false s rest = refl
prepend_then_some false t s rest = refl

-- what is told of a value under a test, from the test and the value
pub map_then_some : {X Y : Type 0} (f : X → Y) (t : Bool) (x : X) → option_map f (then_some t x) ≡ then_some t (f x)
map_then_some f true x = refl
map_then_some f false x = refl

pub if_then_some : {X : Type 0} (P : X → Type 0) (t : Bool) (x : X) → (t ≡ true → P x) → IfSome (then_some t x) P
if_then_some P true x h = h refl
if_then_some P false x h = tt
