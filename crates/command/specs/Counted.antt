-- The numbers of a line, as far as commands take them.
use Rattle.std.specs.Prelude.{List, [], ◌++◌, take, ℤ, Ok, Err, Result}
use Rattle.arrayvec.specs.ArrayVec.{ArrayVec}
use Rattle.cube.specs.declared.refusal.Refusal.{Refusal}
use Rattle.cube.specs.Refusals.{Fault}
use Rattle.command.specs.Asked.{answered}

-- the first two of the numbers held and those to come
abbrev pub two_of : List ℤ → Result (List ℤ) Fault → Result (List ℤ) Fault
two_of held (Ok zs) = Ok (take 2 (held ++ zs))
two_of held (Err f) = Err f

abbrev pub first_two : Result (List ℤ) Fault → Result (List ℤ) Fault
first_two = two_of []

abbrev pub two_held : Result (ArrayVec ℤ) Refusal → Result (List ℤ) Fault
two_held = answered (λ numbers. numbers.items)
