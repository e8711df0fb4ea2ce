-- A text put into bytes.
use Rattle.std.specs.Prelude.{◌≡◌, ℕ, ◌<◌, ◌≤◌, List, ◌++◌, length, drop, Ok, Err, Result}
use Rattle.cube.specs.declared.refusal.Refusal.{Refusal}
use Rattle.cube.specs.Refusals.{fault, fault_of}

-- the bytes past the text keep what they held
pub record Put (text out : List ℕ) (k : ℕ) (out' : List ℕ) : Type 0 where
  pub fits : length text ≤ length out
  pub size : k ≡ length text
  pub over : out' ≡ text ++ drop k out

pub record TooLong (text out : List ℕ) (f : Refusal) (out' : List ℕ) : Type 0 where
  pub longer : length out < length text
  pub why : fault_of f ≡ fault 8 0
  pub same : out' ≡ out

abbrev pub Puts : List ℕ → List ℕ → Result ℕ Refusal → List ℕ → Type 0
Puts text out (Ok k) out' = Put text out k out'
Puts text out (Err f) out' = TooLong text out f out'
