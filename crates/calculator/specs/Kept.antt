-- What a call keeps, of the values themselves: of a calculator, of the elements of a table, of the bytes given.
use Rattle.std.specs.Prelude.{◌≡◌, ℕ, ◌+◌, ◌*◌, ◌≤◌, List, length, take, drop, Ok, Err, Result, slice_index_or}
use Rattle.cube.specs.declared.refusal.Refusal.{Refusal}
use Rattle.life.specs.View.{of_count}
use Rattle.calculator.specs.declared.calculator.Calculator.{Calculator}
use Rattle.calculator.specs.Records.{registers_of}

abbrev pub count_of : Calculator → ℕ → ℕ
count_of c k = (slice_index_or (registers_of c.registers) k (of_count 0)).count

-- every element but so many from a place on is as it was
pub record Elsewhere {C : Type 0} (start count : ℕ) (before after : List C) : Type 0 where
  pub front : take start after ≡ take start before
  pub back : drop (start + count) after ≡ drop (start + count) before

-- a call that fills register k: refused, it changes nothing; accepted, it writes only the places that the register then holds
abbrev pub Fills : {X C : Type 0} → ℕ → Result X Refusal → Calculator → List C → Calculator → List C → Type 0
Fills k (Ok x) c table c' table' = (c'.shape ≡ c.shape) × Elsewhere (k * c.shape.places.value) (count_of c' k) table table'
Fills k (Err f) c table c' table' = (c' ≡ c) × (table' ≡ table)

-- a call that writes a text of k bytes: the calculator stays; refused, so do the bytes; accepted, so do those past the text
abbrev pub Put : Result ℕ Refusal → Calculator → List ℕ → Calculator → List ℕ → Type 0
Put (Ok k) c out c' out' = (c' ≡ c) × (k ≤ length out) × (drop k out' ≡ drop k out)
Put (Err f) c out c' out' = (c' ≡ c) × (out' ≡ out)
