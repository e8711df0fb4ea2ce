-- The number and the offset of each refusal.
use Rattle.std.specs.Prelude.{ℕ, Ok, Err, Result}
use Rattle.cube.specs.declared.refusal.Refusal.{Refusal}
use Rattle.cube.specs.declared.refusal.Refusal.TheVariants.{
  NoSuchRegister,
  NoSuchVariable,
  ShapeBeyondRange,
  TableTooShort,
  OutputTooShort,
  ByteNotAllowed,
  SixthDigit,
  MinusWithoutDigit,
  TextTooLong,
  NotTheVariables,
  CubesBeyondRange,
  LiteralsBeyondRange,
  LiteralBeyondRange,
  LiteralNotRising,
  NumberTooMany,
  EndsTooEarly,
  NoSuchCommand,
  WrongNumberCount,
  NoSuchFile,
}

-- what is returned in place of a result; the offset is 0 where none is named
pub record Fault : Type 0 where
  pub number : ℕ
  pub offset : ℕ

abbrev pub fault : ℕ → ℕ → Fault
fault number offset = record { number = number; offset = offset }

abbrev pub fault_of : Refusal → Fault
fault_of NoSuchRegister = fault 1 0
fault_of NoSuchVariable = fault 2 0
fault_of ShapeBeyondRange = fault 3 0
fault_of TableTooShort = fault 4 0
fault_of OutputTooShort = fault 8 0
fault_of (ByteNotAllowed at) = fault 20 at
fault_of (SixthDigit at) = fault 21 at
fault_of (MinusWithoutDigit at) = fault 22 at
fault_of TextTooLong = fault 23 0
fault_of (NotTheVariables at) = fault 30 at
fault_of (CubesBeyondRange at) = fault 31 at
fault_of (LiteralsBeyondRange at) = fault 32 at
fault_of (LiteralBeyondRange at) = fault 33 at
fault_of (LiteralNotRising at) = fault 34 at
fault_of (NumberTooMany at) = fault 35 at
fault_of (EndsTooEarly at) = fault 36 at
fault_of (NoSuchCommand at) = fault 50 at
fault_of WrongNumberCount = fault 51 0
fault_of NoSuchFile = fault 52 0

-- a result with its refusal told by number and offset
abbrev pub told : {X : Type 0} → Result X Refusal → Result X Fault
told (Ok x) = Ok x
told (Err f) = Err (fault_of f)
