-- What a command line asks.
use Rattle.std.specs.Prelude.{◌≡◌, ℕ, ◌+◌, Bool, true, cond, ◌||◌, List, [], ◌∷◌, ℤ, pos, negsuc, Some, None, Ok, Err, Option, Result, ◌==◌, nat_le}
use Rattle.std.specs.Borrow.{Bor}
use Rattle.cube.specs.declared.refusal.Refusal.{Refusal}
use Rattle.cube.specs.Refusals.{Fault, fault, fault_of}
use Rattle.text.specs.Words.{gap}
use Rattle.text.specs.Tokens.{Stream, tok, end, bad, num, eol, stream, between}
use Rattle.text.specs.Numerals.{minus_in, size_in, signed}
use Rattle.command.specs.declared.parse.Command.{Command}
use Rattle.command.specs.declared.parse.Command.TheVariants.{Read, Print, Quit}

pub data Asked : Type 0 where
  make : ℤ → Asked
  read : ℕ → Asked
  print : ℕ → Asked
  quit : Asked

abbrev pub asked : Command → Asked
asked (Read register) = read register.number.value
asked (Print register) = print register.number.value
asked Quit = quit

-- the first command is v, and no later one is
abbrev pub admitted : Bool → ℕ → Bool
admitted first letter = cond first (letter == 118) (letter == 114 || (letter == 112 || letter == 113))

abbrev pub one : (ℤ → Result Asked Fault) → List ℤ → Result Asked Fault
one f [] = Err (fault 51 0)
one f (z ∷ []) = f z
one f (z ∷ y ∷ zs) = Err (fault 51 0)

abbrev pub none : Asked → List ℤ → Result Asked Fault
none a [] = Ok a
none a (z ∷ zs) = Err (fault 51 0)

abbrev pub of_register : (ℕ → Asked) → ℤ → Result Asked Fault
of_register ask (pos k) = cond (nat_le k 31) (Ok (ask k)) (Err (fault 1 0))
of_register ask (negsuc k) = Err (fault 1 0)

-- v, r, p and q, each with its count of numbers
abbrev pub asked_by : ℕ → List ℤ → Result Asked Fault
asked_by letter zs =
    cond (letter == 118) (one (λ z. Ok (make z)) zs)
    (cond (letter == 114) (one (of_register read) zs)
    (cond (letter == 112) (one (of_register print) zs)
    (none quit zs)))

-- the numbers up to the end of the line, or the first fault in them
abbrev pub and_then : ℤ → Result (List ℤ) Fault → Result (List ℤ) Fault
and_then z (Ok zs) = Ok (z ∷ zs)
and_then z (Err f) = Err f

abbrev pub numbers_in : Stream → Result (List ℤ) Fault
numbers_in (tok (num text at) s) = and_then (signed (minus_in text) (size_in text)) (numbers_in s)
numbers_in (tok (eol at) s) = numbers_in s
numbers_in (end at) = Ok []
numbers_in (bad number at) = Err (fault number at)

abbrev pub with_numbers : ℕ → Result (List ℤ) Fault → Result (Option Asked) Fault
with_numbers letter (Err f) = Err f
with_numbers letter (Ok zs) = elim (asked_by letter zs) [ Ok a ↦ Ok (Some a) | Err f ↦ Err f ]

-- a line from an offset on: nothing, or a letter and the rest, after any separators
abbrev pub asked_on : Bool → ℕ → List ℕ → Result (Option Asked) Fault
asked_on first at [] = Ok None
asked_on first at (b ∷ rest) =
    cond (gap b) (asked_on first (at + 1) rest)
    (cond (admitted first b) (with_numbers b (numbers_in (stream between (at + 1) rest))) (Err (fault 50 at)))

-- an answer seen so, or its refusal
abbrev pub answered : {T U : Type 0} → (T → U) → Result T Refusal → Result U Fault
answered see (Ok x) = Ok (see x)
answered see (Err f) = Err (fault_of f)

-- what a parser returns, seen so
abbrev pub parsed_as : {T : Type 0} → (T → Asked) → Result (Option T) Refusal → Result (Option Asked) Fault
parsed_as see (Ok None) = Ok None
parsed_as see (Ok (Some x)) = Ok (Some (see x))
parsed_as see (Err f) = Err (fault_of f)

abbrev pub first_parsed : Result (Option ℤ) Refusal → Result (Option Asked) Fault
first_parsed = parsed_as make

abbrev pub parsed : Result (Option Command) Refusal → Result (Option Asked) Fault
parsed = parsed_as asked

-- f says which letters may begin a command
abbrev pub Admits : {F : Type 0} → (F → ℕ → Bool → Type 0) → F → Bool → Type 0
Admits post f first = (letter : ℕ) (yes : Bool) → post f letter yes → yes ≡ admitted first letter

-- f gives what such a letter asks with its numbers
abbrev pub Asks : {F T : Type 0} → (F → ℕ → Bor (List ℤ) → Result T Refusal → Type 0) → F → Bool → (T → Asked) → Type 0
Asks post f first see = (letter : ℕ) (numbers : Bor (List ℤ)) (r : Result _ Refusal) → admitted first letter ≡ true → post f letter numbers r → answered see r ≡ asked_by letter numbers.now
