-- What a text gives: its cubes, or the first fault.
use Rattle.std.specs.Prelude.{◌≡◌, ℕ, ◌-◌, Bool, true, false, cond, not, ◌&&◌, ◌||◌, List, [], ◌∷◌, ◌++◌, length, take, Some, None, Ok, Err, Option, Result, ◌==◌, nat_le, nat_lt, slice_index_or, slice_set}
use Rattle.cube.specs.declared.refusal.Refusal.{Refusal}
use Rattle.cube.specs.declared.slot.Slot.TheVariants.{No, Yes}
use Rattle.cube.specs.Refusals.{Fault, fault, fault_of}
use Rattle.cube.specs.Slots.{Cover, blank_cube, with_slot}
use Rattle.text.specs.Numerals.{size_in, minus_in}
use Rattle.text.specs.Tokens.{Tok, num, eol, Stream, tok, end, bad, tokens_from}
use Rattle.sheet.specs.declared.reading.ReaderState.{ReaderState}
use Rattle.sheet.specs.declared.reading.ReaderState.TheVariants.{BeforeLine1, BeforeLine2, AmongCubes}
use Rattle.sheet.specs.declared.reading.Deed.{Deed}
use Rattle.sheet.specs.declared.reading.Deed.TheVariants.{Open, Put}

abbrev pub refuse : ℕ → ℕ → Result (ReaderState × Option Deed) Fault
refuse number offset = Err (fault number offset)

-- among the cubes, on a line that owes so many literals more, each above last
abbrev pub on_line : ℕ → ℕ → ℕ → ReaderState
on_line left literals last = AmongCubes left (Some (record { left = literals; last = last }))

-- what each token asks in each state, over n variables and at most so many cubes
abbrev pub step_of : ℕ → ℕ → ReaderState → Tok → Result (ReaderState × Option Deed) Fault
step_of n most BeforeLine1 (num text at) = cond (minus_in text || not (size_in text == n)) (refuse 30 at) (Ok (BeforeLine2 false, None))
step_of n most (BeforeLine2 false) (num text at) = refuse 35 at
step_of n most (BeforeLine2 true) (num text at) = cond (minus_in text || nat_lt most (size_in text)) (refuse 31 at) (Ok (on_line (size_in text) 0 0, None))
step_of n most (AmongCubes left None) (num text at) =
    cond (left == 0) (refuse 35 at) (cond (minus_in text || nat_lt n (size_in text)) (refuse 32 at) (Ok (on_line (left - 1) (size_in text) 0, Some Open)))
step_of n most (AmongCubes left (Some line)) (num text at) =
    cond (line.left == 0) (refuse 35 at) (cond (size_in text == 0 || nat_lt n (size_in text)) (refuse 33 at) (cond (nat_le (size_in text) line.last) (refuse 34 at) (Ok (on_line left (line.left - 1) (size_in text), Some (Put (size_in text) (cond (minus_in text) No Yes))))))
step_of n most BeforeLine1 (eol at) = Ok (BeforeLine1, None)
step_of n most (BeforeLine2 fresh) (eol at) = Ok (BeforeLine2 true, None)
step_of n most (AmongCubes left None) (eol at) = Ok (AmongCubes left None, None)
step_of n most (AmongCubes left (Some line)) (eol at) = cond (nat_lt 0 line.left) (refuse 36 at) (Ok (AmongCubes left None, None))

-- what is done to the cubes that have been begun
abbrev pub act : Option Deed → Cover → Cover
act None cs = cs
act (Some Open) cs = cs ++ blank_cube ∷ []
act (Some (Put variable slot)) cs = slice_set cs (length cs - 1) (with_slot (slice_index_or cs (length cs - 1) []) variable slot)

-- a text may end here
abbrev pub complete_in : ReaderState → Bool
complete_in BeforeLine1 = false
complete_in (BeforeLine2 fresh) = false
complete_in (AmongCubes left None) = left == 0
complete_in (AmongCubes left (Some line)) = left == 0 && line.left == 0

-- in state s, with the cubes cs begun
abbrev pub run : ℕ → ℕ → ReaderState → Cover → Stream → Result Cover Fault
run n most s cs (tok t ts) = elim (step_of n most s t) [ Ok p ↦ run n most p.0 (act p.1 cs) ts | Err f ↦ Err f ]
run n most s cs (end at) = cond (complete_in s) (Ok cs) (Err (fault 36 at))
run n most s cs (bad number offset) = Err (fault number offset)

abbrev pub read_sheet : ℕ → ℕ → List ℕ → Result Cover Fault
read_sheet n most text = cond (nat_lt 65535 (length text)) (Err (fault 23 0)) (run n most BeforeLine1 [] (tokens_from text 0))

-- a sheet read into a table of so many places
abbrev pub read_into : ℕ → ℕ → ℕ → List ℕ → Result Cover Fault
read_into n most places text = cond (nat_lt places most) (Err (fault 4 0)) (read_sheet n most text)

-- the sheet is read as r, with its cubes at the front of the table
abbrev pub Reads : Result Cover Fault → Result ℕ Refusal → Cover → Type 0
Reads (Ok cs) (Ok k) table = (k ≡ length cs) × (take k table ≡ cs)
Reads (Ok cs) (Err f) table = ⊥
Reads (Err f) (Ok k) table = ⊥
Reads (Err f) (Err g) table = fault_of g ≡ f
