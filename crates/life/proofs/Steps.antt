-- From what the code of a call shows to its step.
use Rattle.std.proofs.Common.{◌≡◌, ℕ, ◌*◌, ◌<◌, ◌≤◌, true, false, List, ◌∷◌, length, set, Some, None, Ok, Err, Result, ap, ◌∙◌}
use Rattle.std.proofs.lemmas.Bool.{cond-true, cond-false, lt-ltb, le-ltb}
use Rattle.cube.specs.Refusals.{Fault, fault}
use Rattle.cube.specs.Slots.{Cover}
use Rattle.sheet.specs.Reading.{read_sheet}
use Rattle.life.specs.Call.{Given}
use Rattle.life.specs.Call.Source.{sheet}
use Rattle.life.specs.Call.Call.{read}
use Rattle.life.specs.Cause.{Cause, first_of, short_table, short_working, too_long, faulty, causes, LongTables}
use Rattle.life.specs.View.{View, Register, of_count, written, holding}

-- a cause that applies, and one that does not
pub first_here : (c : Cause) (cs : List Cause) → c.applies ≡ true → first_of (c ∷ cs) ≡ Some c.returns
first_here c cs h = cond-true c.applies (Some c.returns) (first_of cs) h

pub first_later : (c : Cause) (cs : List Cause) → c.applies ≡ false → first_of (c ∷ cs) ≡ first_of cs
first_later c cs h = cond-false c.applies (Some c.returns) (first_of cs) h

pub table_short : (g : Given) (cs : List Cause) → g.table < 32 * g.places → first_of (short_table g ∷ cs) ≡ Some (fault 4 0)
table_short g cs h = first_here (short_table g) cs (lt-ltb g.table (32 * g.places) h)

pub table_long : (g : Given) (cs : List Cause) → 32 * g.places ≤ g.table → first_of (short_table g ∷ cs) ≡ first_of cs
table_long g cs h = first_later (short_table g) cs (le-ltb g.table (32 * g.places) h)

pub working_short : (g : Given) (w : ℕ) (cs : List Cause) → w < 64 * g.places → first_of (short_working g w ∷ cs) ≡ Some (fault 4 0)
working_short g w cs h = first_here (short_working g w) cs (lt-ltb w (64 * g.places) h)

pub working_long : (g : Given) (w : ℕ) (cs : List Cause) → 64 * g.places ≤ w → first_of (short_working g w ∷ cs) ≡ first_of cs
working_long g w cs h = first_later (short_working g w) cs (le-ltb w (64 * g.places) h)

pub text_too_long : (room : ℕ) (bytes : List ℕ) (cs : List Cause) → room < length bytes → first_of (too_long room bytes ∷ cs) ≡ Some (fault 8 0)
text_too_long room bytes cs h = first_here (too_long room bytes) cs (lt-ltb room (length bytes) h)

pub text_fits : (room : ℕ) (bytes : List ℕ) (cs : List Cause) → length bytes ≤ room → first_of (too_long room bytes ∷ cs) ≡ first_of cs
text_fits room bytes cs h = first_later (too_long room bytes) cs (le-ltb room (length bytes) h)

-- a text that is a sheet, and one that is none
pub no_fault : (r : Result Cover Fault) (F : Cover) → r ≡ Ok F → first_of (faulty r) ≡ None
no_fault r F e = ap (λ x. first_of (faulty x)) e

pub with_fault : (r : Result Cover Fault) (f : Fault) → r ≡ Err f → first_of (faulty r) ≡ Some f
with_fault r f e = ap (λ x. first_of (faulty x)) e

-- with long tables only the text can be at fault
pub read_first : (g : Given) (k w : ℕ) (bytes : List ℕ) (R : ℕ → Cover) → LongTables g w
    → first_of (causes g w (read k (sheet bytes)) R) ≡ first_of (faulty (read_sheet g.n g.places bytes))
read_first g k w bytes R h =
    let r = faulty (read_sheet g.n g.places bytes) in table_long g (short_working g w ∷ r) h.0 ∙ working_long g w r h.1

-- the view after a register was filled, from its record and the table
pub view_holds : (v : View) (registers : List Register) (cells : Cover) (k : ℕ) (new : Cover)
    → registers ≡ set v.registers k (of_count (length new)) → cells ≡ written v.cells (k * v.places) new
    → ◌≡◌ {A = View} (record { n = v.n; places = v.places; registers = registers; cells = cells; stage = v.stage }) (holding v k new)
view_holds v registers cells k new p q =
    let mk : List Register → Cover → View = λ x y. record { n = v.n; places = v.places; registers = x; cells = y; stage = v.stage } in
    ap (λ x. mk x cells) p ∙ ap (mk (set v.registers k (of_count (length new)))) q
