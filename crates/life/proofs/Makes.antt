-- What the calls make, from what the registers hold: cubes over n variables, no more than M, that say what the call spells.
use Rattle.std.proofs.Common.{◌≡◌, ℕ, ◌*◌, ◌^◌, ◌<◌, ◌≤◌, Bool, true, false, cond, List, [], ◌∷◌, length, Some, None, Ok, Err, Option, Result, refl, ap, subst, arith}
use Rattle.std.proofs.lemmas.Bool.{ltb-false}
use Rattle.cube.specs.Refusals.{Fault}
use Rattle.cube.specs.Says.{Truth, yes_at}
use Rattle.cube.specs.Slots.{Cover}
use Rattle.sheet.specs.Reading.{read_sheet}
use Rattle.sheet.specs.Sheet.{Sheet, shown}
use Rattle.sheet.proofs.Sheets.{sheets_are_read, sheet_few}
use Rattle.life.specs.Call.{Call, Answer, Given, Stage, reads, fills, makes, spells, leads, Numbered, Answers}
use Rattle.life.specs.Call.Source.{sheet}
use Rattle.life.specs.Call.Call.{read, write}
use Rattle.life.specs.Call.Stage.{free}
use Rattle.life.specs.Cause.{Cause, first_of, faulty, causes}
use Rattle.life.proofs.Overs.{Every}
use Rattle.life.proofs.Sheets.{sheet_over, shown_sheet}

-- no cause applies
abbrev pub NoneOf : List Cause → Type 0
NoneOf [] = Unit {0}
NoneOf (c ∷ cs) = (c.applies ≡ false) × NoneOf cs

none_step : (b : Bool) (f : Fault) (o : Option Fault) → cond b (Some f) o ≡ None → (b ≡ false) × (o ≡ None)
none_step true f o h = absurd (cc)
none_step false f o h = (refl, h)

pub none_of : (cs : List Cause) → first_of cs ≡ None → NoneOf cs
none_of [] h = tt
none_of (c ∷ cs) h = let p = none_step c.applies c.returns (first_of cs) h in (p.0, none_of cs p.1)

-- a text without fault is a sheet of the cubes that it shows
was_read : (r : Result Cover Fault) → NoneOf (faulty r) → (F : Cover) × (r ≡ Ok F)
was_read (Ok F) h = (F, refl)
was_read (Err f) h = absurd (cc h.0)

pub sheet_of : (n most : ℕ) (bytes : List ℕ) → NoneOf (faulty (read_sheet n most bytes)) → Sheet n most bytes (shown bytes)
sheet_of n most bytes h = let r = was_read (read_sheet n most bytes) h in shown_sheet n most bytes r.0 ((sheets_are_read n most bytes r.0).0 r.1)

-- n and M are within their ranges
pub record Ranged (g : Given) : Type 0 where
  pub small : g.n ≤ 20
  pub fits : g.places ≤ 256

-- what a call makes and spells, where none of its causes applies
pub record Fit (g : Given) (c : Call) (R : ℕ → Cover) (E : ℕ → Truth) : Type 0 where
  pub over : Every g.n (makes g c R)
  pub few : length (makes g c R) ≤ g.places
  pub follows : (s : ℕ) → s < 2 ^ g.n → yes_at (makes g c R) s ≡ spells g c E s

pub fit : (g : Given) (w : ℕ) (c : Call) (R : ℕ → Cover) (E : ℕ → Truth) → Ranged g → Numbered c → NoneOf (causes g w c R)
    → ((a : ℕ) → Every g.n (R a)) → ((a : ℕ) → length (R a) ≤ g.places) → ((a s : ℕ) → s < 2 ^ g.n → yes_at (R a) s ≡ E a s) → Fit g c R E
fit g w (read k (sheet bytes)) R E h n z o l f =
    let r = sheet_of g.n g.places bytes z.1.1 in
    record { over = sheet_over g.n g.places bytes (shown bytes) r; few = sheet_few g.n g.places bytes (shown bytes) r; follows = λ s b. refl }
fit g w (write a room) R E h n z o l f = record { over = tt; few = omega arith; follows = λ s b. refl }

-- a register that is filled is one of the 32, and the table has room for it
abbrev pub Placed : Given → Option ℕ → Type 0
Placed g None = Unit {0}
Placed g (Some k) = (k < 32) × (32 * g.places ≤ g.table)

pub placed : (g : Given) (w : ℕ) (c : Call) (R : ℕ → Cover) → Numbered c → NoneOf (causes g w c R) → Placed g (fills c)
placed g w (read k t) R n z = (n, ltb-false _ _ z.0)
placed g w (write a room) R n z = tt

-- what a call makes, why it is refused and what it answers depend only on the registers that it reads
abbrev pub AlikeIn : List ℕ → (ℕ → Cover) → (ℕ → Cover) → Type 0
AlikeIn [] R Q = Unit {0}
AlikeIn (a ∷ rs) R Q = (R a ≡ Q a) × AlikeIn rs R Q

pub same_makes : (g : Given) (st : Stage) (R Q : ℕ → Cover) (c : Call) → AlikeIn (reads st c) R Q → makes g c R ≡ makes g c Q
same_makes g st R Q (read k t) h = refl
same_makes g st R Q (write a room) h = refl

pub same_causes : (g : Given) (w : ℕ) (st : Stage) (R Q : ℕ → Cover) (c : Call) → AlikeIn (reads st c) R Q → causes g w c R ≡ causes g w c Q
same_causes g w st R Q (read k t) h = refl
same_causes g w st R Q (write a room) h = ap (λ x. causes g w (write a room) (λ i. x)) h.0

pub same_answers : (g : Given) (st : Stage) (R Q : ℕ → Cover) (c : Call) (r : Answer) → AlikeIn (reads st c) R Q → Answers g st c R r → Answers g st c Q r
same_answers g st R Q (read k t) r h p = p
same_answers g st R Q (write a room) r h p = subst (λ F. Answers g st (write a room) (λ i. F) r) h.0 p

-- and these are among the 32
abbrev pub Below : Stage → Type 0
Below free = Unit {0}

pub leads_below : (c : Call) (st : Stage) → Numbered c → Below st → Below (leads c st)
leads_below (read k t) st n b = b
leads_below (write a room) st n b = b

pub alike_in : (st : Stage) (R Q : ℕ → Cover) (c : Call) → Below st → Numbered c → ((a : ℕ) → a < 32 → R a ≡ Q a) → AlikeIn (reads st c) R Q
alike_in st R Q (read k t) b n h = tt
alike_in st R Q (write a room) b n h = (h a n, tt)
