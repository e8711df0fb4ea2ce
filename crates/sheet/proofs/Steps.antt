-- What a step keeps of the places.
use Rattle.std.proofs.Common.{◌≡◌, ℕ, ◌≤◌, Bool, true, false, cond, ◌||◌, not, eqb, ltb, leb, IfOk, Some, None, Ok, Option, Result, subst, sym, arith}
use Rattle.cube.specs.Refusals.{Fault}
use Rattle.text.specs.Numerals.{size_in, minus_in}
use Rattle.text.specs.Tokens.{Tok, num, eol}
use Rattle.sheet.specs.declared.reading.ReaderState.{ReaderState}
use Rattle.sheet.specs.declared.reading.ReaderState.TheVariants.{BeforeLine1, BeforeLine2, AmongCubes}
use Rattle.sheet.specs.declared.reading.Deed.{Deed}
use Rattle.sheet.specs.declared.reading.Deed.TheVariants.{Open, Put}
use Rattle.sheet.specs.Reading.{refuse, on_line, step_of}
use Rattle.sheet.proofs.Tests.{opening, opening?, putting, rising?, putting?, up_to, variable_in, some}
use Rattle.sheet.specs.Places.{Room, counted, Ready, Within}

pub record Keeps (most c : ℕ) (s : ReaderState) (d : Option Deed) : Type 0 where
  pub room : Room most s (counted d c)
  pub ready : Ready most d c
  pub within : Within 20 d

module _ (most c : ℕ) where
  abbrev Goes : Result (ReaderState × Option Deed) Fault → Type 0
  Goes r = IfOk r (λ p. Keeps most c p.0 p.1)

  unless : (b : Bool) (code at : ℕ) (x : Result (ReaderState × Option Deed) Fault) → (b ≡ false → Goes x) → Goes (cond b (refuse code at) x)
  unless true code at x h = tt
  unless false code at x h = h (cc)

goes : (n most c : ℕ) (s : ReaderState) (t : Tok) → n ≤ 20 → Room most s c → Goes most c (step_of n most s t)
goes n most c BeforeLine1 (num w at) top r = unless most c (minus_in w || not (eqb (size_in w) n)) 30 at (Ok (BeforeLine2 false, None)) (λ e. record { room = r; ready = tt; within = tt })
goes n most c BeforeLine1 (eol at) top r = record { room = r; ready = tt; within = tt }
goes n most c (BeforeLine2 false) (num w at) top r = tt
goes n most c (BeforeLine2 true) (num w at) top r =
    unless most c (minus_in w || ltb most (size_in w)) 31 at (Ok (on_line (size_in w) 0 0, None)) (λ e. let k = up_to (minus_in w) (size_in w) most e in record { room = (omega arith, omega arith); ready = tt; within = tt })
goes n most c (BeforeLine2 fresh) (eol at) top r = record { room = r; ready = tt; within = tt }
goes n most c (AmongCubes left None) (num w at) top r =
    unless most c (eqb left 0) 35 at (opening? n left w at) (λ e.
    let l = some left e in unless most c (minus_in w || ltb n (size_in w)) 32 at (opening n left w) (λ e'.
    let k = up_to (minus_in w) (size_in w) n e' in record { room = (omega arith, omega arith); ready = omega arith; within = tt }))
goes n most c (AmongCubes left None) (eol at) top r = record { room = r; ready = tt; within = tt }
goes n most c (AmongCubes left (Some line)) (num w at) top r =
    unless most c (eqb line.left 0) 35 at (putting? n left line.left line.last w at) (λ e.
    let l = some line.left e in unless most c (eqb (size_in w) 0 || ltb n (size_in w)) 33 at (rising? left line.left line.last w at) (λ e'.
    let k = variable_in (size_in w) n e' in unless most c (leb (size_in w) line.last) 34 at (putting left line.left w) (λ e''. record { room = (r.0, omega arith); ready = (omega arith, omega arith); within = (k.0, omega arith) })))
goes n most c (AmongCubes left (Some line)) (eol at) top r = unless most c (ltb 0 line.left) 36 at (Ok (AmongCubes left None, None)) (λ e. record { room = r.0; ready = tt; within = tt })

pub step_keeps : (n most c : ℕ) (s : ReaderState) (t : Tok) (p : ReaderState × Option Deed) → n ≤ 20 → Ok p ≡ step_of n most s t → Room most s c → Keeps most c p.0 p.1
step_keeps n most c s t p top e r = subst (Goes most c) (sym e) (goes n most c s t top r)

-- no more cubes than places
pub room_below : (most c : ℕ) (s : ReaderState) → Room most s c → c ≤ most
room_below most c BeforeLine1 r = omega arith
room_below most c (BeforeLine2 fresh) r = omega arith
room_below most c (AmongCubes left None) r = omega arith
room_below most c (AmongCubes left (Some line)) r = omega arith

pub ready_in : (most places c : ℕ) (d : Option Deed) → most ≤ places → Ready most d c → Ready places d c
ready_in most places c None h r = tt
ready_in most places c (Some Open) h r = omega arith
ready_in most places c (Some (Put variable slot)) h r = (r.0, omega arith)
