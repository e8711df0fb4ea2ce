-- A line that was run, from what the calls that it made have shown.
use Rattle.std.proofs.Common.{IsErrAnd, ◌≡◌, ℕ, ◌<◌, ◌≤◌, Bool, true, false, cond, eqb, List, [], ◌∷◌, length, take, drop, Some, None, Ok, Err, Option, Result, sym, refl, ap, subst, arith, ltb-true}
use Rattle.cube.specs.declared.refusal.Refusal.{Refusal}
use Rattle.cube.specs.declared.refusal.Refusal.TheVariants.{OutputTooShort}
use Rattle.cube.specs.Refusals.{Fault, fault, fault_of}
use Rattle.sheet.specs.Writing.{write_sheet}
use Rattle.life.specs.Call.{event}
use Rattle.life.specs.Call.Call.{read as reading, write as writing}
use Rattle.life.specs.Call.Source.{sheet}
use Rattle.life.specs.Call.Answer.{done, text}
use Rattle.life.specs.Call.Outcome.{refused, accepted}
use Rattle.life.specs.View.{View, operand, Stepped}
use Rattle.command.specs.declared.report.Layer.{Layer}
use Rattle.command.specs.declared.report.Layer.TheVariants.{Sheet, Command}
use Rattle.command.specs.Asked.{asked_on}
use Rattle.command.specs.Asked.Asked.{read, print, quit}
use Rattle.command.specs.Lines.{Line}
use Rattle.command.specs.Report.{report, layer_of}
use Rattle.session.specs.declared.failure.Failure.{Failure}
use Rattle.session.specs.declared.failure.Failure.TheVariants.{Refused}
use Rattle.session.specs.Run.{Status, Setting, text_of_write}
use Rattle.session.specs.Run.Status.{running, over}
use Rattle.session.specs.Run.Turned.{idle_running, refused_line, quits, no_file, large_file, reads, writes}
use Rattle.session.specs.Seen.{Into, LineDone, LineRan, text_of}
use Rattle.calculator.specs.Seen.{done_outcome}
use Rattle.command.specs.declared.report.RefusedLine.{RefusedLine}
use Rattle.session.proofs.Putting.{put_front}

said : (x y : List ℕ) → text x ≡ text y → x ≡ y
said x y e = cc

pub refused_as : {A E : Type 0} {x : E} (r : Result A E) → IsErrAnd r (λ y. y ≡ x) → r ≡ Err x
refused_as (Ok a) e = absurd e
refused_as (Err y) e = ap Err e

-- what a line has done, and its text put into the bytes given
pub done_put : {at : Setting} {s t : Status} {l : Line} {words out out' : List ℕ} {r : Result ℕ Failure} → LineDone at s l t words → Into words out r out' → LineRan at s l t out r out'
done_put {words} d h = record { events = d.events; text = words; turned = d.turned; put = h }

-- the calculator is the same value as before
pub still : {at : Setting} {s : Status} {l : Line} {v w : View} {out out' : List ℕ} {r : Result ℕ Failure} → w ≡ v → LineRan at s l (running v) out r out' → LineRan at s l (running w) out r out'
still {at} {s} {l} {out} {out'} {r} e = subst (λ u. LineRan at s l (running u) out r out') (sym e)

module _ (at : Setting) (v : View) (l : Line) where
  pub line_refused : (f : Fault) → asked_on false l.at l.bytes ≡ Err f → LineDone at (running v) l (running v) (report l.number Command f)
  line_refused f e = record { events = []; turned = refused_line e }

  pub line_idle : asked_on false l.at l.bytes ≡ Ok None → LineDone at (running v) l (running v) []
  line_idle e = record { events = []; turned = idle_running e }

  pub line_quits : asked_on false l.at l.bytes ≡ Ok (Some quit) → LineDone at (running v) l (over (Some v)) []
  line_quits e = record { events = []; turned = quits e }

  module _ (k : ℕ) (asks : asked_on false l.at l.bytes ≡ Ok (Some (read k))) where
    pub file_missing : at.files k ≡ None → LineDone at (running v) l (running v) (report l.number Command (fault 52 0))
    file_missing e = record { events = []; turned = no_file asks e }

    module _ (bytes : List ℕ) (holds : at.files k ≡ Some bytes) where
      pub file_large : 8192 < length bytes → LineDone at (running v) l (running v) (report l.number Sheet (fault 23 0))
      file_large long = record { events = []; turned = large_file asks holds long }

      module _ (w : View) (few : length bytes ≤ 8192) where
        -- the text of a read is that of its refusal
        pub read_ran : {A : Type 0} (r : Result A Refusal) (told : Result A RefusedLine) → Stepped v (event (reading k (sheet bytes)) at.working (done_outcome r)) w
            → ((x : A) → r ≡ Ok x → told ≡ Ok x) → ((f : Refusal) → r ≡ Err f → told ≡ Err (record { line = l.number; layer = layer_of (fault_of f); refusal = f }))
            → LineDone at (running v) l (running w) (text_of told)
        read_ran (Ok x) told s taken back = rw (taken x refl) (record { events = _; turned = reads {o = accepted done} asks holds few s })
        read_ran (Err f) told s taken back = rw (back f refl) (record { events = _; turned = reads {o = refused (fault_of f)} asks holds few s })

  module _ (out : List ℕ) (k : ℕ) (asks : asked_on false l.at l.bytes ≡ Ok (Some (print k))) where
    pub print_done : (m : ℕ) (out' : List ℕ) → length out' ≡ length out → m ≤ length out → drop m out' ≡ drop m out
        → Stepped v (event (writing k at.room) 0 (accepted (text (take m out')))) v → LineRan at (running v) l (running v) out (Ok m) out'
    print_done m out' same fits back s = record {
      events = event (writing k at.room) 0 (accepted (text (take m out'))) ∷ [];
      text = write_sheet v.n (operand v k);
      turned = writes asks s;
      put = put_front (write_sheet v.n (operand v k)) out out' m same fits (said (take m out') _ s.answers) back;
    }

    pub print_refused : (f : Fault) (layer : Layer) {mid out' : List ℕ} {r : Result ℕ Failure} → eqb f.number 8 ≡ false → Stepped v (event (writing k at.room) 0 (refused f)) v → layer ≡ layer_of f → mid ≡ out
        → Into (report l.number layer f) mid r out' → LineRan at (running v) l (running v) out r out'
    print_refused f layer {out'} {r} ne s el same h = record {
      events = event (writing k at.room) 0 (refused f) ∷ [];
      text = text_of_write l.number v k (refused f);
      turned = writes asks s;
      put = subst (λ b. Into (cond b (write_sheet v.n (operand v k)) (report l.number (layer_of f) f)) out r out') (sym ne)
          (subst (λ y. Into (report l.number y f) out r out') el (subst (λ o. Into (report l.number layer f) o r out') same h));
    }

-- a write that was refused with 8 had too little room
abbrev told_number : Option Fault → ℕ
told_number None = 0
told_number (Some f) = f.number

room_cause : (b d : Bool) (f : Fault) → f.number ≡ 8 → cond b (Some (fault 4 0)) (cond d (Some (fault 8 0)) None) ≡ Some f → (d ≡ true) × (f ≡ fault 8 0)
room_cause true d f n e = let z = ap told_number e in absurd (omega arith)
room_cause false true f n e = (refl, cc)
room_cause false false f n e = let z = ap told_number e in absurd (omega arith)

too_long : (at : Setting) (v : View) (l : Line) (out out' : List ℕ) (k : ℕ) → at.room ≡ length out
    → asked_on false l.at l.bytes ≡ Ok (Some (print k)) → Stepped v (event (writing k at.room) 0 (refused (fault 8 0))) v → out' ≡ out
    → LineRan at (running v) l (running v) out (Err (Refused OutputTooShort)) out'
too_long at v l out out' k room asks s same =
    let sheet-text = write_sheet v.n (operand v k) in
    let c = room_cause _ _ (fault 8 0) refl s.first_cause in
    record {
      events = event (writing k at.room) 0 (refused (fault 8 0)) ∷ [];
      text = sheet-text;
      turned = writes asks s;
      put = record { longer = let h = ltb-true at.room (length sheet-text) c.0 in omega arith; why = refl; same = same };
    }

pub print_too_long : (at : Setting) (v : View) (l : Line) (out : List ℕ) {out' : List ℕ} (k : ℕ) (f : Refusal) → f ≡ OutputTooShort → at.room ≡ length out
    → asked_on false l.at l.bytes ≡ Ok (Some (print k)) → Stepped v (event (writing k at.room) 0 (refused (fault_of f))) v → out' ≡ out
    → LineRan at (running v) l (running v) out (Err (Refused f)) out'
print_too_long at v l out {out'} k f is room asks s same =
    subst (λ g. Stepped v (event (writing k at.room) 0 (refused (fault_of g))) v → LineRan at (running v) l (running v) out (Err (Refused g)) out') (sym is) (λ s. too_long at v l out out' k room asks s same) s

-- no other refusal has that number
pub not_too_short : (f : Refusal) → (f ≡ OutputTooShort → ⊥) → eqb (fault_of f).number 8 ≡ false
not_too_short OutputTooShort n = absurd (n refl)
not_too_short _ n = refl
