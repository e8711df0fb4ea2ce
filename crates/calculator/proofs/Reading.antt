-- From the contracts of reading and filling to the step of a read.
use Rattle.std.proofs.Common.{◌≡◌, ℕ, ◌*◌, ◌≤◌, List, map, length, take, set, Ok, Err, Result, sym, ap, ◌∙◌, arith}
use lib.ListN.{length-map}
use Rattle.std.proofs.lemmas.List.{length-take-le, take-map}
use Rattle.std.proofs.lemmas.Bool.{cond-false, le-ltb}
use Rattle.cube.specs.declared.refusal.Refusal.{Refusal}
use Rattle.cube.specs.Refusals.{Fault, fault_of}
use Rattle.cube.specs.Slots.{Cube, Cover}
use Rattle.sheet.specs.Reading.{read_sheet, read_into, Reads}
use Rattle.life.specs.View.{View, Register, of_count, written, holding}
use Rattle.life.proofs.Steps.{view_holds}
use Rattle.calculator.proofs.Parts.{map_written}

-- a table of at least M places takes whatever the text says
into_long : (n most places : ℕ) (text : List ℕ) → most ≤ places → read_into n most places text ≡ read_sheet n most text
into_long n most places text h = cond-false _ _ _ (le-ltb places most h)

err_is : (x : Result Cover Fault) (f : Refusal) (table : Cover) → Reads x (Err f) table → x ≡ Err (fault_of f)
err_is (Ok cs) f table h = absurd h
err_is (Err g) f table h = ap Err (sym h)

ok_is : (x : Result Cover Fault) (k : ℕ) (table : Cover) → Reads x (Ok k) table → x ≡ Ok (take k table)
ok_is (Ok cs) k table h = ap Ok (sym h.1)
ok_is (Err g) k table h = absurd h

pub read_err : (n most places : ℕ) (text : List ℕ) (f : Refusal) (table : Cover) → most ≤ places
    → Reads (read_into n most places text) (Err f) table → read_sheet n most text ≡ Err (fault_of f)
read_err n most places text f table h r = sym (into_long n most places text h) ∙ err_is _ f table r

pub read_ok : (n most places : ℕ) (text : List ℕ) (k : ℕ) (table : Cover) → most ≤ places
    → Reads (read_into n most places text) (Ok k) table → read_sheet n most text ≡ Ok (take k table)
read_ok n most places text k table h r = sym (into_long n most places text h) ∙ ok_is _ k table r

-- the view after a filling, from the elements that the table then holds
pub filled_view : {X : Type 0} (f : X → Cube) (v : View) (t t' w : List X) (rs : List Register) (k m : ℕ) → v.cells ≡ map f t → m ≤ length w
    → rs ≡ set v.registers k (of_count m) → t' ≡ written t (k * v.places) (take m w)
    → ◌≡◌ {A = View} (record { n = v.n; places = v.places; registers = rs; cells = map f t'; stage = v.stage }) (holding v k (take m (map f w)))
filled_view f v t t' w rs k m ec h er et =
    let long : length (take m (map f w)) ≡ m = length-take-le m (map f w) (simp length-map (omega arith)) in
    view_holds v rs (map f t') k (take m (map f w)) (er ∙ ap (λ z. set v.registers k (of_count z)) (sym long))
    (ap (map f) et ∙ map_written f t (take m w) (k * v.places)
    ∙ ap (written (map f t) (k * v.places)) (sym (take-map f m w)) ∙ ap (λ z. written z (k * v.places) (take m (map f w))) (sym ec))
