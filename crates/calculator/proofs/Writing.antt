-- From the contract of writing to the step of a write.
use Rattle.std.proofs.Common.{◌≡◌, ℕ, ◌+◌, ◌-◌, ◌*◌, ◌<◌, ◌≤◌, List, map, length, get_or, take, drop, Ok, Err, Result, sym, ap, ◌∙◌, subst, arith}
use Rattle.std.proofs.lemmas.List.{length-take, take_at, take-map, drop-map}
use Rattle.cube.specs.declared.refusal.Refusal.{Refusal}
use Rattle.cube.specs.Slots.{Cube, Cover, blank_above}
use Rattle.sheet.specs.Writing.{write_sheet, Writes, Exact}
use Rattle.life.specs.Call.{event}
use Rattle.life.specs.Call.Call.{write}
use Rattle.life.specs.Call.Outcome.{refused}
use Rattle.life.specs.View.{View, of_count, operand, Stepped}
use Rattle.life.proofs.Ends.{write_without_room, write_made}
use Rattle.calculator.specs.Seen.{text_outcome}

-- an operand is the part of the table at its places, Blank above n
pub operand_part : {X : Type 0} (f : X → Cube) (v : View) (t : List X) (a start c : ℕ) → v.cells ≡ map f t → start ≡ a * v.places
    → c ≡ (get_or v.registers a (of_count 0)).count
    → map (blank_above v.n) (map f (take ((start + c) - start) (drop start t))) ≡ operand v a
operand_part f v t a start c ec es en =
    let piece : ℕ → ℕ → List Cube → Cover = λ m at cells. map (blank_above v.n) (take m (drop at cells)) in
    let m : (start + c) - start ≡ c = omega arith in
    ap (λ z. map (blank_above v.n) (map f (take z (drop start t)))) m
    ∙ ap (map (blank_above v.n)) (sym (take-map f c (drop start t)) ∙ ap (take c) (sym (drop-map f start t)))
    ∙ ap (piece c start) (sym ec) ∙ ap (λ z. piece c z v.cells) es ∙ ap (λ z. piece z (a * v.places) v.cells) en

-- and has at most as many cubes as its record says
pub part_few : {X : Type 0} (t : List X) (s c : ℕ) → length (take ((s + c) - s) (drop s t)) ≤ c
part_few t s c = let h = length-take ((s + c) - s) (drop s t) in omega arith

-- the two ends of a write whose table is long enough
pub write_step : (v : View) (a count : ℕ) (F : Cover) (out out' : List ℕ) (r : Result ℕ Refusal) → 32 * v.places ≤ length v.cells
    → count ≤ 256 → Writes (write_sheet v.n F) out r out' → Exact count (write_sheet v.n F) out r → F ≡ operand v a
    → Stepped v (event (write a (length out)) 0 (text_outcome r out')) v
write_step v a count F out out' (Ok k) long few w x e =
    let bytes : take k out' ≡ write_sheet v.n F = ap (take k) w.3 ∙ take_at (write_sheet v.n F) (drop k out) k (sym w.2) in
    write_made v a (length out) 0 (take k out') long (bytes ∙ ap (write_sheet v.n) e) (let l = ap length bytes in let h = w.0 in omega arith)
write_step v a count F out out' (Err f) long few w x e =
    subst (λ z. Stepped v (event (write a (length out)) 0 (refused z)) v) (sym w.1)
    (write_without_room v a (length out) 0 long (subst (λ G. length out < length (write_sheet v.n G)) e (x few)))
