-- What each end of a call is to the lives of a calculator.
use Rattle.std.proofs.Common.{◌≡◌, ℕ, ◌+◌, ◌-◌, ◌*◌, ◌<◌, ◌≤◌, List, map, length, take, drop, set, Ok, Err, Result, sym, refl, ap, ◌∙◌, subst, arith}
use lib.ListN.{length-map}
use Rattle.cube.specs.Refusals.{fault, fault_of}
use Rattle.cube.specs.declared.refusal.Refusal.{Refusal}
use Rattle.cube.specs.Slots.{Cube, Cover, blank_above}
use Rattle.sheet.specs.Reading.{read_into, Reads}
use Rattle.sheet.specs.Writing.{write_sheet, Writes, Exact}
use Rattle.life.specs.Call.{event}
use Rattle.life.specs.Call.Call.{read, write}
use Rattle.life.specs.Call.Source.{sheet}
use Rattle.life.specs.Call.Answer.{done}
use Rattle.life.specs.Call.Outcome.{refused, accepted}
use Rattle.life.specs.Call.Stage.{free}
use Rattle.life.specs.Cause.{LongTables}
use Rattle.life.specs.View.{of_count, given, written}
use Rattle.life.specs.Law.{LivesOn}
use Rattle.life.proofs.Ends.{read_table_short, read_working_short, read_at_fault, read_taken, write_table_short}
use Rattle.life.proofs.Lawful.{lives_on}
use Rattle.calculator.specs.declared.calculator.Calculator.{Calculator}
use Rattle.calculator.specs.Records.{registers_of}
use Rattle.calculator.specs.Kept.{count_of}
use Rattle.calculator.specs.Seen.{view, done_outcome, text_outcome}
use Rattle.calculator.proofs.Reading.{read_err, read_ok, filled_view}
use Rattle.calculator.proofs.Writing.{operand_part, part_few, write_step}

-- a part of a table, and the sheet of its cubes
abbrev pub part : {X : Type 0} → List X → ℕ → ℕ → List X
part t start c = take ((start + c) - start) (drop start t)

abbrev pub part_sheet : {X : Type 0} → (X → Cube) → Calculator → List X → ℕ → ℕ → List ℕ
part_sheet slots m t start c = write_sheet m.shape.variables.value (map (blank_above m.shape.variables.value) (map slots (part t start c)))

module _ {X : Type 0} (slots : X → Cube) (m : Calculator) (t : List X) (k : ℕ) (below : k < 32) where
  pub short_write_lives : (room w : ℕ) → length t < 32 * m.shape.places.value
      → LivesOn (view m (map slots t)) (event (write k room) w (refused (fault 4 0))) (view m (map slots t))
  short_write_lives room w h = lives_on below refl (write_table_short (view m (map slots t)) k room w (simp length-map (omega arith)))

  pub short_read_lives : (bytes : List ℕ) (w : ℕ) → length t < 32 * m.shape.places.value
      → LivesOn (view m (map slots t)) (event (read k (sheet bytes)) w (refused (fault 4 0))) (view m (map slots t))
  short_read_lives bytes w h = lives_on below refl (read_table_short (view m (map slots t)) k bytes w (simp length-map (omega arith)))

  pub working_read_lives : (bytes : List ℕ) (w : ℕ) → 32 * m.shape.places.value ≤ length t → w < 64 * m.shape.places.value
      → LivesOn (view m (map slots t)) (event (read k (sheet bytes)) w (refused (fault 4 0))) (view m (map slots t))
  working_read_lives bytes w h s = lives_on below refl (read_working_short (view m (map slots t)) k bytes w (simp length-map (omega arith)) s)

  pub faulty_read_lives : {Y : Type 0} (bytes : List ℕ) (w : ℕ) (cells : Cover) (r : Result Y Refusal) (f : Refusal)
      → 32 * m.shape.places.value ≤ length t → 64 * m.shape.places.value ≤ w
      → Reads (read_into m.shape.variables.value m.shape.places.value w bytes) (Err f) cells → r ≡ Err f
      → LivesOn (view m (map slots t)) (event (read k (sheet bytes)) w (done_outcome r)) (view m (map slots t))
  faulty_read_lives bytes w cells r f h l reads is =
      let v = view m (map slots t) in
      let long : LongTables (given v) w = (simp length-map (omega arith), l) in
      subst (λ z. LivesOn v (event (read k (sheet bytes)) w (done_outcome z)) v) (sym is) (lives_on {w = v} below refl
      (read_at_fault v k bytes w (fault_of f) long (read_err v.n v.places w bytes f cells (omega arith) reads)))

  -- a read of so many cubes of the working table, which fill the register
  pub full_read_lives : (bytes : List ℕ) (w : ℕ) (work t' : List X) (n : ℕ) (u : Calculator)
      → 32 * m.shape.places.value ≤ length t → 64 * m.shape.places.value ≤ w → length work ≡ w
      → Reads (read_into m.shape.variables.value m.shape.places.value w bytes) (Ok n) (map slots work) → n ≤ m.shape.places.value
      → u.shape ≡ m.shape → registers_of u.registers ≡ set (registers_of m.registers) k (of_count n) → t' ≡ written t (k * m.shape.places.value) (take n work)
      → LivesOn (view m (map slots t)) (event (read k (sheet bytes)) w (accepted done)) (view u (map slots t'))
  full_read_lives bytes w work t' n u h l size reads few shape registers cells =
      let v = view m (map slots t) in
      let long : LongTables (given v) w = (simp length-map (omega arith), l) in
      let e = read_ok v.n v.places w bytes n (map slots work) (omega arith) reads in
      let after = filled_view slots v t t' work (registers_of u.registers) k n refl (omega arith) registers cells in
      let same : view u (map slots t') ≡ record { n = v.n; places = v.places; registers = registers_of u.registers; cells = map slots t'; stage = free } =
      ap (λ z. record { n = z.variables.value; places = z.places.value; registers = registers_of u.registers; cells = map slots t'; stage = free }) shape in
      lives_on {w = view u (map slots t')} below refl (read_taken v k bytes w (take n (map slots work)) (view u (map slots t')) long e (same ∙ after))

  -- a write of the cubes from the first place of the register on, as many as its record says
  pub write_lives : (start c : ℕ) (out out' : List ℕ) (r : Result ℕ Refusal)
      → Writes (part_sheet slots m t start c) out r out' → Exact (length (part t start c)) (part_sheet slots m t start c) out r
      → 32 * m.shape.places.value ≤ length t → start ≡ k * m.shape.places.value → c ≡ count_of m k
      → LivesOn (view m (map slots t)) (event (write k (length out)) 0 (text_outcome r out')) (view m (map slots t))
  write_lives start c out out' r w x h es ec =
      let v = view m (map slots t) in
      let few : length (part t start c) ≤ 256 = let p = part_few t start c in let b = m.within k in let top = m.shape.places.high in omega arith in
      lives_on {w = v} below refl (write_step v k _ _ out out' r (simp length-map (omega arith)) few w x (operand_part slots v t k start c refl es ec))
