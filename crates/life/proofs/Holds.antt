-- A register that is filled holds the list, and every other what it held.
use Rattle.std.proofs.Common.{◌≡◌, ℕ, suc, ◌+◌, ◌*◌, ◌<◌, ◌≤◌, cond, eqb, ◌⊎◌, List, length, get_or, take, drop, set, Some, None, Option, sym, refl, ap, ◌∙◌, subst, inl, inr, ⊎_elim, mul-le-mul_right, suc-mul, arith, rules}
use Rattle.std.proofs.lemmas.List.{places, same_lists, length-set, get_or-set_same, get_or-set_other}
use Rattle.std.proofs.lemmas.Bool.{cases_eq, cases_lt, eq-eqb, ne_eqb, cond-true, cond-false}
use Rattle.cube.specs.Slots.{Cover}
use Rattle.life.specs.View.{View, of_count, given, held, written, holding, filling}
use Rattle.life.specs.History.{is_at}
use Rattle.life.proofs.Makes.{Placed}

-- what is written is read again
read_written : {X : Type 0} (xs new : List X) (start : ℕ) → start ≤ length xs → take (length new) (drop start (written xs start new)) ≡ new
read_written xs new start h = same_lists _ _ (search (rules, places)) (λ k d l. grind (arith, places))

-- and what lies below or above it is as it was
read_elsewhere : {X : Type 0} (xs new : List X) (start j c : ℕ) → start + length new ≤ length xs → (j + c ≤ start) ⊎ (start + length new ≤ j) → take c (drop j (written xs start new)) ≡ take c (drop j xs)
read_elsewhere xs new start j c h w = same_lists _ _ (search (rules, places)) (λ k d l. grind (arith, places))

length_written : {X : Type 0} (xs new : List X) (start : ℕ) → start + length new ≤ length xs → length (written xs start new) ≡ length xs
length_written xs new start h = grind (arith, places)

-- what the registers of a view are: 32, none with more cubes than it has places
pub record Kept (v : View) : Type 0 where
  pub all : length v.registers ≡ 32
  pub counts : (k : ℕ) → (get_or v.registers k (of_count 0)).count ≤ v.places

-- a view in which register o, if any, holds L
pub record Filled (v : View) (o : Option ℕ) (L : Cover) (u : View) : Type 0 where
  pub same : given u ≡ given v
  pub kept : Kept u
  pub holds : (j : ℕ) → held u j ≡ cond (is_at o j) L (held v j)

module _ (v : View) (k : ℕ) (new : Cover) (below : k < 32) (kept : Kept v) (roomy : 32 * v.places ≤ length v.cells) (few : length new ≤ v.places) where
  within : k * v.places + length new ≤ length v.cells
  within = let h : suc k * v.places ≤ 32 * v.places = mul-le-mul_right v.places below in omega (arith, suc-mul k v.places)

  count_here : get_or (set v.registers k (of_count (length new))) k (of_count 0) ≡ of_count (length new)
  count_here = get_or-set_same v.registers k (of_count (length new)) (of_count 0) (omega (arith, kept.all))

  count_there : (j : ℕ) → (j ≡ k → ⊥) → get_or (set v.registers k (of_count (length new))) j (of_count 0) ≡ get_or v.registers j (of_count 0)
  count_there j ne = get_or-set_other v.registers k j (of_count (length new)) (of_count 0) ne

  pub held_here : held (holding v k new) k ≡ new
  held_here =
      ap (λ r. take r.count (drop (k * v.places) (written v.cells (k * v.places) new))) count_here ∙ read_written v.cells new (k * v.places) (omega (arith, within))

  apart : (j : ℕ) → (j ≡ k → ⊥) → (j * v.places + v.places ≤ k * v.places) ⊎ (k * v.places + v.places ≤ j * v.places)
  apart j ne = ⊎_elim
      (λ l. inl (let h : suc j * v.places ≤ k * v.places = mul-le-mul_right v.places l in omega (arith, suc-mul j v.places)))
      (λ l. inr (let m : suc k ≤ j = omega (arith, ne) in let h : suc k * v.places ≤ j * v.places = mul-le-mul_right v.places m in omega (arith, suc-mul k v.places)))
      (cases_lt j k)

  pub held_there : (j : ℕ) → (j ≡ k → ⊥) → held (holding v k new) j ≡ held v j
  held_there j ne =
      ap (λ r. take r.count (drop (j * v.places) (written v.cells (k * v.places) new))) (count_there j ne)
      ∙ read_elsewhere v.cells new (k * v.places) (j * v.places) (get_or v.registers j (of_count 0)).count within
      (⊎_elim (λ h. inl (omega (arith, kept.counts j))) (λ h. inr (omega arith)) (apart j ne))

  pub holding_filled : Filled v (Some k) new (holding v k new)
  holding_filled = record {
    same = ap (λ t. record { n = v.n; places = v.places; table = t }) (length_written v.cells new (k * v.places) within);
    kept = record {
      all = length-set v.registers k (of_count (length new)) ∙ kept.all;
      counts = λ j. ⊎_elim
          (λ e. let h = ap (λ r. r.count) count_here in subst (λ i. (get_or (set v.registers k (of_count (length new))) i (of_count 0)).count ≤ v.places) (sym e) (omega (arith, h)))
          (λ ne. let h = ap (λ r. r.count) (count_there j ne) in omega (arith, h, kept.counts j))
          (cases_eq j k);
    };
    holds = λ j. ⊎_elim
        (λ e. ap (held (holding v k new)) e ∙ (held_here ∙ sym (cond-true (eqb j k) new (held v j) (eq-eqb j k e))))
        (λ ne. held_there j ne ∙ sym (cond-false (eqb j k) new (held v j) (ne_eqb j k ne)))
        (cases_eq j k);
  }

pub filled : (v : View) (o : Option ℕ) (new : Cover) → Kept v → Placed (given v) o → length new ≤ v.places → Filled v o new (filling v o new)
filled v None new s p f = record { same = refl; kept = s; holds = λ j. refl }
filled v (Some k) new s p f = holding_filled v k new p.0 s p.1 f
