-- Elements and parts of mapped lists, and the places of a register in the table.
use Rattle.std.proofs.Common.{◌≡◌, ℕ, suc, ◌+◌, ◌*◌, ◌<◌, ◌≤◌, List, map, length, mul-le-mul_right, suc-mul, arith, rules}
use lib.ListN.{length-map}
use Rattle.std.proofs.lemmas.List.{places, same_lists, take-map, drop-map, map-append}
use Rattle.life.specs.View.{written}
use Rattle.calculator.specs.Kept.{Elsewhere}

-- the places of register k lie in a table of 32 registers
pub within_table : (k p n len : ℕ) → k < 32 → n ≤ p → 32 * p ≤ len → k * p + n ≤ len
within_table k p n len hk hn hl = let h : suc k * p ≤ 32 * p = mul-le-mul_right p hk in omega (arith, suc-mul k p)

pub map_written : {X Y : Type 0} (f : X → Y) (t new : List X) (at : ℕ) → map f (written t at new) ≡ written (map f t) at (map f new)
map_written f t new at = simp (map-append, take-map, drop-map, length-map)

-- what is written leaves every other element
pub elsewhere : {X : Type 0} (t t' new : List X) (at m : ℕ) → at + length new ≤ length t → m ≡ length new → t' ≡ written t at new → Elsewhere at m t t'
elsewhere t t' new at m h e w = record {
  front = same_lists _ _ (search (rules, places)) (λ k d l. grind (arith, places));
  back = same_lists _ _ (search (rules, places)) (λ k d l. grind (arith, places));
}
