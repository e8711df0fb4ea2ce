-- The number that a word writes.
use Rattle.std.specs.Prelude.{ℕ, zero, suc, ◌+◌, ◌-◌, ◌*◌, Bool, cond, ◌&&◌, List, [], ◌∷◌, ℤ, pos, negsuc, ◌==◌, nat_lt, slice_index}
use Rattle.text.specs.Bytes.{digit}

-- the digits before b, and then b; what is no digit is passed over
abbrev pub size_with : ℕ → ℕ → ℕ
size_with v b = cond (digit b) (v * 10 + (b - 48)) v

abbrev pub size_from : ℕ → List ℕ → ℕ
size_from v [] = v
size_from v (b ∷ bs) = size_from (size_with v b) bs

abbrev pub size_in : List ℕ → ℕ
size_in word = size_from 0 word

-- zero has no minus
abbrev pub minus_in : List ℕ → Bool
minus_in word = slice_index word 0 == 45 && nat_lt 0 (size_in word)

abbrev pub negative : ℕ → ℤ
negative zero = pos zero
negative (suc k) = negsuc k

abbrev pub signed : Bool → ℕ → ℤ
signed minus size = cond minus (negative size) (pos size)
