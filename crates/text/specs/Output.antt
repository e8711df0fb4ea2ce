-- Texts laid over bytes.
use Rattle.std.specs.Prelude.{◌≡◌, ℕ, ◌+◌, ◌-◌, ◌^◌, min, List, [], ◌∷◌, length, slice_set}
use Rattle.text.specs.declared.output.Writer.{Writer}

-- out with the bytes from at on replaced by those of the text, as far as out goes
abbrev pub overlay : List ℕ → ℕ → List ℕ → List ℕ
overlay out at [] = out
overlay out at (b ∷ bs) = overlay (slice_set out at b) (at + 1) bs

-- out' is out with the text laid over it from at on, which ends at r, or at the last place that is counted
pub record Overlaid (out : List ℕ) (at : ℕ) (text : List ℕ) (r : ℕ) (out' : List ℕ) : Type 0 where
  pub place : r ≡ min (2 ^ 64 - 1) (at + length text)
  pub over : out' ≡ overlay out at text

-- the text was written, over the same lent bytes
pub record Lays (old : Writer) (text : List ℕ) (new : Writer) : Type 0 where
  pub same_reference : new.out.ghost_name ≡ old.out.ghost_name
  pub laid : Overlaid old.out.now old.end text new.end new.out.now
