-- Cubes over n variables: what a calculator of n variables stores.
use Rattle.std.proofs.Common.{◌≡◌, ℕ, Bool, true, false, cond, [], ◌∷◌, map, length, refl, ap₂}
use Rattle.cube.specs.Slots.{Cube, Cover, blank_above}

-- 20 slots, Blank above n
pub record Over (n : ℕ) (c : Cube) : Type 0 where
  pub twenty : length c ≡ 20
  pub above : blank_above n c ≡ c

abbrev pub Every : ℕ → Cover → Type 0
Every n [] = Unit {0}
Every n (c ∷ F) = Over n c × Every n F

pub every_cond : (n : ℕ) (b : Bool) (F G : Cover) → Every n F → Every n G → Every n (cond b F G)
every_cond n true F G p q = p
every_cond n false F G p q = q

-- to take the slots above n as Blank changes nothing
pub every_blank : (n : ℕ) (F : Cover) → Every n F → map (blank_above n) F ≡ F
every_blank n [] e = refl
every_blank n (c ∷ F) e = ap₂ {C = Cover} (λ x y. x ∷ y) e.0.above (every_blank n F e.1)
