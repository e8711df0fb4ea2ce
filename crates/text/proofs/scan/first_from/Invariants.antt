use Rattle.std.proofs.Common.{ℕ, ◌+◌, ◌<◌, false, slice_index}
use Rattle.text.proofs.scan.first_from.Given as goal

-- `stops` says no to each byte before the place
abbrev pub invariant-loop-place : goal.invariant-loop-place
invariant-loop-place g l = (k : ℕ) → l.from + k < l.place → g.F.Fn.post l.stops (slice_index l.text (l.from + k), tt) false
