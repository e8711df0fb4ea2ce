use Rattle.std.proofs.Common.{◌^◌, ◌≤◌, arith, lit<}
use native.Mathlib.Nat.{pow-le-pow_right}
use Rattle.text.proofs.numeral.Numeral.size.Goals as goal

pub returns-clause-bound : goal.returns-clause-bound
returns-clause-bound c =
    let few : 10 ^ c.loop-b.b-index ≤ 10 ^ 6 = pow-le-pow_right (lit< tt) {j = 6} (omega arith) in
    omega arith
