-- What is put into the bytes given, from what the calls leave there.
use Rattle.std.proofs.Common.{◌≡◌, ℕ, ◌≤◌, List, [], ◌++◌, length, take, drop, sym, refl, ap, ◌∙◌, arith}
use Rattle.std.proofs.lemmas.List.{length-take-le, take-append-drop}
use Rattle.command.specs.Output.{Put}

-- nothing was printed
pub put_none : {out out' : List ℕ} → out' ≡ out → Put [] out 0 out'
put_none same = record { fits = omega arith; size = refl; over = same }

-- a text stands at the front of the bytes, and those past it are as they were
pub put_front : (text out out' : List ℕ) (k : ℕ) → length out' ≡ length out → k ≤ length out → take k out' ≡ text → drop k out' ≡ drop k out → Put text out k out'
put_front text out out' k same fits front back =
    let long : length (take k out') ≡ k = length-take-le k out' (omega arith) in
    let size : k ≡ length text = sym long ∙ ap length front in
    record { fits = omega arith; size = size; over = sym (take-append-drop k out') ∙ ap (λ z. z ++ drop k out') front ∙ ap (λ z. text ++ z) back }
