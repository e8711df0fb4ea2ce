-- The lines and the words of a text.
use Rattle.std.specs.Prelude.{ℕ, Bool, cond, ◌||◌, List, [], ◌∷◌, ◌++◌, map, ◌==◌}

abbrev pub Word : Type 0
Word = List ℕ

-- the parts of a text between the bytes that stop; w stands before the text
abbrev pub split : (ℕ → Bool) → List ℕ → List ℕ → List (List ℕ)
split stop w [] = w ∷ []
split stop w (b ∷ bs) = cond (stop b) (w ∷ split stop [] bs) (split stop (w ++ b ∷ []) bs)

-- LF ends a line; space, tab and CR separate words
abbrev pub feed : ℕ → Bool
feed b = b == 10

abbrev pub gap : ℕ → Bool
gap b = b == 32 || (b == 9 || b == 13)

-- x, unless it is empty, and then xs
abbrev pub onto : {X : Type 0} → List X → List (List X) → List (List X)
onto [] xs = xs
onto (x ∷ l) xs = (x ∷ l) ∷ xs

-- the lists that are not empty
abbrev pub kept : {X : Type 0} → List (List X) → List (List X)
kept [] = []
kept (x ∷ xs) = onto x (kept xs)

abbrev pub words_of : List ℕ → List Word
words_of line = kept (split gap [] line)

-- the lines that have a word
abbrev pub lines_of : List ℕ → List (List Word)
lines_of text = kept (map words_of (split feed [] text))
