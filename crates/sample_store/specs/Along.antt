-- What a list that grows adds to another, element by element.
use Rattle.std.specs.Prelude.{List, [], ◌∷◌, ◌++◌}

-- what each element adds, given those before it and what they added; the first arguments are those of a list before
unfoldable pub along_from : {A B : Type 0} → (List A → List B → A → List B) → List A → List B → List A → List B
along_from adds before added [] = added
along_from adds before added (x ∷ xs) = along_from adds (before ++ x ∷ []) (added ++ adds before added x) xs

-- all that the elements of a list add
abbrev pub along : {A B : Type 0} → (List A → List B → A → List B) → List A → List B
along adds xs = along_from adds [] [] xs
