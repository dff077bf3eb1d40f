-- Elements that become two things each, in two lists.
use Rattle.std.specs.Prelude.{List, [], ◌∷◌, ◌++◌, Option, Some}
use Rattle.text_forms.specs.Form.{Lexeme}
use Rattle.text_forms.specs.Reading.{◌>>=◌}

-- a pair as two things
abbrev pub as_two : {B C : Type 0} → B × C → Option (B × C)
as_two x = Some (x.0, x.1)

-- the first things of all, and the second ones, where each element becomes two
abbrev pub split_each : {A B C : Type 0} → (A → Option (B × C)) → List A → Option (List B × List C)
split_each f [] = Some ([], [])
split_each f (a ∷ more) = f a >>= λ p. split_each f more >>= λ q. Some (p.0 ∷ q.0, p.1 ∷ q.1)

-- what is made of what is read
abbrev pub gathered : {B D : Type 0} → (B → D) → Option (B × List Lexeme) → Option (D × List Lexeme)
gathered f r = r >>= λ x. Some (f x.0, x.1)

-- two lists, behind two others
abbrev pub put_behind : {B C : Type 0} → List B → List C → List B × List C → List B × List C
put_behind bs cs x = (bs ++ x.0, cs ++ x.1)

-- what is read, behind two lists
abbrev pub behind_both : {B C : Type 0} → List B → List C → Option ((List B × List C) × List Lexeme) → Option ((List B × List C) × List Lexeme)
behind_both bs cs r = gathered (put_behind bs cs) r
