-- What a call that prints has done.
use Rattle.std.specs.Prelude.{◌≡◌, ◌++◌, ℕ, List, Result, OnOk}
use Rattle.std.specs.Global.{Vec}
use Rattle.text_lex.specs.Layout.{Piece, text_of}

-- where there was room, these bytes stand behind those that were there
abbrev pub Appends : {T E : Type 0} → Vec ℕ → Vec ℕ → Result T E → List ℕ → Type 0
Appends old new result bytes = OnOk result (new.items ≡ old.items ++ bytes)

-- and here the text of these pieces
abbrev pub Prints : {T E : Type 0} → Vec ℕ → Vec ℕ → Result T E → List Piece → Type 0
Prints old new result pieces = Appends old new result (text_of pieces)
