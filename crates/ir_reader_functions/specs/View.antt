-- What was read stays what it is when names are added.
use Rattle.std.specs.Prelude.{◌≡◌, List, Result, Ok, Err}
use Rattle.text_forms.specs.declared.cursor.SyntaxFault.{SyntaxFault}
use Rattle.text_forms.specs.View.{Extends}
use Rattle.ir_types.specs.declared.name.Name.{Name}
use Rattle.ir_types.specs.declared.name.ValueId.{ValueId}
use Rattle.ir_types.specs.Denotes.{name_in}

-- what was read stays what it is when names are added
abbrev pub StaysNamed : {X Y Z : Type 0} → (List Name → X → Y) → List Name → Result (X × Z) SyntaxFault → Type 0
StaysNamed view names (Ok x) = (later : List Name) → Extends names later → view later x.0 ≡ view names x.0
StaysNamed view names (Err e) = Unit {0}

-- a position stays what it is when names are added
abbrev pub StaysAs : List Name → ValueId → Type 0
StaysAs ns id = (later : List Name) → Extends ns later → name_in later id ≡ name_in ns id
