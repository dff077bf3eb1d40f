-- What the places in a function stand for while it is read: those among its own names, and those in the module's tables.
use Rattle.std.specs.Prelude.{◌≡◌, ℕ, List, [], ◌∷◌, map, Result, Ok, Err, IfOk}
use Rattle.text_forms.specs.declared.cursor.Cursor.{Cursor}
use Rattle.text_forms.specs.declared.cursor.SyntaxFault.{SyntaxFault}
use Rattle.text_forms.specs.View.{Extends}
use Rattle.text_forms.specs.Form.{Form}
use Rattle.text_forms.specs.Reading.{read}
use Rattle.text_forms.specs.Gives.{Gives, left}
use Rattle.ir_types.specs.declared.name.Name.{Name}
use Rattle.ir_types.specs.declared.name.ValueId.{ValueId}
use Rattle.ir_types.specs.declared.memory_type.TypeId.{TypeId}
use Rattle.ir_types.specs.declared.inst.Operand.{Operand}
use Rattle.ir_types.specs.declared.inst.Inst.{Inst}
use Rattle.ir_types.specs.Names.{name_at}
use Rattle.ir_types.specs.TypeNodes.{TypeNode, names_used}
use Rattle.ir_types.specs.Offsets.{Definitions}
use Rattle.ir_types.specs.Denotes.{name_in, operand_in, inst_in}
use Rattle.ir_types.specs.Tree.{OperandTree, InstTree, global}
use Rattle.ir_types.specs.Used.{types_in}
use Rattle.ir_reader_types.specs.Tables.{tables_in, nodes_there, definitions_of, Grows}
use Rattle.ir_reader_types.specs.Uses.{Uses}
use Rattle.ir_reader_values.specs.declared.scope.Scope.{Scope}

-- the definitions of names of types
unfoldable pub definitions : Scope → Definitions
definitions s = definitions_of s.tables

-- all lists have grown at their ends, and the definitions are the same
pub record Widens (old new : Scope) : Type 0 where
  pub names : Extends old.names new.names
  pub tables : Grows old.tables new.tables
  pub definitions : definitions new ≡ definitions old

-- the nodes of a memory type
abbrev pub nodes_seen : Scope → TypeId → List TypeNode
nodes_seen s id = nodes_there s.tables id

-- the name of a symbol
abbrev pub symbol_seen : Scope → ℕ → Name
symbol_seen s id = name_at s.tables.symbols id

-- a local name
abbrev pub name_seen : Scope → ValueId → Name
name_seen s id = name_in s.names id

-- an operand
abbrev pub operand_seen : Scope → Operand → OperandTree
operand_seen s a = operand_in (tables_in s.tables) s.names a

-- an instruction
abbrev pub inst_seen : Scope → Inst → InstTree
inst_seen s i = inst_in (tables_in s.tables) s.names i

-- the new tables have what operands use
abbrev pub OperandsUse : Scope → List OperandTree → Scope → Type 0
OperandsUse old operands new = Uses old.tables [] operands new.tables

-- the new tables have what an instruction uses
abbrev pub InstUses : Scope → InstTree → Scope → Type 0
InstUses old i new = Uses old.tables (types_in i.kind) i.args new.tables

-- one thing stays what it is
abbrev pub IsSteady : {X Y : Type 0} → (Scope → X → Y) → Scope → X → Type 0
IsSteady view s x = (later : Scope) → Widens s later → view later x ≡ view s x

-- and all of a list do
abbrev pub AreSteady : {X Y : Type 0} → (Scope → X → Y) → Scope → List X → Type 0
AreSteady view s xs = (later : Scope) → Widens s later → map (view later) xs ≡ map (view s) xs

-- what was read stays what it is in all later scopes
abbrev pub Stays : {X Y Z : Type 0} → (Scope → X → Y) → Scope → Result (X × Z) SyntaxFault → Type 0
Stays view s (Ok x) = IsSteady view s x.0
Stays view s (Err e) = Unit {0}

-- the result, seen by view, is what the form reads of these tokens
abbrev pub ReadsAs : {X Y : Type 0} → (X → Y) → Result (X × Cursor) SyntaxFault → Form Y → Cursor → Type 0
ReadsAs view r form tokens = Gives (λ x. (view x.0, left x.1)) r (read form (left tokens))

-- the result, seen by view in the new scope, is what the form over the old definitions reads of these tokens
abbrev pub ReadsOver : {X Y : Type 0} → (Scope → X → Y) → (Definitions → Form Y) → Cursor → Scope → Result (X × Cursor) SyntaxFault → Scope → Type 0
ReadsOver view form tokens old r new = Gives (λ x. (view new x.0, left x.1)) r (read (form (definitions old)) (left tokens))

-- the new tables have what this operand, seen in them, uses
abbrev pub OperandAdds : Scope → Operand → Scope → Type 0
OperandAdds old a new = OperandsUse old (operand_seen new a ∷ []) new

-- they have what these do
abbrev pub OperandsAdd : Scope → List Operand → Scope → Type 0
OperandsAdd old operands new = OperandsUse old (map (operand_seen new) operands) new

-- they have what the instruction that was read uses
abbrev pub InstAdds : {Z : Type 0} → Scope → Result (Inst × Z) SyntaxFault → Scope → Type 0
InstAdds old r new = IfOk r (λ x. InstUses old (inst_seen new x.0) new)

-- they have what a memory type uses
abbrev pub TypeAdds : Scope → TypeId → Scope → Type 0
TypeAdds old id new = Uses old.tables (names_used (nodes_seen new id)) [] new.tables

-- they have this symbol
abbrev pub SymbolAdds : Scope → ℕ → Scope → Type 0
SymbolAdds old id new = OperandsUse old (global (symbol_seen new id) 0 ∷ []) new
