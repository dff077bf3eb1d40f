-- A small module, and such as lack one part each of what makes one.
use Rattle.std.specs.Prelude.{ℕ, false, codes, List, [], ◌∷◌, map, Some, None}
use Rattle.ir_types.specs.declared.name.Name.{Name}
use Rattle.ir_types.specs.declared.name.Name.TheVariants.{Text, Number}
use Rattle.ir_types.specs.declared.name.ValueId.{ValueId}
use Rattle.ir_types.specs.declared.inst.Ty.TheVariants.{Int as IntTy, Ptr, Void}
use Rattle.ir_types.specs.declared.inst.BinOp.{BinOp}
use Rattle.ir_types.specs.declared.inst.BinOp.TheVariants.{Add, SMax}
use Rattle.ir_types.specs.declared.inst.Operand.{Operand}
use Rattle.ir_types.specs.declared.inst.Operand.TheVariants.{Local, Int, Global}
use Rattle.ir_types.specs.declared.inst.InstKind.TheVariants.{Binary, Return}
use Rattle.ir_types.specs.declared.inst.Inst.{Inst}
use Rattle.ir_types.specs.declared.memory_type.MemTy.TheVariants.{One, Array}
use Rattle.ir_types.specs.declared.memory_type.NamedType.TheVariants.{Missing as MissingType}
use Rattle.ir_types.specs.declared.memory_type.TypeName.{TypeName}
use Rattle.ir_types.specs.declared.module.Function.{Function}
use Rattle.ir_types.specs.declared.module.Symbol.{Symbol}
use Rattle.ir_types.specs.declared.module.SymbolKind.TheVariants.{Function as FunctionSymbol, Missing}
use Rattle.ir_types.specs.declared.module.Module.{Module}
use Rattle.ir_types.specs.FlagForms.{no_flags}
use Rattle.ir_making.specs.Making.{bare}

-- ---- a module

-- a position
abbrev pub at : ℕ → ValueId
at i = record { 0 = i }

-- the third name is the result of an operator of the first one and 1
abbrev pub counted_by : BinOp → Inst
counted_by op = record (bare (Binary op no_flags) (IntTy 32) (Local (at 0) ∷ Int 1 ∷ []) []) { result = Some (at 2) }

-- a return of the third name
abbrev pub gives_third : Inst
gives_third = bare (Return (IntTy 32)) Void (Local (at 2) ∷ []) []

-- the names of the parameter, the block and the result
abbrev pub three_names : List Name
three_names = map Number (0 ∷ 1 ∷ 2 ∷ [])

-- a function `@f` of these instructions, with these names
abbrev pub of_insts : List Name → List Inst → Function
of_insts names insts = record {
  name = Text (codes "f");
  before = [];
  ret = IntTy 32;
  params = record { ty = IntTy 32; kept = []; name = at 0 } ∷ [];
  varargs = false;
  after = [];
  body = record { name = at 1; insts = insts } ∷ [];
  names = names;
}

-- a symbol `@f` for the function at a place
abbrev pub symbol_for : ℕ → Symbol
symbol_for i = record { name = Text (codes "f"); kind = FunctionSymbol (record { 0 = i }); before = []; after = [] }

-- a module with this function, and this symbol for it
abbrev pub with_function : Function → Symbol → Module
with_function f s = record { head = []; types = []; extents = []; type_names = []; symbols = s ∷ []; functions = f ∷ []; tail = [] }

-- define i32 @f(i32 %0): from %1, which gives %2, one more than %0
abbrev pub example : Module
example = with_function (of_insts three_names (counted_by Add ∷ gives_third ∷ [])) (symbol_for 0)

-- ---- such as are none

-- a name stands in a function's table twice
abbrev pub named_twice : Module
named_twice = with_function (of_insts (map Number (0 ∷ 1 ∷ 2 ∷ 2 ∷ [])) (counted_by Add ∷ gives_third ∷ [])) (symbol_for 0)

-- an array's element stands behind it
abbrev pub part_behind : Module
part_behind = record example { types = Array 2 (record { 0 = 1 }) ∷ One (IntTy 8) ∷ [] }

-- a type has no extent
abbrev pub without_extent : Module
without_extent = record example { types = One (IntTy 8) ∷ [] }

-- a name of a type that nothing defines or uses
abbrev pub stray_type_name : Module
stray_type_name = record example { type_names = record { name = Text (codes "t"); ty = MissingType } ∷ [] }

-- a symbol that nothing defines or uses
abbrev pub stray_symbol : Module
stray_symbol = record example { symbols = symbol_for 0 ∷ record { name = Text (codes "g"); kind = Missing; before = []; after = [] } ∷ [] }

-- a symbol that is only used, with a text
abbrev pub used_with_text : Module
used_with_text =
    record (with_function (of_insts three_names (bare (Return Ptr) Void (Global 1 0 ∷ []) [] ∷ [])) (symbol_for 0)) { symbols = symbol_for 0 ∷ record { name = Text (codes "g"); kind = Missing; before = codes "hidden" ∷ []; after = [] } ∷ [] }

-- the function's symbol stands for another place
abbrev pub other_place : Module
other_place = with_function (of_insts three_names (counted_by Add ∷ gives_third ∷ [])) (symbol_for 1)

-- the table lacks the third name
abbrev pub name_lacking : Module
name_lacking = with_function (of_insts (map Number (0 ∷ 1 ∷ [])) (counted_by Add ∷ gives_third ∷ [])) (symbol_for 0)

-- a block ends with no terminator
abbrev pub without_end : Module
without_end = with_function (of_insts three_names (counted_by Add ∷ [])) (symbol_for 0)

-- an operator that no instruction's word spells
abbrev pub greatest_as_word : Module
greatest_as_word = with_function (of_insts three_names (counted_by SMax ∷ gives_third ∷ [])) (symbol_for 0)
