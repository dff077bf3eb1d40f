-- Things without a name take numbers: parameters first, then the blocks in the text's order, each before its results.
use Rattle.std.specs.Prelude.{ℕ, List, ◌+◌, ◌^◌, max, nat_lt, Option, Some, None, if◌then◌else◌}
use Rattle.text_forms.specs.Reading.{◌>>=◌}
use Rattle.text_forms.specs.Walk.{walk}
use Rattle.ir_types.specs.declared.name.Name.{Name}
use Rattle.ir_types.specs.declared.name.Name.TheVariants.{Text, Number}
use Rattle.ir_types.specs.declared.inst.Ty.{Ty}
use Rattle.ir_types.specs.declared.inst.Ty.TheVariants.{Void}
use Rattle.ir_types.specs.FunctionForms.{named_by}
use Rattle.ir_types.specs.Tree.{InstTree, BlockTree, ParamTree, FunctionTree, WrittenParam, WrittenBlock, WrittenFunction, Item, head_line, comdat_line, type_item, variable_item, function_item, attribute_line, metadata_line}

-- the number for the next thing without a name, behind a name: one more than the greatest number so far, and 0 at first
abbrev pub next_after : ℕ → Name → ℕ
next_after next (Text s) = next
next_after next (Number n) = max next (n + 1)

-- the name of a thing, which without one takes the next number, where that has 32 bits; and the next number behind it
abbrev pub named : ℕ → Option Name → Option (Name × ℕ)
named next (Some n) = Some (n, next_after next n)
named next None = if nat_lt next (2 ^ 32) then Some (Number next, next + 1) else None

-- the name of a result of this type: one of type `Void` without a name takes no number
abbrev pub named_result : ℕ → Ty → Option Name → Option (Option Name × ℕ)
named_result next Void None = Some (None, next)
named_result next t None = named next None >>= λ (n, later). Some (Some n, later)
named_result next t (Some n) = named next (Some n) >>= λ (n, later). Some (Some n, later)

-- an instruction, whose result takes a number where it has no name
abbrev pub numbered_inst : ℕ → InstTree → Option (InstTree × ℕ)
numbered_inst next i = named_result next i.ty i.result >>= λ (n, later). Some (named_by i n, later)

-- a block, before its results
abbrev pub numbered_block : ℕ → WrittenBlock → Option (BlockTree × ℕ)
numbered_block next b = named next b.label >>= λ (n, first). walk numbered_inst first b.insts >>= λ (is, later). Some (record { name = n; insts = is }, later)

-- a parameter
abbrev pub numbered_param : ℕ → WrittenParam → Option (ParamTree × ℕ)
numbered_param next p = named next p.name >>= λ (n, later). Some (record { ty = p.ty; kept = p.kept; name = n }, later)

-- a function with these parameters and blocks
abbrev pub with_parts : WrittenFunction → List ParamTree → List BlockTree → FunctionTree
with_parts f params body = record { name = f.name; before = f.before; ret = f.ret; params = params; varargs = f.varargs; after = f.after; body = body }

-- each function counts from 0
abbrev pub numbered_function : WrittenFunction → Option FunctionTree
numbered_function f = walk numbered_param 0 f.params >>= λ (params, first). walk numbered_block first f.body >>= λ (body, last). Some (with_parts f params body)

-- an item: only in functions something takes a number
abbrev pub numbered_item : Unit {0} → Item WrittenFunction → Option (Item FunctionTree × Unit {0})
numbered_item u (head_line xs) = Some (head_line xs, u)
numbered_item u (comdat_line xs) = Some (comdat_line xs, u)
numbered_item u (type_item n t) = Some (type_item n t, u)
numbered_item u (variable_item v) = Some (variable_item v, u)
numbered_item u (function_item f) = numbered_function f >>= λ g. Some (function_item g, u)
numbered_item u (attribute_line xs) = Some (attribute_line xs, u)
numbered_item u (metadata_line xs) = Some (metadata_line xs, u)

-- a module's items: each function by itself
abbrev pub numbered_module : List (Item WrittenFunction) → Option (List (Item FunctionTree))
numbered_module items = walk numbered_item tt items >>= λ (numbered, u). Some numbered
