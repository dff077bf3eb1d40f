-- What is counted and mentioned in what stands in a module's lists, by places.
use Rattle.std.specs.Prelude.{◌≡◌, ℕ, List, map, length, sum_by, Option}
use Rattle.text_forms.specs.Nested.{concat}
use Rattle.text_lex.specs.declared.fault.Count.{Count}
use Rattle.text_lex.specs.declared.fault.Count.TheVariants.{Functions, Blocks, Instructions}
use Rattle.ir_types.specs.declared.name.Name.{Name}
use Rattle.ir_types.specs.declared.name.ValueId.{ValueId}
use Rattle.ir_types.specs.declared.memory_type.MemTy.{MemTy}
use Rattle.ir_types.specs.declared.memory_type.TypeName.{TypeName}
use Rattle.ir_types.specs.declared.inst.Operand.{Operand}
use Rattle.ir_types.specs.declared.inst.Inst.{Inst}
use Rattle.ir_types.specs.declared.module.Param.{Param}
use Rattle.ir_types.specs.declared.module.Block.{Block}
use Rattle.ir_types.specs.declared.module.Function.{Function}
use Rattle.ir_types.specs.Tree.{ParamTree}
use Rattle.ir_types.specs.Denotes.{Tables, name_in, operand_in, inst_in, block_in, param_in, function_in}
use Rattle.ir_limits.specs.Limits.{above, name_count, passed_by}
use Rattle.ir_limits.specs.Mentioned.{in_operands, in_entries, in_inst, in_block}

-- ---- counts

-- the instructions of some functions
abbrev pub instructions_among : List Function → ℕ
instructions_among fs = sum_by (λ (f : Function). sum_by (λ (b : Block). length b.insts) f.body) fs

-- the first limit that so many functions, blocks and instructions, or a name of so many bytes, pass
abbrev pub above_limits : (functions blocks instructions : ℕ) → Option ℕ → Option (Count × ℕ)
above_limits functions blocks instructions long = above Functions 4096 functions (above Blocks 65536 blocks (above Instructions 1000000 instructions (name_count long)))

-- whatever tables the functions stand over, this is the first limit that they, or a name of so many bytes, pass
abbrev pub IsPassedBy : List Function → Option ℕ → Option (Count × ℕ) → Type 0
IsPassedBy fs long p = (t : Tables) → p ≡ passed_by (map (function_in t) fs) long

-- ---- names that are mentioned

-- in operands behind one another
abbrev pub in_operands_at : Tables → List Name → List Operand → List Name
in_operands_at t ns args = in_operands (map (operand_in t ns) args)

-- in the entries of a phi
abbrev pub in_entries_at : Tables → List Name → List Operand → List ValueId → List Name
in_entries_at t ns args labels = in_entries (map (operand_in t ns) args) (map (name_in ns) labels)

-- in instructions behind one another
abbrev pub in_insts_at : Tables → List Name → List Inst → List Name
in_insts_at t ns insts = concat (map in_inst (map (inst_in t ns) insts))

-- in blocks behind one another
abbrev pub in_blocks_at : Tables → List Name → List Block → List Name
in_blocks_at t ns blocks = concat (map in_block (map (block_in t ns) blocks))

-- those of parameters
abbrev pub params_at : List Name → List Param → List Name
params_at ns params = map (λ (p : ParamTree). p.name) (map (param_in ns) params)

-- ---- tables

-- the names of types, without what they stand for
abbrev pub names_alone : List TypeName → List Name
names_alone ns = map (λ (n : TypeName). n.name) ns

-- these symbols, names of types and types
abbrev pub tables_over : List Name → List TypeName → List MemTy → Tables
tables_over symbols names types = record { symbols = symbols; type_names = names_alone names; types = types }
