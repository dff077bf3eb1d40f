-- The limits on what a module has.
use Rattle.std.specs.Prelude.{ℕ, nat_lt, List, [], ◌∷◌, length, sum_by, Option, Some, None, if◌then◌else◌}
use Rattle.std.specs.List.{filter_map}
use Rattle.text_lex.specs.declared.fault.Count.{Count}
use Rattle.text_lex.specs.declared.fault.Count.TheVariants.{Functions, Blocks, Instructions, Name as NameBytes}
use Rattle.ir_types.specs.declared.name.Name.{Name}
use Rattle.ir_types.specs.declared.name.Name.TheVariants.{Text, Number}
use Rattle.ir_types.specs.Tree.{BlockTree, FunctionTree, Item}
use Rattle.ir_types.specs.Collected.{as_function}
use Rattle.ir_limits.specs.Mentioned.{in_items}

-- the bytes of a name that is no number, where these are more than 255
abbrev pub long_name : Name → Option ℕ
long_name (Text s) = if nat_lt 255 (length s) then Some (length s) else None
long_name (Number n) = None

-- what is there, or else what the other has
abbrev pub or_else : Option ℕ → Option ℕ → Option ℕ
or_else None other = other
or_else (Some n) other = Some n

-- the first that a function finds in a list
abbrev pub first_of : {A : Type 0} → (A → Option ℕ) → List A → Option ℕ
first_of f [] = None
first_of f (x ∷ xs) = or_else (f x) (first_of f xs)

-- the bytes of the first name that has too many
abbrev pub first_long : List Name → Option ℕ
first_long names = first_of long_name names

-- the blocks of some functions
abbrev pub blocks_of : List FunctionTree → ℕ
blocks_of fs = sum_by (λ (f : FunctionTree). length f.body) fs

-- their instructions
abbrev pub instructions_of : List FunctionTree → ℕ
instructions_of fs = sum_by (λ (f : FunctionTree). sum_by (λ (b : BlockTree). length b.insts) f.body) fs

-- the count, where it is above a limit, and else what is found next
abbrev pub above : Count → (limit n : ℕ) → Option (Count × ℕ) → Option (Count × ℕ)
above count limit n next = if nat_lt limit n then Some (count, n) else next

-- a long name's count
abbrev pub name_count : Option ℕ → Option (Count × ℕ)
name_count None = None
name_count (Some n) = Some (NameBytes, n)

-- The first limit that these functions, or a name of so many bytes, pass, and what was counted.
abbrev pub passed_by : List FunctionTree → Option ℕ → Option (Count × ℕ)
passed_by fs long = above Functions 4096 (length fs) (above Blocks 65536 (blocks_of fs) (above Instructions 1000000 (instructions_of fs) (name_count long)))

-- The first limit that a module's items pass, and what was counted: functions, blocks, instructions, and the bytes of the first long name.
abbrev pub limit_passed : List (Item FunctionTree) → Option (Count × ℕ)
limit_passed items = passed_by (filter_map as_function items) (first_long (in_items items))
