-- What the local names of a function are given to.
use Rattle.std.specs.Prelude.{ℕ, suc, ◌+◌, Bool, true, false, List, [], ◌∷◌, ◌++◌, map, length, Some, None}
use Rattle.ir_types.specs.declared.name.Name.{Name}
use Rattle.ir_types.specs.declared.name.Name.TheVariants.{Text, Number}
use Rattle.ir_types.specs.declared.inst.Ty.{Ty}
use Rattle.ir_types.specs.Tree.{InstTree, BlockTree, ParamTree, FunctionTree}

-- what a local name is given to: a block, or a value of a type
pub data Given : Type 0 where
  block : Given
  value : Ty → Given

-- a local name where it is given: the number of the instruction, 0 in the head
pub record Definition : Type 0 where
  pub place : ℕ
  pub name : Name
  pub given : Given

-- of the parameters
abbrev pub of_params : List ParamTree → List Definition
of_params ps = map (λ (p : ParamTree). record { place = 0; name = p.name; given = value p.ty }) ps

-- of the results, where the first instruction has this number
abbrev pub of_results : ℕ → List InstTree → List Definition
of_results n [] = []
of_results n (i ∷ is) = elim i.result [ Some r ↦ record { place = n; name = r; given = value i.ty } ∷ of_results (suc n) is | None ↦ of_results (suc n) is ]

-- of the blocks and what is in them; a block's name is given where its first instruction stands
abbrev pub of_blocks : ℕ → List BlockTree → List Definition
of_blocks n [] = []
of_blocks n (b ∷ bs) = record { place = n; name = b.name; given = block } ∷ (of_results n b.insts ++ of_blocks (n + length b.insts) bs)

-- of a function, in the text's order
abbrev pub definitions_of : FunctionTree → List Definition
definitions_of f = of_params f.params ++ of_blocks 0 f.body

-- their names
abbrev pub names_of : List Definition → List Name
names_of ds = map (λ (d : Definition). d.name) ds

-- whether a name is a text
abbrev pub is_text : Name → Bool
is_text (Text s) = true
is_text (Number n) = false
