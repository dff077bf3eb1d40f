-- The states of a run.
use Rattle.std.specs.Prelude.{ℕ, List, Option, Some, None, if◌then◌else◌}
use Rattle.ir_types.specs.declared.name.Name.{Name}
use Rattle.ir_types.specs.Names.{same_name}
use Rattle.ir_meaning.specs.declared.value.Pointer.{Pointer}
use Rattle.ir_meaning.specs.declared.value.Value.{Value}
use Rattle.ir_meaning.specs.Values.{Typed}
use Rattle.ir_meaning.specs.Memory.{Memory}

-- the values of the local names that have one
abbrev pub Env : Type 0
Env = Name → Option Value

abbrev pub no_values : Env
no_values name = None

-- the same values, but for one name
abbrev pub set_value : Env → Name → Value → Env
set_value env name v other = if same_name other name then Some v else env other

-- where a function is carried out: its name, that of a block, the place in it of the next instruction (of a caller's frame, of its call), and
-- the values of the local names
pub record Frame : Type 0 where
  pub function : Name
  pub block : Name
  pub place : ℕ
  pub env : Env

-- what an outside call may write at an address
pub data Content : Type 0 where
  -- a number, modulo 256
  number : ℕ → Content
  -- a byte that is poison
  poison : Content
  -- the eight bytes of a pointer, whose address counts modulo 2^64
  whole : Pointer → Content

-- what it writes, and where
pub record Piece : Type 0 where
  pub address : ℕ
  pub content : Content

-- an outside call's answer: its value, where it has one, and what it writes, in order
pub record Reply : Type 0 where
  pub value : Option Value
  pub pieces : List Piece

-- what is still to come from outside: replies to calls, and numbers for `freeze`
pub record World : Type 0 where
  pub replies : List Reply
  pub numbers : List ℕ

-- an outside call: the function's name, the arguments, and the memory before it
pub record Event : Type 0 where
  pub name : Name
  pub args : List Typed
  pub memory : Memory

-- a run that goes on: the frame at work, its callers' frames, the nearest first, the memory, what is left of the world, and the events so far, the
-- first one first
pub record Running : Type 0 where
  pub frame : Frame
  pub callers : List Frame
  pub memory : Memory
  pub world : World
  pub events : List Event

-- a run that has returned: its value, where it has one, the memory, and the events
pub record Ended : Type 0 where
  pub value : Option Typed
  pub memory : Memory
  pub events : List Event

-- a state: a run that goes on, one that has returned, or one that is undefined
pub data State : Type 0 where
  Live : Running → State
  Over : Ended → State
  Wrong : State
