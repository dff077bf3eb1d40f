-- The grammar of values, and what a written value is at a type.
use Rattle.std.specs.Prelude.{ℕ, Bool, true, false, List, map, replicate, codes, ◌==◌, Option, Some, None, if◌then◌else◌}
use Rattle.std.specs.List.{list_all}
use Rattle.text_forms.specs.declared.TokenKind.TheVariants.{Number, Comma, LeftParen, RightParen, Less, Greater}
use Rattle.text_forms.specs.Form.{Form, one, pair, either, mapped}
use Rattle.text_forms.specs.Reading.{◌>>=◌}
use Rattle.text_forms.specs.Combined.{word, behind, after_mark, between, some, commas}
use Rattle.ir_types.specs.declared.name.Name.{Name}
use Rattle.ir_types.specs.declared.inst.Ty.{Ty}
use Rattle.ir_types.specs.declared.inst.Ty.TheVariants.{Int, Ptr, Vector, Void}
use Rattle.ir_types.specs.Written.{number_at, fits_width}
use Rattle.ir_types.specs.Offsets.{Definitions, offset_of}
use Rattle.ir_types.specs.TypeNodes.{TypeNode}
use Rattle.ir_types.specs.Tree.{OperandTree, local, number, null, poison, lanes, global, out_of_range}
use Rattle.ir_types.specs.TypeForms.{local_name, global_name, width, value_type, inst_memory}
use Rattle.ir_types.specs.FlagForms.{three_flags}

-- a constant lane as it is written
pub data WrittenLane : Type 0 where
  -- a number, by its digits and a sign or none
  lane_digits : List ℕ → WrittenLane
  -- `true`
  lane_true : WrittenLane
  -- `false`
  lane_false : WrittenLane
  -- `poison`
  lane_poison : WrittenLane

-- number | true | false | poison
unfoldable pub lane : Form WrittenLane
lane =
    either (mapped lane_digits (one Number))
    (either (word (codes "true") lane_true)
    (either (word (codes "false") lane_false) (word (codes "poison") lane_poison)))

-- a value as it is written
pub data WrittenValue : Type 0 where
  -- a local by its name
  named : Name → WrittenValue
  -- a number, by its digits and a sign or none
  digits : List ℕ → WrittenValue
  -- `true`
  yes : WrittenValue
  -- `false`
  no : WrittenValue
  -- `null`
  null_word : WrittenValue
  -- `poison`
  poison_word : WrittenValue
  -- `zeroinitializer`
  zeros : WrittenValue
  -- one lane, with its type, for all
  splat : Ty × WrittenLane → WrittenValue
  -- lanes, each with its type
  lane_list : List (Ty × WrittenLane) → WrittenValue
  -- a symbol
  symbol : Name → WrittenValue
  -- a symbol that is stepped through as a memory type, by indexes, each a number behind its width
  stepped : List TypeNode × (Name × List (ℕ × List ℕ)) → WrittenValue

-- a value that is one word
unfoldable pub constant_word : Form WrittenValue
constant_word =
    either (word (codes "true") yes)
    (either (word (codes "false") no)
    (either (word (codes "null") null_word)
    (either (word (codes "poison") poison_word) (word (codes "zeroinitializer") zeros))))

-- T V of a lane
unfoldable pub typed_lane : Form (Ty × WrittenLane)
typed_lane = pair value_type lane

-- , iN number
abbrev pub comma_index : Form (ℕ × List ℕ)
comma_index = after_mark Comma (pair width (one Number))

-- getelementptr [inbounds] [nuw] [nusw] ( M, ptr @name, iN number, .. ): the flags are read and not kept
unfoldable pub constant_offset : Form (List TypeNode × (Name × List (ℕ × List ℕ)))
constant_offset =
    behind (codes "getelementptr") (mapped (λ (_, offset). offset) (pair three_flags (between LeftParen RightParen (pair inst_memory (pair (after_mark Comma (behind (codes "ptr") global_name)) (some comma_index))))))

-- V := %name | number | true | false | null | poison | zeroinitializer | splat ( T V ) | < T V, .. > | @name | getelementptr .. ( M, ptr @name, .. )
unfoldable pub value : Form WrittenValue
value =
    either (mapped named local_name)
    (either (mapped digits (one Number))
    (either constant_word
    (either (mapped splat (behind (codes "splat") (between LeftParen RightParen typed_lane)))
    (either (mapped lane_list (between Less Greater (commas typed_lane)))
    (either (mapped symbol global_name) (mapped stepped constant_offset))))))

-- the bits of a type's numbers; where there is no width, 64
abbrev pub width_of : Ty → ℕ
width_of (Int w) = w
width_of Ptr = 64
width_of (Vector n w) = 64
width_of Void = 64

-- a lane of w bits: its number modulo 2^w, none where it is poison
abbrev pub lane_at : ℕ → WrittenLane → Option ℕ
lane_at w (lane_digits s) = Some (number_at w s)
lane_at w lane_true = Some 1
lane_at w lane_false = Some 0
lane_at w lane_poison = None

-- whether a lane of w bits is in range
abbrev pub lane_fits : ℕ → WrittenLane → Bool
lane_fits w (lane_digits s) = fits_width w s
lane_fits w lane_true = true
lane_fits w lane_false = true
lane_fits w lane_poison = true

-- an index with its width, modulo 2^w
abbrev pub index_of : ℕ × List ℕ → ℕ × ℕ
index_of (w, s) = (w, number_at w s)

-- whether an index is in its width's range
abbrev pub index_fits : ℕ × List ℕ → Bool
index_fits (w, s) = fits_width w s

-- this operand where its numbers are in range, else one that says that they aren't
abbrev pub if_in_range : Bool → OperandTree → OperandTree
if_in_range fits operand = if fits then operand else out_of_range None

-- the type is iN for this N
abbrev pub is_int : ℕ → Ty → Bool
is_int w (Int v) = v == w
is_int w Ptr = false
is_int w (Vector n v) = false
is_int w Void = false

-- `zeroinitializer` at a type: a vector's lanes are all 0
abbrev pub zeros_at : Ty → Option OperandTree
zeros_at (Vector n w) = Some (lanes (replicate n (Some 0)))
zeros_at t = None

-- one lane for all at a type: a vector's, whose element type is written
abbrev pub splat_at : Ty → Ty × WrittenLane → Option OperandTree
splat_at (Vector n w) (t, l) = if is_int w t then Some (if_in_range (lane_fits w l) (lanes (replicate n (lane_at w l)))) else None
splat_at t x = None

-- lanes at a type: a vector's, whose element type is written with each; how many they are is not looked at
abbrev pub lanes_at : Ty → List (Ty × WrittenLane) → Option OperandTree
lanes_at (Vector n w) xs =
    if list_all (λ (t, _). is_int w t) xs
    then Some (if_in_range (list_all (λ (_, l). lane_fits w l) xs) (lanes (map (λ (_, l). lane_at w l) xs)))
    else None
lanes_at t xs = None

-- a written value at a type, where names of types are defined so: a number in its type's range is held modulo 2^w; lanes have a reading at
-- vectors of their type alone; a symbol that is stepped through is counted in bytes
abbrev pub operand_at : Definitions → Ty → WrittenValue → Option OperandTree
operand_at defs t (named n) = Some (local n)
operand_at defs t (digits s) = Some (if_in_range (fits_width (width_of t) s) (number (number_at (width_of t) s)))
operand_at defs t yes = Some (number 1)
operand_at defs t no = Some (number 0)
operand_at defs t null_word = Some null
operand_at defs t poison_word = Some poison
operand_at defs t zeros = zeros_at t
operand_at defs t (splat x) = splat_at t x
operand_at defs t (lane_list xs) = lanes_at t xs
operand_at defs t (symbol n) = Some (global n 0)
operand_at defs t (stepped (m, (n, is))) =
    offset_of defs m (map index_of is) >>= λ o. Some (if list_all index_fits is then global n o else out_of_range (Some n))
