-- How wide the numbers of a type are.
use Rattle.std.proofs.Common.{◌≤◌, ◌<◌, ℕ, lit<, lit≤}
use Rattle.ir_types.specs.declared.inst.Ty.{Ty}
use Rattle.ir_types.specs.declared.inst.Ty.TheVariants.{Int, Ptr, Vector, Void}
use Rattle.ir_types.specs.ValueForms.{width_of}
use Rattle.ir_shape.specs.Shape.{IsOneOf, widths, IsType}
use Rattle.ir_shape.proofs.Among.{of_each}

-- a width that is not greater than that of a word
abbrev pub IsWidth : ℕ → Type 0
IsWidth w = (0 < w) × (w ≤ 64)

-- each width is from 1 to 64
pub width_within : (w : ℕ) → IsOneOf widths w → IsWidth w
width_within w h = of_each IsWidth widths w ((lit< tt, lit≤ tt), ((lit< tt, lit≤ tt), ((lit< tt, lit≤ tt), ((lit< tt, lit≤ tt), ((lit< tt, lit≤ tt), tt))))) h

-- and so is that of a type
pub type_within : (t : Ty) → IsType t → IsWidth (width_of t)
type_within (Int w) h = width_within w h
type_within Ptr h = (lit< tt, lit≤ tt)
type_within (Vector n w) h = (lit< tt, lit≤ tt)
type_within Void h = absurd h
