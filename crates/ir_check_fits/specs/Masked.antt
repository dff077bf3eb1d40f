-- Masked accesses.
use Rattle.std.specs.Prelude.{Option, Some, None}
use Rattle.ir_intrinsics.specs.Intrinsics.{Intrinsic, minimum_maximum, reduction, masked_load, masked_store, lifetime, Meant}
use Rattle.ir_check_fits.specs.declared.masked.Masked.{Masked}
use Rattle.ir_check_fits.specs.declared.masked.Masked.TheVariants.{Load, Store}

-- the access that an intrinsic is
abbrev pub masked_by : Intrinsic → Option Masked
masked_by (minimum_maximum op) = None
masked_by (reduction op) = None
masked_by masked_load = Some Load
masked_by masked_store = Some Store
masked_by lifetime = None

-- the access that a name with a meaning is
abbrev pub masked_in : Option Meant → Option Masked
masked_in (Some m) = masked_by m.intrinsic
masked_in None = None
