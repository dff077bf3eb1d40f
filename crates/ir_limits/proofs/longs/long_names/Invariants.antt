use Rattle.std.proofs.Common.{◌≡◌, take, map}
use Rattle.ir_types.specs.declared.memory_type.TypeName.{TypeName}
use Rattle.ir_limits.specs.Longs.{longs_of}
use Rattle.ir_limits.proofs.longs.long_names.Given as goal

abbrev pub invariant-loop-ty : goal.invariant-loop-ty
invariant-loop-ty l = l.longs.items ≡ longs_of (map (λ (n : TypeName). n.name) l.names) (take l.ty-index l.types)
