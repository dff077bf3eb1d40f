use Rattle.ir_sizes.proofs.begins.begins_of_type.Goals as goal

pub returns-in-Struct-clause-are : goal.returns-in-Struct-clause-are
returns-in-Struct-clause-are c = let h = rw c.as_slice.ensures at c.begins_of_members.ensures.are in rw c.in-Struct.is h
