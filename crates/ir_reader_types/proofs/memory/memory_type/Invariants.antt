use Rattle.std.proofs.Common.{◌≡◌, ℕ, ◌≤◌, length}
use Rattle.text_forms.specs.View.{Extends}
use Rattle.text_forms.specs.Reading.{read}
use Rattle.text_forms.specs.Gives.{left}
use Rattle.ir_types.specs.TypeForms.{memory_type}
use Rattle.ir_reader_types.specs.TypeTable.{names_of, LooksUpSome}
use Rattle.ir_reader_types.specs.Frames.{goes_on, Holds, Looked}
use Rattle.ir_reader_types.proofs.memory.memory_type.Given as goal

abbrev pub decreases-types : goal.decreases-types
decreases-types l = length (left l.rest)

abbrev pub invariant-types : goal.invariant-types
invariant-types l = record {
  types_grow : Extends l.fn.types.items l.types.items;
  names_grow : Extends l.fn.names l.names;
  looks_up : LooksUpSome l.fn.names l.names;
  holds : Holds (names_of l.names) l.types.items l.stack l.done;
  looked : Looked l.fn.names l.names l.types.items l.stack l.done;
  shorter : length (left l.rest) ≤ length (left l.fn.tokens);
  goes : (d : ℕ) → length (left l.fn.tokens) ≤ d → goes_on d (names_of l.names) l.types.items l.stack l.done (left l.rest) ≡ read (memory_type d) (left l.fn.tokens);
}
