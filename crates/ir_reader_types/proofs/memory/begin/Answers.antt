use Rattle.std.proofs.Common.{[], ◌∷◌, length, refl, sym}
use Rattle.std.proofs.lemmas.Result.{err_from_is_err_and}
use Rattle.text_forms.specs.declared.cursor.Cursor.{Cursor}
use Rattle.text_forms.specs.Machine.{head}
use Rattle.text_forms.specs.Gives.{left}
use Rattle.text_forms.proofs.Many.{shorter}
use Rattle.text_forms.proofs.Machine.{head_takes}
use Rattle.ir_types.specs.TypeNodes.{array, opening, nodes_from, all_nodes}
use Rattle.ir_types.specs.TypeForms.{type_parts}
use Rattle.ir_types.proofs.Decides.{parts_decide}
use Rattle.ir_reader_types.specs.declared.heads.Begun.{Begun}
use Rattle.ir_reader_types.specs.TypeTable.{names_of}
use Rattle.ir_reader_types.specs.Frames.{in_array, in_struct}
use Rattle.ir_reader_types.specs.Heads.{begun_nodes}
use Rattle.ir_reader_types.proofs.Holding.{names_extend, refuses, alone_at, alone_nodes, holds_done, holds_array, holds_struct}
use Rattle.ir_reader_types.proofs.Looking.{looked_done, looked_inside}
use Rattle.ir_reader_types.proofs.Going.{begins_done, begins_inside, begins_nothing}
use Rattle.ir_reader_types.proofs.memory.begin.Goals as goal

pub returns-in_err-begun-clause-goes : goal.returns-in_err-begun-clause-goes
returns-in_err-begun-clause-goes c = λ d le.
    let p = err_from_is_err_and c.from_residual.result c.from_residual.ensures.1 in
    rw (p.1, p.2) (refuses (λ (x : Begun × Cursor). (begun_nodes (names_of c.head.new.names) x.0, left x.1)) c.in_err-begun.field-0.0 _ _ (begins_nothing d (names_of c.args.names.now) c.args.types.now.items c.args.stack.now (left c.args.tokens) le) c.in_err-begun.ensures.reads)

pub returns-in_ok-id-in-Whole-clause-goes : goal.returns-in_ok-id-in-Whole-clause-goes
returns-in_ok-id-in-Whole-clause-goes c = λ d le.
    let later = names_of c.head.new.names in
    let types = c.args.types.now.items in
    let r = rw c.in-Whole.is at c.in_ok-begun.ensures.reads in
    let a = rw c.in-Whole.is at c.in_ok-begun.ensures.alone in
    sym (rw c.in_ok-id-in-Whole.ensures.ok (begins_done d (names_of c.args.names.now) later types c.args.stack.now c.in-Whole.ty c.in_ok-id-in-Whole.id (nodes_from later [] c.in-Whole.ty) (left c.args.tokens) (left c.in_ok-begun.rest) c.requires.types_are c.requires.frames_before
    (names_extend c.args.names.now c.head.new.names c.head.ensures.grows) c.in_ok-id-in-Whole.ensures.place (alone_nodes later (all_nodes later [] types) c.in-Whole.ty a) le r))

pub returns-in_ok-id-in-Whole-clause-holds : goal.returns-in_ok-id-in-Whole-clause-holds
returns-in_ok-id-in-Whole-clause-holds c =
    let later = names_of c.head.new.names in
    let types = c.args.types.now.items in
    let a = rw c.in-Whole.is at c.in_ok-begun.ensures.alone in
    rw c.in_ok-id-in-Whole.ensures.ok (holds_done (names_of c.args.names.now) later types c.args.stack.now c.in-Whole.ty c.in_ok-id-in-Whole.id c.requires (names_extend c.args.names.now c.head.new.names c.head.ensures.grows) (alone_at later (length types) c.in-Whole.ty a) c.in_ok-id-in-Whole.ensures.place)

pub returns-in_ok-id-in-Whole-clause-shorter : goal.returns-in_ok-id-in-Whole-clause-shorter
returns-in_ok-id-in-Whole-clause-shorter c = shorter (head type_parts) (left c.args.tokens) (begun_nodes (names_of c.head.new.names) c.in_ok-begun.begun, left c.in_ok-begun.rest) (head_takes type_parts parts_decide) c.in_ok-begun.ensures.reads

pub returns-in_ok-push_array-in-Array-clause-goes : goal.returns-in_ok-push_array-in-Array-clause-goes
returns-in_ok-push_array-in-Array-clause-goes c = λ d le.
    let later = names_of c.head.new.names in
    let types = c.args.types.now.items in
    let r = rw c.in-Array.is at c.in_ok-begun.ensures.reads in
    sym (rw c.in_ok-push_array-in-Array.ensures.ok (begins_inside d (names_of c.args.names.now) later types c.args.stack.now (in_array c.in-Array.count) (array c.in-Array.count ∷ []) (left c.args.tokens) (left c.in_ok-begun.rest) c.requires.types_are c.requires.frames_before
    (names_extend c.args.names.now c.head.new.names c.head.ensures.grows) refl le r))

pub returns-in_ok-push_array-in-Array-clause-holds : goal.returns-in_ok-push_array-in-Array-clause-holds
returns-in_ok-push_array-in-Array-clause-holds c =
    rw c.in_ok-push_array-in-Array.ensures.ok (holds_array (names_of c.args.names.now) (names_of c.head.new.names) c.args.types.now.items c.args.stack.now c.in-Array.count c.requires (names_extend c.args.names.now c.head.new.names c.head.ensures.grows))

pub returns-in_ok-push_array-in-Array-clause-shorter : goal.returns-in_ok-push_array-in-Array-clause-shorter
returns-in_ok-push_array-in-Array-clause-shorter c = shorter (head type_parts) (left c.args.tokens) (begun_nodes (names_of c.head.new.names) c.in_ok-begun.begun, left c.in_ok-begun.rest) (head_takes type_parts parts_decide) c.in_ok-begun.ensures.reads

pub returns-in_ok-push_struct-in-Struct-clause-goes : goal.returns-in_ok-push_struct-in-Struct-clause-goes
returns-in_ok-push_struct-in-Struct-clause-goes c = λ d le.
    let later = names_of c.head.new.names in
    let types = c.args.types.now.items in
    let r = rw c.in-Struct.is at c.in_ok-begun.ensures.reads in
    sym (rw c.in_ok-push_struct-in-Struct.ensures.ok (begins_inside d (names_of c.args.names.now) later types c.args.stack.now (in_struct c.in-Struct.packed []) (opening c.in-Struct.packed ∷ []) (left c.args.tokens) (left c.in_ok-begun.rest) c.requires.types_are c.requires.frames_before
    (names_extend c.args.names.now c.head.new.names c.head.ensures.grows) refl le r))

pub returns-in_ok-push_struct-in-Struct-clause-holds : goal.returns-in_ok-push_struct-in-Struct-clause-holds
returns-in_ok-push_struct-in-Struct-clause-holds c =
    rw c.in_ok-push_struct-in-Struct.ensures.ok (holds_struct (names_of c.args.names.now) (names_of c.head.new.names) c.args.types.now.items c.args.stack.now c.in-Struct.packed c.requires (names_extend c.args.names.now c.head.new.names c.head.ensures.grows))

pub returns-in_ok-id-in-Whole-clause-names : goal.returns-in_ok-id-in-Whole-clause-names
returns-in_ok-id-in-Whole-clause-names c = λ base k.
    let later = names_of c.head.new.names in
    let types = c.args.types.now.items in
    let a = rw c.in-Whole.is at c.in_ok-begun.ensures.alone in
    let l = rw c.in-Whole.is at c.in_ok-begun.ensures.names in
    rw c.in_ok-id-in-Whole.ensures.ok (looked_done base c.args.names.now c.head.new.names types c.args.stack.now c.in-Whole.ty c.in_ok-id-in-Whole.id (nodes_from later [] c.in-Whole.ty) c.requires (names_extend c.args.names.now c.head.new.names c.head.ensures.grows)
    c.in_ok-id-in-Whole.ensures.place (alone_nodes later (all_nodes later [] types) c.in-Whole.ty a) l k)

pub returns-in_ok-push_array-in-Array-clause-names : goal.returns-in_ok-push_array-in-Array-clause-names
returns-in_ok-push_array-in-Array-clause-names c = λ base k.
    let l = rw c.in-Array.is at c.in_ok-begun.ensures.names in
    rw c.in_ok-push_array-in-Array.ensures.ok (looked_inside base c.args.names.now c.head.new.names c.args.types.now.items c.args.stack.now (in_array c.in-Array.count) (array c.in-Array.count ∷ []) c.requires (names_extend c.args.names.now c.head.new.names c.head.ensures.grows) refl l k)

pub returns-in_ok-push_struct-in-Struct-clause-names : goal.returns-in_ok-push_struct-in-Struct-clause-names
returns-in_ok-push_struct-in-Struct-clause-names c = λ base k.
    let l = rw c.in-Struct.is at c.in_ok-begun.ensures.names in
    rw c.in_ok-push_struct-in-Struct.ensures.ok (looked_inside base c.args.names.now c.head.new.names c.args.types.now.items c.args.stack.now (in_struct c.in-Struct.packed []) (opening c.in-Struct.packed ∷ []) c.requires (names_extend c.args.names.now c.head.new.names c.head.ensures.grows) refl l k)

pub returns-in_ok-push_struct-in-Struct-clause-shorter : goal.returns-in_ok-push_struct-in-Struct-clause-shorter
returns-in_ok-push_struct-in-Struct-clause-shorter c = shorter (head type_parts) (left c.args.tokens) (begun_nodes (names_of c.head.new.names) c.in_ok-begun.begun, left c.in_ok-begun.rest) (head_takes type_parts parts_decide) c.in_ok-begun.ensures.reads
