use Rattle.std.proofs.Common.{◌≡◌, ℕ, List, Some, refl, sym, ◌∙◌, get_or}
use Rattle.std.specs.Prelude.{slice_get}
use Rattle.std.proofs.lemmas.Option.{get_or_from_slice_get}
use Rattle.ir_types.specs.declared.memory_type.TypeId.{TypeId}
use Rattle.ir_types.specs.declared.memory_type.MemTy.TheVariants.{Array, Struct}
use Rattle.ir_sizes.proofs.Stepped.{array_refused, array_step, struct_sized, struct_negative, struct_refused, struct_step}
use Rattle.ir_sizes.proofs.Ahead.{steppable_sized, last_within, member_begins, type_behind, no_parts}
use Rattle.ir_sizes.proofs.step.step_into.Goals as goal

pub returns-in_err-element : goal.returns-in_err-element
returns-in_err-element c = λ names defs p agree h.
    let types = c.args.types.now in
    let extents = c.args.extents.now in
    let leads = c.in_ok-place.ensures names extents p (steppable_sized extents c.args.id h) in
    absurd (last_within types names extents c.args.steps.now p c.args.id c.in_ok-place.place leads c.in_err-element.ensures.lookup.3)

pub returns-in_err-size-in-Array : goal.returns-in_err-size-in-Array
returns-in_err-size-in-Array c = λ names defs p agree h.
    let types = c.args.types.now in
    let extents = c.args.extents.now in
    let b = type_behind types names extents c.args.steps.now p defs agree c.args.id c.in_ok-place.place h (c.in_ok-place.ensures names extents p) c.in_ok-element.field-0.now (Array c.in-Array.field-0 c.in-Array.element) c.in_ok-element.ensures.lookup.3 c.in-Array.is in
    rw c.from_residual-in_err-size-in-Array.ensures
    (array_refused types names extents defs p.types_are p.extents_are agree c.args.id c.args.index h c.in-Array.field-0 c.in-Array.element b.is c.in_err-size-in-Array.ensures)

pub returns-in_ok-size-in-Array : goal.returns-in_ok-size-in-Array
returns-in_ok-size-in-Array c = λ names defs p agree h.
    let types = c.args.types.now in
    let extents = c.args.extents.now in
    let b = type_behind types names extents c.args.steps.now p defs agree c.args.id c.in_ok-place.place h (c.in_ok-place.ensures names extents p) c.in_ok-element.field-0.now (Array c.in-Array.field-0 c.in-Array.element) c.in_ok-element.ensures.lookup.3 c.in-Array.is in
    array_step types names extents defs p.types_are p.extents_are agree c.args.id c.args.index h c.in-Array.field-0 c.in-Array.element c.in_ok-size-in-Array.size c.scaled.result b.is c.in_ok-size-in-Array.ensures c.scaled.ensures

pub returns-in_err-number-in-Struct : goal.returns-in_err-number-in-Struct
returns-in_err-number-in-Struct c = λ names defs p agree h.
    let types = c.args.types.now in
    let extents = c.args.extents.now in
    let b = type_behind types names extents c.args.steps.now p defs agree c.args.id c.in_ok-place.place h (c.in_ok-place.ensures names extents p) c.in_ok-element.field-0.now (Struct c.in-Struct.field-0 c.in-Struct.members) c.in_ok-element.ensures.lookup.3 c.in-Struct.is in
    rw c.from_residual-in_err-number-in-Struct.ensures
    (struct_negative types names extents defs p.types_are p.extents_are agree c.args.id c.args.index h c.in-Struct.field-0 c.in-Struct.members b.stands b.is (sym c.in_err-number-in-Struct.ensures))

pub returns-then-number-members : goal.returns-then-number-members
returns-then-number-members c = λ names defs p agree h.
    let types = c.args.types.now in
    let extents = c.args.extents.now in
    let b = type_behind types names extents c.args.steps.now p defs agree c.args.id c.in_ok-place.place h (c.in_ok-place.ensures names extents p) c.in_ok-element.field-0.now (Struct c.in-Struct.field-0 c.in-Struct.members) c.in_ok-element.ensures.lookup.3 c.in-Struct.is in
    struct_refused types names extents defs p.types_are p.extents_are agree c.args.id c.args.index h c.in-Struct.field-0 c.in-Struct.members b.stands b.is c.in_ok-number-in-Struct.number (sym c.in_ok-number-in-Struct.ensures) (rw c.as_slice-members.ensures at c.if-number-members.true)

pub returns-in_err-begin-in-Struct : goal.returns-in_err-begin-in-Struct
returns-in_err-begin-in-Struct c = λ names defs p agree h.
    let types = c.args.types.now in
    let extents = c.args.extents.now in
    let b = type_behind types names extents c.args.steps.now p defs agree c.args.id c.in_ok-place.place h (c.in_ok-place.ensures names extents p) c.in_ok-element.field-0.now (Struct c.in-Struct.field-0 c.in-Struct.members) c.in_ok-element.ensures.lookup.3 c.in-Struct.is in
    let parts = struct_sized types names extents defs p.types_are p.extents_are agree c.args.id c.args.index h c.in-Struct.field-0 c.in-Struct.members b.stands b.is in
    let begins = member_begins types names extents c.args.steps.now p c.in_ok-place.place c.in-Struct.field-0 c.in-Struct.members c.in_ok-number-in-Struct.number b.found parts (rw c.as_slice-members.ensures at c.if-number-members.false) in
    absurd (cc (begins.1, c.in_err-begin-in-Struct.ensures))

-- the member at a place is the one that is found there
same_member : (ids list : List TypeId) (k : ℕ) (d id : TypeId) → list ≡ ids → slice_get ids k ≡ Some id → get_or list k d ≡ id
same_member ids list k d id e found = rw e (get_or_from_slice_get ids k id d found)

pub returns-in_ok-begin-in-Struct : goal.returns-in_ok-begin-in-Struct
returns-in_ok-begin-in-Struct c = λ names defs p agree h.
    let types = c.args.types.now in
    let extents = c.args.extents.now in
    let b = type_behind types names extents c.args.steps.now p defs agree c.args.id c.in_ok-place.place h (c.in_ok-place.ensures names extents p) c.in_ok-element.field-0.now (Struct c.in-Struct.field-0 c.in-Struct.members) c.in_ok-element.ensures.lookup.3 c.in-Struct.is in
    let parts = struct_sized types names extents defs p.types_are p.extents_are agree c.args.id c.args.index h c.in-Struct.field-0 c.in-Struct.members b.stands b.is in
    let begins = member_begins types names extents c.args.steps.now p c.in_ok-place.place c.in-Struct.field-0 c.in-Struct.members c.in_ok-number-in-Struct.number b.found parts (rw c.as_slice-members.ensures at c.if-number-members.false) in
    let same : begins.0 ≡ c.in_ok-begin-in-Struct.field-0 = cc (c.in_ok-begin-in-Struct.ensures ∙ begins.1) in
    rw (sym same)
    (struct_step types names extents defs p.types_are p.extents_are agree c.args.id c.args.index h c.in-Struct.field-0 c.in-Struct.members b.stands b.is c.in_ok-number-in-Struct.number begins.0 _ (sym c.in_ok-number-in-Struct.ensures) begins.2
    (same_member c.in-Struct.members c.as_slice-members.result.now c.in_ok-number-in-Struct.number _ begins.2.id c.as_slice-members.ensures begins.2.found))

pub returns-in_default : goal.returns-in_default
returns-in_default c = λ names defs p agree h.
    let types = c.args.types.now in
    let extents = c.args.extents.now in
    let t = c.in_ok-element.field-0.now in
    let leads = c.in_ok-place.ensures names extents p in
    let b = type_behind types names extents c.args.steps.now p defs agree c.args.id c.in_ok-place.place h leads t t c.in_ok-element.ensures.lookup.3 refl in
    no_parts types names extents c.args.steps.now p defs agree c.args.id c.in_ok-place.place h leads t c.args.index b c.in_default.not-Array c.in_default.not-Struct
