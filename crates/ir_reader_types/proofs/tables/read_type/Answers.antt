use Rattle.std.proofs.Common.{◌≡◌, List, length, Result, Err, sym, subst, ◌∙◌, arith}
use Rattle.std.proofs.lemmas.Result.{err_from_is_err_and}
use Rattle.text_forms.specs.declared.cursor.Cursor.{Cursor}
use Rattle.text_forms.specs.declared.cursor.SyntaxFault.{SyntaxFault}
use Rattle.text_forms.specs.Form.{Lexeme}
use Rattle.text_forms.specs.Gives.{Gives, left}
use Rattle.text_forms.specs.Reading.{read}
use Rattle.ir_types.specs.declared.memory_type.TypeId.{TypeId}
use Rattle.ir_types.specs.TypeNodes.{TypeNode, type_nodes}
use Rattle.ir_types.specs.TypeForms.{memory_type, inst_memory}
use Rattle.ir_types.proofs.InstMemory.{inst_memory_reads}
use Rattle.ir_reader_types.specs.TypeTable.{names_of}
use Rattle.ir_sizes.specs.Prepared.{AreFirstSteps}
use Rattle.ir_sizes.proofs.Setting.{right_small, extents_right}
use Rattle.ir_reader_types.proofs.Enlarged.{first_extents, first_steps}
use Rattle.ir_reader_types.proofs.Same.{gives_failed}
use Rattle.ir_reader_types.proofs.tables.read_type.Goals as goal

-- as any memory type is read
as_any : (ts : List Lexeme) → read inst_memory ts ≡ read (memory_type (length ts)) ts
as_any ts = inst_memory_reads (length ts) ts (omega arith)

-- what a type's own fault says of any memory type
refused : (view other : TypeId × Cursor → List TypeNode × List Lexeme) (ts : List Lexeme) (r : Result (TypeId × Cursor) SyntaxFault) (fault e : SyntaxFault) → r ≡ Err e → e ≡ fault → Gives view (Err fault) (read (memory_type (length ts)) ts) → Gives other r (read inst_memory ts)
refused view other ts r fault e p q g = rw (p, q) (gives_failed view other fault (read (memory_type (length ts)) ts) (read inst_memory ts) (λ n. as_any ts ∙ n) g)

pub returns-in_err-id-clause-reads : goal.returns-in_err-id-clause-reads
returns-in_err-id-clause-reads c =
    let ts = left c.args.tokens in
    let p = err_from_is_err_and c.from_residual.result c.from_residual.ensures.1 in
    let names = names_of c.memory_type.new.names in
    let types = c.memory_type.new.types.items in
    refused (λ (x : TypeId × Cursor). (type_nodes names types x.0, left x.1)) _ ts c.from_residual.result c.in_err-id.field-0.0 p.0 p.1 p.2 (c.in_err-id.ensures.reads (length ts) (omega arith))

pub extents_behind-requires-clause-first : goal.extents_behind-requires-clause-first
extents_behind-requires-clause-first c =
    let r = c.requires in
    let e = c.in_ok-id.ensures in
    let types = c.args.types.now.items in
    rw (c.as_slice.ensures.value, c.as_slice-2.ensures, e.types_grow.parts)
    (first_extents types e.types_grow.more c.args.names.now c.memory_type.new.names c.args.extents.now.items r.are r.defined r.extents e.looks_up)

pub returns-clause-reads : goal.returns-clause-reads
returns-clause-reads c =
    let ts = left c.args.tokens in
    as_any ts ∙ c.in_ok-id.ensures.reads (length ts) (omega arith)

pub steps_behind-requires : goal.steps_behind-requires
steps_behind-requires c =
    let are = c.in_ok-extents_behind.ensures.are in
    record { small = rw c.as_slice-4.ensures.value (right_small _ _ c.extents_behind.new.extents.items (extents_right c.as_slice.result.now c.as_slice-2.result.now c.extents_behind.new.extents.items are).each) }

pub returns-clause-steps_are : goal.returns-clause-steps_are
returns-clause-steps_are c =
    let r = c.requires in
    let e = c.in_ok-id.ensures in
    let types = c.args.types.now.items in
    let names = c.memory_type.new.names in
    let extents = c.extents_behind.new.extents.items in
    let are = rw (c.as_slice.ensures.value, c.as_slice-2.ensures) at c.in_ok-extents_behind.ensures.are in
    let first = first_steps types e.types_grow.more c.args.names.now names c.args.extents.now.items extents c.args.steps.now r.are r.defined r.extents c.in_ok-extents_behind.ensures.grows e.looks_up r.steps in
    let later = subst (λ ts. AreFirstSteps ts names extents c.args.steps.now) (sym e.types_grow.parts) first in
    let steps = rw (c.as_slice-3.ensures.value, c.as_slice-4.ensures.value) at c.in_ok-steps_behind.ensures.are in
    steps names are later
