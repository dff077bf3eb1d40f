use Rattle.std.proofs.Common.{◌≡◌, [], ◌∷◌, ◌++◌, refl, sym, ap, ◌∙◌, Vec, Global}
use Rattle.std.proofs.lemmas.Result.{err_from_is_err_and}
use Rattle.text_forms.specs.Form.{many}
use Rattle.text_forms.specs.Reading.{read}
use Rattle.text_forms.specs.Walk.{walk, completed}
use Rattle.text_forms.specs.Gives.{left}
use Rattle.text_forms.specs.declared.cursor.Cursor.{Cursor}
use Rattle.ir_types.specs.declared.inst.Inst.{Inst}
use Rattle.ir_types.specs.Offsets.{Definitions}
use Rattle.ir_types.specs.InstForms.{operation, terminator}
use Rattle.ir_types.specs.FunctionForms.{line}
use Rattle.ir_types.specs.Numbered.{numbered_inst}
use Rattle.ir_reader_values.specs.Seen.{definitions, name_seen, inst_seen}
use Rattle.ir_reader_values.proofs.Widening.{widens_trans}
use Rattle.ir_reader_values.proofs.Pushing.{push_seen, push_steady}
use Rattle.ir_reader_types.proofs.Same.{gives_failed}
use Rattle.ir_reader_functions.specs.Blocks.{insts_in, block_read}
use Rattle.ir_reader_functions.proofs.Using.{uses_inst}
use Rattle.ir_reader_functions.proofs.Parts.{block_found, insts_refused, last_refused}
use Rattle.ir_reader_functions.proofs.block.parts.Goals as goal

pub returns-clause-reads : goal.returns-clause-reads
returns-clause-reads c =
    let a = c.block_name.new in
    let b = c.operations.new in
    let n = c.line.new in
    let before = c.in_ok-insts.insts.items in
    let last = c.in_ok-last.last in
    let defs = definitions c.args.scope.now in
    let in-a : definitions a.scope ≡ defs = c.in_ok-name.ensures.grows.definitions in
    let in-b : definitions b.scope ≡ defs = c.in_ok-insts.ensures.grows.definitions ∙ in-a in
    let all : c.from_vec.result ≡ before ++ last ∷ [] = c.from_vec.ensures ∙ c.in_ok-push.ensures.items in
    let name = c.in_ok-name.ensures.stays n.scope (widens_trans a.scope b.scope n.scope c.in_ok-insts.ensures.grows c.in_ok-last.ensures.grows) in
    let others = push_seen inst_seen b.scope n.scope before c.from_vec.result last all c.in_ok-last.ensures.grows c.in_ok-insts.ensures.stays in
    let insts-read = ap (λ (d : Definitions). completed (walk numbered_inst a.numbering.next) (read (many (line (operation d))) (left c.in_ok-name.rest))) (sym in-a) ∙ c.in_ok-insts.ensures.reads in
    let last-read = ap (λ (d : Definitions). completed (numbered_inst b.numbering.next) (read (line (terminator d)) (left c.in_ok-insts.rest))) (sym in-b) ∙ c.in_ok-last.ensures.reads in
    rw (name, others)
    (block_found defs c.args.numbering.now.next (name_seen a.scope c.in_ok-name.name, a.numbering.next) (insts_in b.scope before, b.numbering.next) (inst_seen n.scope last, n.numbering.next)
    (left c.args.tokens) (left c.in_ok-name.rest) (left c.in_ok-insts.rest) (left c.in_ok-last.rest) c.in_ok-name.ensures.reads insts-read last-read)

pub returns-clause-uses : goal.returns-clause-uses
returns-clause-uses c =
    let a = c.block_name.new.scope in
    let b = c.operations.new.scope in
    let n = c.line.new.scope in
    let before = c.in_ok-insts.insts.items in
    let last = c.in_ok-last.last in
    let all : c.from_vec.result ≡ before ++ last ∷ [] = c.from_vec.ensures ∙ c.in_ok-push.ensures.items in
    rw (push_seen inst_seen b n before c.from_vec.result last all c.in_ok-last.ensures.grows c.in_ok-insts.ensures.stays, sym c.in_ok-name.ensures.tables)
    (uses_inst a.tables b.tables n.tables (insts_in b before) (inst_seen n last) c.in_ok-insts.ensures.uses c.in_ok-last.ensures.uses)

pub returns-clause-stays : goal.returns-clause-stays
returns-clause-stays c = λ later e.
    let a = c.block_name.new.scope in
    let b = c.operations.new.scope in
    let n = c.line.new.scope in
    let before = c.in_ok-insts.insts.items in
    let last = c.in_ok-last.last in
    let a-n = widens_trans a b n c.in_ok-insts.ensures.grows c.in_ok-last.ensures.grows in
    let name : name_seen later c.in_ok-name.name ≡ name_seen n c.in_ok-name.name = c.in_ok-name.ensures.stays later (widens_trans a n later a-n e) ∙ sym (c.in_ok-name.ensures.stays n a-n) in
    let all : c.from_vec.result ≡ before ++ last ∷ [] = c.from_vec.ensures ∙ c.in_ok-push.ensures.items in
    let insts : insts_in later c.from_vec.result ≡ insts_in n c.from_vec.result = push_steady inst_seen b n before c.from_vec.result last all c.in_ok-last.ensures.grows c.in_ok-insts.ensures.stays c.in_ok-last.ensures.stays later e in
    rw (name, insts) refl

pub returns-in_err-insts-clause-reads : goal.returns-in_err-insts-clause-reads
returns-in_err-insts-clause-reads c =
    let p = err_from_is_err_and c.from_residual-in_err-insts.result c.from_residual-in_err-insts.ensures.1 in
    let a = c.block_name.new in
    let b = c.operations.new in
    let defs = definitions c.args.scope.now in
    let same = ap (λ (d : Definitions). completed (walk numbered_inst a.numbering.next) (read (many (line (operation d))) (left c.in_ok-name.rest))) (sym c.in_ok-name.ensures.grows.definitions) in
    rw (p.1, p.2) (gives_failed (λ (x : Vec Inst Global × Cursor). ((insts_in b.scope x.0.items, b.numbering.next), left x.1)) (λ x. x) c.in_err-insts.field-0.0 _ (block_read defs c.args.numbering.now.next (left c.args.tokens))
    (λ e. insts_refused defs c.args.numbering.now.next (name_seen a.scope c.in_ok-name.name, a.numbering.next) (left c.args.tokens) (left c.in_ok-name.rest) c.in_ok-name.ensures.reads (same ∙ e))
    c.in_err-insts.ensures.reads)

pub returns-in_err-last-clause-grows : goal.returns-in_err-last-clause-grows
returns-in_err-last-clause-grows c =
    let old = c.args.scope.now in
    let a = c.block_name.new.scope in
    let b = c.operations.new.scope in
    let n = c.line.new.scope in
    widens_trans old b n (widens_trans old a b c.in_ok-name.ensures.grows c.in_ok-insts.ensures.grows) c.in_err-last.ensures.grows

pub returns-in_err-last-clause-reads : goal.returns-in_err-last-clause-reads
returns-in_err-last-clause-reads c =
    let p = err_from_is_err_and c.from_residual-in_err-last.result c.from_residual-in_err-last.ensures.1 in
    let a = c.block_name.new in
    let b = c.operations.new in
    let n = c.line.new in
    let defs = definitions c.args.scope.now in
    let in-a : definitions a.scope ≡ defs = c.in_ok-name.ensures.grows.definitions in
    let in-b : definitions b.scope ≡ defs = c.in_ok-insts.ensures.grows.definitions ∙ in-a in
    let insts-read = ap (λ (d : Definitions). completed (walk numbered_inst a.numbering.next) (read (many (line (operation d))) (left c.in_ok-name.rest))) (sym in-a) ∙ c.in_ok-insts.ensures.reads in
    let same = ap (λ (d : Definitions). completed (numbered_inst b.numbering.next) (read (line (terminator d)) (left c.in_ok-insts.rest))) (sym in-b) in
    rw (p.1, p.2) (gives_failed (λ (x : Inst × Cursor). ((inst_seen n.scope x.0, n.numbering.next), left x.1)) (λ x. x) c.in_err-last.field-0.0 _ (block_read defs c.args.numbering.now.next (left c.args.tokens))
    (λ e. last_refused defs c.args.numbering.now.next (name_seen a.scope c.in_ok-name.name, a.numbering.next) (insts_in b.scope c.in_ok-insts.insts.items, b.numbering.next) (left c.args.tokens) (left c.in_ok-name.rest) (left c.in_ok-insts.rest) c.in_ok-name.ensures.reads insts-read (same ∙ e))
    c.in_err-last.ensures.reads)
