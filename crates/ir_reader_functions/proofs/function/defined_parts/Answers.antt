use Rattle.std.proofs.Common.{◌≡◌, ℕ, List, refl, sym, ap, ◌∙◌}
use Rattle.text_forms.specs.declared.TokenKind.TheVariants.{LeftParen, RightParen, LeftBrace, RightBrace}
use Rattle.text_forms.specs.Reading.{read}
use Rattle.text_forms.specs.Walk.{walk}
use Rattle.text_forms.specs.Gives.{left}
use Rattle.ir_types.specs.declared.module.Param.{Param}
use Rattle.ir_types.specs.declared.module.Block.{Block}
use Rattle.ir_types.specs.Offsets.{Definitions}
use Rattle.text_forms.specs.Combined.{list, some}
use Rattle.ir_types.specs.FunctionForms.{parameter, block}
use Rattle.ir_types.specs.Numbered.{numbered_param, numbered_block}
use Rattle.ir_reader_values.specs.Between.{between_read}
use Rattle.ir_reader_values.specs.Seen.{definitions}
use Rattle.ir_reader_values.proofs.Widening.{widens_trans}
use Rattle.ir_reader_functions.specs.Functions.{params_in, blocks_in}
use Rattle.ir_reader_functions.proofs.Bodies.{defined_found}
use Rattle.ir_reader_functions.proofs.function.defined_parts.Goals as goal

pub returns-clause-reads : goal.returns-clause-reads
returns-clause-reads c =
    let p = c.scoped_params.new in
    let q = c.enclosed_blocks.new in
    let defs = definitions c.args.scope.now in
    let in-p : definitions p.scope ≡ defs = c.in_ok-params.ensures.grows.definitions in
    let params = ap (λ (l : List Param). params_in q.scope.names l) c.from_vec.ensures ∙ c.in_ok-params.ensures.stays q.scope c.in_ok-body.ensures.grows in
    let body = ap (λ (l : List Block). blocks_in q.scope l) c.from_vec-2.ensures in
    let params-read = ap (λ (n : ℕ). between_read LeftParen RightParen (walk numbered_param n) (read (list parameter)) (left c.in_ok-name.rest)) (sym c.new-numbering.ensures) ∙ c.in_ok-params.ensures.reads in
    let body-read = ap (λ (d : Definitions). between_read LeftBrace RightBrace (walk numbered_block p.numbering.next) (read (some (block d))) (left c.in_ok-after.rest)) (sym in-p) ∙ c.in_ok-body.ensures.reads in
    rw (params, body)
    (defined_found defs c.in_ok-before.before c.in_ok-ret.ret c.in_ok-name.name (params_in p.scope.names c.in_ok-params.params.items) p.numbering.next c.in_ok-after.after (blocks_in q.scope c.in_ok-body.body.items, q.numbering.next)
    (left c.args.tokens) (left c.in_ok-before.rest) (left c.in_ok-ret.rest) (left c.in_ok-name.rest) (left c.in_ok-params.rest) (left c.in_ok-after.rest) (left c.in_ok-body.rest)
    c.in_ok-before.ensures c.in_ok-ret.ensures c.in_ok-name.ensures params-read c.in_ok-after.ensures body-read)

pub returns-clause-uses : goal.returns-clause-uses
returns-clause-uses c =
    let body = ap (λ (l : List Block). blocks_in c.enclosed_blocks.new.scope l) c.from_vec-2.ensures in
    rw (body, sym c.in_ok-params.ensures.tables) c.in_ok-body.ensures.uses

pub returns-clause-stays : goal.returns-clause-stays
returns-clause-stays c = λ later e.
    let p = c.scoped_params.new.scope in
    let q = c.enclosed_blocks.new.scope in
    let grows = c.in_ok-body.ensures.grows in
    let stays = c.in_ok-params.ensures.stays in
    let params : params_in later.names c.from_vec.result ≡ params_in q.names c.from_vec.result =
    ap (λ (l : List Param). params_in later.names l) c.from_vec.ensures ∙ stays later (widens_trans p q later grows e) ∙ sym (ap (λ (l : List Param). params_in q.names l) c.from_vec.ensures ∙ stays q grows) in
    let body : blocks_in later c.from_vec-2.result ≡ blocks_in q c.from_vec-2.result =
    ap (λ (l : List Block). blocks_in later l) c.from_vec-2.ensures ∙ c.in_ok-body.ensures.stays later e ∙ sym (ap (λ (l : List Block). blocks_in q l) c.from_vec-2.ensures) in
    rw (params, body) refl
