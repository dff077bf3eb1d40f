use Rattle.std.proofs.Common.{◌≡◌, List, [], ◌∷◌, ◌++◌, refl, sym, ap, ◌∙◌, arith}
use Rattle.std.proofs.lemmas.List.{map_push}
use Rattle.text_forms.specs.declared.TokenKind.TheVariants.{Comma}
use Rattle.text_forms.specs.Reading.{read}
use Rattle.text_forms.specs.Walk.{walk, completed}
use Rattle.text_forms.specs.Gives.{left}
use Rattle.text_forms.proofs.Walks.{goes_completed, shorter_completed}
use Rattle.text_forms.proofs.Viewed.{count_viewed}
use Rattle.ir_types.specs.declared.name.Name.{Name}
use Rattle.ir_types.specs.Tree.{ParamTree}
use Rattle.ir_types.specs.Denotes.{param_in}
use Rattle.text_forms.specs.Combined.{commas, marked}
use Rattle.ir_types.specs.FunctionForms.{parameter}
use Rattle.ir_types.specs.Numbered.{numbered_param}
use Rattle.ir_types.proofs.NameAt.{extends_trans}
use Rattle.ir_reader_functions.specs.Functions.{params_in}
use Rattle.ir_reader_functions.proofs.param.some_params.Goals as goal

pub more-smaller : goal.more-smaller
more-smaller c =
    let lt = shorter_completed (marked Comma parameter) (numbered_param c.more.numbering.next) (left c.more.rest) ((param_in c.comma_param.new.names c.in_ok-next.next, c.comma_param.new.numbering.next), left c.in_ok-next.after) refl c.in_ok-next.ensures.reads in
    omega (arith, lt, count_viewed c.more.rest.text.now c.more.rest.rest.now, count_viewed c.in_ok-next.after.text.now c.in_ok-next.after.rest.now)

pub more-preserved : goal.more-preserved
more-preserved c =
    let n = c.comma_param.new.names in
    let before = c.more.params.items in
    let next = c.in_ok-next.next in
    let step : (later : List Name) → params_in later c.push-in-more.new.self.items ≡ params_in later before ++ param_in later next ∷ [] = λ later. rw c.in_ok-push-2.ensures.items (map_push (param_in later) before next) in
    let kept = c.more.invariant.stays n c.in_ok-next.ensures.grows in
    record {
      grows = extends_trans c.args.names.now c.more.names n c.more.invariant.grows c.in_ok-next.ensures.grows;
      reads = rw (step n, kept) (goes_completed (marked Comma parameter) numbered_param (params_in c.more.names before) c.more.numbering.next c.comma_param.new.numbering.next (param_in n next) (left c.more.rest) (left c.in_ok-next.after)
          (completed (walk numbered_param c.args.numbering.now.next) (read (commas parameter) (left c.args.tokens))) refl (sym c.another.ensures ∙ c.more-test.true) c.in_ok-next.ensures.reads c.more.invariant.reads);
      stays = λ later e.
          let earlier = c.more.invariant.stays later (extends_trans c.more.names n later c.in_ok-next.ensures.grows e) ∙ sym kept in
          let here = c.in_ok-next.ensures.stays later e in
          step later ∙ ap (λ (l : List ParamTree). l ++ param_in later next ∷ []) earlier ∙ ap (λ (x : ParamTree). params_in n before ++ x ∷ []) here ∙ sym (step n);
    }
