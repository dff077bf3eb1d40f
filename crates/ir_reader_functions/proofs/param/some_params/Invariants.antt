use Rattle.std.proofs.Common.{◌≡◌, List, length}
use Rattle.text_forms.specs.declared.TokenKind.TheVariants.{Comma}
use Rattle.text_forms.specs.View.{Extends}
use Rattle.text_forms.specs.Form.{many}
use Rattle.text_forms.specs.Reading.{read}
use Rattle.text_forms.specs.Walk.{walk, completed}
use Rattle.text_forms.specs.Gives.{left}
use Rattle.text_forms.proofs.Walks.{so_far}
use Rattle.ir_types.specs.declared.name.Name.{Name}
use Rattle.text_forms.specs.Combined.{commas, marked}
use Rattle.ir_types.specs.FunctionForms.{parameter}
use Rattle.ir_types.specs.Numbered.{numbered_param}
use Rattle.ir_reader_functions.specs.Functions.{params_in}
use Rattle.ir_reader_functions.proofs.param.some_params.Given as goal

abbrev pub decreases-more : goal.decreases-more
decreases-more l = length l.rest.rest.now

abbrev pub invariant-more : goal.invariant-more
invariant-more l = record {
  grows : Extends l.fn.names l.names;
  reads : so_far (params_in l.names l.params.items) (completed (walk numbered_param l.numbering.next) (read (many (marked Comma parameter)) (left l.rest))) ≡ completed (walk numbered_param l.fn.numbering.next) (read (commas parameter) (left l.fn.tokens));
  stays : (later : List Name) → Extends l.names later → params_in later l.params.items ≡ params_in l.names l.params.items;
}
