-- What is known of kept runs that tokens spell, and of lists that dots may end.
use Rattle.std.proofs.Common.{Bool, false, List, [], Option, Some, None}
use Rattle.std.specs.List.{AllByRecursion}
use Rattle.text_forms.specs.declared.TokenKind.TheVariants.{Comma, Dots}
use Rattle.text_forms.specs.Form.{Form}
use Rattle.kept_runs.specs.Verbatim.{Verbatim}
use Rattle.kept_runs.proofs.Verbatim.{verbatim_run}
use Rattle.ir_types.specs.FlagForms.{or_else}
use Rattle.ir_types.specs.Words.{kept}
use Rattle.ir_types.specs.InstParts.{dotted_list}
use Rattle.ir_shape.specs.Shape.{IsKept}
use Rattle.ir_shape.proofs.Sure.{Sure, mark_sure, pair_sure, either_sure, mapped_sure, IsThere, optional_sure, marked_sure, commas_sure, kept_sure}

-- what is kept is verbatim
pub kept_is : Verbatim kept
unfolding kept
kept_is = verbatim_run _

-- what is read as kept may be kept
pub run_sure : Sure kept (IsKept kept)
run_sure = kept_sure kept_is

-- the elements of a list that dots may end are so
abbrev pub Dotted : {A : Type 0} → (A → Type 0) → List A × Bool → Type 0
Dotted P x = AllByRecursion P x.0

or_empty : {A : Type 0} (P : A → Type 0) (o : Option (List A × Bool)) → IsThere (Dotted P) o → Dotted P (or_else ([], false) o)
or_empty P None h = tt
or_empty P (Some x) h = h

-- of a list with dots, what holds of each item read holds of all
pub dotted_sure : {A : Type 0} {P : A → Type 0} {f : Form A} → Sure f P → Sure (dotted_list f) (Dotted P)
dotted_sure {A} {P} p =
    mapped_sure {Q = Dotted P} (optional_sure (either_sure (mapped_sure {Q = Dotted P} (mark_sure Dots) (λ u h. tt)) (mapped_sure {Q = Dotted P} (pair_sure (commas_sure p) (optional_sure (marked_sure Comma (mark_sure Dots)))) (λ x h. h.0.1)))) (or_empty P)
