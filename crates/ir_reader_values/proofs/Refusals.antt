-- Where a part is not read, the whole is not read.
use Rattle.std.proofs.Common.{◌≡◌, Option, None, Err}
use Rattle.text_forms.specs.declared.cursor.SyntaxFault.{SyntaxFault}
use Rattle.text_forms.specs.Gives.{Gives}
use Rattle.ir_reader_types.proofs.Same.{gives_failed}

-- what is seen of a refusal is all the same
pub fails : {X Y W : Type 0} (view : X → Y) (fault : SyntaxFault) (a : Option Y) (b : Option W) → (a ≡ None → b ≡ None) → Gives view (Err fault) a → Gives (λ (w : W). w) (Err fault) b
fails {W = W} view fault a b h g = gives_failed view (λ (w : W). w) fault a b h g
