-- What a function gives, where reading is the same by another form.
use Rattle.std.proofs.Common.{◌≡◌, Option, None, Result, Err, subst}
use Rattle.text_forms.specs.declared.cursor.SyntaxFault.{SyntaxFault}
use Rattle.text_forms.specs.declared.cursor.SyntaxFault.TheVariants.{NoReading, Memory}
use Rattle.text_forms.specs.Gives.{Gives}

pub gives_same : {X Y : Type 0} (view : X → Y) (r : Result X SyntaxFault) (a b : Option Y) → a ≡ b → Gives view r a → Gives view r b
gives_same {X} {Y} view r a b e g = subst (λ (o : Option Y). Gives view r o) e g

-- where nothing is read for want of one thing, nothing is read for want of the other
pub gives_failed : {X Y Z W : Type 0} (view : X → Y) (other : Z → W) (fault : SyntaxFault) (a : Option Y) (b : Option W) → (a ≡ None → b ≡ None) → Gives view (Err fault) a → Gives other (Err fault) b
gives_failed view other (NoReading place) a b h g = h g
gives_failed view other Memory a b h g = tt
