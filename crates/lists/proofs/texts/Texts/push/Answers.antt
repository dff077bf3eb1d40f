use Rattle.std.proofs.Common.{◌≡◌, ◌∷◌, [], ◌++◌, length, rules}
use Rattle.lists.specs.Ends.{texts_between, EndAt}
use Rattle.lists.proofs.EndsLemmas.{pushed_text}
use Rattle.lists.proofs.texts.Texts.push.Goals as goal

pushed : (c : goal.In-Ok) → EndAt (length c.extend_from_slice.new.self.items) 0 c.push.new.self.items
    × (texts_between c.extend_from_slice.new.self.items 0 c.push.new.self.items ≡ texts_between c.self.inside.bytes.items 0 c.self.inside.ends.items ++ c.args.text.now ∷ [])
pushed c = pushed_text c.self.inside.bytes.items c.args.text.now _ c.self.inside.ends.items _ c.len.result c.in_ok-extend_from_slice.ensures.items (search rules) c.in-Ok.ensures.items c.self.invariant

pub invariant_of-self-in-Ok : goal.invariant_of-self-in-Ok
invariant_of-self-in-Ok c = (pushed c).0

pub returns-in-Ok-clause-ok : goal.returns-in-Ok-clause-ok
returns-in-Ok-clause-ok c = rw (← c.self.view_is) (pushed c).1
