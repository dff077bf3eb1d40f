use Rattle.std.proofs.Common.{◌≤◌, ◌∷◌, length, get_or, ap, arith, rules, ◌∙◌}
use Rattle.lists.proofs.EndsLemmas.{length-texts_between, read_text}
use Rattle.lists.proofs.texts.Texts.at.Goals as goal
use Rattle.lists.proofs.texts.Texts.at.Goals.{After-deref}

pub start_of-start-requires : goal.start_of-start-requires
start_of-start-requires c = omega (arith, ap length c.self.view_is, length-texts_between c.self.inside.bytes.items 0 c.self.inside.ends.items, ap length c.as_slice.ensures.value)

pub index-end-requires : goal.index-end-requires
index-end-requires c = omega (arith, ap length c.self.view_is, length-texts_between c.self.inside.bytes.items 0 c.self.inside.ends.items)

-- the range lies within the bytes
range : (c : After-deref) → (c.start_of-start.result ≤ c.index-end.result.now) × (c.index-end.result.now ≤ length c.deref.result.now)
range c =
    let read = read_text c.self.inside.bytes.items c.self.inside.ends.items _ _ _ _ c.self.view_is c.self.invariant c.requires
    (c.start_of-start.ensures ∙ ap (λ ends. get_or (0 ∷ ends) c.args.place 0) c.as_slice.ensures.value) c.index-end.ensures in
    (read.0, rw c.deref.ensures.value read.1)

pub slice_bounds-result-count : goal.slice_bounds-result-count
slice_bounds-result-count c = (range c).0

pub slice_bounds-result-start : goal.slice_bounds-result-start
slice_bounds-result-start c = let r = range c in search rules

pub slice_bounds-result-end : goal.slice_bounds-result-end
slice_bounds-result-end c = let r = range c in search rules

pub returns : goal.returns
returns c =
    let read = read_text c.self.inside.bytes.items c.self.inside.ends.items _ _ _ _ c.self.view_is c.self.invariant c.requires
    (c.start_of-start.ensures ∙ ap (λ ends. get_or (0 ∷ ends) c.args.place 0) c.as_slice.ensures.value) c.index-end.ensures in
    rw c.deref.ensures.value record { item = read.2; found = read.3 }
