use Rattle.std.proofs.Common.{◌≡◌, take}
use Rattle.lists.proofs.items.ItemsCopies.copy.Given as goal

-- the items before this one are copied
abbrev pub invariant-loop-item : goal.invariant-loop-item
invariant-loop-item g l = l.items.items ≡ take l.item-index l.item-items
