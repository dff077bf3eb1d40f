use Rattle.std.proofs.Common.{◌≡◌, length, map}
use Rattle.std.specs.List.{AllByRecursion}
use Rattle.text_forms.specs.Nested.{concat}
use Rattle.ir_types.specs.Tree.{FunctionTree}
use Rattle.ir_types.specs.Denotes.{tables_of, function_in, tree_of}
use Rattle.ir_shape.specs.Placed.{IsFunctionPlaced}
use Rattle.ir_rules.specs.Breaches.{first, inside}
use Rattle.ir_rules.specs.Mismatch.{mismatches}
use Rattle.ir_check_fits.proofs.functions.in_functions.Given as goal

abbrev pub invariant-more : goal.invariant-more
invariant-more l =
    AllByRecursion (IsFunctionPlaced (tables_of l.types)) l.left
    × (first (concat (map (λ (f : FunctionTree). map (inside f.name) (mismatches (tree_of l.types) f)) (map (function_in (tables_of l.types)) l.left))) ≡ first (concat (map (λ (f : FunctionTree). map (inside f.name) (mismatches (tree_of l.fn.types) f)) (map (function_in (tables_of l.fn.types)) l.fn.functions))))

abbrev pub decreases-more : goal.decreases-more
decreases-more l = length l.left
