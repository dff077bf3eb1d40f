use Rattle.std.proofs.Common.{◌≡◌, ◌+◌, List, [], ◌∷◌, ◌++◌, length, map, take, sym, ap, ◌∙◌, arith}
use Rattle.std.proofs.lemmas.List.{map_push, take_more, length-take-le, length-map}
use Rattle.ir_types.specs.declared.name.Name.{Name}
use Rattle.ir_types.specs.declared.module.Symbol.{Symbol}
use Rattle.ir_reader_items.specs.declared.source.FunctionSource.{FunctionSource}
use Rattle.ir_reader.specs.Trees.{function_symbols}
use Rattle.ir_reader.proofs.Symbolic.{function_more}
use Rattle.ir_reader.proofs.symbols.add_functions.Goals as goal

pub loop-place-preserved : goal.loop-place-preserved
loop-place-preserved c =
    let fs = c.args.functions.now in
    let f = c.index-functions-place.result in
    let i = c.loop-place.place in
    let name = λ (f : FunctionSource). f.name in
    let old = c.args.symbols.now.items in
    let before = c.loop-place.symbols.items in
    let known = map name (take i fs) in
    let taken = take_more fs i f c.loop-place-test.true ∙ ap (λ x. take i fs ++ x ∷ []) (sym c.index-functions-place.is) in
    let all : map name (take (i + 1) fs) ≡ known ++ f.name ∷ [] = ap (map name) taken ∙ map_push name (take i fs) f in
    let count : c.in-Ok.place ≡ length known = let le = c.loop-place-test.true in let n = length-take-le i fs (omega arith) in c.in-Ok.ensures.1 ∙ sym (length-map (take i fs) name ∙ n) in
    c.in_ok-push.ensures.items
    ∙ ap (λ (s : Symbol). before ++ s ∷ []) c.in_ok-symbol.ensures
    ∙ function_more old before known f.name c.in-Ok.place c.loop-place.invariant count
    ∙ ap (λ (l : List Name). old ++ function_symbols 0 l) (sym all)
