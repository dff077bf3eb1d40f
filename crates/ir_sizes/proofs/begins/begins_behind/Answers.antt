use Rattle.std.proofs.Common.{◌≡◌, ◌+◌, ◌∷◌, [], Some, length, length-append, refl, ap, ◌∙◌}
use Rattle.std.specs.Prelude.{slice_get}
use Rattle.std.proofs.lemmas.Option.{slice_get_read}
use Rattle.ir_types.proofs.NameAt.{extends_trans}
use Rattle.ir_sizes.proofs.Beginning.{one_start_more}
use Rattle.ir_sizes.proofs.begins.begins_behind.Goals as goal

pub loop-place-preserved : goal.loop-place-preserved
loop-place-preserved c =
    let invariant = c.loop-place.invariant in
    let types = c.args.types.now in
    let starts = c.loop-place.starts.items in
    let begins = c.loop-place.begins.items in
    let new = c.begins_of_type.new.begins.items in
    let grow = c.begins_of_type.ensures.grow in
    let found : slice_get types (length starts) ≡ Some c.index-types-place.result = rw invariant.count (slice_get_read types _ c.loop-place.place c.index-types-place.result refl c.loop-place-test.true c.index-types-place.is) in
    let start = c.len-start.ensures ∙ c.loop-place.begins.ok.0 in
    record {
      count = ap length c.in_ok-push.ensures.items ∙ length-append starts (_ ∷ []) ∙ ap (λ n. n + 1) invariant.count;
      starts_grow = extends_trans c.args.starts.now.items starts c.push.new.self.items invariant.starts_grow (record { more = _ ∷ []; parts = c.in_ok-push.ensures.items });
      begins_grow = extends_trans c.args.begins.now.items begins new invariant.begins_grow grow;
      are = λ names right first.
          rw (c.in_ok-push.ensures.items, start)
          (one_start_more types names c.args.extents.now starts begins new _ c.index-types-place.result (invariant.are names right first) grow found (c.in_ok-begins_of_type.ensures.are types names right));
    }
