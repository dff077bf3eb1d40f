use Rattle.ir_reader.proofs.Adding.{added_head, added_comdats, added_definitions, added_variables, added_functions, added_attributes, added_metadata}
use Rattle.ir_reader.proofs.gather.Gathered.add.Goals as goal

pub returns-in_ok-push-in-Head : goal.returns-in_ok-push-in-Head
returns-in_ok-push-in-Head c =
    let self = c.args.self.now in
    let long = rw c.in-Head.is at c.long_in.ensures in
    let longs = rw long at c.in_ok-push.ensures.items in
    record { ok = λ items h. rw c.in-Head.is (added_head self c.in-Head.kept c.push-in-Head.new.self c.push.new.self items c.in_ok-push-in-Head.ensures.items longs h) }

pub returns-in_ok-push-in-Comdat : goal.returns-in_ok-push-in-Comdat
returns-in_ok-push-in-Comdat c =
    let self = c.args.self.now in
    let long = rw c.in-Comdat.is at c.long_in.ensures in
    let longs = rw long at c.in_ok-push.ensures.items in
    record { ok = λ items h. rw c.in-Comdat.is (added_comdats self c.in-Comdat.kept c.push-in-Comdat.new.self c.push.new.self items c.in_ok-push-in-Comdat.ensures.items longs h) }

pub returns-in_ok-push-in-Type : goal.returns-in_ok-push-in-Type
returns-in_ok-push-in-Type c =
    let self = c.args.self.now in
    let long = rw c.in-Type.is at c.long_in.ensures in
    let longs = rw long at c.in_ok-push.ensures.items in
    record { ok = λ items h. rw c.in-Type.is (added_definitions self c.in-Type.definition c.push-in-Type.new.self c.push.new.self items c.in_ok-push-in-Type.ensures.items longs h) }

pub returns-in_ok-push-in-Variable : goal.returns-in_ok-push-in-Variable
returns-in_ok-push-in-Variable c =
    let self = c.args.self.now in
    let long = rw c.in-Variable.is at c.long_in.ensures in
    let longs = rw long at c.in_ok-push.ensures.items in
    record { ok = λ items h. rw c.in-Variable.is (added_variables self c.in-Variable.variable c.push-in-Variable.new.self c.push.new.self items c.in_ok-push-in-Variable.ensures.items longs h) }

pub returns-in_ok-push-in-Function : goal.returns-in_ok-push-in-Function
returns-in_ok-push-in-Function c =
    let self = c.args.self.now in
    let long = rw c.in-Function.is at c.long_in.ensures in
    let longs = rw long at c.in_ok-push.ensures.items in
    record { ok = λ items h. rw c.in-Function.is (added_functions self c.in-Function.function c.push-in-Function.new.self c.push.new.self items c.in_ok-push-in-Function.ensures.items longs h) }

pub returns-in_ok-push-in-Attributes : goal.returns-in_ok-push-in-Attributes
returns-in_ok-push-in-Attributes c =
    let self = c.args.self.now in
    let long = rw c.in-Attributes.is at c.long_in.ensures in
    let longs = rw long at c.in_ok-push.ensures.items in
    record { ok = λ items h. rw c.in-Attributes.is (added_attributes self c.in-Attributes.kept c.push-in-Attributes.new.self c.push.new.self items c.in_ok-push-in-Attributes.ensures.items longs h) }

pub returns-in_ok-push-in-Metadata : goal.returns-in_ok-push-in-Metadata
returns-in_ok-push-in-Metadata c =
    let self = c.args.self.now in
    let long = rw c.in-Metadata.is at c.long_in.ensures in
    let longs = rw long at c.in_ok-push.ensures.items in
    record { ok = λ items h. rw c.in-Metadata.is (added_metadata self c.in-Metadata.kept c.push-in-Metadata.new.self c.push.new.self items c.in_ok-push-in-Metadata.ensures.items longs h) }
