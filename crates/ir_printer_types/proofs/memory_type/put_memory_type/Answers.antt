use Rattle.ir_printer_types.proofs.Frames.{all_begins, taken_within, taken_named, goes_on, comes_back}
use Rattle.ir_printer_types.proofs.memory_type.put_memory_type.Goals as goal

pub loop-frame-init : goal.loop-frame-init
loop-frame-init c = rw (c.in_ok-push.ensures.items, c.new-frames.ensures.items) (all_begins _ c.args.types.now c.args.out.now.items c.args.id c.requires.listed c.requires.place)

pub bounds-types-frame : goal.bounds-types-frame
bounds-types-frame c = taken_within c.pop.new.self.items c.in-Some.frame c.loop-frame.invariant c.in-Some.ensures.items

pub put_up_to_part-requires : goal.put_up_to_part-requires
put_up_to_part-requires c = taken_named _ c.args.types.now c.in-Some.frame.id c.requires.listed (taken_within c.pop.new.self.items c.in-Some.frame c.loop-frame.invariant c.in-Some.ensures.items) c.index-types-frame.is

pub loop-frame-preserved : goal.loop-frame-preserved
loop-frame-preserved c = (goes_on c.pop.new.self.items c.in-Some.frame c.requires.listed c.loop-frame.invariant c.in-Some.ensures.items c.index-types-frame.is c.parts.ensures c.in-Some-get.ensures.lookup.3.0 c.in-Some-get.ensures.lookup.1 c.in_ok-put_up_to_part.ensures c.in_ok-push-2.ensures.items c.in_ok-push-3.ensures.items).0

pub loop-frame-smaller : goal.loop-frame-smaller
loop-frame-smaller c = (goes_on c.pop.new.self.items c.in-Some.frame c.requires.listed c.loop-frame.invariant c.in-Some.ensures.items c.index-types-frame.is c.parts.ensures c.in-Some-get.ensures.lookup.3.0 c.in-Some-get.ensures.lookup.1 c.in_ok-put_up_to_part.ensures c.in_ok-push-2.ensures.items c.in_ok-push-3.ensures.items).1

pub loop-frame-preserved-in_default-get : goal.loop-frame-preserved-in_default-get
loop-frame-preserved-in_default-get c = (comes_back c.pop.new.self.items c.in-Some.frame c.loop-frame.invariant c.in-Some.ensures.items c.index-types-frame.is c.parts.ensures c.in_default-get.ensures.lookup.3 c.in_ok-put_up_to_part.ensures).0

pub loop-frame-smaller-in_default-get : goal.loop-frame-smaller-in_default-get
loop-frame-smaller-in_default-get c = (comes_back c.pop.new.self.items c.in-Some.frame c.loop-frame.invariant c.in-Some.ensures.items c.index-types-frame.is c.parts.ensures c.in_default-get.ensures.lookup.3 c.in_ok-put_up_to_part.ensures).1
