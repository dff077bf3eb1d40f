use Rattle.std.proofs.Common.{◌≡◌, ◌⊎◌, length, Some, None}
use Rattle.text_forms.specs.View.{lexemes}
use Rattle.ir_reader.specs.Reading.{module_read, IsBuilt}
use Rattle.ir_reader.specs.Refusal.{StartsAt}
use Rattle.ir_reader.proofs.Exact.{within_limits, built_denotes, passes_limit, no_reading}
use Rattle.ir_reader.proofs.read_module.Goals as goal

pub returns-in-Ok-default-None-clause-reads : goal.returns-in-Ok-default-None-clause-reads
returns-in-Ok-default-None-clause-reads c =
    let text = c.args.text.now in
    let tokens = lexemes text c.in-Ok.tokens.items in
    let m : IsBuilt (module_read tokens) c.in-Ok-default-None.module None = rw (c.as_slice.ensures.value, c.in-Ok-default-None.field-0-1-is) at c.in-Ok-default-None.ensures in
    within_limits text tokens c.in-Ok-default-None.module c.in-Ok.ensures.tokens m

pub returns-in-Ok-default-None-clause-denotes : goal.returns-in-Ok-default-None-clause-denotes
returns-in-Ok-default-None-clause-denotes c = built_denotes (module_read (lexemes c.args.text.now c.in-Ok.tokens.items)) c.in-Ok-default-None.module None (rw (c.as_slice.ensures.value, c.in-Ok-default-None.field-0-1-is) at c.in-Ok-default-None.ensures)

pub returns-in-Ok-default-Some-clause-fault : goal.returns-in-Ok-default-Some-clause-fault
returns-in-Ok-default-Some-clause-fault c =
    let text = c.args.text.now in
    let tokens = lexemes text c.in-Ok.tokens.items in
    let count = c.in-Ok-default-Some.count in
    let number = c.in-Ok-default-Some.number in
    let m : IsBuilt (module_read tokens) c.in-Ok-default-Some.field-0-0 (Some (count, number)) = rw (c.as_slice.ensures.value, c.in-Ok-default-Some.field-0-1-is) at c.in-Ok-default-Some.ensures in
    (c.in-Ok.ensures.within, record { tokens = tokens; lexed = c.in-Ok.ensures.tokens; none = c.in-Ok.ensures.nothing_left_out }, passes_limit text tokens c.in-Ok-default-Some.field-0-0 count number c.in-Ok.ensures.tokens m)

pub returns-in-Err-NoReading-clause-fault : goal.returns-in-Err-NoReading-clause-fault
returns-in-Err-NoReading-clause-fault c =
    let text = c.args.text.now in
    let tokens = lexemes text c.in-Ok.tokens.items in
    let says : module_read tokens ≡ None = rw (c.in-Err-NoReading.field-0-is, c.as_slice.ensures.value) at c.in-Err-NoReading.ensures in
    let here : StartsAt c.in-Ok.tokens.items c.stop.result ⊎ (c.stop.result ≡ length text) = rw c.as_slice-in-Err-NoReading.ensures.value at c.stop.ensures in
    (c.in-Ok.ensures.within, no_reading text tokens c.in-Ok.ensures.tokens says, record { tokens = c.in-Ok.tokens.items; placed = c.in-Ok.ensures.places; lexed = c.in-Ok.ensures.tokens; none_left_out = c.in-Ok.ensures.nothing_left_out; here = here })
