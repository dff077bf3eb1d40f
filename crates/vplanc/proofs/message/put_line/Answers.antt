use Rattle.std.proofs.Common.{◌≡◌, ℕ, ◌++◌, take, subst}
use Rattle.vplan_io.specs.Causes.{and_then}
use Rattle.vplan_io.proofs.Joined.{front-of-takes}
use Rattle.vplanc.specs.Answers.{line_of}
use Rattle.vplanc.proofs.message.put_line.Goals as goal

pub returns-clause-front : goal.returns-clause-front
returns-clause-front g c =
    let took : (n : ℕ) × (g.N.Sink.taken c.put_three.new.sink ≡ and_then (g.N.Sink.taken c.args.notes.now) (take n (c.as_bytes.result.now ++ c.line_for-line.result.word.now ++ c.as_bytes-2.result.now))) = front-of-takes _ _ _ c.put_three.result c.put_three.ensures.bytes in
    let whole : c.as_bytes.result.now ++ c.line_for-line.result.word.now ++ c.as_bytes-2.result.now ≡ line_of c.args.status.now = rw (c.as_bytes.ensures.value, c.as_str.ensures.value, c.as_bytes-2.ensures.value, c.as_str-2.ensures.value) c.line_for-line.ensures in
    subst (λ t. (n : ℕ) × (g.N.Sink.taken c.put_three.new.sink ≡ and_then (g.N.Sink.taken c.args.notes.now) (take n t))) whole took
