use Rattle.std.proofs.Common.{◌≡◌, drop, map}
use Rattle.text_forms.specs.Form.{entry}
use Rattle.text_forms.proofs.words.find.Given as goal

abbrev pub invariant-loop-entry : goal.invariant-loop-entry
invariant-loop-entry g l = entry (map (λ e. (e.0.now, e.1)) (drop l.entry-index l.table)) l.word ≡ entry (map (λ e. (e.0.now, e.1)) l.table) l.word
