-- Where a run ends, as the grammar says it.
use Rattle.std.specs.Prelude.{map}
use Rattle.text_forms.specs.Form as grammar
use Rattle.kept_runs.specs.declared.up_to.Stops.{Stops}

-- the stops of the grammar
abbrev pub stops_of : Stops → grammar.Stops
stops_of s = record { kinds = s.kinds.now; words = map (λ w. w.now) s.words.now; before_equal = s.before_equal.now }
