use Rattle.std.proofs.Common.{◌≤◌, ◌-◌, length, drop}
use Rattle.text_forms.specs.Lexical.{LexesTo, Places}
use Rattle.text_forms.specs.View.{lexemes}
use Rattle.text_lex.specs.Scan.{TellsColon}
use Rattle.text_lex.proofs.tokens_of.Given as goal

abbrev pub invariant-loop-place : goal.invariant-loop-place
invariant-loop-place l = record {
  within : l.place ≤ length l.text;
  placed : Places (length l.text) l.text l.tokens.items (drop l.place l.text);
  lexed : LexesTo l.text (lexemes l.text l.tokens.items) (drop l.place l.text);
  colons : TellsColon l.text l.place l.run;
}

abbrev pub decreases-loop-place : goal.decreases-loop-place
decreases-loop-place l = length l.text - l.place
