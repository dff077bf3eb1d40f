-- What stands behind a variable's initialiser, one after another.
use Rattle.std.specs.Prelude.{true, false, List, ◌++◌, codes, Option, Some, None, Result, if◌then◌else◌}
use Rattle.text_forms.specs.declared.TokenKind.TheVariants as tokens
use Rattle.text_forms.specs.declared.TokenKind.TheVariants.{LeftParen, RightParen, Quoted, Number, Word}
use Rattle.text_forms.specs.declared.cursor.Cursor.{Cursor}
use Rattle.text_forms.specs.declared.cursor.SyntaxFault.{SyntaxFault}
use Rattle.text_forms.specs.Form.{Lexeme, Form, made, many}
use Rattle.text_forms.specs.Gives.{Gives, left}
use Rattle.text_forms.specs.Kept.{is_unsigned, kept_one, kept_token, kept_such, perhaps}
use Rattle.text_forms.specs.Nested.{joined}
use Rattle.text_forms.specs.Reading.{◌>>=◌}
use Rattle.ir_types.specs.declared.opcode.Extra.{Extra}
use Rattle.ir_types.specs.declared.opcode.Extra.TheVariants.{Section, Comdat, Alignment, Attachment}
use Rattle.ir_types.specs.Tree.{KeptTexts}
use Rattle.ir_types.specs.ItemForms.{extra, kept_once}
use Rattle.ir_reader_items.specs.declared.extras.Seen.{Seen}

-- what stood there with one more, where that stands there for the first time or is an attachment
abbrev pub with_extra : Seen → Extra → Option Seen
with_extra s Section = if s.section then None else Some (record { section = true; comdat = s.comdat; alignment = s.alignment })
with_extra s Comdat = if s.comdat then None else Some (record { section = s.section; comdat = true; alignment = s.alignment })
with_extra s Alignment = if s.alignment then None else Some (record { section = s.section; comdat = s.comdat; alignment = true })
with_extra s Attachment = Some s

-- nothing stood there
abbrev pub nothing_seen : Seen
nothing_seen = record { section = false; comdat = false; alignment = false }

-- the texts of one more, where it may stand there
abbrev pub once_more : Seen → Extra × KeptTexts → Option (KeptTexts × Seen)
once_more s x = with_extra s x.0 >>= λ t. Some (x.1, t)

-- what is read, with its texts behind others
abbrev pub kept_onto : KeptTexts → Option ((Extra × KeptTexts) × List Lexeme) → Option ((Extra × KeptTexts) × List Lexeme)
kept_onto front r = r >>= λ x. Some ((x.0.0, front ++ x.0.1), x.1)

-- what stands behind a comma is what is read, with its texts behind those of before
abbrev pub KeepsExtra : (before after : KeptTexts) → Result (Extra × Cursor) SyntaxFault → Option ((Extra × KeptTexts) × List Lexeme) → Type 0
KeepsExtra before after result there = Gives (λ x. ((x.0, after), left x.1)) result (kept_onto before there)

-- section string
abbrev pub section_kept : Form KeptTexts
section_kept = joined (kept_token Word (codes "section")) (kept_one Quoted)

-- [ ($name) ]
abbrev pub comdat_name_kept : Form KeptTexts
comdat_name_kept = perhaps (joined (kept_one LeftParen) (joined (kept_one tokens.Comdat) (kept_one RightParen)))

-- comdat [ ($name) ]
abbrev pub comdat_kept : Form KeptTexts
comdat_kept = joined (kept_token Word (codes "comdat")) comdat_name_kept

-- a number without a sign
abbrev pub number_kept : Form KeptTexts
number_kept = kept_such Number is_unsigned

-- align n
abbrev pub alignment_kept : Form KeptTexts
alignment_kept = joined (kept_token Word (codes "align")) number_kept

-- as many as stand there, no two of them sections, comdats or alignments
abbrev pub extras_kept : Form KeptTexts
extras_kept = made kept_once (many extra)
