-- An alignment that is written.
use Rattle.std.specs.Prelude.{ℕ, codes}
use Rattle.text_forms.specs.declared.TokenKind.TheVariants.{Number, Comma}
use Rattle.text_forms.specs.Form.{Form, one, made}
use Rattle.text_forms.specs.Combined.{marked, behind}
use Rattle.ir_types.specs.InstParts.{alignment_of}

-- , align n
abbrev pub written_alignment : Form ℕ
written_alignment = marked Comma (behind (codes "align") (made alignment_of (one Number)))
