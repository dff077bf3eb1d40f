-- Worked examples of kept tokens as they are printed.
use Rattle.std.proofs.Common.{◌≡◌, [], ◌∷◌, refl}
use Rattle.std.specs.Prelude.{codes}
use Rattle.text_lex.specs.Layout.{text_of}
use Rattle.text_lex.specs.KeptText.{token_of, touches, kept_pieces, line_pieces}

attribute : text_of (kept_pieces (codes "memory" ∷ codes "(" ∷ codes "argmem:" ∷ codes "readwrite" ∷ codes ")" ∷ [])) ≡ codes "memory(argmem: readwrite)"
unfolding token_of touches
attribute = refl

two_strings : text_of (kept_pieces (codes "\"a\"" ∷ codes "=" ∷ codes "\"b\"" ∷ [])) ≡ codes "\"a\"=\"b\""
unfolding token_of touches
two_strings = refl

node : text_of (kept_pieces (codes "!" ∷ codes "{" ∷ codes "!" ∷ codes "\"int\"" ∷ codes "," ∷ codes "!7" ∷ codes "}" ∷ [])) ≡ codes "!{!\"int\", !7}"
unfolding token_of touches
node = refl

attachments : text_of (kept_pieces (codes "!tbaa" ∷ codes "!0" ∷ codes "," ∷ codes "!prof" ∷ codes "!" ∷ codes "{" ∷ codes "}" ∷ [])) ≡ codes "!tbaa !0, !prof !{}"
unfolding token_of touches
attachments = refl

words : text_of (kept_pieces (codes "nounwind" ∷ codes "align" ∷ codes "8" ∷ codes "#0" ∷ [])) ≡ codes "nounwind align 8 #0"
unfolding token_of touches
words = refl

target_line : text_of (line_pieces (codes "target" ∷ codes "triple" ∷ codes "=" ∷ codes "\"x86\"" ∷ [])) ≡ codes "target triple = \"x86\""
unfolding token_of touches
target_line = refl

node_line : text_of (line_pieces (codes "!0" ∷ codes "=" ∷ codes "distinct" ∷ codes "!" ∷ codes "{" ∷ codes "!0" ∷ codes "," ∷ codes "i32" ∷ codes "1" ∷ codes "}" ∷ [])) ≡ codes "!0 = distinct !{!0, i32 1}"
unfolding token_of touches
node_line = refl

group_line : text_of (line_pieces (codes "attributes" ∷ codes "#0" ∷ codes "=" ∷ codes "{" ∷ codes "nounwind" ∷ codes "\"a\"" ∷ codes "=" ∷ codes "\"b\"" ∷ codes "}" ∷ [])) ≡ codes "attributes #0 = {nounwind \"a\"=\"b\"}"
unfolding token_of touches
group_line = refl
