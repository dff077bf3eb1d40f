-- A stack with its top at the end of a list.
use Rattle.std.proofs.Common.{◌≡◌, Bool, true, cond, ◌&&◌, List, [], ◌∷◌, ◌++◌, reverse, eqb, Option, Some, None, refl, sym, ap, ◌∙◌, inl, inr}
use Rattle.std.proofs.lemmas.List.{reverse-append}
use Rattle.std.specs.List.{list_any}
use denote.Enum.Bare.{sameb, same_true, same_false}
use Rattle.text_forms.specs.declared.TokenKind.{TokenKind}
use Rattle.text_forms.specs.contracts.TokenKind.{the_type}
use Rattle.text_forms.specs.Form.{kind_code, closed, is_empty, has_kind}
use Rattle.text_forms.specs.Reading.{ends}
use Rattle.text_forms.proofs.Begins.{test}
use Rattle.text_forms.proofs.Tokens.{same_kind, kind_is}

-- the code's test of two kinds
pub same_kinds : (k l : TokenKind) → sameb the_type k l ≡ eqb (kind_code k) (kind_code l)
same_kinds k l =
    elim (test (sameb the_type k l)) [
      | inl y ↦ y ∙ sym (ap (λ (m : TokenKind). eqb (kind_code m) (kind_code l)) (same_true the_type tt k l y) ∙ kind_is l)
      | inr n ↦ elim (test (eqb (kind_code k) (kind_code l))) [ inl e ↦ absurd (same_false the_type k l n (same_kind k l e)) | inr e ↦ n ∙ sym e ]
    ]

-- the code's test of a kind against some kinds
pub tested_kinds : (ks : List TokenKind) (k : TokenKind) → list_any (λ l. sameb the_type l k) ks ≡ has_kind ks k
tested_kinds [] k = refl
tested_kinds (l ∷ ls) k = rw (same_kinds l k, tested_kinds ls k) refl

pub ends_where : (c : TokenKind) (s : List TokenKind) (k : TokenKind) → ends c s k ≡ (is_empty s && sameb the_type k c)
ends_where c [] k = sym (same_kinds k c)
ends_where c (x ∷ s) k = refl

-- what was pushed last comes first
pub pushed : (before : List TokenKind) (next : TokenKind) → reverse (before ++ next ∷ []) ≡ next ∷ reverse before
pushed before next = reverse-append before (next ∷ [])

pub popped : (s before after : List TokenKind) (next k : TokenKind) (same : Bool) → reverse before ≡ s → before ≡ after ++ next ∷ [] → same ≡ sameb the_type next k → closed s k ≡ cond same (Some (reverse after)) None
popped s before after next k same v e t =
    ap (λ (z : List TokenKind). closed z k) (sym v ∙ ap reverse e ∙ pushed after next) ∙ ap (λ (b : Bool). cond b (Some (reverse after)) None) (sym (same_kinds next k) ∙ sym t)

-- the token may stand here
pub fits_here : (o : Option (List TokenKind)) (u : List TokenKind) (fits : Bool) → o ≡ cond fits (Some u) None → fits ≡ true → o ≡ Some u
fits_here o u fits e h = e ∙ ap (λ (b : Bool). cond b (Some u) None) h
