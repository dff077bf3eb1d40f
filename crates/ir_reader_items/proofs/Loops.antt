-- What the loop over a variable's extras keeps.
use Rattle.std.proofs.Common.{◌≡◌, ◌<◌, true, false, List, [], ◌∷◌, ◌++◌, length, Option, Some, None, refl, sym, ap, ◌∙◌, append_assoc}
use Rattle.std.proofs.lemmas.List.{append-nil}
use Rattle.text_forms.specs.Form.{Lexeme, made, many}
use Rattle.text_forms.specs.Reading.{◌>>=◌, nullable, opens, read}
use Rattle.text_forms.specs.Walk.{walk, completed}
use Rattle.text_forms.specs.Nested.{concat}
use Rattle.text_forms.specs.Machine.{behind}
use Rattle.text_forms.proofs.Walks.{so_far, so_far_nothing, goes_completed, walk_fails, walk_ends}
use Rattle.text_forms.proofs.Many.{shorter}
use Rattle.text_forms.proofs.Exact.{some_is}
use Rattle.ir_types.specs.declared.opcode.Extra.{Extra}
use Rattle.ir_types.specs.Tree.{KeptTexts}
use Rattle.ir_types.specs.ItemForms.{extra, kept_once}
use Rattle.ir_reader_items.specs.declared.extras.Seen.{Seen}
use Rattle.ir_reader_items.specs.Extras.{with_extra, nothing_seen, once_more, kept_onto}
use Rattle.ir_reader_items.proofs.Once.{kept_walk, joined_texts}

abbrev Walked : Type 0
Walked = Option ((List KeptTexts × Seen) × List Lexeme)

-- all that is walked from there on
abbrev walked : Seen → List Lexeme → Walked
walked s ts = completed (walk once_more s) (read (many extra) ts)

-- texts and what stood there so far, before the tokens that are left
pub record ExtrasSoFar (before : KeptTexts) (ts : List Lexeme) (seen : Seen) (texts : KeptTexts) (us : List Lexeme) : Type 0 where
  pub done : List KeptTexts
  pub kept : texts ≡ before ++ concat done
  pub walks : so_far done (walked seen us) ≡ walked nothing_seen ts

-- the texts of all behind those before
abbrev all_behind : KeptTexts → Walked → Option (KeptTexts × List Lexeme)
all_behind front r = r >>= λ x. Some (front ++ concat x.0.0, x.1)

whole_is : (front : KeptTexts) (ts : List Lexeme) → behind front (read (made kept_once (many extra)) ts) ≡ all_behind front (walked nothing_seen ts)
whole_is front ts = by (read (many extra) ts)
  where
    one : (us : List Lexeme) (o : Option (List KeptTexts × Seen)) → behind front (joined_texts o >>= λ b. Some (b, us)) ≡ all_behind front (o >>= λ b. Some (b, us))
    one us None = refl
    one us (Some y) = refl

    by : (r : Option (List (Extra × KeptTexts) × List Lexeme)) → behind front (completed kept_once r) ≡ all_behind front (completed (walk once_more nothing_seen) r)
    by None = refl
    by (Some x) = ap (λ (o : Option KeptTexts). behind front (o >>= λ b. Some (b, x.1))) (kept_walk x.0) ∙ one x.1 (walk once_more nothing_seen x.0)

pub none_yet : (front : KeptTexts) (ts : List Lexeme) → ExtrasSoFar front ts nothing_seen front ts
none_yet front ts = record { done = []; kept = sym (append-nil front); walks = so_far_nothing (walked nothing_seen ts) }

extra_takes : nullable extra ≡ false
extra_takes = refl

-- what is kept behind texts is an extra's
abbrev Read : Type 0
Read = (Extra × KeptTexts) × List Lexeme

abbrev read_so : Extra → KeptTexts → List Lexeme → Option Read
read_so kind k us = Some ((kind, k), us)

made_onto : (front texts : KeptTexts) (kind : Extra) (us : List Lexeme) (r : Option Read) → kept_onto front r ≡ Some ((kind, texts), us) → (k : KeptTexts) × (r ≡ Some ((kind, k), us)) × (texts ≡ front ++ k)
made_onto front texts kind us None e = absurd cc
made_onto front texts kind us (Some x) e =
    let whole : Read = ((x.0.0, front ++ x.0.1), x.1) in
    let same = some_is whole ((kind, texts), us) e in
    let of_kind : x.0.0 ≡ kind = ap (λ (y : Read). y.0.0) same in
    let rest : x.1 ≡ us = ap (λ (y : Read). y.1) same in
    (x.0.1, ap (λ (k : Extra). read_so k x.0.1 x.1) of_kind ∙ ap (λ (l : List Lexeme). read_so kind x.0.1 l) rest, sym (ap (λ (y : Read). y.0.1) same))

abbrev after_extra : KeptTexts → List Lexeme → Option Seen → Option ((KeptTexts × Seen) × List Lexeme)
after_extra k us o = (o >>= λ t. Some (k, t)) >>= λ b. Some (b, us)

concat_push : (xs : List KeptTexts) (x : KeptTexts) → concat (xs ++ x ∷ []) ≡ concat xs ++ x
concat_push [] x = append-nil x
concat_push (y ∷ ys) x = ap (λ (k : KeptTexts). y ++ k) (concat_push ys x) ∙ sym (append_assoc y (concat ys) x)

-- one more
pub one_more : (before : KeptTexts) (ts us vs : List Lexeme) (seen now : Seen) (texts more : KeptTexts) (kind : Extra) → ExtrasSoFar before ts seen texts us → opens extra us ≡ true
    → kept_onto texts (read extra us) ≡ Some ((kind, more), vs) → with_extra seen kind ≡ Some now → ExtrasSoFar before ts now more vs
one_more before ts us vs seen now texts more kind h o e w =
    let m = made_onto texts more kind vs (read extra us) e in
    let one : completed (once_more seen) (read extra us) ≡ Some ((m.0, now), vs) = ap (completed (once_more seen)) m.1 ∙ ap (λ (o : Option Seen). after_extra m.0 vs o) w in
    record {
      done = h.done ++ m.0 ∷ [];
      kept = m.2 ∙ ap (λ (k : KeptTexts). k ++ m.0) h.kept ∙ append_assoc before (concat h.done) m.0 ∙ ap (λ (k : KeptTexts). before ++ k) (sym (concat_push h.done m.0));
      walks = goes_completed extra once_more h.done seen now m.0 us vs (walked nothing_seen ts) extra_takes o one h.walks;
    }

-- one that isn't read, or is one too many
pub one_fails : (before : KeptTexts) (ts us : List Lexeme) (seen : Seen) (texts : KeptTexts) → ExtrasSoFar before ts seen texts us → opens extra us ≡ true → completed (once_more seen) (read extra us) ≡ None
    → behind before (read (made kept_once (many extra)) ts) ≡ None
one_fails before ts us seen texts h o e = whole_is before ts ∙ ap (all_behind before) (walk_fails extra once_more h.done seen us (walked nothing_seen ts) extra_takes o e h.walks)

-- none is left
pub none_left : (before : KeptTexts) (ts us : List Lexeme) (seen : Seen) (texts : KeptTexts) → ExtrasSoFar before ts seen texts us → opens extra us ≡ false → behind before (read (made kept_once (many extra)) ts) ≡ Some (texts, us)
none_left before ts us seen texts h o =
    whole_is before ts ∙ ap (all_behind before) (walk_ends extra once_more h.done seen us (walked nothing_seen ts) o h.walks) ∙ ap (λ (k : KeptTexts). Some (k, us)) (sym h.kept)

pub not_read : (seen : Seen) (front : KeptTexts) (us : List Lexeme) → kept_onto front (read extra us) ≡ None → completed (once_more seen) (read extra us) ≡ None
not_read seen front us e = by (read extra us) e
  where
    by : (r : Option Read) → kept_onto front r ≡ None → completed (once_more seen) r ≡ None
    by None h = refl
    by (Some x) h = absurd cc

pub one_too_many : (seen : Seen) (front texts : KeptTexts) (kind : Extra) (us vs : List Lexeme) → kept_onto front (read extra us) ≡ Some ((kind, texts), vs) → with_extra seen kind ≡ None → completed (once_more seen) (read extra us) ≡ None
one_too_many seen front texts kind us vs e w = let m = made_onto front texts kind vs (read extra us) e in ap (completed (once_more seen)) m.1 ∙ ap (λ (o : Option Seen). after_extra m.0 vs o) w

-- an extra takes a token
pub extra_shorter : (front texts : KeptTexts) (kind : Extra) (us vs : List Lexeme) → kept_onto front (read extra us) ≡ Some ((kind, texts), vs) → length vs < length us
extra_shorter front texts kind us vs e = let m = made_onto front texts kind vs (read extra us) e in shorter extra us ((kind, m.0), vs) extra_takes m.1
