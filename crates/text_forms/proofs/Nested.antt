-- Nested types are read exactly as they are spelled, at whatever depth.
use Rattle.std.proofs.Common.{◌≡◌, ℕ, zero, suc, ◌+◌, ◌≤◌, Bool, true, false, List, [], ◌∷◌, ◌++◌, length, Some, refl, sym, ap, ◌∙◌, subst, arith, inl, inr}
use Rattle.text_forms.specs.Form.{Lexeme, Form, either, many, Spells}
use Rattle.text_forms.specs.Reading.{read, next_in, after}
use Rattle.text_forms.proofs.Sound.{sound, Takes}
use Rattle.text_forms.proofs.Complete.{complete}
use Rattle.text_forms.proofs.Exact.{some_is}
use Rattle.text_forms.specs.declared.Around.{Around}
use Rattle.text_forms.specs.declared.Around.TheVariants.{InArray, InStruct}
use Rattle.text_forms.specs.Nested.{TypeParts, PartsDecide, comma_then, joined, struct_end, remainder, struct_of, array_of, one_deeper, memory, SpellsMemory}
use Rattle.text_forms.proofs.NestedDecides.{memory_decides, memory_after}
use Rattle.text_forms.proofs.Deep.{deep_enough}
use Rattle.text_forms.proofs.Begins.{nothing_next}

abbrev Within : {A : Type 0} → Form A → Form A → Type 0
Within {A} f g = (a : A) (ts : List Lexeme) → Spells f a ts → Spells g a ts

in_order : {A : Type 0} (f g : Form A) → Within f g → Within (many f) (many g)
in_order f g h [] ts s = s
in_order f g h (a ∷ more) ts s = (s.0, s.1, s.2, h a s.0 s.3, in_order f g h more s.1 s.4)

commas_within : {A : Type 0} (f g : Form A) → Within f g → Within (comma_then f) (comma_then g)
commas_within f g h a ts s = (s.0, s.1, (s.2.0, s.2.1, s.2.2, s.2.3, h s.0.1 s.2.1 s.2.4))

remainder_within : {N : Type 0} (l : TypeParts N) (w : Around) (f g : Form (List N)) → Within f g → Within (remainder l f w) (remainder l g w)
remainder_within l InArray f g h a ts s = s
remainder_within l (InStruct p) f g h a ts s =
    let m = s.2.3 in
    (s.0, s.1, (s.2.0, s.2.1, s.2.2, (m.0, m.1, in_order (comma_then f) (comma_then g) (commas_within f g h) m.0 s.2.0 m.2), s.2.4))

inner_within : {N : Type 0} (l : TypeParts N) (w : Around) (f g : Form (List N)) → Within f g → Within (joined f (remainder l f w)) (joined g (remainder l g w))
inner_within l w f g h a ts s = (s.0, s.1, (s.2.0, s.2.1, s.2.2, h s.0.0 s.2.0 s.2.3, remainder_within l w f g h s.0.1 s.2.1 s.2.4))

array_within : {N : Type 0} (l : TypeParts N) (f g : Form (List N)) → Within f g → Within (array_of l f) (array_of l g)
array_within l f g h a ts s = (s.0, s.1, (s.2.0, s.2.1, s.2.2, s.2.3, inner_within l InArray f g h s.0.1 s.2.1 s.2.4))

members_within : {N : Type 0} (l : TypeParts N) (p : Bool) (f g : Form (List N)) → Within f g → Within (either (struct_end l p) (joined f (remainder l f (InStruct p)))) (either (struct_end l p) (joined g (remainder l g (InStruct p))))
members_within l p f g h a ts (inl s) = inl s
members_within l p f g h a ts (inr s) = inr (inner_within l (InStruct p) f g h a ts s)

struct_within : {N : Type 0} (l : TypeParts N) (p : Bool) (f g : Form (List N)) → Within f g → Within (struct_of l p f) (struct_of l p g)
struct_within l p f g h a ts s = (s.0, s.1, (s.2.0, s.2.1, s.2.2, s.2.3, members_within l p f g h s.0.1 s.2.1 s.2.4))

deeper_within : {N : Type 0} (l : TypeParts N) (f g : Form (List N)) → Within f g → Within (one_deeper l f) (one_deeper l g)
deeper_within l f g h a ts (inl s) = inl s
deeper_within l f g h a ts (inr (inl s)) = inr (inl (array_within l f g h a ts s))
deeper_within l f g h a ts (inr (inr (inl s))) = inr (inr (inl (struct_within l false f g h a ts s)))
deeper_within l f g h a ts (inr (inr (inr s))) = inr (inr (inr (struct_within l true f g h a ts s)))

one_more : {N : Type 0} (l : TypeParts N) (d : ℕ) → Within (memory l d) (memory l (suc d))
one_more l zero a ts s = inl s
one_more l (suc d) a ts s = deeper_within l (memory l d) (memory l (suc d)) (one_more l d) a ts s

-- by d more
up : ℕ → ℕ → ℕ
up zero n = n
up (suc d) n = suc (up d n)

up_from : {N : Type 0} (l : TypeParts N) (d : ℕ) (a : List N) (ts : List Lexeme) (n : ℕ) → Spells (memory l n) a ts → Spells (memory l (up d n)) a ts
unfolding up
up_from l zero a ts n s = s
up_from l (suc d) a ts n s = one_more l (up d n) a ts (up_from l d a ts n s)

up_swap : (d n : ℕ) → up d n ≡ d + n
unfolding up
up_swap zero n = omega arith
up_swap (suc d) n = let e = up_swap d n in omega (arith, e)

at_least : (d n : ℕ) → n ≤ up d n
at_least d n = let e = up_swap d n in omega (arith, e)

deep : {N : Type 0} (l : TypeParts N) → PartsDecide l → (d n : ℕ) (ts : List Lexeme) → length ts ≤ n → read (memory l (up d n)) ts ≡ read (memory l n) ts
unfolding up
deep l q zero n ts le = refl
deep l q (suc d) n ts le = let e = at_least d n in sym ((deep_enough l q (up d n)).same ts (omega (arith, e))) ∙ deep l q d n ts le

-- Any two depths that are at least the number of the tokens read the same.
pub any_depth : {N : Type 0} (l : TypeParts N) → PartsDecide l → (d n : ℕ) (ts : List Lexeme) → length ts ≤ d → length ts ≤ n → read (memory l d) ts ≡ read (memory l n) ts
any_depth l q d n ts ld ln =
    let e : up d n ≡ up n d = let a = up_swap d n in let b = up_swap n d in omega (arith, a, b) in
    sym (deep l q n d ts ld) ∙ ap (λ (k : ℕ). read (memory l k) ts) (sym e) ∙ deep l q d n ts ln

-- What is spelled, at whatever depth, is read, whatever is behind it.
pub memory_read : {N : Type 0} (l : TypeParts N) → PartsDecide l → (a : List N) (used rest : List Lexeme) (n : ℕ) → length (used ++ rest) ≤ n → SpellsMemory l a used → read (memory l n) (used ++ rest) ≡ Some (a, rest)
memory_read l q a used rest n le s =
    let e : up s.0 n ≡ up n s.0 = let a = up_swap s.0 n in let b = up_swap n s.0 in omega (arith, a, b) in
    let t : Spells (memory l (up s.0 n)) a used = subst (λ (d : ℕ). Spells (memory l d) a used) (sym e) (up_from l n a used s.0 s.1) in
    let stop : next_in (after (memory l (up s.0 n))) rest ≡ false = rw (memory_after l q (up s.0 n)) (nothing_next rest) in
    sym (deep l q s.0 n (used ++ rest) le) ∙ complete (memory l (up s.0 n)) (memory_decides l q (up s.0 n)) a used rest t stop

-- What is read is spelled.
pub memory_spelled : {N : Type 0} (l : TypeParts N) → PartsDecide l → (n : ℕ) (ts : List Lexeme) (x : List N × List Lexeme) → read (memory l n) ts ≡ Some x → Takes (SpellsMemory l) ts x.0 x.1
memory_spelled l q n ts x e = let t = sound (memory l n) (memory_decides l q n) ts x e in record { used = t.used; parts = t.parts; spelled = (n, t.spelled) }

-- Tokens spell one type.
pub memory_one : {N : Type 0} (l : TypeParts N) → PartsDecide l → (a b : List N) (ts : List Lexeme) → SpellsMemory l a ts → SpellsMemory l b ts → a ≡ b
memory_one {N} l q a b ts s r =
    let made : List N × List Lexeme = (a, []) in
    let other : List N × List Lexeme = (b, []) in
    let n = length (ts ++ []) in
    ap (λ (x : List N × List Lexeme). x.0) (some_is made other (sym (memory_read l q a ts [] n (omega arith) s) ∙ memory_read l q b ts [] n (omega arith) r))
