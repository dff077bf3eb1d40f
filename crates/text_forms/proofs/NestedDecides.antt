-- One token ahead decides in a nested type, at every depth.
use Rattle.std.proofs.Common.{◌≡◌, ℕ, zero, suc, Bool, true, false, List, [], ◌∷◌, ◌++◌, refl}
use Rattle.std.proofs.lemmas.List.{append-nil}
use Rattle.std.proofs.lemmas.Bool.{and_parts, and_from}
use Rattle.text_forms.specs.declared.TokenKind.TheVariants.{RightBrace}
use Rattle.text_forms.specs.Form.{Form, either}
use Rattle.text_forms.specs.Reading.{Terminal, any_of, apart_from, all_apart, decides, nullable, first, after}
use Rattle.text_forms.specs.Nested.{TypeParts, PartsDecide, memory, one_deeper, array_of, struct_of, struct_begins}

deeper_takes : {N : Type 0} (l : TypeParts N) → PartsDecide l → (m : Form (List N)) → nullable (one_deeper l m) ≡ false
deeper_takes l q m = rw (q.leaf_takes, q.array_takes) refl

pub memory_takes : {N : Type 0} (l : TypeParts N) → PartsDecide l → (d : ℕ) → nullable (memory l d) ≡ false
memory_takes l q zero = q.leaf_takes
memory_takes l q (suc d) = deeper_takes l q (memory l d)

pub memory_after : {N : Type 0} (l : TypeParts N) → PartsDecide l → (d : ℕ) → after (memory l d) ≡ []
memory_after l q zero = q.leaf_ends
memory_after l q (suc d) = rw (q.leaf_ends, memory_takes l q d) refl

begins_deeper : {N : Type 0} (l : TypeParts N) → PartsDecide l → (m : Form (List N)) → first (one_deeper l m) ≡ first l.leaf ++ (first l.array_head ++ struct_begins)
begins_deeper l q m = rw (q.array_takes, append-nil (first l.array_head)) refl

apart_front : (s : Terminal) (a b : List Terminal) → apart_from s (a ++ b) ≡ true → apart_from s a ≡ true
apart_front s [] b e = refl
apart_front s (r ∷ a) b e = let p = and_parts _ (apart_from s (a ++ b)) e in and_from _ _ p.0 (apart_front s a b p.1)

-- no type begins as a struct ends
not_closing : {N : Type 0} (l : TypeParts N) → PartsDecide l → (d : ℕ) → apart_from (any_of RightBrace) (first (memory l d)) ≡ true
not_closing l q zero = apart_front (any_of RightBrace) (first l.leaf) _ (and_parts (apart_from (any_of RightBrace) (first l.leaf ++ (first l.array_head ++ struct_begins))) true q.end_apart).0
not_closing l q (suc d) = rw (begins_deeper l q (memory l d)) (and_parts (apart_from (any_of RightBrace) (first l.leaf ++ (first l.array_head ++ struct_begins))) true q.end_apart).0

struct_decides : {N : Type 0} (l : TypeParts N) (p : Bool) (m : Form (List N)) → decides m ≡ true → nullable m ≡ false → after m ≡ [] → apart_from (any_of RightBrace) (first m) ≡ true → decides (struct_of l p m) ≡ true
struct_decides l true m d n a c = rw (d, n, a, append-nil (first m), c) refl
struct_decides l false m d n a c = rw (d, n, a, append-nil (first m), c) refl

array_of_decides : {N : Type 0} (l : TypeParts N) → PartsDecide l → (m : Form (List N)) → decides m ≡ true → after m ≡ [] → decides (array_of l m) ≡ true
array_of_decides l q m d a = rw (q.array_decides, q.array_ends, d, a) refl

-- one of four that begin apart
choice : {A : Type 0} (f g h k : Form A) → decides f ≡ true → decides g ≡ true → decides h ≡ true → decides k ≡ true → nullable f ≡ false → nullable g ≡ false → nullable h ≡ false → nullable k ≡ false → all_apart (first f) (first g ++ (first h ++ first k)) ≡ true → all_apart (first g) (first h ++ first k) ≡ true → all_apart (first h) (first k) ≡ true → decides (either f (either g (either h k))) ≡ true
choice f g h k df dg dh dk nf ng nh nk afg ag ah = rw (df, dg, dh, dk, nf, ng, nh, nk, afg, ag, ah) refl

pub array_begins : {N : Type 0} (l : TypeParts N) → PartsDecide l → (m : Form (List N)) → first (array_of l m) ≡ first l.array_head
array_begins l q m = rw q.array_takes (append-nil (first l.array_head))

pub memory_decides : {N : Type 0} (l : TypeParts N) → PartsDecide l → (d : ℕ) → decides (memory l d) ≡ true
memory_decides l q zero = q.leaf_decides
memory_decides l q (suc d) =
    let m = memory l d in
    let i = memory_decides l q d in
    let n = memory_takes l q d in
    let a = memory_after l q d in
    let c = not_closing l q d in
    let fa = array_begins l q m in
    choice l.leaf (array_of l m) (struct_of l false m) (struct_of l true m) q.leaf_decides (array_of_decides l q m i a) (struct_decides l false m i n a c) (struct_decides l true m i n a c) q.leaf_takes (rw q.array_takes refl) refl refl
    (rw fa q.leaf_apart) (rw fa q.array_apart) refl
