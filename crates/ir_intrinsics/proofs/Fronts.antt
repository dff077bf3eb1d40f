-- What stands behind the front of a text, where the front has two parts.
use Rattle.std.proofs.Common.{◌≡◌, ℕ, false, List, [], ◌∷◌, ◌++◌, map, Option, Some, None, inl, inr, refl, sym, ap, ◌∙◌, if◌then◌else◌, codes}
use Rattle.std.specs.Prelude.{bytes_eq, nat_eq, filter_map}
use Rattle.std.specs.List.{list_any, cons_option}
use Rattle.std.specs.Bool.{Decides}
use Rattle.std.proofs.lemmas.Bool.Decides.{Decides-eqb, same_from_decides}
use Rattle.std.proofs.lemmas.List.{append_cancel_left}
use Rattle.std.proofs.lemmas.Slice.Eq.{bytes_eq-Decides}
use Rattle.text_forms.specs.Bind.{◌>>=◌}
use Rattle.text_forms.specs.Form.{same_text, is_one_of}
use Rattle.text_forms.proofs.Begins.{test}
use Rattle.text_forms.proofs.Tokens.{text_is, is_text}
use Rattle.ir_types.specs.declared.name.Name.TheVariants.{Text}
use Rattle.ir_intrinsics.specs.Intrinsics.{first, Intrinsic as Kind, Meant, any_lifetime, behind_front, in_family, families, lifetimes, meant_by}
use Rattle.ir_intrinsics.specs.Means.{in_one, short_families, short_lifetimes, behind_llvm}

-- byte by byte
abbrev stripped : List ℕ → List ℕ → Option (List ℕ)
stripped [] s = Some s
stripped (c ∷ p) [] = None
stripped (c ∷ p) (d ∷ s) = if nat_eq c d then stripped p s else None

by_bytes : (p s : List ℕ) → behind_front p s ≡ stripped p s
by_bytes [] s = refl
by_bytes (c ∷ p) [] = refl
by_bytes (c ∷ p) (d ∷ s) = elim (test (nat_eq c d)) [ inl e ↦ rw e (by_bytes p s) | inr e ↦ rw e refl ]

two_parts : (p f s : List ℕ) → stripped (p ++ f) s ≡ (stripped p s >>= behind_front f)
two_parts [] f s = sym (by_bytes f s)
two_parts (c ∷ p) f [] = refl
two_parts (c ∷ p) f (d ∷ s) = elim (test (nat_eq c d)) [ inl e ↦ rw e (two_parts p f s) | inr e ↦ rw e refl ]

-- a front of two parts
pub behind_both : (p f s : List ℕ) → behind_front (p ++ f) s ≡ (behind_front p s >>= behind_front f)
behind_both p f s = by_bytes (p ++ f) s ∙ two_parts p f s ∙ ap (λ o. o >>= behind_front f) (sym (by_bytes p s))

-- front and rest make the text
split : (p s r : List ℕ) → stripped p s ≡ Some r → s ≡ p ++ r
split [] s r e = cc
split (c ∷ p) [] r e = absurd cc
split (c ∷ p) (d ∷ s) r e = elim (test (nat_eq c d)) [
  | inl i ↦ let t : stripped p s ≡ Some r = ap (λ b. if b then stripped p s else None) (sym i) ∙ e in
      let same : c ≡ d = (Decides-eqb c d).0 i in
      let rest = split p s r t in cc
  | inr i ↦ absurd (let t : None ≡ Some r = ap (λ b. if b then stripped p s else None) (sym i) ∙ e in cc)
]

rest_of : (p l : List ℕ) → stripped p (p ++ l) ≡ Some l
rest_of [] l = refl
rest_of (c ∷ p) l = rw ((Decides-eqb c c).1 refl) (rest_of p l)

pub same_text-Decides : (x y : List ℕ) → Decides (same_text x y) (x ≡ y)
same_text-Decides x y = (is_text x y, λ e. ap (same_text x) (sym e) ∙ text_is x)

-- ---- names behind a front

same_behind : (p l r : List ℕ) → bytes_eq (p ++ r) (p ++ l) ≡ same_text l r
same_behind p l r =
    let bytes : Decides (bytes_eq (p ++ r) (p ++ l)) (l ≡ r) = (λ e. sym (append_cancel_left p r l ((bytes_eq-Decides (p ++ r) (p ++ l)).0 e)), λ e. (bytes_eq-Decides (p ++ r) (p ++ l)).1 (ap (λ t. p ++ t) (sym e))) in
    same_from_decides (bytes_eq (p ++ r) (p ++ l)) (same_text l r) bytes (same_text-Decides l r)

one_behind : (p r : List ℕ) (ls : List (List ℕ)) → list_any (bytes_eq (p ++ r)) (map (λ l. p ++ l) ls) ≡ is_one_of ls r
one_behind p r [] = refl
one_behind p r (l ∷ ls) = rw (same_behind p l r, one_behind p r ls) refl

other_front : (p s l : List ℕ) → stripped p s ≡ None → bytes_eq s (p ++ l) ≡ false
other_front p s l e = elim (test (bytes_eq s (p ++ l))) [
  | inl i ↦ absurd (let t : None ≡ Some l = sym e ∙ ap (stripped p) ((bytes_eq-Decides s (p ++ l)).0 i) ∙ rest_of p l in cc)
  | inr i ↦ i
]

none_behind : (p s : List ℕ) (ls : List (List ℕ)) → stripped p s ≡ None → list_any (bytes_eq s) (map (λ l. p ++ l) ls) ≡ false
none_behind p s [] e = refl
none_behind p s (l ∷ ls) e = rw (other_front p s l e, none_behind p s ls e) refl

abbrev behind : List ℕ → List ℕ × Kind → List ℕ × Kind
behind p e = (p ++ e.0, e.1)

in_one_behind : (p s : List ℕ) (e : List ℕ × Kind) (o : Option (List ℕ)) → behind_front p s ≡ o → in_one s (behind p e) ≡ (o >>= λ r. in_one r e)
in_one_behind p s e o is = ap (λ b. b >>= in_family e.1) (behind_both p e.0 s ∙ ap (λ b. b >>= behind_front e.0) is) ∙ joined o where
  joined : (o : Option (List ℕ)) → ((o >>= behind_front e.0) >>= in_family e.1) ≡ (o >>= λ r. in_one r e)
  joined None = refl
  joined (Some r) = refl

some_family : (p s r : List ℕ) (es : List (List ℕ × Kind)) → behind_front p s ≡ Some r → filter_map (in_one s) (map (behind p) es) ≡ filter_map (in_one r) es
some_family p s r [] is = refl
some_family p s r (e ∷ es) is = ap (λ o. cons_option o (filter_map (in_one s) (map (behind p) es))) (in_one_behind p s e (Some r) is) ∙ ap (cons_option (in_one r e)) (some_family p s r es is)

no_family : (p s : List ℕ) (es : List (List ℕ × Kind)) → behind_front p s ≡ None → filter_map (in_one s) (map (behind p) es) ≡ []
no_family p s [] is = refl
no_family p s (e ∷ es) is = ap (λ o. cons_option o (filter_map (in_one s) (map (behind p) es))) (in_one_behind p s e None is) ∙ no_family p s es is

-- ---- the tables

families_behind : families ≡ map (behind (codes "llvm.")) short_families
unfolding families short_families
families_behind = refl

lifetimes_behind : lifetimes ≡ map (λ l. codes "llvm." ++ l) short_lifetimes
unfolding lifetimes short_lifetimes
lifetimes_behind = refl

-- what is meant by a text, from the tables
abbrev meant_from : List (List ℕ) → List (List ℕ × Kind) → List ℕ → Option Meant
meant_from ls es s = if list_any (bytes_eq s) ls then Some any_lifetime else first (filter_map (in_one s) es)

abbrev short_from : List (List ℕ) → List (List ℕ × Kind) → List ℕ → Option Meant
short_from ls es r = if is_one_of ls r then Some any_lifetime else first (filter_map (in_one r) es)

behind_first : (p s : List ℕ) (ls : List (List ℕ)) (es : List (List ℕ × Kind)) (o : Option (List ℕ)) → behind_front p s ≡ o → meant_from (map (λ l. p ++ l) ls) (map (behind p) es) s ≡ (o >>= short_from ls es)
behind_first p s ls es None is = rw (none_behind p s ls (sym (by_bytes p s) ∙ is), no_family p s es is) refl
behind_first p s ls es (Some r) is =
    let whole : s ≡ p ++ r = split p s r (sym (by_bytes p s) ∙ is) in
    let any : list_any (bytes_eq s) (map (λ l. p ++ l) ls) ≡ is_one_of ls r = ap (λ t. list_any (bytes_eq t) (map (λ l. p ++ l) ls)) whole ∙ one_behind p r ls in
    rw (any, some_family p s r es is) refl

-- a name with a meaning begins with `llvm.`
pub llvm_first : (s : List ℕ) → meant_by (Text s) ≡ (behind_front (codes "llvm.") s >>= behind_llvm)
llvm_first s = ap (λ ls. meant_from ls families s) lifetimes_behind ∙ ap (λ es. meant_from (map (λ l. codes "llvm." ++ l) short_lifetimes) es s) families_behind ∙ behind_first (codes "llvm.") s short_lifetimes short_families (behind_front (codes "llvm.") s) refl
