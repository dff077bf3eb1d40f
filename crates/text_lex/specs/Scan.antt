-- Finding the token at the front of a text.
use Rattle.std.specs.Prelude.{◌≡◌, ◌≤◌, ◌<◌, ◌+◌, ◌-◌, ℕ, zero, suc, Bool, true, false, not, ◌&&◌, ◌||◌, ◌==◌, nat_lt, List, [], ◌∷◌, length, take, drop, Option, Some, None, if◌then◌else◌}
use Rattle.text_forms.specs.declared.TokenKind.{TokenKind}
use Rattle.text_forms.specs.declared.Part.{Part}
use Rattle.text_forms.specs.declared.Token.{Token}
use Rattle.text_lex.specs.declared.names.NameRun.{NameRun}
use Rattle.text_forms.specs.declared.Class.TheVariants.{NamePart}
use Rattle.text_forms.specs.Lexical.{has, after, may_end, and_then, table, is_space, is_letter, is_digit, Longest}

-- the best so far, or the length of a longer front that the parts spell
abbrev pub far : List Part → List ℕ → ℕ → Option ℕ → Option ℕ
far ps [] n best = best
far ps (c ∷ cs) n best = and_then (after ps c) (λ qs. far qs cs (n + 1) (if may_end qs then Some (n + 1) else best)) best

-- the length of the longest front that the parts spell
abbrev pub front : List Part → List ℕ → Option ℕ
front ps cs = far ps cs 0 (if may_end ps then Some 0 else None)

-- the longer of the two, or the first
abbrev pub join : TokenKind → Option ℕ → Option (TokenKind × ℕ) → Option (TokenKind × ℕ)
join k None b = b
join k (Some n) None = Some (k, n)
join k (Some n) (Some b) = if nat_lt n b.1 then Some b else Some (k, n)

-- the kind and the length of the longest front that a row spells, of equal ones the first row's
abbrev pub best : List (TokenKind × List Part) → List ℕ → Option (TokenKind × ℕ)
best [] cs = None
best (r ∷ rs) cs = join r.0 (front r.1 cs) (best rs cs)

-- does a colon stand at once behind the bytes of a name at the front?
abbrev pub colon_behind : List ℕ → Bool
colon_behind [] = false
colon_behind (c ∷ cs) = if has NamePart c then colon_behind cs else c == 58

-- where in the table the rows of marks stand that may begin with the byte: the first, and how many
abbrev pub mark_range : ℕ → ℕ × ℕ
mark_range c =
    (if c == 61 then (24, 1) else (if c == 44 then (25, 1) else (if c == 40 then (26, 1) else (if c == 41 then (27, 1) else (if c == 91 then (28, 1) else (if c == 93 then (29, 1) else (if c == 123 then (30, 1) else (if c == 125 then (31, 1) else (if c == 60 then (32, 1) else (if c == 62 then (33, 1) else (if c == 42 then (34, 1) else (if c == 58 then (35, 1) else (if c == 124 then (36, 1) else (0, 0))))))))))))))

-- the same of all rows
abbrev pub range : ℕ → ℕ × ℕ
range c =
    (if c == 34 then (0, 2) else
    (if c == 37 then (13, 3) else
    (if c == 64 then (16, 3) else
    (if c == 36 then (2, 11) else
    (if c == 46 then (2, 9) else
    (if c == 99 then (2, 8) else
    (if is_letter c || (c == 95) then (2, 7) else
    (if c == 45 then (2, 5) else
    (if is_digit c then (3, 5) else
    (if c == 33 then (19, 3) else
    (if c == 35 then (22, 2) else
    mark_range c)))))))))))

-- the same, but for the row of labels that begin like a name, which is left out where no colon stands behind the name at the front
abbrev pub rows_for : ℕ → Bool → ℕ × ℕ
rows_for c colon = if not colon && ((range c).0 == 2) then ((range c).0 + 1, (range c).1 - 1) else range c

-- may the parts begin with the byte, or be empty?
abbrev pub starts : ℕ → List Part → Bool
starts c ps = may_end ps || and_then (after ps c) (λ qs. true) false

-- no row begins with the byte
abbrev pub none_starts : ℕ → List (TokenKind × List Part) → Bool
none_starts c [] = true
none_starts c (r ∷ rs) = not (starts c r.1) && none_starts c rs

-- no row outside of the range begins with the byte
unfoldable pub is_covered : ℕ → Bool
is_covered c = none_starts c (take (range c).0 table) && none_starts c (drop ((range c).0 + (range c).1) table)

-- the test holds for each number below this
abbrev pub all_below : ℕ → (ℕ → Bool) → Bool
all_below zero p = true
all_below (suc n) p = p n && all_below n p

-- how many bytes stand up to the next line
abbrev pub line : List ℕ → ℕ
line [] = 0
line (c ∷ cs) = if (c == 10) || (c == 13) then 1 else line cs + 1

-- how many bytes of white space or of a comment stand here
abbrev pub blank : List ℕ → ℕ
blank [] = 0
blank (c ∷ cs) = if is_space c then 1 else (if c == 59 then line cs + 1 else 0)

-- the token at the front, by its kind and its length
pub record At (text : List ℕ) (kind : TokenKind) (size : ℕ) : Type 0 where
  pub within : size ≤ length text
  pub some : 0 < size
  pub longest : Longest text kind (take size text) (drop size text)

-- from the place on, up to the run's end, the run says whether a colon stands behind the name
abbrev pub TellsColon : List ℕ → ℕ → NameRun → Type 0
TellsColon text place run = (q : ℕ) → place ≤ q → q < run.end → run.colon ≡ colon_behind (drop q text)

-- the token stands within the text
pub record IsWithin (text : List ℕ) (token : Token) : Type 0 where
  pub ordered : token.start ≤ token.end
  pub inside : token.end ≤ length text
