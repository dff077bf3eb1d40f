-- The grammar of flags.
use Rattle.std.specs.Prelude.{ℕ, Bool, true, false, is_some, List, codes, Option, Some, None}
use Rattle.text_forms.specs.declared.TokenKind.TheVariants.{Word}
use Rattle.text_forms.specs.Form.{Form, exactly, either, mapped, optional}
use Rattle.text_forms.specs.Combined.{behind}
use Rattle.ir_types.specs.declared.inst.Flags.{Flags}

-- [flag]
abbrev pub one_flag : List ℕ → Form Bool
one_flag w = mapped is_some (optional (exactly Word w))

-- what is there, or else this
abbrev pub or_else : {A : Type 0} → A → Option A → A
or_else a None = a
or_else a (Some b) = b

-- a flag, and behind it perhaps others
abbrev pub flag_then : {A B : Type 0} → (A → B) → List ℕ → Form A → Form B
flag_then h w f = mapped h (behind w f)

-- [first] [second], in any order: the first and perhaps the second, or the second and perhaps the first, or neither
abbrev pub two_flags : (first second : List ℕ) → Form (Bool × Bool)
two_flags first second =
    mapped (or_else (false, false)) (optional (either (flag_then (λ b. (true, b)) first (one_flag second)) (flag_then (λ b. (b, true)) second (one_flag first))))

-- [inbounds] [nuw] [nusw], in any order: one of them and perhaps the others, or none
unfoldable pub three_flags : Form (Bool × (Bool × Bool))
three_flags =
    mapped (or_else (false, (false, false))) (optional
    (either (flag_then (λ x. (true, x)) (codes "inbounds") (two_flags (codes "nuw") (codes "nusw")))
    (either (flag_then (λ (inbounds, nusw). (inbounds, (true, nusw))) (codes "nuw") (two_flags (codes "inbounds") (codes "nusw")))
    (flag_then (λ (inbounds, nuw). (inbounds, (nuw, true))) (codes "nusw") (two_flags (codes "inbounds") (codes "nuw"))))))

abbrev pub no_flags : Flags
no_flags = record { nuw = false; nsw = false; exact = false; disjoint = false }

-- `nuw` and `nsw`
abbrev pub wrap_flags : Bool × Bool → Flags
wrap_flags (nuw, nsw) = record { nuw = nuw; nsw = nsw; exact = false; disjoint = false }

-- `exact`
abbrev pub exact_flag : Bool → Flags
exact_flag b = record { nuw = false; nsw = false; exact = b; disjoint = false }

-- `disjoint`
abbrev pub disjoint_flag : Bool → Flags
disjoint_flag b = record { nuw = false; nsw = false; exact = false; disjoint = b }
