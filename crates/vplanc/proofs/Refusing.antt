-- The cause of a refusal of the text, and that the causes leave nothing else.
use Rattle.std.proofs.Common.{◌≡◌, ◌≤◌, ℕ, ◌⊎◌, List, length, refl, subst, sym, ap, ◌∙◌, inl, inr, arith, true≢false, IfSome, IfErr}
use Rattle.std.specs.declared.option.Option.{Option}
use Rattle.std.specs.declared.option.Option.TheVariants.{None, Some}
use Rattle.std.specs.declared.result.Result.{Result}
use Rattle.std.specs.declared.result.Result.TheVariants.{Ok, Err}
use Rattle.std.specs.Result.{IsErrAnd}
use Rattle.text_forms.specs.Form.{Lexeme}
use Rattle.text_forms.specs.LeftOut.{FirstLeftOut}
use Rattle.text_forms.specs.View.{lexemes}
use Rattle.vplan_io.specs.Causes.{Rose, longest, IsWhole}
use Rattle.text_lex.specs.declared.fault.TextFault.{TextFault}
use Rattle.text_lex.specs.declared.fault.TextFault.TheVariants.{BadToken, LeftOut, TextLimit, NoReading, CountLimit, Memory as TextMemory}
use Rattle.text_lex.specs.declared.fault.Count.{Count}
use Rattle.text_lex.specs.Fault.{IsLeftOutAt, HasNoneLeftOut}
use Rattle.text_lex.proofs.Unique.{lexes_unique, stops_lexes}
use Rattle.ir_limits.specs.Limits.{limit_passed}
use Rattle.ir_types.specs.Tree.{ModuleTree}
use Rattle.ir_rules.specs.declared.fault.Rule.{Rule}
use Rattle.ir_rules.specs.declared.fault.Breach.{Breach}
use Rattle.ir_rules.specs.declared.fault.CheckFault.{CheckFault}
use Rattle.ir_rules.specs.declared.fault.CheckFault.TheVariants.{Broken, Memory as CheckMemory}
use Rattle.ir_rules.specs.WellFormed.{KeepsRules, Cause as BreachCause}
use Rattle.ir_check.proofs.Causes.{verdict}
use Rattle.ir_text_laws.proofs.Readings.{one_numbering, one_reading}
use Rattle.ir_reader.specs.Refusal.{IsRefusal}
use Rattle.vplanc.specs.declared.answer.Which.TheVariants.{Module as TheModule, Out}
use Rattle.vplanc.specs.declared.answer.Status.{Status}
use Rattle.vplanc.specs.declared.answer.Status.TheVariants.{Done, BadWords, Text, Check, ReadFault, WriteFault, Memory}
use Rattle.vplanc.specs.Answers.{text_status, breach_text, IsAccepted, IsMeant, IsBroken, IsCheckStatus, IsBeforeOut, FileCause, Cause, WriteCause, FileCompletes, Completes}

-- what holds of the bytes that were loaded holds of the file, where it is told
told-of : (P : List ℕ → Type 0) (told : Option (List ℕ)) (bytes : List ℕ) → IfSome told (λ file. bytes ≡ file) → P bytes → IfSome told P
told-of P None bytes e p = tt
told-of P (Some file) bytes e p = subst P e p

-- what was loaded is short
within : (bytes : List ℕ) (last : ℕ) → last ≡ length bytes → length bytes ≤ longest → last ≤ longest
within bytes last took short = subst (λ n. n ≤ longest) (sym took) short

-- a text that is loaded and not read is refused, and never for its length
refused-text : (told : Option (List ℕ)) (bytes : List ℕ) (before now last : ℕ) (fault : TextFault) → last ≡ length bytes → IsWhole told bytes → IsRefusal bytes fault → IsBeforeOut (text_status fault) × FileCause told before now last (text_status fault)
refused-text told bytes before now last (BadToken place) took whole r = (tt, (within bytes last took r.0, told-of (λ text. IsRefusal text (BadToken place)) told bytes whole.same r))
refused-text told bytes before now last (LeftOut word place) took whole r = (tt, (within bytes last took r.0, told-of (λ text. IsRefusal text (LeftOut word place)) told bytes whole.same r))
refused-text told bytes before now last (TextLimit n) took whole (size, long) = absurd (omega (arith, whole.short))
refused-text told bytes before now last (NoReading place) took whole r = (tt, (within bytes last took r.0, told-of (λ text. IsRefusal text (NoReading place)) told bytes whole.same r))
refused-text told bytes before now last (CountLimit count n) took whole r = (tt, (within bytes last took r.0, told-of (λ text. IsRefusal text (CountLimit count n)) told bytes whole.same r))
refused-text told bytes before now last TextMemory took whole refusal = (tt, tt)

-- what holds of one status holds of an error that is that status
if-err-is : {T : Type 0} (result : Result T Status) (status : Status) (Q : Status → Type 0) → IsErrAnd result (λ s. s ≡ status) → Q status → IfErr result Q
if-err-is (Ok value) status Q is q = absurd is
if-err-is (Err error) status Q is q = subst Q (sym is) q

-- so an error that is the status of such a fault has its cause
pub refused-error : {T : Type 0} (result : Result T Status) (told : Option (List ℕ)) (bytes text : List ℕ) (before now last : ℕ) (fault : TextFault) → IsErrAnd result (λ s. s ≡ text_status fault) → last ≡ length bytes → IsWhole told bytes → text ≡ bytes → IsRefusal text fault → IfErr result (λ s. IsBeforeOut s × FileCause told before now last s)
refused-error result told bytes text b n l fault is took whole same refusal =
    if-err-is result (text_status fault) (λ s. IsBeforeOut s × FileCause told b n l s) is (refused-text told bytes b n l fault took whole (subst (λ t. IsRefusal t fault) same refusal))

-- where none of the tokens is left out, none is the first
none-is-left-out : (text word : List ℕ) (place : ℕ) → HasNoneLeftOut text → IsLeftOutAt text word place → ⊥
none-is-left-out text word place free out =
    let same : lexemes text out.tokens ≡ free.tokens = lexes_unique text (lexemes text out.tokens) free.tokens out.lexed free.lexed in
    let first : FirstLeftOut free.tokens out.place = subst (λ (ts : List Lexeme). FirstLeftOut ts out.place) same out.first in
    true≢false (sym first.left_out ∙ free.none out.place)

-- an accepted text passes no limit
not-over : {A : Type 0} (text : List ℕ) → IsAccepted text → (count : Count) (n : ℕ) → IsRefusal text (CountLimit count n) → A
not-over text ok count n r =
    let p = r.2 in
    let same = ap limit_passed (one_numbering text ok.tree p.read_as ok.read.within.reads p.reads) in
    let within = ok.read.within.within in
    let over = p.passed in
    absurd (cc)

-- an accepted text breaks no rule
not-broken : (text : List ℕ) → IsAccepted text → (rule : Rule) (names : List ℕ) (place : ℕ) → IsBroken text rule names place → ⊥
not-broken text ok rule names place b =
    let same = one_reading text ok.tree b.tree ok.read.within.reads b.read.within.reads in
    verdict b.tree rule b.breach (subst KeepsRules same ok.keeps) b.cause

-- an accepted file, with no fault, is printed, or memory is short
accepted-done : (text : List ℕ) (before now last out_before out_now : ℕ) (status : Status) → FileCause (Some text) before now last status → WriteCause out_before out_now status → IsAccepted text → ¬ Rose before now → ¬ Rose out_before out_now → (status ≡ Done) ⊎ (status ≡ Memory)
accepted-done text b n l ob on Done cause write ok read wrote = inl refl
accepted-done text b n l ob on Memory cause write ok read wrote = inr refl
accepted-done text b n l ob on BadWords cause write ok read wrote = absurd cause
accepted-done text b n l ob on (Text (TextLimit size)) cause write ok read wrote = absurd (omega (arith, ok.read.short, cause.2))
accepted-done text b n l ob on (Text (BadToken place)) cause write ok read wrote = absurd (stops_lexes text place ok.read.nothing_left_out.tokens cause.1.1 ok.read.nothing_left_out.lexed)
accepted-done text b n l ob on (Text (LeftOut word place)) cause write ok read wrote = absurd (none-is-left-out text word place ok.read.nothing_left_out cause.1.1)
accepted-done text b n l ob on (Text (NoReading place)) cause write ok read wrote = absurd (cause.1.1 ok.tree ok.read.within.reads)
accepted-done text b n l ob on (Text (CountLimit count c)) cause write ok read wrote = not-over text ok count c cause.1
accepted-done text b n l ob on (Text TextMemory) cause write ok read wrote = absurd cause
accepted-done text b n l ob on (Check rule names place) cause write ok read wrote = absurd (not-broken text ok rule names place cause.1)
accepted-done text b n l ob on (ReadFault TheModule) cause write ok read wrote = absurd (read cause)
accepted-done text b n l ob on (ReadFault Out) cause write ok read wrote = absurd cause
accepted-done text b n l ob on (WriteFault TheModule) cause write ok read wrote = absurd write
accepted-done text b n l ob on (WriteFault Out) cause write ok read wrote = absurd (wrote write)

file-completes : (told : Option (List ℕ)) (before now last out_before out_now : ℕ) (status : Status) → FileCause told before now last status → WriteCause out_before out_now status → FileCompletes told (Rose before now) (Rose out_before out_now) status
file-completes None b n l ob on status cause write = tt
file-completes (Some text) b n l ob on status cause write = accepted-done text b n l ob on status cause write

-- the same for any words
pub completes : (command : Option (List ℕ)) (told : List ℕ → Option (List ℕ)) (before now : List ℕ → ℕ) (last out_before out_now : ℕ) (status : Status) → Cause command told before now last status → WriteCause out_before out_now status → Completes command told (λ name. Rose (before name) (now name)) (Rose out_before out_now) status
completes None told before now l ob on status cause write = tt
completes (Some file) told before now l ob on status cause write = file-completes (told file) (before file) (now file) l ob on status cause write

-- ---- a tree that breaks a rule

-- the tree that a file reads as breaks a rule, and that is the answer
broken-text : (told : Option (List ℕ)) (m : ModuleTree) (rule : Rule) (breach : Breach) → IsMeant told m → BreachCause m (Broken rule breach) → IfSome told (λ text. IsBroken text rule (breach_text breach) breach.place)
broken-text None m rule breach meant cause = tt
broken-text (Some text) m rule breach meant cause = record { tree = m; read = meant; breach = breach; cause = cause; names_are = refl; place_is = refl }

pub refused-tree : (told : Option (List ℕ)) (before now last : ℕ) (m : ModuleTree) (fault : CheckFault) (s : Status) → IsMeant told m → last ≤ longest → BreachCause m fault → IsCheckStatus fault s → IsBeforeOut s × FileCause told before now last s
refused-tree told b n last m (Broken rule breach) s meant short cause (inl is) = subst (λ x. IsBeforeOut x × FileCause told b n last x) (sym is) (tt, (short, broken-text told m rule breach meant cause))
refused-tree told b n last m (Broken rule breach) s meant short cause (inr is) = subst (λ x. IsBeforeOut x × FileCause told b n last x) (sym is) (tt, tt)
refused-tree told b n last m CheckMemory s meant short cause is = subst (λ x. IsBeforeOut x × FileCause told b n last x) (sym is) (tt, tt)
