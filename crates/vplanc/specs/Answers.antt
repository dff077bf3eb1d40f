-- The answers of the program, with the cause of each, and what it leaves in its sinks.
use Rattle.std.specs.Prelude.{◌≡◌, ℕ, ◌+◌, ◌<◌, ◌≤◌, ◌⊎◌, List, [], ◌∷◌, ◌++◌, length, take, IfSome, codes}
use Rattle.std.specs.Fmt.{decimal}
use Rattle.std.specs.declared.option.Option.{Option}
use Rattle.std.specs.declared.option.Option.TheVariants.{None, Some}
use Rattle.vplan_io.specs.Causes.{Rose, longest, and_then}
use Rattle.vplan_io.specs.declared.LoadFault.{LoadFault}
use Rattle.vplan_io.specs.declared.LoadFault.TheVariants.{Failed as LoadFailed, TooLong, Memory as LoadMemory}
use Rattle.text_lex.specs.declared.fault.TextFault.{TextFault}
use Rattle.text_lex.specs.declared.fault.TextFault.TheVariants.{BadToken, LeftOut, TextLimit, NoReading, CountLimit, Memory as TextMemory}
use Rattle.text_lex.specs.declared.fault.Count.{Count}
use Rattle.text_lex.specs.declared.fault.Count.TheVariants.{Functions, Blocks, Instructions, Name as NameBytes}
use Rattle.text_lex.specs.Fault.{HasNoneLeftOut}
use Rattle.ir_types.specs.declared.name.Name.{Name}
use Rattle.ir_types.specs.Reads.{Reads}
use Rattle.ir_types.specs.Tree.{ModuleTree}
use Rattle.ir_meaning.specs.Allows.{Allows, factor_of}
use Rattle.ir_meaning.specs.First.{IsFirstModule}
use Rattle.ir_printer_types.specs.Texts.{name_text}
use Rattle.ir_rules.specs.declared.fault.Rule.{Rule}
use Rattle.ir_rules.specs.declared.fault.Rule.TheVariants as rules
use Rattle.ir_rules.specs.declared.fault.Subject.{Subject}
use Rattle.ir_rules.specs.declared.fault.Subject.TheVariants.{Nothing, Local, Symbol, TypeName}
use Rattle.ir_rules.specs.declared.fault.Breach.{Breach}
use Rattle.ir_rules.specs.declared.fault.CheckFault.{CheckFault}
use Rattle.ir_rules.specs.declared.fault.CheckFault.TheVariants.{Broken, Memory as CheckMemory}
use Rattle.ir_rules.specs.WellFormed.{KeepsRules, Cause as BreachCause}
use Rattle.ir_reader.specs.Refusal.{IsRefusal, IsWithinLimits}
use Rattle.vplanc.specs.declared.answer.Which.{Which}
use Rattle.vplanc.specs.declared.answer.Which.TheVariants.{Module as TheModule, Out}
use Rattle.vplanc.specs.declared.answer.Status.{Status}
use Rattle.vplanc.specs.declared.answer.Status.TheVariants.{Done, BadWords, Text, Check, ReadFault, WriteFault, Memory}

-- the exit status
abbrev pub code_of : Status → ℕ
code_of Done = 0
code_of BadWords = 2
code_of (Text fault) = 3
code_of (Check rule names place) = 4
code_of (ReadFault which) = 6
code_of (WriteFault which) = 7
code_of Memory = 8

-- the answer where the file is not loaded
abbrev pub load_status : LoadFault → Status
load_status LoadFailed = ReadFault TheModule
load_status TooLong = Text (TextLimit (longest + 1))
load_status LoadMemory = Memory

-- the answer where its text is not read
abbrev pub text_status : TextFault → Status
text_status (BadToken place) = Text (BadToken place)
text_status (LeftOut word place) = Text (LeftOut word place)
text_status (TextLimit n) = Text (TextLimit n)
text_status (NoReading place) = Text (NoReading place)
text_status (CountLimit count n) = Text (CountLimit count n)
text_status TextMemory = Memory

-- its name in a line of the notes
abbrev pub name_of : Which → List ℕ
name_of TheModule = codes "module"
name_of Out = codes "out"

-- what is counted, in a line of the notes
abbrev pub count_name : Count → List ℕ
count_name Functions = codes "functions"
count_name Blocks = codes "blocks"
count_name Instructions = codes "instructions"
count_name NameBytes = codes "name"

-- a rule, in a line of the notes
abbrev pub rule_name : Rule → List ℕ
rule_name rules.DuplicateName = codes "duplicate-name"
rule_name rules.UnknownName = codes "unknown-name"
rule_name rules.TypeMismatch = codes "type-mismatch"
rule_name rules.UnknownCallee = codes "unknown-callee"
rule_name rules.Numbering = codes "numbering"
rule_name rules.EntryHasPredecessor = codes "entry-has-predecessor"
rule_name rules.PhiEdges = codes "phi-edges"
rule_name rules.NotAvailable = codes "not-available"

-- a function, and `-` outside functions
abbrev pub function_text : Option Name → List ℕ
function_text None = codes "-"
function_text (Some n) = 64 ∷ name_text n

-- what a breach is said of, as a module's text has it
abbrev pub subject_text : Subject → List ℕ
subject_text Nothing = codes "-"
subject_text (Local n) = 37 ∷ name_text n
subject_text (Symbol n) = 64 ∷ name_text n
subject_text (TypeName n) = 37 ∷ name_text n

-- both, behind one another
abbrev pub breach_text : Breach → List ℕ
breach_text b = function_text b.function ++ 32 ∷ subject_text b.subject

-- a line of the notes
abbrev pub line : List ℕ → List ℕ
line text = codes "vplanc: " ++ text ++ 10 ∷ []

-- the line of an answer
abbrev pub line_of : Status → List ℕ
line_of Done = []
line_of BadWords = line (codes "words")
line_of (Text (BadToken place)) = line (codes "text: bad token at " ++ decimal place)
line_of (Text (LeftOut w n)) = line (codes "text: left out " ++ w ++ codes " at " ++ decimal n)
line_of (Text (TextLimit n)) = line (codes "text: " ++ decimal n ++ codes " bytes")
line_of (Text (NoReading place)) = line (codes "text: no reading at " ++ decimal place)
line_of (Text (CountLimit count n)) = line (codes "text: " ++ count_name count ++ codes " limit " ++ decimal n)
line_of (Text TextMemory) = line (codes "memory")
line_of (Check rule names place) = line (codes "check: " ++ rule_name rule ++ codes " " ++ names ++ codes " " ++ decimal place)
line_of (ReadFault which) = line (codes "read fault: " ++ name_of which)
line_of (WriteFault which) = line (codes "write fault: " ++ name_of which)
line_of Memory = line (codes "memory")

-- a text within the limit that has no token that is left out, and reads as the tree within the limits
pub record IsRead (text : List ℕ) (tree : ModuleTree) : Type 0 where
  pub short : length text ≤ longest
  pub nothing_left_out : HasNoneLeftOut text
  pub within : IsWithinLimits text tree

-- a text that reads so as a tree that breaks no rule
pub record IsAccepted (text : List ℕ) : Type 0 where
  pub tree : ModuleTree
  pub read : IsRead text tree
  pub keeps : KeepsRules tree

-- the file reads so as the tree, where it is told
abbrev pub IsMeant : Option (List ℕ) → ModuleTree → Type 0
IsMeant told tree = IfSome told (λ text. IsRead text tree)

-- the text reads so as a tree that breaks this rule first, in this function, of this name, and at this place
pub record IsBroken (text : List ℕ) (rule : Rule) (names : List ℕ) (place : ℕ) : Type 0 where
  pub tree : ModuleTree
  pub read : IsRead text tree
  pub breach : Breach
  pub cause : BreachCause tree (Broken rule breach)
  pub names_are : names ≡ breach_text breach
  pub place_is : place ≡ breach.place

-- the answer to a fault of the checks; there may be no room for the names
abbrev pub IsCheckStatus : CheckFault → Status → Type 0
IsCheckStatus (Broken rule breach) status = (status ≡ Check rule (breach_text breach) breach.place) ⊎ (status ≡ Memory)
IsCheckStatus CheckMemory status = status ≡ Memory

-- what is printed of a file: a text that reads as the tree that the file reads as, which breaks no rule
pub record IsPrinted (told : Option (List ℕ)) (printed : List ℕ) : Type 0 where
  pub tree : ModuleTree
  pub file_reads : IsMeant told tree
  pub keeps : KeepsRules tree
  pub print_reads : Reads printed tree

-- The causes of the answers that speak of the file: what is told of it, its count of faults before and now, and the last load's length.
abbrev pub FileCause : Option (List ℕ) → (before now last : ℕ) → Status → Type 0
FileCause told before now last (Text (TextLimit n)) = (n ≡ longest + 1) × (last ≡ n) × IfSome told (λ text. longest < length text)
FileCause told before now last (Text TextMemory) = ⊥
FileCause told before now last (Text fault) = (last ≤ longest) × IfSome told (λ text. IsRefusal text fault)
FileCause told before now last (Check rule names place) = (last ≤ longest) × IfSome told (λ text. IsBroken text rule names place)
FileCause told before now last (ReadFault TheModule) = Rose before now
FileCause told before now last (ReadFault Out) = ⊥
FileCause told before now last BadWords = ⊥
FileCause told before now last Done = (last ≤ longest) × IfSome told IsAccepted
FileCause told before now last (WriteFault which) = (last ≤ longest) × IfSome told IsAccepted
FileCause told before now last Memory = Unit {0}

-- where the words give no command, that is the answer; else the answer has its cause in the file
abbrev pub Cause : Option (List ℕ) → (List ℕ → Option (List ℕ)) → (before now : List ℕ → ℕ) → (last : ℕ) → Status → Type 0
Cause None told before now last status = status ≡ BadWords
Cause (Some f) told before now last status = FileCause (told f) (before f) (now f) last status

-- only `out` has a write fault, and its count of faults rose
abbrev pub WriteCause : (before now : ℕ) → Status → Type 0
WriteCause before now (WriteFault TheModule) = ⊥
WriteCause before now (WriteFault Out) = Rose before now
WriteCause before now status = Unit {0}

-- where nothing stands in the way, the program is done, or memory is short
abbrev pub FileCompletes : Option (List ℕ) → (file_rose out_rose : Type 0) → Status → Type 0
FileCompletes told file_rose out_rose status = IfSome told (λ text. IsAccepted text → ¬ file_rose → ¬ out_rose → (status ≡ Done) ⊎ (status ≡ Memory))

-- the same for any words
abbrev pub Completes : Option (List ℕ) → (List ℕ → Option (List ℕ)) → (file_rose : List ℕ → Type 0) → (out_rose : Type 0) → Status → Type 0
Completes None told file_rose out_rose status = Unit {0}
Completes (Some f) told rose out_rose status = FileCompletes (told f) (rose f) out_rose status

-- the answers that come before `out` has its turn
abbrev pub IsBeforeOut : Status → Type 0
IsBeforeOut Done = ⊥
IsBeforeOut (WriteFault which) = ⊥
IsBeforeOut status = Unit {0}

-- what `out` took of a text
abbrev pub Delivered : (before now : Option (List ℕ)) → List ℕ → Status → Type 0
Delivered before now text Done = now ≡ and_then before text
Delivered before now text (WriteFault Out) = (n : ℕ) × (now ≡ and_then before (take n text))
Delivered before now text status = ⊥

-- `out` took what is printed of the file
pub record TookAll (told before now : Option (List ℕ)) : Type 0 where
  pub printed : List ℕ
  pub is_printed : IsPrinted told printed
  pub taken : now ≡ and_then before printed

-- `out` took the front of what is printed of the file
pub record TookFront (told before now : Option (List ℕ)) : Type 0 where
  pub printed : List ℕ
  pub is_printed : IsPrinted told printed
  pub count : ℕ
  pub taken : now ≡ and_then before (take count printed)

-- what `out` took before the answer: nothing before its turn, the front of the printed text at its fault, else all of it
abbrev pub OutHolds : (told before now : Option (List ℕ)) → Status → Type 0
OutHolds told before now Done = TookAll told before now
OutHolds told before now (WriteFault Out) = TookFront told before now
OutHolds told before now (WriteFault TheModule) = ⊥
OutHolds told before now status = now ≡ before

-- the same for any words
abbrev pub OutLeft : Option (List ℕ) → (List ℕ → Option (List ℕ)) → (before now : Option (List ℕ)) → Status → Type 0
OutLeft None told before now status = now ≡ before
OutLeft (Some file) told before now status = OutHolds (told file) before now status

-- Of a file's text and what was printed of it: the file reads as a tree, the print reads as a tree that breaks no rule, and where the file's is one of
-- those of which this is claimed by now, so is the print's, and the first allows the second, with one more than the number of the second's
-- instructions as the factor. (A text reads as one tree at most.)
pub record IsAllowed (text printed : List ℕ) : Type 0 where
  pub file : ModuleTree
  pub print : ModuleTree
  pub file_reads : Reads text file
  pub print_reads : Reads printed print
  pub keeps : KeepsRules print
  pub allows : IsFirstModule file → IsFirstModule print × Allows file print (factor_of print)

-- where the file and `out` are told, `out` took a text that the file's allows
abbrev pub TookAllowed : (told before now : Option (List ℕ)) → Type 0
TookAllowed told before now = IfSome told (λ text. IfSome before (λ old. (printed : List ℕ) × (now ≡ Some (old ++ printed)) × IsAllowed text printed))

-- the same for any words; only where all is done is anything printed whole
abbrev pub AllowedLeft : Option (List ℕ) → (List ℕ → Option (List ℕ)) → (before now : Option (List ℕ)) → Status → Type 0
AllowedLeft (Some file) told before now Done = TookAllowed (told file) before now
AllowedLeft command told before now status = Unit {0}
