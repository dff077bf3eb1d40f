-- What the reader gives is what the text reads as.
use Rattle.std.proofs.Common.{◌≡◌, ℕ, List, Option, Some, None, sym, ap, ◌∙◌, subst}
use Rattle.text_forms.specs.Form.{Lexeme}
use Rattle.text_forms.specs.Lexical.{Lexes}
use Rattle.text_forms.specs.Reading.{◌>>=◌}
use Rattle.text_forms.proofs.Parts.{bind_some}
use Rattle.text_lex.specs.declared.fault.Count.{Count}
use Rattle.text_lex.specs.declared.fault.TextFault.{TextFault}
use Rattle.text_lex.specs.declared.fault.TextFault.TheVariants.{BadToken, LeftOut, TextLimit, NoReading as TextNoReading, CountLimit, Memory as TextMemory}
use Rattle.text_lex.specs.Fault.{IsFaultOf}
use Rattle.text_lex.proofs.Unique.{lexes_unique}
use Rattle.ir_types.specs.declared.module.Module.{Module}
use Rattle.ir_types.specs.Tree.{FunctionTree, Item}
use Rattle.ir_types.specs.Denotes.{tree_of, Denotes}
use Rattle.ir_types.specs.Skimmed.{items_read}
use Rattle.ir_types.specs.Numbered.{numbered_module}
use Rattle.ir_types.specs.Reads.{Reads}
use Rattle.ir_types.proofs.Skimming.{spelled_found, found_spelled}
use Rattle.ir_limits.specs.Limits.{limit_passed}
use Rattle.ir_reader.specs.Reading.{module_read, IsBuilt}
use Rattle.ir_reader.specs.Refusal.{IsWithinLimits, PassesLimit, HasNoReading, IsRefusal}

reads_from : (text : List ℕ) (ts : List Lexeme) (m : Module) (passed : Option (Count × ℕ)) → Lexes text ts → IsBuilt (module_read ts) m passed → (r : Reads text (tree_of m)) × (passed ≡ limit_passed r.numbered)
reads_from text ts m passed lexes h =
    let w = bind_some (items_read ts) numbered_module h.items h.are in
    (record { tokens = ts; written = w.0; numbered = h.items; lexes = lexes; spelled = found_spelled w.0 ts w.1; numbers = w.2; says = sym h.denotes.says }, h.limit)

pub within_limits : (text : List ℕ) (ts : List Lexeme) (m : Module) → Lexes text ts → IsBuilt (module_read ts) m None → IsWithinLimits text (tree_of m)
within_limits text ts m lexes h = let r = reads_from text ts m None lexes h in record { reads = r.0; within = sym r.1 }

-- what is built denotes its tree
pub built_denotes : (items_are : Option (List (Item FunctionTree))) (m : Module) (passed : Option (Count × ℕ)) → IsBuilt items_are m passed → Denotes m (tree_of m)
built_denotes items_are m passed h = subst (Denotes m) (sym h.denotes.says) h.denotes

pub passes_limit : (text : List ℕ) (ts : List Lexeme) (m : Module) (count : Count) (n : ℕ) → Lexes text ts → IsBuilt (module_read ts) m (Some (count, n)) → PassesLimit text count n
passes_limit text ts m count n lexes h = let r = reads_from text ts m (Some (count, n)) lexes h in record { read_as = tree_of m; reads = r.0; passed = sym r.1 }

pub no_reading : (text : List ℕ) (ts : List Lexeme) → Lexes text ts → module_read ts ≡ None → HasNoReading text
no_reading text ts lexes e tree r =
    let same : r.tokens ≡ ts = lexes_unique text r.tokens ts r.lexes lexes in
    let found : module_read r.tokens ≡ Some r.numbered = ap (λ (o : Option _). o >>= numbered_module) (spelled_found r.written r.tokens r.spelled) ∙ r.numbers in
    absurd (cc (sym (ap module_read same) ∙ found))

pub bad_token : (text : List ℕ) (f : TextFault) → IsFaultOf text f → IsRefusal text f
bad_token text (BadToken place) h = h
bad_token text (LeftOut word offset) h = h
bad_token text (TextLimit n) h = h
bad_token text (TextNoReading place) h = absurd h
bad_token text (CountLimit count n) h = absurd h
bad_token text TextMemory h = tt
