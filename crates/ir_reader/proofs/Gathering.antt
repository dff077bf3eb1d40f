-- What the loop over items keeps.
use Rattle.std.proofs.Common.{◌≡◌, ◌≤◌, ◌<◌, true, false, List, [], ◌∷◌, ◌++◌, length, Option, Some, None, Err, refl, ◌∙◌, arith}
use Rattle.text_forms.specs.declared.cursor.Cursor.{Cursor}
use Rattle.text_forms.specs.declared.cursor.SyntaxFault.{SyntaxFault}
use Rattle.text_forms.specs.declared.cursor.SyntaxFault.TheVariants.{NoReading, Memory}
use Rattle.text_forms.specs.Gives.{Gives, left}
use Rattle.text_forms.specs.Form.{Lexeme, Form, many}
use Rattle.text_forms.specs.Reading.{nullable, opens, read}
use Rattle.text_forms.proofs.Many.{shorter, behind_front, goes_on, fails, ends}
use Rattle.ir_types.specs.TypeNodes.{TypeNode}
use Rattle.ir_types.specs.Tree.{Item}
use Rattle.ir_types.specs.TypeForms.{memory_type}
use Rattle.ir_types.specs.ItemForms.{comdat, metadata, type_definition, variable_definition}
use Rattle.ir_types.specs.Skimmed.{Skimmed, skimmed_item, skimmed_module}
use Rattle.ir_reader_items.specs.declared.part.Part.{Part}
use Rattle.ir_reader_items.specs.Parts.{item_of}
use Rattle.ir_reader.specs.declared.gather.Gathered.{Gathered}
use Rattle.ir_reader.specs.Gathered.{Holds}
use Rattle.ir_reader.specs.Reading.{items_skimmed, IsGathered, GivesItems}

abbrev item_form : List Lexeme → Form (Item Skimmed)
item_form ts = skimmed_item (memory_type (length ts))

-- an item takes a token
takes : (m : Form (List TypeNode)) → nullable (skimmed_item m) ≡ false
unfolding type_definition variable_definition comdat metadata skimmed_item
takes m = refl

-- the items that are read from there on
abbrev from : List Lexeme → List Lexeme → Option (List (Item Skimmed) × List Lexeme)
from ts us = read (many (item_form ts)) us

-- items that are gathered, before the tokens that are left
pub record SoFar (ts : List Lexeme) (g : Gathered) (us : List Lexeme) : Type 0 where
  pub items : List (Item Skimmed)
  pub holds : Holds g items
  pub goes : behind_front items (from ts us) ≡ from ts ts
  pub shorter : length us ≤ length ts

same_form : (ts : List Lexeme) → items_skimmed ts ≡ from ts ts
unfolding skimmed_module
same_form ts = refl

nothing_before : (r : Option (List (Item Skimmed) × List Lexeme)) → behind_front [] r ≡ r
nothing_before None = refl
nothing_before (Some x) = refl

pub none_yet : (ts : List Lexeme) (g : Gathered) → Holds g [] → SoFar ts g ts
none_yet ts g h = record { items = []; holds = h; goes = nothing_before (from ts ts); shorter = omega arith }

pub item_shorter : (ts us vs : List Lexeme) (i : Item Skimmed) → read (item_form ts) us ≡ Some (i, vs) → length vs < length us
item_shorter ts us vs i e = shorter (item_form ts) us (i, vs) (takes (memory_type (length ts))) e

-- an item was read
pub one_more : (ts us vs : List Lexeme) (g n : Gathered) (i : Item Skimmed) → SoFar ts g us → opens (item_form ts) us ≡ true → read (item_form ts) us ≡ Some (i, vs) → ((items : List (Item Skimmed)) → Holds g items → Holds n (items ++ i ∷ [])) → SoFar ts n vs
one_more ts us vs g n i h o e add = record {
  items = h.items ++ i ∷ [];
  holds = add h.items h.holds;
  goes = goes_on (item_form ts) h.items i us vs (from ts ts) (takes (memory_type (length ts))) o e h.goes;
  shorter = let lt = item_shorter ts us vs i e in let le = h.shorter in omega arith;
}

one_fails : (ts us : List Lexeme) (g : Gathered) → SoFar ts g us → opens (item_form ts) us ≡ true → read (item_form ts) us ≡ None → items_skimmed ts ≡ None
one_fails ts us g h o e = same_form ts ∙ fails (item_form ts) h.items us (from ts ts) (takes (memory_type (length ts))) o e h.goes

pub none_left : (ts us : List Lexeme) (g : Gathered) → SoFar ts g us → opens (item_form ts) us ≡ false → IsGathered ts g us
none_left ts us g h o = record { items = h.items; read = same_form ts ∙ ends (item_form ts) h.items us (from ts ts) o h.goes; holds = h.holds }

-- a refusal of an item is one of all
pub fault_gives : (ts us rest : List Lexeme) (g n : Gathered) (fault : SyntaxFault) → SoFar ts g us → opens (item_form ts) us ≡ true → Gives (λ (x : Part × Cursor). (item_of x.0, left x.1)) (Err fault) (read (item_form ts) us) → GivesItems ts n rest (Err fault)
fault_gives ts us rest g n (NoReading place) h o e = one_fails ts us g h o e
fault_gives ts us rest g n Memory h o e = tt
