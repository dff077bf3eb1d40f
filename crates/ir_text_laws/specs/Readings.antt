-- What is said of texts that read as nothing, and of names that are only used.
use Rattle.std.specs.Prelude.{◌≡◌, ◌<◌, ◌≤◌, ℕ, List, slice_get, Some}
use Rattle.text_forms.specs.Form.{Lexeme}
use Rattle.ir_types.specs.ItemForms.{SpellsModule}
use Rattle.ir_types.specs.Reads.{Reads}
use Rattle.ir_types.specs.Tree.{WrittenFunction, Item, ModuleTree}

-- the text reads as no tree
abbrev pub ReadsAsNone : List ℕ → Type 0
ReadsAsNone text = (t : ModuleTree) → Reads text t → ⊥

-- the tokens spell no items
abbrev pub SpellNone : List Lexeme → Type 0
SpellNone tokens = (written : List (Item WrittenFunction)) → SpellsModule written tokens → ⊥

-- of the list, only what stands at this place or behind it is so, and all of that
abbrev pub AreFrom : (A : Type 0) → (Is : A → Type 0) → ℕ → List A → Type 0
AreFrom A Is place list =
    (i : ℕ) (x : A) → slice_get list i ≡ Some x → (i < place → Is x → ⊥) × (place ≤ i → Is x)
