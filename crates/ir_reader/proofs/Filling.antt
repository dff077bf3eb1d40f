-- Items are filled with their functions, which are read by themselves.
use Rattle.std.proofs.Common.{◌≡◌, List, [], ◌∷◌, Option, Some, None, refl, sym, ap, ◌∙◌}
use Rattle.std.specs.List.{filter_map}
use Rattle.text_forms.specs.Reading.{◌>>=◌}
use Rattle.text_forms.specs.Walk.{walk}
use Rattle.ir_types.specs.Offsets.{Definitions}
use Rattle.ir_types.specs.Skimmed.{Skimmed, with_body, with_bodies}
use Rattle.ir_types.specs.Tree.{FunctionTree, WrittenFunction, Item, head_line, comdat_line, type_item, variable_item, function_item, attribute_line, metadata_line}
use Rattle.ir_types.specs.Numbered.{numbered_function, numbered_item, numbered_module}
use Rattle.ir_reader.specs.Gathered.{function_among}
use Rattle.ir_reader.specs.Reading.{functions_read}

-- the items, where these are their functions
abbrev pub put : List (Item Skimmed) → List FunctionTree → List (Item FunctionTree)
put [] fs = []
put (head_line xs ∷ more) fs = head_line xs ∷ put more fs
put (comdat_line xs ∷ more) fs = comdat_line xs ∷ put more fs
put (type_item n t ∷ more) fs = type_item n t ∷ put more fs
put (variable_item v ∷ more) fs = variable_item v ∷ put more fs
put (function_item s ∷ more) [] = put more []
put (function_item s ∷ more) (f ∷ fs) = function_item f ∷ put more fs
put (attribute_line xs ∷ more) fs = attribute_line xs ∷ put more fs
put (metadata_line xs ∷ more) fs = metadata_line xs ∷ put more fs

-- ---- one item before others

abbrev Written : Type 0
Written = Item WrittenFunction

abbrev Walked : Type 0
Walked = Option (List (Item FunctionTree) × Unit {0})

-- one more in front, where something walks on
abbrev before : Item FunctionTree → List (Item FunctionTree) × Unit {0} → Walked
before j q = Some (j ∷ q.0, q.1)

before_walked : (j : Item FunctionTree) (w : Walked) → ((w >>= before j) >>= λ x. Some x.0) ≡ ((w >>= λ x. Some x.0) >>= λ js. Some (j ∷ js))
before_walked j None = refl
before_walked j (Some q) = refl

numbered_before : (i : Written) (j : Item FunctionTree) (w : Option (List Written)) → numbered_item tt i ≡ Some (j, tt) → ((w >>= λ is. Some (i ∷ is)) >>= numbered_module) ≡ ((w >>= numbered_module) >>= λ js. Some (j ∷ js))
numbered_before i j None e = refl
numbered_before i j (Some is) e = rw e (before_walked j (walk numbered_item tt is))

none_before : (i : Written) (w : Option (List Written)) → numbered_item tt i ≡ None → ((w >>= λ is. Some (i ∷ is)) >>= numbered_module) ≡ None
none_before i None e = refl
none_before i (Some is) e = rw e refl

-- ---- items

abbrev Read : Type 0
Read = Option (List FunctionTree)

put_before : (s : Item Skimmed) (j : Item FunctionTree) (more : List (Item Skimmed)) (r : Read) → ((fs : List FunctionTree) → put (s ∷ more) fs ≡ j ∷ put more fs) → ((r >>= λ fs. Some (put more fs)) >>= λ js. Some (j ∷ js)) ≡ (r >>= λ fs. Some (put (s ∷ more) fs))
put_before s j more None h = refl
put_before s j more (Some fs) h = ap (λ (l : List (Item FunctionTree)). Some l) (sym (h fs))

-- an item that is no function
another : (s : Item Skimmed) (i : Written) (j : Item FunctionTree) (more : List (Item Skimmed)) (w : Option (List Written)) (r : Read) → numbered_item tt i ≡ Some (j, tt) → ((fs : List FunctionTree) → put (s ∷ more) fs ≡ j ∷ put more fs)
    → (w >>= numbered_module) ≡ (r >>= λ fs. Some (put more fs)) → ((w >>= λ is. Some (i ∷ is)) >>= numbered_module) ≡ (r >>= λ fs. Some (put (s ∷ more) fs))
another s i j more w r n h e = numbered_before i j w n ∙ ap (λ (o : Option (List (Item FunctionTree))). o >>= λ js. Some (j ∷ js)) e ∙ put_before s j more r h

put_function : (s : Skimmed) (g : FunctionTree) (more : List (Item Skimmed)) (r : Read) → ((r >>= λ fs. Some (put more fs)) >>= λ js. Some (function_item g ∷ js)) ≡ ((r >>= λ fs. Some (g ∷ fs)) >>= λ fs. Some (put (function_item s ∷ more) fs))
put_function s g more None = refl
put_function s g more (Some fs) = refl

-- a function whose inner parts are these
filled_one : (s : Skimmed) (f : WrittenFunction) (more : List (Item Skimmed)) (w : Option (List Written)) (r : Read) (n : Option FunctionTree) → numbered_function f ≡ n → (w >>= numbered_module) ≡ (r >>= λ fs. Some (put more fs))
    → ((w >>= λ is. Some (function_item f ∷ is)) >>= numbered_module) ≡ ((n >>= λ g. r >>= λ fs. Some (g ∷ fs)) >>= λ fs. Some (put (function_item s ∷ more) fs))
filled_one s f more w r None n e = none_before (function_item f) w (rw n refl)
filled_one s f more w r (Some g) n e = numbered_before (function_item f) (function_item g) w (rw n refl) ∙ ap (λ (o : Option (List (Item FunctionTree))). o >>= λ js. Some (function_item g ∷ js)) e ∙ put_function s g more r

filled_function : (s : Skimmed) (o : Option WrittenFunction) (more : List (Item Skimmed)) (w : Option (List Written)) (r : Read) → (w >>= numbered_module) ≡ (r >>= λ fs. Some (put more fs))
    → (((o >>= λ f. Some (function_item f)) >>= λ i. w >>= λ is. Some (i ∷ is)) >>= numbered_module) ≡ (((o >>= numbered_function) >>= λ g. r >>= λ fs. Some (g ∷ fs)) >>= λ fs. Some (put (function_item s ∷ more) fs))
filled_function s None more w r e = refl
filled_function s (Some f) more w r e = filled_one s f more w r (numbered_function f) refl e

-- Filling items with their bodies is reading their functions, and putting them there.
pub filled_is : (defs : Definitions) (items : List (Item Skimmed)) → (with_bodies defs items >>= numbered_module) ≡ (functions_read defs (filter_map function_among items) >>= λ fs. Some (put items fs))
filled_is defs [] = refl
filled_is defs (head_line xs ∷ more) = another (head_line xs) (head_line xs) (head_line xs) more (with_bodies defs more) _ refl (λ fs. refl) (filled_is defs more)
filled_is defs (comdat_line xs ∷ more) = another (comdat_line xs) (comdat_line xs) (comdat_line xs) more (with_bodies defs more) _ refl (λ fs. refl) (filled_is defs more)
filled_is defs (type_item n t ∷ more) = another (type_item n t) (type_item n t) (type_item n t) more (with_bodies defs more) _ refl (λ fs. refl) (filled_is defs more)
filled_is defs (variable_item v ∷ more) = another (variable_item v) (variable_item v) (variable_item v) more (with_bodies defs more) _ refl (λ fs. refl) (filled_is defs more)
filled_is defs (function_item s ∷ more) = filled_function s (with_body defs s) more (with_bodies defs more) _ (filled_is defs more)
filled_is defs (attribute_line xs ∷ more) = another (attribute_line xs) (attribute_line xs) (attribute_line xs) more (with_bodies defs more) _ refl (λ fs. refl) (filled_is defs more)
filled_is defs (metadata_line xs ∷ more) = another (metadata_line xs) (metadata_line xs) (metadata_line xs) more (with_bodies defs more) _ refl (λ fs. refl) (filled_is defs more)
