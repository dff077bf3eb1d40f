-- The nodes of a type are one cell, whatever stands behind them.
use Rattle.std.proofs.Common.{◌≡◌, ℕ, ◌*◌, Bool, List, [], ◌∷◌, ◌++◌, map, Option, Some, None, refl, sym, ap, ◌∙◌, append_assoc}
use Rattle.std.specs.List.{AllByRecursion}
use Rattle.std.proofs.lemmas.List.{append-nil}
use Rattle.text_forms.specs.Bind.{◌>>=◌}
use Rattle.text_forms.specs.Nested.{concat}
use Rattle.text_forms.proofs.Parts.{bind_some}
use Rattle.ir_types.specs.declared.name.Name.{Name}
use Rattle.ir_types.specs.declared.inst.Ty.{Ty}
use Rattle.ir_types.specs.Sizes.{Layout, struct_layout}
use Rattle.ir_types.specs.TypeNodes.{TypeNode, scalar, called, array, opening, closing}
use Rattle.ir_types.specs.Offsets.{Laid, Cell, whole, end, up_to_end, layouts, struct_of, cell_before, cells_of, one_type, layout_by}
use Rattle.ir_sizes.specs.Definitions.{struct_nodes}

-- the cell of a type before others
abbrev pub cell_with : List TypeNode → List Cell → Layout → Option (List Cell)
cell_with nodes cells l = Some (whole (record { nodes = nodes; layout = l }) ∷ cells)

-- the nodes of a type that has the layout of them by themselves
abbrev pub put_before : (Name → Option Layout) → List TypeNode → List Cell → Option (List Cell)
put_before sizes nodes cells = layout_by sizes nodes >>= cell_with nodes cells

-- the layout of the one type
abbrev pub one_layout : List Cell → Option Layout
one_layout cells = one_type cells >>= λ x. Some x.layout

-- nodes that are one type
pub record IsOne (nodes : List TypeNode) : Type 0 where
  pub cell : (sizes : Name → Option Layout) (more : List TypeNode) → cells_of sizes (nodes ++ more) ≡ (cells_of sizes more >>= put_before sizes nodes)

-- types one behind another, each with its layout
abbrev pub laid_by : (Name → Option Layout) → List (List TypeNode) → Option (List Laid)
laid_by sizes [] = Some []
laid_by sizes (nodes ∷ more) = layout_by sizes nodes >>= λ l. laid_by sizes more >>= λ xs. Some (record { nodes = nodes; layout = l } ∷ xs)

-- ---- types without parts

scalar_put : (sizes : Name → Option Layout) (t : Ty) (o : Option (List Cell)) → (o >>= cell_before sizes (scalar t)) ≡ (o >>= put_before sizes (scalar t ∷ []))
scalar_put sizes t None = refl
scalar_put sizes t (Some cells) = refl

pub scalar_one : (t : Ty) → IsOne (scalar t ∷ [])
scalar_one t = record { cell = λ sizes more. scalar_put sizes t (cells_of sizes more) }

pub called_layout : (sizes : Name → Option Layout) (n : Name) → layout_by sizes (called n ∷ []) ≡ sizes n
called_layout sizes n = by (sizes n)
  where
    by : (o : Option Layout) → (((o >>= cell_with (called n ∷ []) []) >>= one_type) >>= λ x. Some x.layout) ≡ o
    by None = refl
    by (Some l) = refl

called_put : (sizes : Name → Option Layout) (n : Name) (o : Option (List Cell)) → (o >>= cell_before sizes (called n)) ≡ (o >>= put_before sizes (called n ∷ []))
called_put sizes n None = refl
called_put sizes n (Some cells) = ap (λ (p : Option Layout). p >>= cell_with (called n ∷ []) cells) (sym (called_layout sizes n))

pub called_one : (n : Name) → IsOne (called n ∷ [])
called_one n = record { cell = λ sizes more. called_put sizes n (cells_of sizes more) }

-- ---- the one cell, with nothing behind

pub one_alone : (sizes : Name → Option Layout) (nodes : List TypeNode) → IsOne nodes → cells_of sizes nodes ≡ put_before sizes nodes []
one_alone sizes nodes h = ap (cells_of sizes) (sym (append-nil nodes)) ∙ h.cell sizes []

-- ---- arrays

-- an array of so many of a layout
abbrev pub times : ℕ → Layout → Layout
times n l = record { size = n * l.size; align = l.align }

array_alone : (sizes : Name → Option Layout) (n : ℕ) (nodes : List TypeNode) (o : Option Layout) → (((o >>= cell_with nodes []) >>= cell_before sizes (array n)) >>= one_layout) ≡ (o >>= λ l. Some (times n l))
array_alone sizes n nodes None = refl
array_alone sizes n nodes (Some l) = refl

layout_split : (sizes : Name → Option Layout) (o : Option (List Cell)) → ((o >>= one_type) >>= λ x. Some x.layout) ≡ (o >>= one_layout)
layout_split sizes None = refl
layout_split sizes (Some cells) = refl

pub array_layout : (sizes : Name → Option Layout) (n : ℕ) (nodes : List TypeNode) → IsOne nodes → layout_by sizes (array n ∷ nodes) ≡ (layout_by sizes nodes >>= λ l. Some (times n l))
array_layout sizes n nodes h =
    ap (λ (o : Option (List Cell)). ((o >>= cell_before sizes (array n)) >>= one_type) >>= λ x. Some x.layout) (one_alone sizes nodes h)
    ∙ layout_split sizes (put_before sizes nodes [] >>= cell_before sizes (array n))
    ∙ array_alone sizes n nodes (layout_by sizes nodes)

array_put : (sizes : Name → Option Layout) (n : ℕ) (nodes : List TypeNode) (o : Option (List Cell)) (p : Option Layout)
    → ((o >>= λ cells. p >>= cell_with nodes cells) >>= cell_before sizes (array n)) ≡ (o >>= λ cells. (p >>= λ l. Some (times n l)) >>= cell_with (array n ∷ nodes) cells)
array_put sizes n nodes None p = refl
array_put sizes n nodes (Some cells) None = refl
array_put sizes n nodes (Some cells) (Some l) = refl

pub array_one : (n : ℕ) (nodes : List TypeNode) → IsOne nodes → IsOne (array n ∷ nodes)
array_one n nodes h = record {
  cell = λ sizes more.
      ap (λ (o : Option (List Cell)). o >>= cell_before sizes (array n)) (h.cell sizes more)
      ∙ array_put sizes n nodes (cells_of sizes more) (layout_by sizes nodes)
      ∙ ap (λ (p : Option Layout). cells_of sizes more >>= λ cells. p >>= cell_with (array n ∷ nodes) cells) (sym (array_layout sizes n nodes h));
}

-- ---- structs

pub members_up_to_end : (xs : List Laid) (cells : List Cell) → up_to_end (map whole xs ++ end ∷ cells) ≡ Some (xs, cells)
members_up_to_end [] cells = refl
members_up_to_end (x ∷ xs) cells = ap (λ (o : Option (List Laid × List Cell)). o >>= λ y. Some (x ∷ y.0, y.1)) (members_up_to_end xs cells)

-- the cells of members before others
abbrev pub members_before : Option (List Laid) → List Cell → Option (List Cell)
members_before o cells = o >>= λ xs. Some (map whole xs ++ cells)

member_put : (nodes : List TypeNode) (o : Option (List Cell)) (p : Option Layout) (q : Option (List Laid))
    → ((o >>= members_before q) >>= λ cells. p >>= cell_with nodes cells) ≡ (o >>= members_before (p >>= λ l. q >>= λ xs. Some (record { nodes = nodes; layout = l } ∷ xs)))
member_put nodes None p q = refl
member_put nodes (Some cells) None None = refl
member_put nodes (Some cells) None (Some xs) = refl
member_put nodes (Some cells) (Some l) None = refl
member_put nodes (Some cells) (Some l) (Some xs) = refl

members_none : (o : Option (List Cell)) → o ≡ (o >>= members_before (Some []))
members_none None = refl
members_none (Some cells) = refl

pub members_cells : (sizes : Name → Option Layout) (all : List (List TypeNode)) (more : List TypeNode) → AllByRecursion IsOne all → cells_of sizes (concat all ++ more) ≡ (cells_of sizes more >>= members_before (laid_by sizes all))
members_cells sizes [] more h = members_none (cells_of sizes more)
members_cells sizes (nodes ∷ all) more h =
    ap (cells_of sizes) (append_assoc nodes (concat all) more)
    ∙ h.0.cell sizes (concat all ++ more)
    ∙ ap (λ (o : Option (List Cell)). o >>= put_before sizes nodes) (members_cells sizes all more h.1)
    ∙ member_put nodes (cells_of sizes more) (layout_by sizes nodes) (laid_by sizes all)

-- types that are laid, the first and the others
pub record AreSplit (sizes : Name → Option Layout) (nodes : List TypeNode) (all : List (List TypeNode)) (xs : List Laid) : Type 0 where
  pub layout : Layout
  pub rest : List Laid
  pub first : layout_by sizes nodes ≡ Some layout
  pub others : laid_by sizes all ≡ Some rest
  pub is : xs ≡ record { nodes = nodes; layout = layout } ∷ rest

pub laid_split : (sizes : Name → Option Layout) (nodes : List TypeNode) (all : List (List TypeNode)) (xs : List Laid) → laid_by sizes (nodes ∷ all) ≡ Some xs → AreSplit sizes nodes all xs
laid_split sizes nodes all xs e =
    let first = bind_some (layout_by sizes nodes) (λ l. laid_by sizes all >>= λ ys. Some (record { nodes = nodes; layout = l } ∷ ys)) xs e in
    let others = bind_some (laid_by sizes all) (λ ys. Some (record { nodes = nodes; layout = first.0 } ∷ ys)) xs first.2 in
    record { layout = first.0; rest = others.0; first = first.1; others = others.1; is = cc }

pub laid_nodes : (sizes : Name → Option Layout) (all : List (List TypeNode)) (xs : List Laid) → laid_by sizes all ≡ Some xs → map (λ (x : Laid). x.nodes) xs ≡ all
laid_nodes sizes [] xs e = let nothing : xs ≡ [] = cc in rw nothing
laid_nodes sizes (nodes ∷ all) xs e =
    let s = laid_split sizes nodes all xs e in
    let rest = laid_nodes sizes all s.rest s.others in
    rw s.is (ap (λ (l : List (List TypeNode)). nodes ∷ l) rest)

-- the struct of these members
abbrev pub struct_before : Bool → List (List TypeNode) → List Cell → List Laid → Option (List Cell)
struct_before packed all cells xs = cell_with (struct_nodes packed all) cells (struct_layout packed (layouts xs))

struct_cells : (packed : Bool) (sizes : Name → Option Layout) (all : List (List TypeNode)) (o : Option (List Cell)) → (((o >>= λ cells. Some (end ∷ cells)) >>= members_before (laid_by sizes all)) >>= cell_before sizes (opening packed)) ≡ (o >>= λ cells. laid_by sizes all >>= struct_before packed all cells)
struct_cells packed sizes all None = refl
struct_cells packed sizes all (Some cells) = by (laid_by sizes all) refl
  where
    by : (p : Option (List Laid)) → laid_by sizes all ≡ p → (members_before p (end ∷ cells) >>= cell_before sizes (opening packed)) ≡ (p >>= struct_before packed all cells)
    by None e = refl
    by (Some xs) e = ap (λ (o : Option (List Laid × List Cell)). o >>= λ y. Some (whole (struct_of packed y.0) ∷ y.1)) (members_up_to_end xs cells) ∙ ap (λ (l : List (List TypeNode)). struct_before packed l cells xs) (laid_nodes sizes all xs e)

behind_closing : (sizes : Name → Option Layout) (packed : Bool) (all : List (List TypeNode)) (more : List TypeNode) → AllByRecursion IsOne all → cells_of sizes (struct_nodes packed all ++ more) ≡ (cells_of sizes more >>= λ cells. laid_by sizes all >>= struct_before packed all cells)
behind_closing sizes packed all more h =
    ap (λ (nodes : List TypeNode). cells_of sizes nodes >>= cell_before sizes (opening packed)) (append_assoc (concat all) (closing ∷ []) more)
    ∙ ap (λ (o : Option (List Cell)). o >>= cell_before sizes (opening packed)) (members_cells sizes all (closing ∷ more) h)
    ∙ struct_cells packed sizes all (cells_of sizes more)

-- a struct of such members has a layout where each of them has
abbrev pub struct_by : Bool → List Laid → Option Layout
struct_by packed xs = Some (struct_layout packed (layouts xs))

struct_alone : (packed : Bool) (all : List (List TypeNode)) (p : Option (List Laid)) → ((p >>= struct_before packed all []) >>= one_layout) ≡ (p >>= struct_by packed)
struct_alone packed all None = refl
struct_alone packed all (Some xs) = refl

pub struct_layout_by : (sizes : Name → Option Layout) (packed : Bool) (all : List (List TypeNode)) → AllByRecursion IsOne all → layout_by sizes (struct_nodes packed all) ≡ (laid_by sizes all >>= struct_by packed)
struct_layout_by sizes packed all h =
    layout_split sizes (cells_of sizes (struct_nodes packed all))
    ∙ ap (λ (nodes : List TypeNode). cells_of sizes nodes >>= one_layout) (sym (append-nil (struct_nodes packed all)))
    ∙ ap (λ (o : Option (List Cell)). o >>= one_layout) (behind_closing sizes packed all [] h)
    ∙ struct_alone packed all (laid_by sizes all)

struct_put : (packed : Bool) (all : List (List TypeNode)) (cells : List Cell) (p : Option (List Laid)) → (p >>= struct_before packed all cells) ≡ ((p >>= struct_by packed) >>= cell_with (struct_nodes packed all) cells)
struct_put packed all cells None = refl
struct_put packed all cells (Some xs) = refl

pub struct_one : (packed : Bool) (all : List (List TypeNode)) → AllByRecursion IsOne all → IsOne (struct_nodes packed all)
struct_one packed all h = record {
  cell = λ sizes more.
      behind_closing sizes packed all more h
      ∙ by sizes (cells_of sizes more);
}
  where
    by : (sizes : Name → Option Layout) (o : Option (List Cell)) → (o >>= λ cells. laid_by sizes all >>= struct_before packed all cells) ≡ (o >>= put_before sizes (struct_nodes packed all))
    by sizes None = refl
    by sizes (Some cells) = struct_put packed all cells (laid_by sizes all) ∙ ap (λ (p : Option Layout). p >>= cell_with (struct_nodes packed all) cells) (sym (struct_layout_by sizes packed all h))

-- ---- a step into a struct

behind_members : {A : Type 0} (next : List Laid → Option A) (p : Option (List Laid)) → (members_before p (end ∷ []) >>= up_to_end >>= λ y. next y.0) ≡ (p >>= next)
behind_members next None = refl
behind_members next (Some xs) = ap (λ (o : Option (List Laid × List Cell)). o >>= λ y. next y.0) (members_up_to_end xs [])

-- what is made of the members of a struct
pub step_of_struct : {A : Type 0} (next : List Laid → Option A) (sizes : Name → Option Layout) (all : List (List TypeNode)) → AllByRecursion IsOne all → (cells_of sizes (concat all ++ closing ∷ []) >>= up_to_end >>= λ y. next y.0) ≡ (laid_by sizes all >>= next)
step_of_struct next sizes all h =
    ap (λ (o : Option (List Cell)). o >>= up_to_end >>= λ y. next y.0) (members_cells sizes all (closing ∷ []) h)
    ∙ behind_members next (laid_by sizes all)
