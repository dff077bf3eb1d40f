-- What has no size while none can be set has no layout.
use Rattle.std.proofs.Common.{◌≡◌, List, Some}
use Rattle.std.specs.Prelude.{slice_get, All}
use Rattle.std.proofs.lemmas.List.Elements.{All-nil, All-cons}
use Rattle.ir_types.specs.declared.memory_type.TypeId.{TypeId}
use Rattle.ir_types.specs.declared.memory_type.MemTy.{MemTy}
use Rattle.ir_types.specs.declared.memory_type.TypeName.{TypeName}
use Rattle.ir_types.specs.declared.memory_type.Extent.{Extent}
use Rattle.ir_types.specs.Sizes.{Layout, Subject, a_type, at_place, members, HasLayout, IsLaid, scalar_laid, array_laid, struct_laid, named_laid, place_laid, none_laid, more_laid}
use Rattle.ir_sizes.specs.Known.{IsSizedAt, AreSized}

-- what is known of the extents of the parts of what has a layout
abbrev pub IsMet : List TypeName → List Extent → Subject → Type 0
IsMet names extents (a_type t) = AreSized names extents t
IsMet names extents (at_place id) = IsSizedAt extents id
IsMet names extents (members ids) = All (IsSizedAt extents) ids

-- where what has sized parts is sized, so is what has a layout
pub laid_met :
    (types : List MemTy) (names : List TypeName) (extents : List Extent) →
    ((id : TypeId) (t : MemTy) (l : Layout) → slice_get types id.0 ≡ Some t → HasLayout types names t l → AreSized names extents t → IsSizedAt extents id) →
    {x : Subject} {ls : List Layout} → IsLaid types names x ls → IsMet names extents x
laid_met types names extents step (scalar_laid t h) = h
laid_met types names extents step (array_laid n element l h) = laid_met types names extents step h
laid_met types names extents step (struct_laid packed ids ls h) = laid_met types names extents step h
laid_met types names extents step (named_laid k name id l e h) = (id, (name, e), laid_met types names extents step h)
laid_met types names extents step (place_laid id t l e h) = step id t l e h (laid_met types names extents step h)
laid_met types names extents step none_laid = All-nil (IsSizedAt extents)
laid_met types names extents step (more_laid id ids l ls h r) = All-cons (IsSizedAt extents) id ids (laid_met types names extents step h) (laid_met types names extents step r)
