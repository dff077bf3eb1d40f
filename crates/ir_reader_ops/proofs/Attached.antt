-- An instruction with its attachments stays what it is where the instruction does.
use Rattle.std.proofs.Common.{◌≡◌, Bool, ◌||◌, List, [], ◌∷◌, map, Option, Some, None, refl, ap, ◌∙◌, subst}
use Rattle.std.specs.List.{list_any}
use Rattle.text_forms.specs.Form.{Lexeme, Form}
use Rattle.text_forms.specs.Reading.{◌>>=◌, read}
use Rattle.ir_types.specs.declared.inst.Operand.{Operand}
use Rattle.ir_types.specs.declared.inst.Operand.TheVariants.{Local, Int, Null, Poison, Lanes, Global, OutOfRange}
use Rattle.ir_types.specs.declared.inst.Inst.{Inst}
use Rattle.ir_types.specs.Tree.{KeptTexts, InstTree}
use Rattle.ir_types.specs.InstForms.{inst_attachments, is_out_of_range, with_kept, attached}
use Rattle.ir_reader_values.specs.declared.scope.Scope.{Scope}
use Rattle.ir_reader_values.specs.Seen.{operand_seen, inst_seen, IsSteady}
use Rattle.ir_reader_ops.specs.Words.{is_outside, attached_to}

-- an operand is out of range as it is seen
outside_one : (s : Scope) (a : Operand) → is_out_of_range (operand_seen s a) ≡ is_outside a
outside_one s (Local i) = refl
outside_one s (Int n) = refl
outside_one s Null = refl
outside_one s Poison = refl
outside_one s (Lanes xs) = refl
outside_one s (Global i o) = refl
outside_one s (OutOfRange i) = refl

-- operands are seen out of range exactly where they are held so
pub outside_seen : (s : Scope) (xs : List Operand) → list_any is_out_of_range (map (operand_seen s) xs) ≡ list_any is_outside xs
outside_seen s [] = refl
outside_seen s (a ∷ xs) = rw (outside_one s a, outside_seen s xs) refl

-- the attachments are the same in all scopes
kept_steady : (s : Scope) (i : Inst) (b : Bool) (k : KeptTexts) → IsSteady inst_seen s i → IsSteady inst_seen s (record i { wide = b; kept = k })
kept_steady s i b k stays = λ later e. ap (λ (t : InstTree). record t { wide = b; kept = k }) (stays later e)

abbrev with_attachments : Inst → Option (KeptTexts × List Lexeme) → Option (Inst × List Lexeme)
with_attachments i o = o >>= λ k. Some (record i { wide = list_any is_outside i.args || i.wide; kept = k.0 }, k.1)

abbrev inst_or : Inst → Option (Inst × List Lexeme) → Inst
inst_or i None = i
inst_or i (Some x) = x.0

-- an instruction that stays what it is does so with attachments
pub attached_steady : (s : Scope) (i j : Inst) (ts us : List Lexeme) → attached_to i ts ≡ Some (j, us) → IsSteady inst_seen s i → IsSteady inst_seen s j
attached_steady s i j ts us e stays = by (read inst_attachments ts) e
  where
    by : (o : Option (KeptTexts × List Lexeme)) → with_attachments i o ≡ Some (j, us) → IsSteady inst_seen s j
    by None e = absurd cc
    by (Some k) e =
        subst (λ (x : Inst). IsSteady inst_seen s x) (ap (inst_or i) e) (kept_steady s i (list_any is_outside i.args || i.wide) k.0 stays)

abbrev beside_kept : InstTree → Option (KeptTexts × List Lexeme) → Option ((InstTree × KeptTexts) × List Lexeme)
beside_kept i o = o >>= λ b. Some ((i, b.0), b.1)

abbrev all_kept : Option ((InstTree × KeptTexts) × List Lexeme) → Option (InstTree × List Lexeme)
all_kept o = o >>= λ x. Some (with_kept x.0.0 x.0.1, x.1)

abbrev then_attached : Option (InstTree × List Lexeme) → Option (InstTree × List Lexeme)
then_attached r = all_kept (r >>= λ a. beside_kept a.0 (read inst_attachments a.1))

abbrev wide_so : InstTree → KeptTexts × List Lexeme → Bool → Option (InstTree × List Lexeme)
wide_so t k b = Some (record t { wide = b || t.wide; kept = k.0 }, k.1)

abbrev seen_in : Scope → Option (Inst × List Lexeme) → Option (InstTree × List Lexeme)
seen_in s o = o >>= λ x. Some (inst_seen s x.0, x.1)

-- an instruction is read with its attachments
pub attached_reads : (f : Form InstTree) (s : Scope) (i j : Inst) (ts us ws : List Lexeme) → read f ts ≡ Some (inst_seen s i, us) → attached_to i us ≡ Some (j, ws) → read (attached f) ts ≡ Some (inst_seen s j, ws)
attached_reads f s i j ts us ws bare e = ap then_attached bare ∙ by (read inst_attachments us) e
  where
    by : (o : Option (KeptTexts × List Lexeme)) → with_attachments i o ≡ Some (j, ws) → all_kept (beside_kept (inst_seen s i) o) ≡ Some (inst_seen s j, ws)
    by None e = absurd cc
    by (Some k) e = ap (wide_so (inst_seen s i) k) (outside_seen s i.args) ∙ ap (seen_in s) e
