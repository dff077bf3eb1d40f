-- What tables have more when things were read one after another.
use Rattle.std.proofs.Common.{◌≡◌, ℕ, List, [], ◌∷◌, ◌++◌, Result, Ok, Err, refl, sym, ap, ◌∙◌, inl, inr, append_assoc}
use Rattle.std.specs.Prelude.{IfOk, OnOk}
use Rattle.std.specs.declared.alloc.AllocError.{AllocError}
use Rattle.std.proofs.lemmas.List.{append-nil}
use Rattle.std.proofs.lemmas.List.Elements.{filter_map-append}
use Rattle.ir_types.specs.declared.name.Name.{Name}
use Rattle.ir_types.specs.Names.{Adds, unknown}
use Rattle.ir_types.specs.Tree.{OperandTree, global}
use Rattle.ir_types.specs.Used.{symbol_at, symbols_of, with_unknown}
use Rattle.ir_reader_types.specs.Tables.{TableLists}
use Rattle.ir_reader_types.specs.Uses.{Uses}
use Rattle.ir_reader_types.proofs.LookUps.{unknown_append, looked_up, has_this, has_none}

pub uses_none : (t : TableLists) → Uses t [] [] t
uses_none t = record { entries = sym (append-nil t.entries); symbols = sym (append-nil t.symbols) }

-- names behind names
known_further : (old mid new used more : List Name) → mid ≡ with_unknown old used → new ≡ with_unknown mid more → new ≡ with_unknown old (used ++ more)
known_further old mid new used more e d =
    d
    ∙ ap (λ (l : List Name). with_unknown l more) e
    ∙ append_assoc old (unknown old used) (unknown (old ++ unknown old used) more)
    ∙ ap (λ (l : List Name). old ++ l) (sym (unknown_append old used more))

-- what uses some things and then others
pub uses_both : (a b c : TableLists) (types more : List Name) (operands others : List OperandTree) → Uses a types operands b → Uses b more others c → Uses a (types ++ more) (operands ++ others) c
uses_both a b c types more operands others p q = record {
  entries = looked_up a.entries b.entries c.entries types more p.entries q.entries;
  symbols =
      known_further a.symbols b.symbols c.symbols (symbols_of operands) (symbols_of others) p.symbols q.symbols
      ∙ ap (λ (l : List Name). with_unknown a.symbols l) (sym (filter_map-append symbol_at operands others));
}

-- one symbol
added_symbol : (old : List Name) (name : Name) (new : List Name) → Adds old name new → new ≡ with_unknown old (name ∷ [])
added_symbol old name new (inl h) = h.1 ∙ sym (rw (has_this name old h.0.0 h.0.1 h.0.2) (append-nil old))
added_symbol old name new (inr h) = h.1 ∙ sym (rw (has_none name old h.0) refl)

pub uses_symbol : (r : Result ℕ AllocError) (t : TableLists) (name : Name) (symbols : List Name) → OnOk r (Adds t.symbols name symbols) → IfOk r (λ id. Uses t [] (global name 0 ∷ []) (record t { symbols = symbols }))
uses_symbol (Ok id) t name symbols a = record { entries = sym (append-nil t.entries); symbols = added_symbol t.symbols name symbols a }
uses_symbol (Err e) t name symbols a = tt
