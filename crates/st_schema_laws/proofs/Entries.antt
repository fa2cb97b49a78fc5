-- How many schema entries are in effect after a list of commits, and where each comes from.
use Rattle.std.proofs.Common.{◌≡◌, ℕ, ◌+◌, ◌≤◌, Bool, true, false, cond, List, [], ◌∷◌, length, Option, Some, None, refl, sym, ap, ◌∙◌, subst, ◌⊎◌, inl, inr, arith, length-append}
use Rattle.std.specs.List.{AllByRecursion}
use Rattle.st_ids.specs.Listing.{Has}
use Rattle.st_marks.specs.declared.intents.Intent.{Intent}
use Rattle.st_marks.specs.declared.schemas.SchemaEntry.{SchemaEntry}
use Rattle.st_marks.specs.CarryOut.{with_schema}
use Rattle.st_marks.specs.Document.{Document}
use Rattle.st_marks.specs.Intent.{IsIntent}
use Rattle.st_marks.specs.Run.{Run}
use Rattle.st_marks.proofs.Members.{has-append}
use Rattle.st_part_laws.specs.Schemas.{entries_after, is_last_entry, schemas_after}
use Rattle.st_part_laws.proofs.Schemas.{schemas_run}

-- ## After one commit

one_count : (entries : List SchemaEntry) (N : Intent) → length (entries_after entries N) ≤ length entries + 1
one_count entries N = go (is_last_entry entries N.under) N.schema
  where
    go : (b : Bool) (o : Option (List ℕ)) → length (cond b (with_schema N o entries) entries) ≤ length entries + 1
    go false o = omega arith
    go true None = omega arith
    go true (Some text) = omega (arith, length-append entries (record { rev = N.rev; text = text } ∷ []))

one_from : (entries : List SchemaEntry) (N : Intent) (e : SchemaEntry) → Has (entries_after entries N) e → Has entries e ⊎ ((N.rev ≡ e.rev) × (N.schema ≡ Some e.text))
one_from entries N e h = go (is_last_entry entries N.under) N.schema refl h
  where
    go : (b : Bool) (o : Option (List ℕ)) → N.schema ≡ o → Has (cond b (with_schema N o entries) entries) e → Has entries e ⊎ ((N.rev ≡ e.rev) × (N.schema ≡ Some e.text))
    go false o q i = inl i
    go true None q i = inl i
    go true (Some text) q i = split (has-append entries (record { rev = N.rev; text = text } ∷ []) e i)
      where
        split : Has entries e ⊎ Has (record { rev = N.rev; text = text } ∷ []) e → Has entries e ⊎ ((N.rev ≡ e.rev) × (N.schema ≡ Some e.text))
        split (inl j) = inl j
        split (inr (inl w)) = inr (ap (λ (e : SchemaEntry). e.rev) w, q ∙ ap (λ (e : SchemaEntry). Some e.text) w)
        split (inr (inr j)) = absurd j

-- ## After a list

after_count : (Ns : List Intent) (entries : List SchemaEntry) → length (schemas_after entries Ns) ≤ length entries + length Ns
after_count [] entries = omega arith
after_count (N ∷ Ns) entries = omega (arith, after_count Ns (entries_after entries N), one_count entries N)

pub entries_count : (D E : Document) (Ns : List Intent) → AllByRecursion IsIntent Ns → Run D Ns E → length E.schemas ≤ length D.schemas + length Ns
entries_count D E Ns all run = subst (λ (es : List SchemaEntry). length es ≤ length D.schemas + length Ns) (sym (schemas_run run all)) (after_count Ns D.schemas)

after_from : (Ns : List Intent) (entries : List SchemaEntry) (e : SchemaEntry) → Has (schemas_after entries Ns) e → Has entries e ⊎ ((N : Intent) × Has Ns N × (N.rev ≡ e.rev) × (N.schema ≡ Some e.text))
after_from [] entries e h = inl h
after_from (N ∷ Ns) entries e h = elim (after_from Ns (entries_after entries N) e h) [
  | inl i ↦ elim (one_from entries N e i) [ inl j ↦ inl j | inr x ↦ inr (N, inl refl, x.0, x.1) ]
  | inr x ↦ inr (x.0, inr x.1, x.2, x.3)
]

pub entries_from : (D E : Document) (Ns : List Intent) → AllByRecursion IsIntent Ns → Run D Ns E → (e : SchemaEntry) → Has E.schemas e
    → Has D.schemas e ⊎ ((N : Intent) × Has Ns N × (N.rev ≡ e.rev) × (N.schema ≡ Some e.text))
entries_from D E Ns all run e h = after_from Ns D.schemas e (subst (λ (es : List SchemaEntry). Has es e) (schemas_run run all) h)
