-- Schemas come before the commits that were made under them, in each list that has the commits of a shorter one.
use Rattle.std.proofs.Common.{◌≡◌, ◌≢◌, ℕ, Bool, true, false, cond, List, [], ◌∷◌, ◌++◌, Option, Some, None, IfSome, IsSome, is_some, refl, sym, ap, ◌∙◌, subst, ◌⊎◌, inl, inr}
use Rattle.std.specs.List.{AllByRecursion}
use Rattle.st_lemmas.proofs.Lists.{map-append}
use Rattle.st_ids.specs.Listing.{Has}
use Rattle.st_ids.specs.declared.names.Rev.{Rev}
use Rattle.st_marks.specs.declared.intents.Intent.{Intent}
use Rattle.st_marks.specs.declared.schemas.SchemaEntry.{SchemaEntry}
use Rattle.st_marks.specs.CarryOut.{with_schema}
use Rattle.st_marks.specs.Document.{Document, revs}
use Rattle.st_marks.specs.Extends.{no_more, item_gained, item_kept}
use Rattle.st_marks.specs.Intent.{IsIntent}
use Rattle.st_marks.specs.Run.{Run}
use Rattle.st_marks.proofs.Members.{all-has, append_left, append_right, has-append}
use Rattle.st_log_laws.specs.Names.{HaveNewRevisions, revisions}
use Rattle.st_log_laws.specs.Turns.{IsSublist}
use Rattle.st_part_laws.specs.Schemas.{entries_after, is_last_entry, schemas_after}
use Rattle.st_part_laws.specs.Turns.{SchemasComeFirst}
use Rattle.st_part_laws.proofs.Schemas.{schemas_run}
use Rattle.st_schema_laws.specs.Earlier.{AreUnderEarlier, schemas_made, with_own}

-- ## Of more schemas

own_kept : (rs : List Rev) (N : Intent) (r : Rev) → Has rs r → Has (with_own rs N) r
own_kept rs N r h = go (is_some N.schema)
  where
    go : (b : Bool) → Has (cond b (N.rev ∷ rs) rs) r
    go true = inr h
    go false = h

has_own : (rs : List Rev) (N : Intent) (r : Rev) → Has (with_own rs N) r → (N.rev ≡ r) ⊎ Has rs r
has_own rs N r h = go (is_some N.schema) h
  where
    go : (b : Bool) → Has (cond b (N.rev ∷ rs) rs) r → (N.rev ≡ r) ⊎ Has rs r
    go true i = i
    go false i = inr i

own_more : (rs ss : List Rev) (N : Intent) → ((r : Rev) → Has rs r → Has ss r) → (r : Rev) → Has (with_own rs N) r → Has (with_own ss N) r
own_more rs ss N more r h = go (is_some N.schema) h
  where
    go : (b : Bool) → Has (cond b (N.rev ∷ rs) rs) r → Has (cond b (N.rev ∷ ss) ss) r
    go true (inl e) = inl e
    go true (inr i) = inr (more r i)
    go false i = more r i

made_kept : (rs : List Rev) (Ns : List Intent) (r : Rev) → Has rs r → Has (schemas_made rs Ns) r
made_kept rs [] r h = h
made_kept rs (N ∷ Ns) r h = made_kept (with_own rs N) Ns r (own_kept rs N r h)

pub made_longer : {As Bs : List Intent} → IsSublist As Bs → (rs ss : List Rev) → ((r : Rev) → Has rs r → Has ss r) → (r : Rev) → Has (schemas_made rs As) r → Has (schemas_made ss Bs) r
made_longer no_more rs ss more r h = more r h
made_longer (item_gained {y = N} sub) rs ss more r h = made_longer sub rs (with_own ss N) (λ q i. own_kept ss N q (more q i)) r h
made_longer (item_kept {x = N} {y = M} same sub) rs ss more r h = made_longer sub (with_own rs N) (with_own ss M) (λ q i. subst (λ M. Has (with_own ss M) q) same (own_more rs ss N more q i)) r h

pub earlier_more : (rs ss : List Rev) (Ns : List Intent) → ((r : Rev) → Has rs r → Has ss r) → AreUnderEarlier rs Ns → AreUnderEarlier ss Ns
earlier_more rs ss [] more a = tt
earlier_more rs ss (N ∷ Ns) more a = (more N.under a.0, earlier_more (with_own rs N) (with_own ss N) Ns (own_more rs ss N more) a.1)

-- ## Lists one after the other

pub earlier_front : (rs : List Rev) (Ns Ms : List Intent) → AreUnderEarlier rs (Ns ++ Ms) → AreUnderEarlier rs Ns
earlier_front rs [] Ms a = tt
earlier_front rs (N ∷ Ns) Ms a = (a.0, earlier_front (with_own rs N) Ns Ms a.1)

pub earlier_rest : (rs : List Rev) (Ns Ms : List Intent) → AreUnderEarlier rs (Ns ++ Ms) → AreUnderEarlier (schemas_made rs Ns) Ms
earlier_rest rs [] Ms a = a
earlier_rest rs (N ∷ Ns) Ms a = earlier_rest (with_own rs N) Ns Ms a.1

pub earlier_then : (rs : List Rev) (Ns Ms : List Intent) → AreUnderEarlier rs Ns → AreUnderEarlier (schemas_made rs Ns) Ms → AreUnderEarlier rs (Ns ++ Ms)
earlier_then rs [] Ms a b = b
earlier_then rs (N ∷ Ns) Ms a b = (a.0, earlier_then (with_own rs N) Ns Ms a.1 b)

pub earlier_longer : (rs : List Rev) (As Bs Ns : List Intent) → IsSublist As Bs → AreUnderEarlier rs Bs → AreUnderEarlier rs (As ++ Ns) → AreUnderEarlier rs (Bs ++ Ns)
earlier_longer rs As Bs Ns sub b a =
    earlier_then rs Bs Ns b (earlier_more (schemas_made rs As) (schemas_made rs Bs) Ns (made_longer sub rs rs (λ r h. h)) (earlier_rest rs As Ns a))

-- ## Schemas in effect

entries_made : (entries : List SchemaEntry) (rs : List Rev) (N : Intent) → ((r : Rev) → Has (revs entries) r → Has rs r) → (r : Rev) → Has (revs (entries_after entries N)) r → Has (with_own rs N) r
entries_made entries rs N more r h = go (is_last_entry entries N.under) N.schema refl h
  where
    go : (b : Bool) (o : Option (List ℕ)) → N.schema ≡ o → Has (revs (cond b (with_schema N o entries) entries)) r → Has (with_own rs N) r
    go false o e i = own_kept rs N r (more r i)
    go true None e i = own_kept rs N r (more r i)
    go true (Some text) e i = rw e (split (has-append (revs entries) (N.rev ∷ []) r (subst (λ l. Has l r) (map-append (λ (e : SchemaEntry). e.rev) entries (record { rev = N.rev; text = text } ∷ [])) i)))
      where
        split : Has (revs entries) r ⊎ Has (N.rev ∷ []) r → Has (N.rev ∷ rs) r
        split (inl j) = inr (more r j)
        split (inr (inl q)) = inl q
        split (inr (inr j)) = absurd j

after_made : (Ns : List Intent) (entries : List SchemaEntry) (rs : List Rev) → ((r : Rev) → Has (revs entries) r → Has rs r) → (r : Rev) → Has (revs (schemas_after entries Ns)) r → Has (schemas_made rs Ns) r
after_made [] entries rs more r h = more r h
after_made (N ∷ Ns) entries rs more r h = after_made Ns (entries_after entries N) (with_own rs N) (entries_made entries rs N more) r h

pub in_effect_made : (D E : Document) (Ns : List Intent) → AllByRecursion IsIntent Ns → Run D Ns E → (r : Rev) → Has (revs E.schemas) r → Has (schemas_made (revs D.schemas) Ns) r
in_effect_made D E Ns all run r h = after_made Ns D.schemas (revs D.schemas) (λ q i. i) r (subst (λ es. Has (revs es) r) (schemas_run run all) h)

-- ## Which come first

pub made_among : (rs : List Rev) (Ns : List Intent) (r : Rev) → Has (schemas_made rs Ns) r → Has (revisions Ns ++ rs) r
made_among rs [] r h = h
made_among rs (N ∷ Ns) r h = elim (has-append (revisions Ns) (with_own rs N) r (made_among (with_own rs N) Ns r h)) [
  | inl i ↦ inr (append_left (revisions Ns) rs r i)
  | inr i ↦ elim (has_own rs N r i) [ inl e ↦ inl e | inr j ↦ inr (append_right (revisions Ns) rs r j) ]
]

pub made_by : (rs : List Rev) (Ns : List Intent) (r : Rev) → Has (schemas_made rs Ns) r → Has rs r ⊎ ((N : Intent) × Has Ns N × (N.rev ≡ r) × IsSome N.schema)
made_by rs [] r h = inl h
made_by rs (N ∷ Ns) r h = elim (made_by (with_own rs N) Ns r h) [ inl i ↦ own N.schema refl i | inr x ↦ inr (x.0, inr x.1, x.2, x.3) ]
  where
    own : (o : Option (List ℕ)) → N.schema ≡ o → Has (cond (is_some o) (N.rev ∷ rs) rs) r → Has rs r ⊎ ((M : Intent) × Has (N ∷ Ns) M × (M.rev ≡ r) × IsSome M.schema)
    own None e i = inl i
    own (Some text) e (inl q) = inr (N, inl refl, q, ap is_some e)
    own (Some text) e (inr i) = inl i

pub unders_made : (rs : List Rev) (Ns : List Intent) → AreUnderEarlier rs Ns → (N : Intent) → Has Ns N → Has (schemas_made rs Ns) N.under
unders_made rs [] a N h = absurd h
unders_made rs (M ∷ Ns) a N (inl e) = subst (λ (N : Intent). Has (schemas_made rs (M ∷ Ns)) N.under) e (made_kept (with_own rs M) Ns M.under (own_kept rs M M.under a.0))
unders_made rs (M ∷ Ns) a N (inr h) = unders_made (with_own rs M) Ns a.1 N h

pub come_first : (under : Rev → Rev) (rs ss : List Rev) (Ns : List Intent) → ((r : Rev) → Has rs r → Has ss r) → ((r : Rev) → Has ss r → Has rs (under r)) → HaveNewRevisions ss Ns
    → AllByRecursion (λ (N : Intent). under N.rev ≡ N.under) Ns → AreUnderEarlier rs Ns → SchemasComeFirst under ss Ns
come_first under rs ss [] more unders new told a = tt
come_first under rs ss (N ∷ Ns) more unders new told a = (
  first N.schema,
  come_first under (with_own rs N) (N.rev ∷ ss) Ns onward below (record { once = new.once.1; new = later }) told.1 a.1,
)
  where
    first : (o : Option (List ℕ)) → IfSome o (λ _. (r : Rev) → Has ss r → under r ≢ N.rev)
    first None = tt
    first (Some text) = λ r h e. new.new N (inl refl) (subst (Has ss) e (more (under r) (unders r h)))

    onward : (r : Rev) → Has (with_own rs N) r → Has (N.rev ∷ ss) r
    onward r h = elim (has_own rs N r h) [ inl e ↦ inl e | inr i ↦ inr (more r i) ]

    below : (r : Rev) → Has (N.rev ∷ ss) r → Has (with_own rs N) (under r)
    below r (inl e) = own_kept rs N (under r) (subst (Has rs) (sym told.0 ∙ ap under e) a.0)
    below r (inr h) = own_kept rs N (under r) (unders r h)

    later : (M : Intent) → Has Ns M → Has (N.rev ∷ ss) M.rev → ⊥
    later M h (inl e) = all-has (λ (M : Intent). M.rev ≢ N.rev) Ns M new.once.0 h (sym e)
    later M h (inr i) = new.new M (inr h) i
