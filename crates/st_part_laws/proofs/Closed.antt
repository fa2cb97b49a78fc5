-- The part in effect stays closed.
use Rattle.std.proofs.Common.{◌≡◌, ◌≢◌, ℕ, Bool, true, false, ◌&&◌, ◌||◌, List, [], ◌∷◌, ◌++◌, Option, Some, None, IsSome, IfSome, refl, sym, ap, ◌∙◌, subst, inl, inr}
use Rattle.std.specs.List.{AllByRecursion, list_any}
use Rattle.std.specs.Option.{option_or, option_map_or}
use Rattle.std.specs.Prelude.{if◌then◌else◌}
use Rattle.st_lemmas.proofs.Bools.{or-false}
use Rattle.st_lemmas.proofs.FirstItems.{list_any-push}
use Rattle.st_lemmas.proofs.Lists.{map-append}
use Rattle.st_lemmas.proofs.Options.{option_or-None, one_some}
use Rattle.st_ids.specs.Listing.{Has}
use Rattle.st_ids.specs.Order.{same_rev}
use Rattle.st_ids.specs.Root.{opening, root}
use Rattle.st_ids.specs.declared.names.NodeId.{NodeId}
use Rattle.st_ids.specs.declared.names.Rev.{Rev}
use Rattle.st_ids.proofs.Orders.{same_rev-true, same_rev-itself}
use Rattle.st_marks.specs.declared.changes.NewNode.{NewNode}
use Rattle.st_marks.specs.declared.intents.Intent.{Intent}
use Rattle.st_marks.specs.declared.intents.To.{To}
use Rattle.st_marks.specs.declared.schemas.SchemaEntry.{SchemaEntry}
use Rattle.st_marks.specs.declared.verdicts.Verdict.{Verdict}
use Rattle.st_marks.specs.CarryOut.{full, is_put_in_new, place_after, spot_of, void_data, with_names, with_schema}
use Rattle.st_marks.specs.Document.{Document, HasShortRows, IsSoundInForm, first_of, node_of, revs}
use Rattle.st_marks.specs.Extends.{IsExtendedBy}
use Rattle.st_marks.specs.Intent.{Fits, IsIntent, is_new, new_type, put_of}
use Rattle.st_marks.specs.Run.{Run, done, next}
use Rattle.st_marks.specs.Verdict.{HasBase, IsVerdict, carried_document}
use Rattle.st_marks.proofs.Members.{has-any}
use Rattle.st_marks.proofs.OneVerdict.{carried_extends}
use Rattle.st_marks.proofs.Climb.{above_known, placed_known}
use Rattle.st_log_laws.specs.Names.{IsMadeUnder}
use Rattle.st_log_laws.specs.Turns.{FitInTurn}
use Rattle.st_log_laws.proofs.Names.{made_after, new_node_rev}
use Rattle.st_part_laws.specs.Chains.{AreInLine, TellsChain}
use Rattle.st_part_laws.specs.Parts.{IsClosedBy, IsClosedInEffect, NamesWithin, is_of_schemas}
use Rattle.st_part_laws.specs.Turns.{ComesFirst, NameInTurn, SchemasComeFirst}
use Rattle.st_part_laws.proofs.Carrying.{stays_closed}
use Rattle.st_part_laws.proofs.Chains.{last-has, line_after, named_in_effect}
use Rattle.st_part_laws.proofs.Schemas.{based, entries_carried, kept_carried}
use Rattle.st_part_laws.proofs.Told.{same_closed}

-- ## After a void intent

module _ (p : NodeId → Bool) (D : Document) (N : Intent) (alike : (m n : NodeId) → is_new N m ≡ true → is_new N n ≡ true → p m ≡ p n) (closed : IsClosedBy p D) where
  pub closed_void : IsClosedBy p (void_data D N)
  closed_void m n e = go (is_new N m) refl (is_put_in_new D N m) refl e
    where
      put : is_new N m ≡ true → (o : Option To) → option_map_or (λ to. option_map_or (is_new N) (node_of (spot_of (with_names D N).row_of to)) false) o false ≡ true
          → node_of (place_after (with_names D N).row_of N o (D.place m)) ≡ Some n → p m ≡ p n
      put i None h e = let bad : false ≡ true = h in cc
      put i (Some to) h e = alike m n i (subst (λ o. option_map_or (is_new N) o false ≡ true) e h)

      go : (a : Bool) → is_new N m ≡ a → (b : Bool) → is_put_in_new D N m ≡ b
          → node_of (if a && b then place_after (with_names D N).row_of N (put_of N m) (D.place m) else D.place m) ≡ Some n → p m ≡ p n
      go false i b h e = closed m n e
      go true i false h e = closed m n e
      go true i true h e = put i (put_of N m) h e

-- the new nodes of an intent were made under one schema
pub new_alike : (under : Rev → Rev) (rs : List Rev) (N : Intent) → IsIntent N → (m n : NodeId) → is_new N m ≡ true → is_new N n ≡ true → is_of_schemas under rs m ≡ is_of_schemas under rs n
new_alike under rs N w m n i j = ap (λ r. list_any (λ s. same_rev s (under r)) rs) (new_node_rev N w m i ∙ sym (new_node_rev N w n j))

-- ## One schema more

pub one_more : (under : Rev → Rev) (rs : List Rev) (u : Rev) (n : NodeId) → under n.0.rev ≢ u → is_of_schemas under rs n ≡ is_of_schemas under (rs ++ u ∷ []) n
one_more under rs u n other =
    sym (list_any-push (λ r. same_rev r (under n.0.rev)) rs u ∙ go (same_rev u (under n.0.rev)) refl)
  where
    go : (b : Bool) → same_rev u (under n.0.rev) ≡ b → (is_of_schemas under rs n || b) ≡ is_of_schemas under rs n
    go true e = absurd (other (sym (same_rev-true u (under n.0.rev) e)))
    go false e = or-false (is_of_schemas under rs n)

-- the root was made under the first entry
pub root_in_effect : (under : Rev → Rev) (D : Document) → IsSoundInForm D → under opening ≡ opening → is_of_schemas under (revs D.schemas) root ≡ true
root_in_effect under D s told = go (revs D.schemas) s.in_effect.begun
  where
    go : (rs : List Rev) → first_of rs ≡ Some opening → is_of_schemas under rs root ≡ true
    go [] e = let bad : None ≡ Some opening = e in cc
    go (r ∷ rs) e =
        let same : r ≡ opening = one_some r opening e in
        has-any (λ r. same_rev r (under opening)) (r ∷ rs) r (inl refl) (ap (λ t. same_rev t (under opening)) same ∙ ap (same_rev opening) told ∙ same_rev-itself opening)

-- ## After one intent

module _ (under : Rev → Rev) (chain : Rev → List Rev) (D : Document) (N : Intent) (s : IsSoundInForm D) (f : Fits D N) (short : HasShortRows (full D N)) (told : under opening ≡ opening)
    (line : AreInLine chain D.schemas) (w : NamesWithin (is_of_schemas under (chain N.under)) D N) (first : ComesFirst under D N) (closed : IsClosedInEffect under D) where
  abbrev p : NodeId → Bool
  p = is_of_schemas under (revs D.schemas)

  closed_full : Has (revs D.schemas) N.under → IsClosedBy p (full D N)
  closed_full h = stays_closed p D N s closed (root_in_effect under D s told) f (named_in_effect under chain D N line h w)

  after_void : (o : Option (List ℕ)) → IsClosedInEffect under (option_map_or (λ _. D) o (void_data D N))
  after_void None = closed_void p D N (new_alike under (revs D.schemas) N f.itself) closed
  after_void (Some t) = closed

  after_data : N.schema ≡ None → IsVerdict D N Verdict.Sound → IsClosedInEffect under (full D N)
  after_data e h = subst (λ es. IsClosedBy (is_of_schemas under (revs es)) (full D N)) (sym (kept_carried D N e Verdict.Sound)) (closed_full (subst (λ o. HasBase D.schemas o N.under) e h.0))

  -- of a change of schema that is carried out
  pub entries_of_change : (text : List ℕ) → N.schema ≡ Some text → revs (full D N).schemas ≡ revs D.schemas ++ N.rev ∷ []
  entries_of_change text e =
      ap (λ o. revs (with_schema N o D.schemas)) e ∙ map-append (λ (e : SchemaEntry). e.rev) D.schemas (record { rev = N.rev; text = text } ∷ [])

  pub same_after_change : (text : List ℕ) → N.schema ≡ Some text → (n : NodeId) → IsSome ((full D N).nodes n) → p n ≡ is_of_schemas under (revs D.schemas ++ N.rev ∷ []) n
  same_after_change text e n i = one_more under (revs D.schemas) N.rev n (new n (subst (λ o. IsSome o) (nothing N.new refl alone) i))
    where
      alone : N.new ≡ []
      alone = (subst (λ o. IfSome o (λ (_ : List ℕ). (N.new ≡ []) × (N.groups ≡ []) × (N.clear ≡ []) × (N.put ≡ []) × (N.need ≡ []))) e f.itself.schema_alone).0

      new : (m : NodeId) → IsSome (D.nodes m) → under m.0.rev ≢ N.rev
      new = subst (λ o. IfSome o (λ (_ : List ℕ). (m : NodeId) → IsSome (D.nodes m) → under m.0.rev ≢ N.rev)) e first

      nothing : (ms : List NewNode) → N.new ≡ ms → ms ≡ [] → (full D N).nodes n ≡ D.nodes n
      nothing ms q r =
          let none : new_type N n ≡ None = rw (q ∙ r) refl in
          ap (option_or (D.nodes n)) none ∙ option_or-None (D.nodes n)

  after_change : (text : List ℕ) → N.schema ≡ Some text → IsVerdict D N Verdict.Sound → IsClosedInEffect under (full D N)
  after_change text e h =
      let x : IsExtendedBy D (full D N) = carried_extends D N Verdict.Sound s f short h in
      let before : IsClosedBy p (full D N) = closed_full (last-has (revs D.schemas) N.under (based D N text e h.0)) in
      subst (λ rs. IsClosedBy (is_of_schemas under rs) (full D N)) (sym (entries_of_change text e))
      (same_closed p (is_of_schemas under (revs D.schemas ++ N.rev ∷ [])) (full D N) x.after (same_after_change text e) before)

  pub closed_after : (v : Verdict) → IsVerdict D N v → IsClosedInEffect under (carried_document v D N)
  closed_after (Verdict.Schema u) h = after_void N.schema
  closed_after (Verdict.Need n) h = after_void N.schema
  closed_after (Verdict.Cycle n) h = after_void N.schema
  closed_after Verdict.Sound h = go N.schema refl
    where
      go : (o : Option (List ℕ)) → N.schema ≡ o → IsClosedInEffect under (full D N)
      go None e = after_data e h
      go (Some text) e = after_change text e h

-- ## After a list

pub comes_first : (under : Rev → Rev) (rs : List Rev) (D : Document) (N : Intent) → IsMadeUnder rs D → IfSome N.schema (λ _. (r : Rev) → Has rs r → under r ≢ N.rev) → ComesFirst under D N
comes_first under rs D N made first = go N.schema first
  where
    go : (o : Option (List ℕ)) → IfSome o (λ _. (r : Rev) → Has rs r → under r ≢ N.rev) → IfSome o (λ _. (n : NodeId) → IsSome (D.nodes n) → under n.0.rev ≢ N.rev)
    go None h = tt
    go (Some text) h = λ n i. h n.0.rev (made.nodes n i)

pub closed_in_turn : (under : Rev → Rev) (chain : Rev → List Rev) (rs : List Rev) {D E : Document} {Ns : List Intent} → Run D Ns E → IsSoundInForm D → FitInTurn D Ns → under opening ≡ opening
    → AreInLine chain D.schemas → AllByRecursion (TellsChain chain) Ns → IsMadeUnder rs D → SchemasComeFirst under rs Ns → NameInTurn under chain D Ns → IsClosedInEffect under D → IsClosedInEffect under E
closed_in_turn under chain rs done s f told line tell made first names closed = closed
closed_in_turn under chain rs (next {D} {N = N} v a r) s f told line tell made first names closed =
    closed_in_turn under chain (N.rev ∷ rs) r (carried_extends D N v s f.0 f.1 a).after (f.2 v a) told
    (subst (AreInLine chain) (sym (entries_carried D N f.0.itself v a)) (line_after chain D.schemas N tell.0 line)) tell.1
    (made_after rs D N v f.0 made) first.1 (names.1 v a)
    (closed_after under chain D N s f.0 f.1 told line names.0 (comes_first under rs D N made first.0) closed v a)

-- ## At the opening

pub closed_at_first : (under : Rev → Rev) (D : Document) → IsSoundInForm D → IsMadeUnder (opening ∷ []) D → IsClosedInEffect under D
closed_at_first under D s made m n e =
    let high : Has (opening ∷ []) n.0.rev = made.nodes n (above_known D s m n e) in
    let low : Has (opening ∷ []) m.0.rev = made.nodes m (placed_known D s m (λ h. (let bad : None ≡ Some n = ap node_of (sym h) ∙ e in cc))) in
    ap (λ r. list_any (λ s. same_rev s (under r)) (revs D.schemas)) (sym (only m.0.rev low) ∙ only n.0.rev high)
  where
    only : (r : Rev) → Has (opening ∷ []) r → opening ≡ r
    only r (inl q) = q
    only r (inr h) = absurd h
