-- What is told of one more commit changes nothing of documents and lists that don't have its revision.
use Rattle.std.proofs.Common.{◌≡◌, ◌≢◌, ℕ, Bool, true, false, cond, List, [], ◌∷◌, ◌++◌, Option, Some, None, IsSome, IfSome, is_some, refl, sym, ap, ◌∙◌, subst, inl, inr}
use Rattle.st_ids.specs.Listing.{Has}
use Rattle.st_ids.specs.Order.{same_rev}
use Rattle.st_ids.specs.Root.{opening}
use Rattle.st_ids.specs.declared.names.NodeId.{NodeId}
use Rattle.st_ids.specs.declared.names.Rev.{Rev}
use Rattle.st_ids.proofs.Orders.{same_rev-itself, same_rev-true}
use Rattle.st_schema.specs.Schema.{SchemaView, is_sound}
use Rattle.st_marks.specs.declared.intents.Intent.{Intent}
use Rattle.st_marks.specs.declared.intents.To.{To}
use Rattle.st_marks.specs.declared.schemas.SchemaEntry.{SchemaEntry}
use Rattle.st_marks.specs.Document.{Document, IsSoundInForm, NodeType, first_of, revs}
use Rattle.st_marks.specs.Intent.{Fits, IsIntent, IsKnown, is_new, put_of}
use Rattle.st_marks.specs.Verdict.{carried_document}
use Rattle.st_marks.proofs.Full.{known_put}
use Rattle.st_marks.proofs.Members.{append_left, append_right, has-append, has-map, map-has}
use Rattle.st_marks.proofs.OneVerdict.{carried_extends}
use Rattle.st_log_laws.specs.Names.{IsMadeUnder, revisions}
use Rattle.st_log_laws.specs.Turns.{FitInTurn}
use Rattle.st_log_laws.proofs.Names.{made_after, new_node_rev}
use Rattle.st_schema_laws.specs.Agreeing.{KeepsSchema}
use Rattle.st_edits.specs.Fields.{type_fits}
use Rattle.st_schema_laws.specs.Conforming.{IsConforming}
use Rattle.st_schema_laws.proofs.Homes.{document_keeps, intent_keeps}
use Rattle.st_part_laws.specs.Parts.{NamesWithin, is_of_schemas, part_in_effect, part_of_schemas}
use Rattle.st_part_laws.proofs.Chains.{last-has}
use Rattle.st_part_laws.proofs.Parts.{part_sound}
use Rattle.st_part_laws.proofs.Closed.{root_in_effect}
use Rattle.st_part_laws.proofs.Told.{other_line, other_under, told_closed, told_entries, told_others, told_part, told_within}
use Rattle.st_schema_laws.specs.AgreeingInEffect.{AgreeInTurn, AgreesInLine, ConformsInEffect, Told, with_commit, with_home}
use Rattle.st_edits.specs.InEffect.{last_in_effect}
use Rattle.st_schema_laws.specs.Widening.{BecomesWider, IsTextOf, IsUpgrade}
use Rattle.st_schema_laws.proofs.EditsInLine.{some_last}

-- the revisions of a list and of those before it, one commit on
moved : (M : Intent) (Ms : List Intent) (ss : List Rev) (r : Rev) → Has (revisions Ms ++ M.rev ∷ ss) r → Has (revisions (M ∷ Ms) ++ ss) r
moved M Ms ss r h = elim (has-append (revisions Ms) (M.rev ∷ ss) r h) [
  | inl i ↦ inr (append_left (revisions Ms) ss r i)
  | inr (inl e) ↦ inl e
  | inr (inr i) ↦ inr (append_right (revisions Ms) ss r i)
]

-- ## A commit's schema

module _ (T : Told) (N : Intent) (new : SchemaView) where
  abbrev U : Told
  U = with_commit T N new

  pub own_view : U.view N.rev ≡ new
  own_view = rw (same_rev-itself N.rev) refl

  pub other_view : (r : Rev) → r ≢ N.rev → U.view r ≡ T.view r
  other_view r other = go (same_rev r N.rev) refl
    where
      go : (b : Bool) → same_rev r N.rev ≡ b → U.view r ≡ T.view r
      go true e = absurd (other (same_rev-true r N.rev e))
      go false e = rw e refl

  pub own_upgrade : N.under ≢ N.rev → IfSome N.schema (IsUpgrade (T.view N.under) new) → IfSome N.schema (IsUpgrade (U.view N.under) (U.view N.rev))
  own_upgrade other h = go N.schema h
    where
      go : (o : Option (List ℕ)) → IfSome o (IsUpgrade (T.view N.under) new) → IfSome o (IsUpgrade (U.view N.under) (U.view N.rev))
      go None h = tt
      go (Some text) h = subst (λ s. IsUpgrade s (U.view N.rev) text) (sym (other_view N.under other)) (subst (λ s. IsUpgrade (T.view N.under) s text) (sym own_view) h)

  other_upgrade : (M : Intent) → M.rev ≢ N.rev → M.under ≢ N.rev → IfSome M.schema (IsUpgrade (T.view M.under) (T.view M.rev)) → IfSome M.schema (IsUpgrade (U.view M.under) (U.view M.rev))
  other_upgrade M rev under h = go M.schema h
    where
      go : (o : Option (List ℕ)) → IfSome o (IsUpgrade (T.view M.under) (T.view M.rev)) → IfSome o (IsUpgrade (U.view M.under) (U.view M.rev))
      go None h = tt
      go (Some text) h = subst (λ s. IsUpgrade s (U.view M.rev) text) (sym (other_view M.under under)) (subst (λ s. IsUpgrade (T.view M.under) s text) (sym (other_view M.rev rev)) h)

  pub commit_told : (ss : List Rev) (D : Document) (M : Intent) → IsSoundInForm D → IsMadeUnder ss D → (Has ss N.rev → ⊥) → M.rev ≢ N.rev → M.under ≢ N.rev → Fits D M → AgreesInLine T D M → AgreesInLine U D M
  commit_told ss D M s made fresh rev under f a = record {
    under = other_under T.under N M.rev rev ∙ a.under;
    chain = told_others T.chain N M rev under a.chain;
    view = other_upgrade M rev under a.view;
    names = subst (λ rs. NamesWithin (is_of_schemas U.under rs) D M) (sym (other_line T.chain N M.under under)) (told_within T.under N (T.chain M.under) ss D s made fresh M rev f a.names);
    keeps = subst (λ rs. KeepsSchema (U.view M.under) T.home (part_of_schemas U.under rs D) M) (sym (other_line T.chain N M.under under))
        (subst (λ E. KeepsSchema (U.view M.under) T.home E M) (sym (told_part T.under N (T.chain M.under) ss D s made fresh))
        (subst (λ v. KeepsSchema v T.home (part_of_schemas T.under (T.chain M.under) D) M) (sym (other_view M.under under)) a.keeps));
  }

  pub list_told : (Ms : List Intent) (ss : List Rev) (D : Document) → IsSoundInForm D → IsMadeUnder ss D → FitInTurn D Ms → (Has (revisions Ms ++ ss) N.rev → ⊥) → ((M : Intent) → Has Ms M → M.under ≢ N.rev)
      → AgreeInTurn T D Ms → AgreeInTurn U D Ms
  list_told [] ss D s made f fresh unders a = tt
  list_told (M ∷ Ms) ss D s made f fresh unders a = (
    commit_told ss D M s made (λ h. fresh (inr (append_right (revisions Ms) ss N.rev h))) (λ e. fresh (inl e)) (unders M (inl refl)) f.0 a.0,
    λ v is. list_told Ms (M.rev ∷ ss) (carried_document v D M) (carried_extends D M v s f.0 f.1 is).after (made_after ss D M v f.0 made) (f.2 v is)
        (λ h. fresh (moved M Ms ss N.rev h)) (λ L h. unders L (inr h)) (a.1 v is),
  )

  module _ (ss : List Rev) (D : Document) (s : IsSoundInForm D) (made : IsMadeUnder ss D) (fresh : Has ss N.rev → ⊥) (unders : (r : Rev) → Has ss r → T.under r ≢ N.rev) (here : ConformsInEffect T D) where
    entry_other : (r : Rev) → Has (revs D.schemas) r → r ≢ N.rev
    entry_other r h e =
        let x = has-map (λ (e : SchemaEntry). e.rev) D.schemas r h in
        fresh (subst (Has ss) (x.2 ∙ e) (made.schemas x.0 x.1))

    first_has : (rs : List Rev) → first_of rs ≡ Some opening → Has rs opening
    first_has [] e = let bad : None ≡ Some opening = e in cc
    first_has (r ∷ rs) e = let q : r ≡ opening = cc in inl q

    widening_told : (r t : Rev) → Has (revs D.schemas) r → Has (U.chain r) t → BecomesWider (U.view t) (U.view r)
    widening_told r t h i =
        let there : Has (T.chain r) t = subst (λ l. Has l t) (other_line T.chain N r (entry_other r h)) i in
        subst (λ v. BecomesWider v (U.view r)) (sym (other_view t (entry_other t (here.line.each r t h there))))
        (subst (BecomesWider (T.view t)) (sym (other_view r (entry_other r h))) (here.widening.each r t h there))

    written_told : (e : SchemaEntry) → Has D.schemas e → IsTextOf (U.view e.rev) e.text
    written_told e h = subst (λ v. IsTextOf v e.text) (sym (other_view e.rev (entry_other e.rev (map-has (λ (e : SchemaEntry). e.rev) D.schemas e h)))) (here.widening.written e h)

    types_told : (n : NodeId) (t : NodeType) → D.nodes n ≡ Some t → type_fits (U.view (U.under n.0.rev)) t.ty t.leaf ≡ true
    types_told n t e =
        let there : Has ss n.0.rev = made.nodes n (ap is_some e) in
        let maker : U.under n.0.rev ≡ T.under n.0.rev = other_under T.under N n.0.rev (λ q. fresh (subst (Has ss) q there)) in
        ap (λ u. type_fits (U.view u) t.ty t.leaf) maker ∙ ap (λ v. type_fits v t.ty t.leaf) (other_view (T.under n.0.rev) (unders n.0.rev there)) ∙ here.types n t e

    pub document_told : ConformsInEffect U D
    document_told = record {
      opened = other_under T.under N opening (entry_other opening (first_has (revs D.schemas) s.in_effect.begun)) ∙ here.opened;
      line = told_entries T.chain N D.schemas (λ h. entry_other N.rev h refl) here.line;
      widening = record { written = written_told; sound = λ r h. ap is_sound (other_view r (entry_other r h)) ∙ here.widening.sound r h; each = widening_told };
      types = types_told;
      closed = told_closed T.under N (revs D.schemas) ss D s made fresh here.closed;
      part = subst (λ E. IsConforming (U.view (last_in_effect D)) T.home E) (sym (told_part T.under N (revs D.schemas) ss D s made fresh))
          (subst (λ v. IsConforming v T.home (part_in_effect T.under D)) (sym (other_view (last_in_effect D) (entry_other (last_in_effect D) (last-has (revs D.schemas) (last_in_effect D) (some_last (revs D.schemas) s.in_effect.begun))))) here.part);
    }

-- ## A commit's homes

module _ (T : Told) (N : Intent) where
  pub commit_at_home : (D : Document) (M : Intent) → ((m : NodeId) → IsSome (put_of M m) → is_new N m ≡ false) → ((m : NodeId) → is_new M m ≡ true → is_new N m ≡ false) → AgreesInLine T D M → AgreesInLine (with_home T N) D M
  commit_at_home D M puts new a = record {
    under = a.under;
    chain = a.chain;
    view = a.view;
    names = a.names;
    keeps = intent_keeps (T.view M.under) T.home (part_of_schemas T.under (T.chain M.under) D) N M puts new a.keeps;
  }

  pub document_at_home : (D : Document) → IsSoundInForm D → ((n : NodeId) → is_new N n ≡ true → D.nodes n ≡ None) → ConformsInEffect T D → ConformsInEffect (with_home T N) D
  document_at_home D s absent here = record {
    opened = here.opened;
    line = here.line;
    widening = here.widening;
    types = here.types;
    closed = here.closed;
    part = document_keeps (T.view (last_in_effect D)) T.home (part_in_effect T.under D) N
        (part_sound (is_of_schemas T.under (revs D.schemas)) D s here.closed (root_in_effect T.under D s here.opened)) (λ n i. nor_in_part n (absent n i) (is_of_schemas T.under (revs D.schemas) n)) here.part;
  }
    where
      nor_in_part : (n : NodeId) → D.nodes n ≡ None → (b : Bool) → cond b (D.nodes n) None ≡ None
      nor_in_part n e true = e
      nor_in_part n e false = refl

  -- ### Of documents and commits with other revisions

  module _ (itself : IsIntent N) where
    not_new : (n : NodeId) → (n.0.rev ≡ N.rev → ⊥) → is_new N n ≡ false
    not_new n apart = go (is_new N n) refl
      where
        go : (b : Bool) → is_new N n ≡ b → is_new N n ≡ false
        go false e = e
        go true e = absurd (apart (new_node_rev N itself n e))

    pub absent_by_rev : (ss : List Rev) (D : Document) → IsMadeUnder ss D → (Has ss N.rev → ⊥) → (n : NodeId) → is_new N n ≡ true → D.nodes n ≡ None
    absent_by_rev ss D made fresh n i = go (D.nodes n) refl
      where
        go : (o : Option NodeType) → D.nodes n ≡ o → D.nodes n ≡ None
        go None e = e
        go (Some t) e = absurd (fresh (subst (Has ss) (new_node_rev N itself n i) (made.nodes n (ap is_some e))))

    put_apart : (ss : List Rev) (D : Document) (M : Intent) → IsMadeUnder ss D → (Has ss N.rev → ⊥) → M.rev ≢ N.rev → Fits D M → (m : NodeId) → IsSome (put_of M m) → m.0.rev ≡ N.rev → ⊥
    put_apart ss D M made fresh other f m h e = go (put_of M m) refl h
      where
        known : IsKnown D M m → ⊥
        known (inl i) = other (sym (new_node_rev M f.itself m i) ∙ e)
        known (inr k) = fresh (subst (Has ss) e (made.nodes m k))

        go : (o : Option To) → put_of M m ≡ o → IsSome o → ⊥
        go None q k = cc
        go (Some to) q k = known (known_put D M f m to q).0

    pub list_at_home : (Ms : List Intent) (ss : List Rev) (D : Document) → IsMadeUnder ss D → FitInTurn D Ms → (Has (revisions Ms ++ ss) N.rev → ⊥) → AgreeInTurn T D Ms → AgreeInTurn (with_home T N) D Ms
    list_at_home [] ss D made f fresh a = tt
    list_at_home (M ∷ Ms) ss D made f fresh a = (
      commit_at_home D M (λ m put. not_new m (put_apart ss D M made (λ h. fresh (inr (append_right (revisions Ms) ss N.rev h))) (λ e. fresh (inl e)) f.0 m put))
          (λ m i. not_new m (λ e. fresh (inl (sym (new_node_rev M f.0.itself m i) ∙ e)))) a.0,
      λ v is. list_at_home Ms (M.rev ∷ ss) (carried_document v D M) (made_after ss D M v f.0 made) (f.2 v is) (λ h. fresh (moved M Ms ss N.rev h)) (a.1 v is),
    )
