-- The part in effect keeps to the last schema, whatever commit comes.
use Rattle.std.proofs.Common.{◌≡◌, ◌||◌, ℕ, Bool, true, false, cond, List, [], ◌∷◌, ◌++◌, Option, Some, None, IsSome, IfSome, is_some, unwrap_or, refl, sym, ap, ◌∙◌, subst, inl, inr}
use mathlib.Core.Path.{fun_ext}
use Rattle.std.specs.List.{list_any}
use Rattle.std.specs.Option.{option_or, option_map_or}
use Rattle.st_lemmas.proofs.Lists.{map-append}
use Rattle.st_ids.specs.Listing.{Has}
use Rattle.st_ids.specs.Root.{opening, root}
use Rattle.st_ids.specs.Order.{same_rev}
use Rattle.st_ids.specs.declared.names.CellId.{CellId}
use Rattle.st_ids.specs.declared.names.FieldId.{FieldId}
use Rattle.st_ids.specs.declared.names.Key.{Key}
use Rattle.st_ids.specs.declared.names.NodeId.{NodeId}
use Rattle.st_ids.specs.declared.names.Rev.{Rev}
use Rattle.st_ids.proofs.Orders.{same_rev-itself, same_rev-true}
use Rattle.st_schema.specs.Kind.{is_row, is_single_kind}
use Rattle.st_schema.specs.Schema.{SchemaView, is_sound}
use Rattle.st_schema.specs.declared.names.KindName.{KindName}
use Rattle.st_marks.specs.declared.intents.Intent.{Intent}
use Rattle.st_marks.specs.declared.intents.Owned.{Owned}
use Rattle.st_marks.specs.declared.places.Spot.{Spot}
use Rattle.st_marks.specs.declared.schemas.SchemaEntry.{SchemaEntry}
use Rattle.st_marks.specs.declared.verdicts.Verdict.{Verdict}
use Rattle.st_marks.specs.CarryOut.{full, void, void_data, with_schema}
use Rattle.st_marks.specs.Document.{Document, HasShortRows, IsSoundInForm, NodeType, last_of, revs}
use Rattle.st_marks.specs.Intent.{Fits, new_type}
use Rattle.st_marks.specs.Run.{Run, done, next}
use Rattle.st_marks.specs.Verdict.{HasBase, IsBaseInEffect, IsVerdict, carried_document}
use Rattle.st_marks.proofs.Members.{any-has}
use Rattle.st_marks.proofs.OneVerdict.{carried_extends}
use Rattle.st_log_laws.specs.Names.{HasNames, IsMadeUnder}
use Rattle.st_log_laws.specs.Turns.{FitInTurn}
use Rattle.st_log_laws.proofs.Names.{made_after, names_itself, new_node_rev}
use Rattle.st_schema_laws.specs.Agreeing.{KeepsSchema}
use Rattle.st_edits.specs.Fields.{row_key, type_fits}
use Rattle.st_schema_laws.specs.Conforming.{Admits, IsConforming, MayStand}
use Rattle.st_schema_laws.proofs.Elsewhere.{agrees_there}
use Rattle.st_schema_laws.proofs.Kept.{carried_conforms}
use Rattle.st_schema_laws.proofs.Wider.{conforms_wider}
use Rattle.st_part_laws.specs.Chains.{AreInLine}
use Rattle.st_part_laws.specs.Parts.{IsClosedBy, NamesWithin, is_of_schemas, part_by, part_in_effect, part_of_schemas}
use Rattle.st_part_laws.specs.Turns.{ComesFirst, SchemasComeFirst}
use Rattle.st_part_laws.proofs.Carrying.{fits_part, part_of_full, stays_closed}
use Rattle.st_part_laws.proofs.Chains.{last-has, last_or-append, line_after, line_begins, named_in_effect}
use Rattle.st_part_laws.proofs.Closed.{closed_after, closed_at_first, comes_first, root_in_effect}
use Rattle.st_part_laws.proofs.InEffect.{carried_in_effect, fits_in_effect, left_nodes, left_places, left_registers}
use Rattle.st_part_laws.proofs.Parts.{has_row, part_one_row, part_sound, row_has, row_in}
use Rattle.st_part_laws.proofs.Schemas.{based, entries_carried, kept_carried}
use Rattle.st_part_laws.proofs.Told.{same_part}
use Rattle.st_part_laws.proofs.Within.{more_schemas}
use Rattle.st_schema_laws.specs.AgreeingInEffect.{AgreeInTurn, AgreesInLine, ConformsInEffect, Told}
use Rattle.st_edits.specs.InEffect.{last_in_effect}
use Rattle.st_schema_laws.specs.Widening.{AreWidening, IsTextOf, IsUpgrade}
use Rattle.st_schema_laws.proofs.EditsInLine.{some_last}
use Rattle.st_schema_laws.proofs.Widening.{keeps_wider, type_becomes, widening_after, widening_begins}

-- ## Rows don't matter

-- conformity doesn't speak of cells
module _ (s : SchemaView) (home : NodeId → Option FieldId) (D : Document) (rows : NodeId → List Owned) (row_of : CellId → Option NodeId) where
  abbrev E : Document
  E = record D { rows = rows; row_of = row_of }

  admits_same : (kinds : KindName → Bool) (n : NodeId) (key : Key) (m : NodeId) → Admits s home D kinds n key m → Admits s home E kinds n key m
  admits_same kinds n key m a = record {
    rule = a.rule;
    ruled = a.ruled;
    kind = a.kind;
    typed = a.typed;
    at_home = a.at_home;
    away = λ f e. elim (a.away f e) [ inl q ↦ inl q | inr free ↦ inr (record { known = free.known; open_field = free.open_field }) ];
  }

  stands_same : (m : NodeId) (spot : Spot) → MayStand s home D m spot → MayStand s home E m spot
  stands_same m Spot.Nowhere h = tt
  stands_same m (Spot.Row n c) h = admits_same is_row n row_key m h
  stands_same m (Spot.Register f) h = admits_same is_single_kind f.node f.key m h

  conforms_same : IsConforming s home D → IsConforming s home E
  conforms_same here = record { types = here.types; places = λ m. stands_same m (D.place m) (here.places m); filled = here.filled; homes = here.homes; root_type = here.root_type }

conforms_alike : (s : SchemaView) (home : NodeId → Option FieldId) (D F : Document) → ((n : NodeId) → F.nodes n ≡ D.nodes n) → ((n : NodeId) → F.place n ≡ D.place n) → ((f : FieldId) → F.held f ≡ D.held f)
    → F.schemas ≡ D.schemas → IsConforming s home D → IsConforming s home F
conforms_alike s home D F nodes place held schemas here =
    subst (IsConforming s home) same (conforms_same s home D F.rows F.row_of here)
  where
    same : ◌≡◌ {A = Document} (record D { rows = F.rows; row_of = F.row_of }) F
    same =
        let n : D.nodes ≡ F.nodes = fun_ext (λ x. sym (nodes x)) in
        let q : D.place ≡ F.place = fun_ext (λ x. sym (place x)) in
        let h : D.held ≡ F.held = fun_ext (λ x. sym (held x)) in
        (λ i. record { nodes = n i; rows = F.rows; row_of = F.row_of; place = q i; held = h i; schemas = sym schemas i })

-- ## Parts of more nodes

module _ (p q : NodeId → Bool) (more : (n : NodeId) → p n ≡ true → q n ≡ true) (D E : Document) (names : HasNames D E) (one : IsSoundInForm D) (other : IsSoundInForm E) where
  pub nodes_there : (n : NodeId) (t : NodeType) → (part_by p D).nodes n ≡ Some t → (part_by q E).nodes n ≡ Some t
  nodes_there n t e = go (p n) refl e
    where
      go : (b : Bool) → p n ≡ b → cond b (D.nodes n) None ≡ Some t → (part_by q E).nodes n ≡ Some t
      go true i h = rw (more n i) (names.nodes n t h)
      go false i h = cc

  pub cells_there : (c : CellId) (n : NodeId) → (part_by p D).row_of c ≡ Some n → (part_by q E).row_of c ≡ Some n
  cells_there c n e =
      let o = (part_one_row p D one.one_row c n).0 e in
      let h = row_has p D n _ o.1 in
      row_in q E other.one_row c n (o.0, has_row q E n _ (more n h.0) (names.cells n _ h.1) (more o.0 h.2))

  module _ (s : SchemaView) (home : NodeId → Option FieldId) (N : Intent) (f : Fits E N) where
    no_node : (n : NodeId) → E.nodes n ≡ None → (part_by q E).nodes n ≡ None
    no_node n e = go (q n)
      where
        go : (b : Bool) → cond b (E.nodes n) None ≡ None
        go true = e
        go false = refl

    no_cell : (c : CellId) → E.row_of c ≡ None → (part_by q E).row_of c ≡ None
    no_cell c e = rw e refl

    pub keeps_there : KeepsSchema s home (part_by p D) N → KeepsSchema s home (part_by q E) N
    keeps_there k = agrees_there s home (part_by p D) (part_by q E) N k nodes_there cells_there (λ n i. no_node n (f.fresh_nodes n i)) (λ c i. no_cell c (f.fresh_cells c i))

-- ## After a commit

last_push : (rs : List Rev) (r : Rev) → unwrap_or (last_of (rs ++ r ∷ [])) opening ≡ r
last_push rs r = ap (λ o. unwrap_or o opening) (last_or-append None rs r)

module _ (T : Told) (D : Document) (N : Intent) (s : IsSoundInForm D) (f : Fits D N) (a : AgreesInLine T D N) (here : ConformsInEffect T D) where
  -- ### Types

  named_types : (n : NodeId) (t : NodeType) → option_or (D.nodes n) (new_type N n) ≡ Some t → type_fits (T.view (T.under n.0.rev)) t.ty t.leaf ≡ true
  named_types n t e = go (D.nodes n) refl e
    where
      go : (o : Option NodeType) → D.nodes n ≡ o → option_or o (new_type N n) ≡ Some t → type_fits (T.view (T.under n.0.rev)) t.ty t.leaf ≡ true
      go (Some u) q h = here.types n t (q ∙ h)
      go None q h =
          let made : T.under n.0.rev ≡ N.under = ap T.under (new_node_rev N f.itself n (ap is_some h)) ∙ a.under in
          ap (λ u. type_fits (T.view u) t.ty t.leaf) made ∙ a.keeps.types n t h

  types_void : (o : Option (List ℕ)) (n : NodeId) (t : NodeType) → (option_map_or (λ _. D) o (void_data D N)).nodes n ≡ Some t → type_fits (T.view (T.under n.0.rev)) t.ty t.leaf ≡ true
  types_void None n t e = named_types n t e
  types_void (Some text) n t e = here.types n t e

  types_after : (v : Verdict) (n : NodeId) (t : NodeType) → (carried_document v D N).nodes n ≡ Some t → type_fits (T.view (T.under n.0.rev)) t.ty t.leaf ≡ true
  types_after Verdict.Sound = named_types
  types_after (Verdict.Need m) = types_void N.schema
  types_after (Verdict.Cycle m) = types_void N.schema
  types_after (Verdict.Schema u) = types_void N.schema

  -- ### In effect

  last : last_of (revs D.schemas) ≡ Some (last_in_effect D)
  last = some_last (revs D.schemas) s.in_effect.begun

  module _ (in_effect : Has (revs D.schemas) N.under) where
    line_types : (n : NodeId) (t : NodeType) → (part_of_schemas T.under (T.chain N.under) D).nodes n ≡ Some t → type_fits (T.view N.under) t.ty t.leaf ≡ true
    line_types n t e = go (is_of_schemas T.under (T.chain N.under) n) refl e
      where
        go : (b : Bool) → is_of_schemas T.under (T.chain N.under) n ≡ b → cond b (D.nodes n) None ≡ Some t → type_fits (T.view N.under) t.ty t.leaf ≡ true
        go false q h = cc
        go true q h =
            let r = any-has (λ r. same_rev r (T.under n.0.rev)) (T.chain N.under) q in
            let made : T.under n.0.rev ≡ r.0 = sym (same_rev-true r.0 (T.under n.0.rev) r.2) in
            type_becomes (here.widening.each N.under r.0 in_effect r.1) t.ty t.leaf (ap (λ u. type_fits (T.view u) t.ty t.leaf) (sym made) ∙ here.types n t h)

    in_last : Has (T.chain (last_in_effect D)) N.under
    in_last = subst (λ rs. Has rs N.under) (here.line.last (last_in_effect D) last) in_effect

    -- it agrees with the last schema in the part in effect
    pub keeps_in_effect : KeepsSchema (T.view (last_in_effect D)) T.home (part_in_effect T.under D) N
    keeps_in_effect =
        let wider = here.widening.each (last_in_effect D) N.under (last-has (revs D.schemas) (last_in_effect D) last) in_last in
        keeps_there (is_of_schemas T.under (T.chain N.under)) (is_of_schemas T.under (revs D.schemas)) (more_schemas T.under (T.chain N.under) (revs D.schemas) (λ r i. here.line.each N.under r in_effect i))
        D D (names_itself D) s s (T.view (last_in_effect D)) T.home N f
        (keeps_wider wider T.home (part_of_schemas T.under (T.chain N.under) D) N line_types a.keeps)

  -- ### Carried out whole, whatever the verdict, as in a transaction

  module _ (data_only : N.schema ≡ None) (in_effect : Has (revs D.schemas) N.under) where
    of_root : is_of_schemas T.under (revs D.schemas) root ≡ true
    of_root = root_in_effect T.under D s here.opened

    within : NamesWithin (is_of_schemas T.under (revs D.schemas)) D N
    within = named_in_effect T.under T.chain D N here.line in_effect a.names

    same_schemas : D.schemas ≡ (full D N).schemas
    same_schemas = sym (kept_carried D N data_only Verdict.Sound)

    part_edited : IsConforming (T.view (last_in_effect D)) T.home (part_of_schemas T.under (revs D.schemas) (full D N))
    part_edited = subst (IsConforming (T.view (last_in_effect D)) T.home) (sym (part_of_full (is_of_schemas T.under (revs D.schemas)) D N s here.closed of_root f within))
        (carried_conforms (T.view (last_in_effect D)) T.home (part_in_effect T.under D) N (part_sound (is_of_schemas T.under (revs D.schemas)) D s here.closed of_root)
        (fits_part (is_of_schemas T.under (revs D.schemas)) D N s here.closed of_root f within) here.part (keeps_in_effect in_effect) Verdict.Sound)

    pub conforms_edited : ConformsInEffect T (full D N)
    conforms_edited = record {
      opened = here.opened;
      line = subst (AreInLine T.chain) same_schemas here.line;
      widening = subst (AreWidening T.view T.chain) same_schemas here.widening;
      types = named_types;
      closed = subst (λ es. IsClosedBy (is_of_schemas T.under (revs es)) (full D N)) same_schemas (stays_closed (is_of_schemas T.under (revs D.schemas)) D N s here.closed of_root f within);
      part = subst (λ es. IsConforming (T.view (unwrap_or (last_of (revs es)) opening)) T.home (part_of_schemas T.under (revs es) (full D N))) same_schemas part_edited;
    }

  module _ (short : HasShortRows (full D N)) (first : ComesFirst T.under D N) where
    in_line : IsBaseInEffect D N → Has (revs D.schemas) N.under
    in_line base = go N.schema refl
      where
        go : (o : Option (List ℕ)) → N.schema ≡ o → Has (revs D.schemas) N.under
        go None e = subst (λ o. HasBase D.schemas o N.under) e base
        go (Some text) e = last-has (revs D.schemas) N.under (based D N text e base)

    carried_part : IsBaseInEffect D N → (v : Verdict) → IsVerdict D N v → IsConforming (T.view (last_in_effect D)) T.home (part_in_effect T.under (carried_document v D N))
    carried_part base v h =
        subst (IsConforming (T.view (last_in_effect D)) T.home) (sym (carried_in_effect T.under T.chain D N s f short here.opened here.line a.names first here.closed base v h))
        (carried_conforms (T.view (last_in_effect D)) T.home (part_in_effect T.under D) N
        (part_sound (is_of_schemas T.under (revs D.schemas)) D s here.closed (root_in_effect T.under D s here.opened))
        (fits_in_effect T.under T.chain D N s f short here.opened here.line a.names first here.closed base) here.part (keeps_in_effect (in_line base)) v)

    -- ### Any commit

    abbrev KeptBy : Document → Type 0
    KeptBy E = IsConforming (T.view (last_in_effect E)) T.home (part_in_effect T.under E)

    same_last : N.schema ≡ None → (v : Verdict) → IsConforming (T.view (last_in_effect D)) T.home (part_in_effect T.under (carried_document v D N)) → KeptBy (carried_document v D N)
    same_last e v k = subst (λ es. IsConforming (T.view (unwrap_or (last_of (revs es)) opening)) T.home (part_in_effect T.under (carried_document v D N))) (sym (kept_carried D N e v)) k

    left : N.schema ≡ None → (Has (revs D.schemas) N.under → ⊥) → IsConforming (T.view (last_in_effect D)) T.home (part_in_effect T.under (void D N))
    left e out =
        conforms_alike (T.view (last_in_effect D)) T.home (part_in_effect T.under D) (part_in_effect T.under (void D N))
        (left_nodes T.under D N f a.under out) (left_places T.under D N f a.under out) (left_registers T.under D N f a.under out) (kept_carried D N e (Verdict.Schema N.under)) here.part

    data_after : N.schema ≡ None → (v : Verdict) → IsVerdict D N v → KeptBy (carried_document v D N)
    data_after e Verdict.Sound h = same_last e Verdict.Sound (carried_part h.0 Verdict.Sound h)
    data_after e (Verdict.Need n) h = same_last e (Verdict.Need n) (carried_part h.0 (Verdict.Need n) h)
    data_after e (Verdict.Cycle n) h = same_last e (Verdict.Cycle n) (carried_part h.0 (Verdict.Cycle n) h)
    data_after e (Verdict.Schema u) h = same_last e (Verdict.Schema u) (left e (λ i. h.1 (subst (λ o. HasBase D.schemas o N.under) (sym e) i)))

    change_after : (text : List ℕ) → N.schema ≡ Some text → (v : Verdict) → IsVerdict D N v → KeptBy (carried_document v D N)
    change_after text e (Verdict.Need n) h = subst KeptBy (ap (λ o. option_map_or (λ _. D) o (void_data D N)) (sym e)) here.part
    change_after text e (Verdict.Cycle n) h = subst KeptBy (ap (λ o. option_map_or (λ _. D) o (void_data D N)) (sym e)) here.part
    change_after text e (Verdict.Schema u) h = subst KeptBy (ap (λ o. option_map_or (λ _. D) o (void_data D N)) (sym e)) here.part
    change_after text e Verdict.Sound h =
        let upgrade : IsUpgrade (T.view N.under) (T.view N.rev) text = subst (λ o. IfSome o (IsUpgrade (T.view N.under) (T.view N.rev))) e a.view in
        let old : last_in_effect D ≡ N.under = ap (λ o. unwrap_or o opening) (based D N text e h.0) in
        let now : last_in_effect (full D N) ≡ N.rev = ap (λ o. last_in_effect (record D { schemas = with_schema N o D.schemas })) e ∙ ap (λ rs. unwrap_or (last_of rs) opening) (map-append (λ (e : SchemaEntry). e.rev) D.schemas (record { rev = N.rev; text = text } ∷ [])) ∙ last_push (revs D.schemas) N.rev in
        subst (λ r. IsConforming (T.view r) T.home (part_in_effect T.under (full D N))) (sym now)
        (conforms_wider (T.view N.under) (T.view N.rev) upgrade.sound upgrade.wide T.home (part_in_effect T.under (full D N))
        (subst (λ r. IsConforming (T.view r) T.home (part_in_effect T.under (full D N))) old (carried_part h.0 Verdict.Sound h)))

    part_after : (v : Verdict) → IsVerdict D N v → KeptBy (carried_document v D N)
    part_after v h = go N.schema refl
      where
        go : (o : Option (List ℕ)) → N.schema ≡ o → KeptBy (carried_document v D N)
        go None e = data_after e v h
        go (Some text) e = change_after text e v h

    pub conforms_after : (v : Verdict) → IsVerdict D N v → ConformsInEffect T (carried_document v D N)
    conforms_after v h = record {
      opened = here.opened;
      line = subst (AreInLine T.chain) (sym (entries_carried D N f.itself v h)) (line_after T.chain D.schemas N a.chain here.line);
      widening = subst (AreWidening T.view T.chain) (sym (entries_carried D N f.itself v h)) (widening_after T.view T.chain D.schemas N a.chain a.view here.widening);
      types = types_after v;
      closed = closed_after T.under T.chain D N s f short here.opened here.line a.names first here.closed v h;
      part = part_after v h;
    }

-- ## After a list

pub conforms_in_turn : (T : Told) (rs : List Rev) {D E : Document} {Ns : List Intent} → Run D Ns E → IsSoundInForm D → FitInTurn D Ns → IsMadeUnder rs D → SchemasComeFirst T.under rs Ns → AgreeInTurn T D Ns → ConformsInEffect T D → ConformsInEffect T E
conforms_in_turn T rs done s f made first a here = here
conforms_in_turn T rs (next {D} {N = N} v is r) s f made first a here =
    conforms_in_turn T (N.rev ∷ rs) r (carried_extends D N v s f.0 f.1 is).after (f.2 v is) (made_after rs D N v f.0 made) first.1 (a.1 v is)
    (conforms_after T D N s f.0 a.0 here f.1 (comes_first T.under rs D N made first.0) v is)

-- ## At the opening

pub conforms_at_first : (T : Told) (D : Document) → IsSoundInForm D → IsMadeUnder (opening ∷ []) D → revs D.schemas ≡ opening ∷ [] → T.under opening ≡ opening → T.chain opening ≡ opening ∷ [] → is_sound (T.view opening) ≡ true
    → ((e : SchemaEntry) → Has D.schemas e → IsTextOf (T.view opening) e.text) → IsConforming (T.view opening) T.home D → ConformsInEffect T D
conforms_at_first T D s made one under chain sound written here = record {
  opened = under;
  line = line_begins T.chain D.schemas one chain;
  widening = widening_begins T.view T.chain D.schemas one chain sound written;
  types = λ n t e. ap (λ u. type_fits (T.view u) t.ty t.leaf) (of_opening n (ap is_some e)) ∙ here.types n t e;
  closed = closed_at_first T.under D s made;
  part = subst (λ r. IsConforming (T.view r) T.home (part_in_effect T.under D)) (sym last) (subst (IsConforming (T.view opening) T.home) (sym whole) (conforms_alike (T.view opening) T.home D (part_by (λ n. true) D) (λ n. refl) (λ n. refl) (λ f. refl) refl here));
}
  where
    last : last_in_effect D ≡ opening
    last = ap (λ rs. unwrap_or (last_of rs) opening) one

    of_opening : (n : NodeId) → IsSome (D.nodes n) → T.under n.0.rev ≡ opening
    of_opening n h = only (made.nodes n h)
      where
        only : Has (opening ∷ []) n.0.rev → T.under n.0.rev ≡ opening
        only (inl q) = ap T.under (sym q) ∙ under
        only (inr h) = absurd h

    whole : part_in_effect T.under D ≡ part_by (λ n. true) D
    whole = same_part (is_of_schemas T.under (revs D.schemas)) (λ n. true) D s
        (λ n h. ap (λ rs. is_of_schemas T.under rs n) one ∙ ap (λ u. list_any (λ r. same_rev r u) (opening ∷ [])) (of_opening n h) ∙ ap (λ b. b || false) (same_rev-itself opening))
