-- For every list of valid commits: the document after it conforms node by node, by what the list itself tells.
use Rattle.std.proofs.Common.{◌≡◌, ℕ, Bool, true, List, [], ◌∷◌, ◌++◌, Option, Some, None, IsSome, IfSome, MatchOption, unwrap_or, option_and_then, refl, sym, ap, ◌∙◌, subst, ◌⊎◌, inl, inr}
use Rattle.std.specs.List.{AllByRecursion, last_or}
use Rattle.serde_json.specs.Data.{Data}
use Rattle.st_tree.specs.Node.{Node}
use Rattle.st_schema.specs.Conforms.{conforms}
use Rattle.st_schema.specs.TreeText.{tree_data}
use Rattle.st_marks.specs.LiveTree.{Shows}
use Rattle.st_edits.specs.ArrayTypes.{is_array_type}
use Rattle.st_log_laws.proofs.Turns.{turn_extends}
use Rattle.st_conform_laws.proofs.ShownTrees.{shown_allowed}
use Rattle.st_ids.specs.Listing.{Has}
use Rattle.st_ids.specs.Root.{opening, root}
use Rattle.st_ids.specs.declared.names.FieldId.{FieldId}
use Rattle.st_ids.specs.declared.names.Key.{Key}
use Rattle.st_ids.specs.declared.names.NodeId.{NodeId}
use Rattle.st_ids.specs.declared.names.Rev.{Rev}
use Rattle.st_schema.specs.Kind.{is_row, is_single_kind}
use Rattle.st_schema.specs.Reading.{schema_of_text}
use Rattle.st_schema.specs.Schema.{SchemaView, is_sound}
use Rattle.st_schema.specs.declared.names.KindName.{KindName}
use Rattle.st_marks.specs.declared.intents.Intent.{Intent}
use Rattle.st_marks.specs.declared.places.Spot.{Spot}
use Rattle.st_marks.specs.declared.schemas.SchemaEntry.{SchemaEntry}
use Rattle.st_marks.specs.Document.{Document, IsSoundInForm, first_of, last_of, revs}
use Rattle.st_marks.specs.Intent.{IsIntent}
use Rattle.st_marks.specs.Run.{Run}
use Rattle.st_marks.specs.Verdict.{IsBaseInEffect}
use Rattle.st_marks.proofs.Climb.{placed_known}
use Rattle.st_marks.proofs.Members.{append_left, append_right, has-all, has-append, map-has}
use Rattle.st_log_laws.specs.Names.{HaveNewRevisions, revisions}
use Rattle.st_log_laws.specs.Turns.{FitInTurn, HasRoom}
use Rattle.st_log_laws.proofs.Shorter.{new_shorter}
use Rattle.st_edits.specs.Fields.{register_in, row_key}
use Rattle.st_schema_laws.specs.Conforming.{Admits, IsConforming, MayStand}
use Rattle.st_schema_laws.specs.AgreeingInEffect.{Told}
use Rattle.st_edits.specs.InEffect.{empty_schema, last_in_effect, schema_in_effect}
use Rattle.st_schema_laws.specs.Widening.{IsTextOf, IsUpgrade}
use Rattle.st_schema_laws.proofs.Texts.{schema_text}
use Rattle.st_edits.specs.Keeping.{KeepsToSchema, MayFollow, PassesSchema}
use Rattle.st_conform_laws.specs.Entries.{AreValidEntries, IsOpened, IsValidEntry, no_entries, one_entry_more}
use Rattle.st_conform_laws.specs.Keeping.{KeepsTo}
use Rattle.st_conform_laws.specs.Logs.{AreValid, HasHomes, IsValidAfter, none_yet, one_more}
use Rattle.st_conform_laws.specs.Nodes.{ConformsByNodes}
use Rattle.st_conform_laws.specs.Telling.{AreUnderThese, IsToldBy, TellAlike, schema_read, told_of}
use Rattle.st_conform_laws.proofs.DocumentsAfter.{conforms_at_first}
use Rattle.st_conform_laws.proofs.WhatListsTell.{list_alike, list_told}
use Rattle.st_conform_laws.proofs.TestsAsTold.{keeps_as_told, same_view}
use Rattle.st_conform_laws.proofs.ValidLists.{front_of_push, part_revisions, valid_conform}

-- ## Homes that are the same for the nodes there are

module _ (s : SchemaView) (home other : NodeId → Option FieldId) (D : Document) (sound : IsSoundInForm D) (same : (m : NodeId) → IsSome (D.nodes m) → other m ≡ home m) (here : IsConforming s home D) where
  admits_other : (kinds : KindName → Bool) (n : NodeId) (key : Key) (m : NodeId) → IsSome (D.nodes m) → Admits s home D kinds n key m → Admits s other D kinds n key m
  admits_other kinds n key m known a = record {
    rule = a.rule;
    ruled = a.ruled;
    kind = a.kind;
    typed = a.typed;
    at_home = λ required. same m known ∙ a.at_home required;
    away = λ f e. a.away f (sym (same m known) ∙ e);
  }

  stands_other : (m : NodeId) (spot : Spot) → D.place m ≡ spot → MayStand s home D m spot → MayStand s other D m spot
  stands_other m Spot.Nowhere q h = tt
  stands_other m (Spot.Row n c) q h = admits_other is_row n row_key m (placed_known D sound m (λ w. (let bad : Spot.Row n c ≡ Spot.Nowhere = sym q ∙ w in cc))) h
  stands_other m (Spot.Register f) q h = admits_other is_single_kind f.node f.key m (placed_known D sound m (λ w. (let bad : Spot.Register f ≡ Spot.Nowhere = sym q ∙ w in cc))) h

  conforms_other : IsConforming s other D
  conforms_other = record {
    types = here.types;
    places = λ m. stands_other m (D.place m) refl (here.places m);
    filled = here.filled;
    homes = λ m f known e. here.homes m f known (sym (same m known) ∙ e);
    root_type = here.root_type;
  }

-- ## What a list tells

under_push : (rs : List Rev) (Ls : List Intent) (N : Intent) → AreUnderThese rs Ls → Has (revisions Ls ++ rs) N.under → AreUnderThese rs (Ls ++ N ∷ [])
under_push rs [] N u h = (h, tt)
under_push rs (M ∷ Ls) N u h = (u.0, under_push (M.rev ∷ rs) Ls N u.1 (moved h))
  where
    later : Has (revisions Ls ++ rs) N.under → Has (revisions Ls ++ M.rev ∷ rs) N.under
    later i = elim (has-append (revisions Ls) rs N.under i) [
      | inl j ↦ append_left (revisions Ls) (M.rev ∷ rs) N.under j
      | inr j ↦ append_right (revisions Ls) (M.rev ∷ rs) N.under (inr j)
    ]

    moved : (M.rev ≡ N.under) ⊎ Has (revisions Ls ++ rs) N.under → Has (revisions Ls ++ M.rev ∷ rs) N.under
    moved (inl q) = append_right (revisions Ls) (M.rev ∷ rs) N.under (inl q)
    moved (inr i) = later i

are_under : (O : Document) {Ls : List Intent} → AreValidEntries O Ls → AreUnderThese (opening ∷ []) Ls
are_under O no_entries = tt
are_under O (one_entry_more {Ls} {N} before v) = under_push (opening ∷ []) Ls N (are_under O before) (part_revisions v.author Ls N.under v.part v.under)

are_intents : (O : Document) {Ls : List Intent} → AreValidEntries O Ls → (M : Intent) → Has Ls M → IsIntent M
are_intents O no_entries M h = absurd h
are_intents O (one_entry_more {Ls} {N} before v) M h = elim (has-append Ls (N ∷ []) M h) [
  | inl i ↦ are_intents O before M i
  | inr i ↦ last i
]
  where
    last : Has (N ∷ []) M → IsIntent M
    last (inl q) = subst IsIntent q v.fits.itself
    last (inr q) = absurd q

-- ## By what is told

module _ (T : Told) (s : SchemaView) (O : Document) (opened : IsOpened s O) (begins : T.under opening ≡ opening) (line : T.chain opening ≡ opening ∷ []) (view : T.view opening ≡ s)
    (homes : (m : NodeId) → IsSome (O.nodes m) → T.home m ≡ register_in (O.place m)) where
  views : (e : SchemaEntry) → Has O.schemas e → T.view e.rev ≡ schema_read e.text
  views e h = ap T.view (sym (only (subst (λ rs. Has rs e.rev) opened.one (map-has (λ (e : SchemaEntry). e.rev) O.schemas e h)))) ∙ view ∙ sym (ap (λ o. unwrap_or o empty_schema) (opened.text e h).back)
    where
      only : Has (opening ∷ []) e.rev → opening ≡ e.rev
      only (inl q) = q
      only (inr q) = absurd q

  first : ConformsByNodes T O
  first = conforms_at_first T O opened.sound opened.made opened.one begins
      (subst (λ v. IsConforming v T.home O) (sym view) (conforms_other s (λ (m : NodeId). register_in (O.place m)) T.home O opened.sound homes opened.conforms))
      line (ap is_sound view ∙ opened.schema) (λ e h. subst (λ v. IsTextOf v e.text) (sym view) (opened.text e h))

  has_homes : HasHomes T O
  has_homes m f known e = opened.conforms.homes m f known (sym (homes m known) ∙ e)

  module _ (Ls : List Intent) (N : Intent) (new : HaveNewRevisions (opening ∷ []) Ls) (told : (M : Intent) → Has Ls M → IsToldBy T M) (own : IsToldBy T N) (v : IsValidEntry O Ls N) where
    keeps : IsBaseInEffect v.head N → N.schema ≡ None → KeepsTo T v.head N
    keeps base e =
        let w = v.schema base in
        keeps_as_told T O v.head Ls v.author N opened.made opened.one v.part new v.fit v.ran v.fits told begins line homes views w.schema w.front w.view w.up_to
        (subst (λ o. MatchOption o (KeepsToSchema O v.head Ls w.schema w.front N) (MayFollow w.schema)) e w.keeps)

    widens : IsBaseInEffect v.head N → IfSome N.schema (IsUpgrade (T.view N.under) (T.view N.rev))
    widens base = go N.schema w.keeps own.view
      where
        w : PassesSchema O v.head Ls N
        w = v.schema base

        same : T.view N.under ≡ w.schema
        same = same_view T O v.head Ls v.author N opened.made opened.one v.part new v.fit v.ran v.fits told begins line homes views w.schema w.view

        go : (o : Option (List ℕ)) → MatchOption o (KeepsToSchema O v.head Ls w.schema w.front N) (MayFollow w.schema) → IfSome o (λ text. T.view N.rev ≡ schema_read text) → IfSome o (IsUpgrade (T.view N.under) (T.view N.rev))
        go None m q = tt
        go (Some text) m q =
            let read : T.view N.rev ≡ m.view = q ∙ ap schema_read m.written ∙ ap (λ o. unwrap_or o empty_schema) (schema_text m.view m.sound).back in
            subst (λ x. IsUpgrade (T.view N.under) x text) (sym read) (subst (λ u. IsUpgrade u m.view text) (sym same) (record {
              written = subst (IsTextOf m.view) (sym m.written) (schema_text m.view m.sound);
              sound = m.sound;
              wide = m.wide;
            }))

    valid_one : IsValidAfter T O Ls N
    valid_one = record {
      author = v.author;
      part = v.part;
      closed = v.closed;
      fit = v.fit;
      head = v.head;
      ran = v.ran;
      fits = v.fits;
      under = v.under;
      keeps = record { under = own.under; chain = own.chain; homes = own.homes; keeps = keeps; widens = widens };
    }

  valid_all : {Ls : List Intent} → AreValidEntries O Ls → HaveNewRevisions (opening ∷ []) Ls → ((M : Intent) → Has Ls M → IsToldBy T M) → AreValid T O Ls
  valid_all no_entries new told = none_yet
  valid_all (one_entry_more {Ls} {N} before v) new told =
      let shorter = new_shorter (opening ∷ []) Ls (Ls ++ N ∷ []) (front_of_push Ls N) new in
      let fewer = λ (M : Intent) (h : Has Ls M). told M (append_left Ls (N ∷ []) M h) in
      one_more (valid_all before shorter fewer) (valid_one Ls N shorter fewer (told N (append_right Ls (N ∷ []) N (inl refl))) v)

-- ## The last schema in effect is read from its text

last_entry : (e : SchemaEntry) (es : List SchemaEntry) → (o : SchemaEntry) × (last_or (Some e) es ≡ Some o) × Has (e ∷ es) o × (last_or (Some e.rev) (revs es) ≡ Some o.rev)
last_entry e [] = (e, refl, inl refl, refl)
last_entry e (x ∷ es) = let o = last_entry x es in (o.0, o.1, inr o.2, o.3)

pub read_as_told : (T : Told) (D : Document) → IsSoundInForm D → ConformsByNodes T D → schema_in_effect D ≡ T.view (last_in_effect D)
read_as_told T D s here = go D.schemas s.in_effect.begun here.widening.written
  where
    go : (es : List SchemaEntry) → first_of (revs es) ≡ Some opening → ((e : SchemaEntry) → Has es e → IsTextOf (T.view e.rev) e.text)
        → unwrap_or (option_and_then (λ (e : SchemaEntry). schema_of_text e.text) (last_of es)) empty_schema ≡ T.view (unwrap_or (last_of (revs es)) opening)
    go [] begun told = let bad : None ≡ Some opening = begun in absurd cc
    go (e ∷ es) begun told =
        let o = last_entry e es in
        let text = told o.0 o.2 in
        ap (λ (x : Option SchemaEntry). unwrap_or (option_and_then (λ (e : SchemaEntry). schema_of_text e.text) x) empty_schema) o.1
        ∙ ap (λ (x : Option SchemaView). unwrap_or x empty_schema) text.back
        ∙ ap (λ (x : Option Rev). T.view (unwrap_or x opening)) (sym o.3)

-- ## For every list

-- what the opening tells
abbrev pub told_first : SchemaView → Document → Told
told_first s O = record { under = λ r. opening; chain = λ r. opening ∷ []; view = λ r. s; home = λ m. register_in (O.place m) }

module _ (s : SchemaView) (O : Document) (Ls : List Intent) (opened : IsOpened s O) (valid : AreValidEntries O Ls) (new : HaveNewRevisions (opening ∷ []) Ls) (room : HasRoom O Ls) where
  abbrev T : Told
  T = told_of (told_first s O) Ls

  all : AllByRecursion IsIntent Ls
  all = has-all IsIntent Ls (are_intents O valid)

  alike : TellAlike (opening ∷ []) (told_first s O) T
  alike = list_alike Ls (told_first s O) (opening ∷ []) all new

  told : (M : Intent) → Has Ls M → IsToldBy T M
  told = list_told Ls (told_first s O) (opening ∷ []) all new (are_under O valid)

  begins : T.under opening ≡ opening
  begins = alike.under opening (inl refl)

  line : T.chain opening ≡ opening ∷ []
  line = alike.chain opening (inl refl)

  view : T.view opening ≡ s
  view = alike.view opening (inl refl)

  homes : (m : NodeId) → IsSome (O.nodes m) → T.home m ≡ register_in (O.place m)
  homes m known = alike.home m (opened.made.nodes m known)

  pub entries_conform : FitInTurn O Ls × ((D : Document) → Run O Ls D → ConformsByNodes T D)
  entries_conform = valid_conform T O opened.sound opened.made (has_homes T s O opened begins line view homes) (first T s O opened begins line view homes) (valid_all T s O opened begins line view homes valid new told) new room

  pub entries_show : (D : Document) → Run O Ls D → (is_array : List ℕ → Bool) (d : Data) → ((ty : List ℕ) → is_array ty ≡ is_array_type (schema_in_effect D) ty) → Shows is_array D root d
      → (t : Node) × (tree_data t ≡ d) × (conforms (schema_in_effect D) (schema_in_effect D).root t ≡ true)
  entries_show D r is_array d tells shows =
      let here = entries_conform.1 D r in
      let s : IsSoundInForm D = (turn_extends opened.sound entries_conform.0 r).after in
      let read : schema_in_effect D ≡ T.view (last_in_effect D) = read_as_told T D s here in
      subst (λ v. (t : Node) × (tree_data t ≡ d) × (conforms v v.root t ≡ true)) (sym read) (shown_allowed T D s here is_array d (λ ty. tells ty ∙ ap (λ v. is_array_type v ty) read) shows)

  -- each entry in effect has the text of a schema that keeps its rules
  pub entries_have_schemas : (D : Document) → Run O Ls D → (e : SchemaEntry) → Has D.schemas e → (U : SchemaView) × (is_sound U ≡ true) × IsTextOf U e.text
  entries_have_schemas D r e h =
      let here = entries_conform.1 D r in
      (T.view e.rev, here.widening.sound e.rev (map-has (λ (x : SchemaEntry). x.rev) D.schemas e h), here.widening.written e h)
