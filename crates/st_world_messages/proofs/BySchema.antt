-- A commit that agrees with the schema under which it was made, as it is told, passes the test of valid messages, where the homes
-- of nodes are told as the log tells them.
use Rattle.std.proofs.Common.{◌≡◌, ◌≢◌, ◌<◌, ℕ, length, Bool, true, false, cond, List, [], ◌∷◌, ◌++◌, Option, Some, None, IsSome, IfSome, refl, sym, ap, ◌∙◌, subst, ◌⊎◌, inl, inr}
use Rattle.std.specs.List.{AllByRecursion, find}
use Rattle.std.specs.Prelude.{option_map, option_and_then, MatchOption}
use Rattle.serde_json.specs.Written.{compact_text}
use Rattle.std.proofs.lemmas.List.{length-map}
use Rattle.st_lemmas.proofs.Bools.{true-false}
use Rattle.st_ids.specs.Listing.{Has}
use Rattle.st_ids.specs.Order.{same_field, same_rev}
use Rattle.st_ids.specs.Root.{opening}
use Rattle.st_ids.specs.declared.names.FieldId.{FieldId}
use Rattle.st_ids.specs.declared.names.Key.{Key}
use Rattle.st_ids.specs.declared.names.NodeId.{NodeId}
use Rattle.st_ids.specs.declared.names.Rev.{Rev}
use Rattle.st_ids.proofs.Orders.{same_field-itself, same_field-true, same_rev-itself, same_rev-true}
use Rattle.st_schema.specs.Kind.{is_required, is_row, is_single_kind}
use Rattle.st_schema.specs.Schema.{SchemaView}
use Rattle.st_schema.specs.Written.{schema_data}
use Rattle.st_schema.specs.declared.names.KindName.{KindName}
use Rattle.st_marks.specs.declared.intents.Intent.{Intent}
use Rattle.st_marks.specs.declared.intents.To.{To}
use Rattle.st_marks.specs.declared.schemas.SchemaEntry.{SchemaEntry}
use Rattle.st_marks.specs.declared.verdicts.Verdict.{Verdict}
use Rattle.st_marks.specs.CarryOut.{with_names}
use Rattle.st_marks.specs.Document.{Document, last_of, revs}
use Rattle.st_marks.specs.Intent.{Fits, IsIntent, IsKnown, is_new, put_in, put_of, same_option}
use Rattle.st_marks.specs.Run.{Run, done, next}
use Rattle.st_marks.specs.Verdict.{IsBaseInEffect, carried_document}
use Rattle.st_marks.proofs.Full.{known_put}
use Rattle.st_marks.proofs.Lookups.{clears-has}
use Rattle.st_marks.proofs.Members.{all-has, any-has, append_left, append_right, distinct-has, distinct-left, first-has, none-has}
use Rattle.st_log_laws.specs.Names.{HaveNewRevisions}
use Rattle.st_log_laws.specs.Turns.{FitInTurn, IsSublist}
use Rattle.st_log_laws.proofs.Names.{if_carried, new_node_rev}
use Rattle.st_log_laws.proofs.Shorter.{has_longer}
use Rattle.st_log_laws.proofs.Turns.{front, rest}
use Rattle.st_part_laws.specs.Chains.{TellsChain}
use Rattle.st_part_laws.specs.Parts.{is_of_schemas, part_of_schemas}
use Rattle.st_part_laws.proofs.Chains.{last-has}
use Rattle.st_edits.specs.Fields.{put_register, register_in, row_key}
use Rattle.st_edits.specs.Keeping.{HasRoomForSchema, IsUpTo, IsViewOf, KeepsToSchema, Made, MayFollow, MayLeave, PassesSchema, commit_named, here, home_of, later, made_of, text_at}
use Rattle.st_edits.specs.Paths.{field_at}
use Rattle.st_schema_laws.specs.Agreeing.{KeepsSchema, MayGo}
use Rattle.st_schema_laws.specs.AgreeingInEffect.{AgreeInTurn, AgreesInLine, ConformsInEffect, Told}
use Rattle.st_schema_laws.specs.Conforming.{Admits}
use Rattle.st_schema_laws.specs.Lines.{IsLine}
use Rattle.st_schema_laws.specs.Widening.{BecomesWider, IsUpgrade}
use Rattle.st_schema_laws.proofs.CommitsInTurn.{agree_front, agree_rest, line_conforms}
use Rattle.st_schema_laws.proofs.Earlier.{earlier_front}
use Rattle.st_schema_laws.proofs.Rules.{required_not_row}
use Rattle.st_conform_laws.specs.Keeping.{KeepsTo}
use Rattle.st_conform_laws.proofs.FrontsOfSchemas.{fronts_are_lines}
use Rattle.st_conform_laws.proofs.NodesThatConform.{known_old_or_new}
use Rattle.st_conform_laws.proofs.OwnCommits.{keeps_of_part, part_nodes, part_rows}
use Rattle.st_world_laws.specs.Worlds.{Any, IsMadeAsTold, KeepsLine}

-- ## Lists of entries

up_to_one : (rs : List Rev) (u : Rev) → Has rs u → (front : List Rev) × IsUpTo u rs front
up_to_one [] u h = absurd h
up_to_one (r ∷ rs) u h = go (same_rev r u) refl (up_to_one rs u) h
  where
    go : (b : Bool) → same_rev r u ≡ b → (Has rs u → (front : List Rev) × IsUpTo u rs front) → (r ≡ u) ⊎ Has rs u → (front : List Rev) × IsUpTo u (r ∷ rs) front
    go true e rest i = (u ∷ [], subst (λ x. IsUpTo u (x ∷ rs) (u ∷ [])) (sym (same_rev-true r u e)) here)
    go false e rest (inl same) = let bad : true ≡ false = sym (same_rev-itself r) ∙ ap (same_rev r) same ∙ e in cc
    go false e rest (inr i) =
        let apart : r ≢ u = λ q. (let bad : true ≡ false = sym (same_rev-itself r) ∙ ap (same_rev r) q ∙ e in cc) in
        let x = rest i in
        (r ∷ x.0, later apart x.1)

-- the entry that is found of a revision has the text of what is told of it
text_told : (view : Rev → SchemaView) (es : List SchemaEntry) (u : Rev) → ((e : SchemaEntry) → Has es e → e.rev ≡ u → e.text ≡ compact_text (schema_data (view u))) → Has (revs es) u → text_at es u ≡ Some (compact_text (schema_data (view u)))
text_told view [] u each h = absurd h
text_told view (e ∷ es) u each h = go (same_rev e.rev u) refl (text_told view es u (λ x i. each x (inr i))) h
  where
    go : (b : Bool) → same_rev e.rev u ≡ b → (Has (revs es) u → text_at es u ≡ Some (compact_text (schema_data (view u)))) → (e.rev ≡ u) ⊎ Has (revs es) u
        → option_map (λ (x : SchemaEntry). x.text) (cond b (Some e) (find (λ (x : SchemaEntry). same_rev x.rev u) es)) ≡ Some (compact_text (schema_data (view u)))
    go true q rest i = ap (λ t. Some t) (each e (inl refl) (same_rev-true e.rev u q))
    go false q rest (inl same) = let bad : true ≡ false = sym (same_rev-itself e.rev) ∙ ap (same_rev e.rev) same ∙ q in cc
    go false q rest (inr i) = rest i

-- ## Who made a node

-- a commit of a list that made a node
record MadeIn (T : Told) (Ns : List Intent) (m : NodeId) : Type 0 where
  commit : Intent
  listed : Has Ns commit
  fresh : is_new commit m ≡ true
  is : IsIntent commit
  under : T.under commit.rev ≡ commit.under

carried_was : (E : Document) (M : Intent) → Fits E M → (v : Verdict) (m : NodeId) → IsSome ((carried_document v E M).nodes m) → IsSome (E.nodes m) ⊎ (is_new M m ≡ true)
carried_was E M fits v m = if_carried (λ (F : Document). IsSome (F.nodes m) → IsSome (E.nodes m) ⊎ (is_new M m ≡ true)) E M (λ i. inl i) (known_old_or_new E M fits m) (known_old_or_new E M fits m) v

makers : (T : Told) {E F : Document} {Ns : List Intent} → Run E Ns F → FitInTurn E Ns → AgreeInTurn T E Ns → (m : NodeId) → IsSome (F.nodes m) → IsSome (E.nodes m) ⊎ MadeIn T Ns m
makers T done fit a m h = inl h
makers T (next {D} {N = N} {Ns = Ns} v is r) fit a m h = elim (makers T r (fit.2 v is) (a.1 v is) m h) [
  | inl i ↦ elim (carried_was D N fit.0 v m i) [
    | inl old ↦ inl old
    | inr fresh ↦ inr (record { commit = N; listed = inl refl; fresh = fresh; is = fit.0.itself; under = a.0.under })
  ]
  | inr x ↦ inr (record { commit = x.commit; listed = inr x.listed; fresh = x.fresh; is = x.is; under = x.under })
]

all_chains : (T : Told) {E F : Document} {Ns : List Intent} → Run E Ns F → AgreeInTurn T E Ns → AllByRecursion (TellsChain T.chain) Ns
all_chains T done a = tt
all_chains T (next v is r) a = (a.0.chain, all_chains T r (a.1 v is))

pub all_intents : {E F : Document} {Ns : List Intent} → Run E Ns F → FitInTurn E Ns → AllByRecursion IsIntent Ns
all_intents done f = tt
all_intents (next v is r) f = (f.0.itself, all_intents r (f.2 v is))

of_line : (under : Rev → Rev) (rs : List Rev) (n : NodeId) → is_of_schemas under rs n ≡ true → Has rs (under n.0.rev)
of_line under rs n e = let r = any-has (λ r. same_rev r (under n.0.rev)) rs e in subst (Has rs) (same_rev-true r.0 (under n.0.rev) r.2) r.1

-- ## The test

module _ (T : Told) (O : Document) (A : List Intent) (N : Intent) (keeps : KeepsLine Any T O (A ++ N ∷ [])) (one : revs O.schemas ≡ opening ∷ []) (D : Document) (run : Run O A D) (L : List Intent) (part : IsSublist A L) (new : HaveNewRevisions (opening ∷ []) L) (base : IsBaseInEffect D N) where
  line : IsLine T O (A ++ N ∷ [])
  line = keeps.line

  fit_A : FitInTurn O A
  fit_A = front A (N ∷ []) O line.fit

  fits : Fits D N
  fits = (rest (N ∷ []) run line.fit).0

  agree_A : AgreeInTurn T O A
  agree_A = agree_front T A (N ∷ []) O line.agree

  agrees : AgreesInLine T D N
  agrees = (agree_rest T (N ∷ []) run line.agree).0

  conforms : ConformsInEffect T D
  conforms =
      let news : HaveNewRevisions (opening ∷ []) A = record { once = distinct-left (λ (M : Intent). M.rev) A (N ∷ []) line.new.once; new = λ M i. line.new.new M (append_left A (N ∷ []) M i) } in
      line_conforms T O D A line.sound fit_A line.made news (earlier_front (opening ∷ []) A (N ∷ []) line.earlier) agree_A line.conforms run

  abbrev s : SchemaView
  s = T.view N.under

  -- the schema is in effect
  effect : Has (revs D.schemas) N.under
  effect = go N.schema base
    where
      go : (o : Option (List ℕ)) → MatchOption o (Has (revs D.schemas) N.under) (λ _. last_of (revs D.schemas) ≡ Some N.under) → Has (revs D.schemas) N.under
      go None h = h
      go (Some text) h = last-has (revs D.schemas) N.under h

  in_line : (r : Rev) → Has (T.chain N.under) r → Has (revs D.schemas) r
  in_line r i = conforms.line.each N.under r effect i

  becomes : (r q : Rev) → Has (revs D.schemas) r → Has (T.chain r) q → BecomesWider (T.view q) (T.view r)
  becomes r q i j = conforms.widening.each r q i j

  view : IsViewOf D N.under s
  view = record {
    text = text_told T.view D.schemas N.under (λ e i same. (conforms.widening.written e i).written ∙ ap (λ r. compact_text (schema_data (T.view r))) same) effect;
    sound = conforms.widening.sound N.under effect;
  }

  line_one : T.chain opening ≡ opening ∷ []
  line_one = sym (line.conforms.line.last opening (ap last_of one)) ∙ one

  same_front : (rs : List Rev) → IsUpTo N.under (revs D.schemas) rs → rs ≡ T.chain N.under
  same_front rs up = fronts_are_lines T.chain O D A one line_one (all_intents run fit_A) (all_chains T run agree_A) run N.under rs up

  -- ## Makers

  named : (M : Intent) → Has L M → commit_named L M.rev ≡ Some M
  named M i = go (commit_named L M.rev) refl
    where
      go : (o : Option Intent) → commit_named L M.rev ≡ o → commit_named L M.rev ≡ Some M
      go None e = absurd (true-false (same_rev-itself M.rev) (none-has (λ (K : Intent). same_rev K.rev M.rev) L M e i))
      go (Some K) e =
          let w = first-has (λ (K : Intent). same_rev K.rev M.rev) L K e in
          e ∙ ap (λ k. Some k) (distinct-has (λ (K : Intent). K.rev) L K M new.once w.0 i (same_rev-true K.rev M.rev w.1))

  abbrev MadeAs : NodeId → Made → Type 0
  MadeAs m d = made_of O L m ≡ Some d

  -- what is known of a node of the author's document
  record IsMade (m : NodeId) : Type 0 where
    made : Made
    is : MadeAs m made
    under : made.under ≡ T.under m.0.rev
    home : T.home m ≡ made.home

  -- one that was there from the beginning
  module _ (m : NodeId) (old : IsSome (O.nodes m)) where
    first_rev : m.0.rev ≡ opening
    first_rev = only (line.made.nodes m old)
      where
        only : Has (opening ∷ []) m.0.rev → m.0.rev ≡ opening
        only (inl q) = sym q
        only (inr q) = absurd q

    first_is : MadeAs m (record { under = opening; home = register_in (O.place m) })
    first_is = ap (λ b. cond b (Some (record { under = opening; home = register_in (O.place m) })) (option_map (λ (K : Intent). record { under = K.under; home = put_register K m }) (commit_named L m.0.rev)))
        (ap (λ r. same_rev r opening) first_rev ∙ same_rev-itself opening)

    first_of : T.under m.0.rev ≡ opening
    first_of = ap T.under first_rev ∙ line.conforms.opened

    first_under : opening ≡ T.under m.0.rev
    first_under = sym first_of

    first_made : IsMade m
    first_made = record { made = record { under = opening; home = register_in (O.place m) }; is = first_is; under = first_under; home = keeps.first m first_rev }

  -- one that a commit of the list made
  module _ (m : NodeId) (x : MadeIn T A m) where
    abbrev M : Intent
    M = x.commit

    there : Has L M
    there = has_longer part M x.listed

    rev : m.0.rev ≡ M.rev
    rev = new_node_rev M x.is m x.fresh

    apart : same_rev m.0.rev opening ≡ false
    apart = go (same_rev m.0.rev opening) refl
      where
        go : (b : Bool) → same_rev m.0.rev opening ≡ b → same_rev m.0.rev opening ≡ false
        go false e = e
        go true e = absurd (new.new M there (inl (sym (same_rev-true m.0.rev opening e) ∙ rev)))

    made_is : MadeAs m (record { under = M.under; home = put_register M m })
    made_is =
        ap (λ b. cond b (Some (record { under = opening; home = register_in (O.place m) })) (option_map (λ (K : Intent). record { under = K.under; home = put_register K m }) (commit_named L m.0.rev))) apart
        ∙ ap (option_map (λ (K : Intent). record { under = K.under; home = put_register K m })) (ap (commit_named L) rev ∙ named M there)

    made_under : T.under m.0.rev ≡ M.under
    made_under = ap T.under rev ∙ x.under

    later_made : IsMade m
    later_made = record {
      made = record { under = M.under; home = put_register M m };
      is = made_is;
      under = sym made_under;
      home = (all-has (IsMadeAsTold T) (A ++ N ∷ []) M keeps.made (append_left A (N ∷ []) M x.listed)).homes m x.fresh;
    }

  is_made : (m : NodeId) → IsSome (D.nodes m) → IsMade m
  is_made m known = elim (makers T run fit_A agree_A m known) [ inl old ↦ first_made m old | inr x ↦ later_made m x ]

  -- ## What the commit keeps to, by homes as the log tells them

  old_known : (n : NodeId) → is_new N n ≡ false → IsKnown D N n → IsSome (D.nodes n)
  old_known n old (inl fresh) = absurd (true-false fresh old)
  old_known n old (inr i) = i

  put_known : (m : NodeId) (to : To) → put_of N m ≡ Some to → is_new N m ≡ false → IsSome (D.nodes m)
  put_known m to e old = old_known m old (known_put D N fits m to e).0

  home_made : (m : NodeId) (x : IsMade m) → home_of O L m ≡ x.made.home
  home_made m x = ap (option_and_then (λ (d : Made). d.home)) x.is

  -- the home that is told, where the log tells it too
  abbrev both : Option FieldId → Option FieldId → Option FieldId
  both a b = cond (same_option same_field a b) a None

  abbrev home_now : NodeId → Option FieldId
  home_now m = cond (is_new N m) (T.home m) (both (T.home m) (home_of O L m))

  both_first : (a b : Option FieldId) (f : FieldId) → both a b ≡ Some f → a ≡ Some f
  both_first a b f e = go (same_option same_field a b) e
    where
      go : (t : Bool) → cond t a None ≡ Some f → a ≡ Some f
      go true e = e
      go false e = cc

  both_second : (a b : Option FieldId) (f : FieldId) → both a b ≡ Some f → b ≡ Some f
  both_second None None f e = cc
  both_second None (Some y) f e = cc
  both_second (Some z) None f e = cc
  both_second (Some z) (Some y) f e = go (same_field z y) refl e
    where
      go : (t : Bool) → same_field z y ≡ t → cond t (Some z) None ≡ Some f → Some y ≡ Some f
      go true q e = ap (λ k. Some k) (sym (same_field-true z y q)) ∙ e
      go false q e = cc

  both_same : (a b : Option FieldId) (f : FieldId) → a ≡ Some f → b ≡ Some f → both a b ≡ Some f
  both_same a b f p q = (λ i. both (p i) (q i)) ∙ ap (λ t. cond t (Some f) None) (same_field-itself f)

  home_less : (m : NodeId) (f : FieldId) → home_now m ≡ Some f → T.home m ≡ Some f
  home_less m f e = go (is_new N m) e
    where
      go : (t : Bool) → cond t (T.home m) (both (T.home m) (home_of O L m)) ≡ Some f → T.home m ≡ Some f
      go true e = e
      go false e = both_first (T.home m) (home_of O L m) f e

  home_old : (m : NodeId) → is_new N m ≡ false → home_now m ≡ both (T.home m) (home_of O L m)
  home_old m old = ap (λ t. cond t (T.home m) (both (T.home m) (home_of O L m))) old

  home_new : (m : NodeId) → is_new N m ≡ true → home_now m ≡ T.home m
  home_new m fresh = ap (λ t. cond t (T.home m) (both (T.home m) (home_of O L m))) fresh

  abbrev Q : Document
  Q = part_of_schemas T.under (T.chain N.under) D

  admits_now : (kinds : KindName → Bool) (n : NodeId) (key : Key) (m : NodeId) (a : Admits s T.home (with_names Q N) kinds n key m) → (is_required a.rule.kind ≡ true → home_now m ≡ Some (field_at n key)) → Admits s home_now (with_names Q N) kinds n key m
  admits_now kinds n key m a at = record { rule = a.rule; ruled = a.ruled; kind = a.kind; typed = a.typed; at_home = at; away = λ f e. a.away f (home_less m f e) }

  puts_now : (m : NodeId) (to : To) → put_of N m ≡ Some to → MayGo s T.home Q N m to → MayGo s home_now Q N m to
  puts_now m To.Nowhere e may = tt
  puts_now m (To.Cell c) e may = (may.0, may.1, admits_now is_row may.0 row_key m may.2 (λ needs. absurd (true-false needs (required_not_row may.2.rule.kind may.2.kind))))
  puts_now m (To.Register f) e may = admits_now is_single_kind f.node f.key m may (λ needs. at_home needs (is_new N m) refl)
    where
      at_home : is_required may.rule.kind ≡ true → (b : Bool) → is_new N m ≡ b → home_now m ≡ Some f
      at_home needs true fresh = home_new m fresh ∙ may.at_home needs
      at_home needs false old =
          let x = is_made m (put_known m (To.Register f) e old) in
          home_old m old ∙ both_same (T.home m) (home_of O L m) f (may.at_home needs) (home_made m x ∙ sym x.home ∙ may.at_home needs)

  keeps_now : KeepsSchema s home_now Q N
  keeps_now = let k = agrees.keeps in record {
    types = k.types;
    puts = λ m to e. puts_now m to e (k.puts m to e);
    leaves = λ m f put old home. k.leaves m f put old (home_less m f home);
    clears = k.clears;
    homes = λ m f fresh home. k.homes m f fresh (home_less m f home);
    filled = k.filled;
  }

  abbrev U : Told
  U = record T { home = home_of O L }

  keeps_told : KeepsTo U D N
  keeps_told = keeps_of_part U D Q N fits (is_of_schemas T.under (T.chain N.under)) (part_nodes (is_of_schemas T.under (T.chain N.under)) D) (part_rows (is_of_schemas T.under (T.chain N.under)) D)
      (of_line T.under (T.chain N.under)) (λ m to e old. agrees.names.puts m to e) (λ f c old. agrees.names.clears f (clears-has N.clear f c)) home_now
      (λ m f old home. both_second (T.home m) (home_of O L m) f (sym (home_old m old) ∙ home))
      (λ m to f e old home needs. (
      let x = is_made m (put_known m to e old) in
      home_old m old ∙ both_same (T.home m) (home_of O L m) f (x.home ∙ sym (home_made m x) ∙ home) home))
      keeps_now

  may_leave : (f : FieldId) (to : To) → (to ≡ To.Register f) ⊎ ((to ≡ To.Nowhere) × IsSome (put_in N f)) → MayLeave N f to
  may_leave f to (inl q) = subst (MayLeave N f) (sym q) refl
  may_leave f to (inr q) = subst (MayLeave N f) (sym q.0) q.1

  some_put : (o : Option To) → IsSome o → (to : To) × (o ≡ Some to)
  some_put None i = cc
  some_put (Some to) i = (to, refl)

  module _ (rs : List Rev) (front_is : rs ≡ T.chain N.under) where
    maker : (n : NodeId) → IsSome (D.nodes n) → Has (T.chain N.under) (T.under n.0.rev) → (d : Made) × (made_of O L n ≡ Some d) × Has rs d.under
    maker n known i = let x = is_made n known in (x.made, x.is, subst (λ l. Has l x.made.under) (sym front_is) (subst (Has (T.chain N.under)) (sym x.under) i))

    keeps_schema : KeepsToSchema O D L s rs N
    keeps_schema = let k = keeps_told in record {
      types = k.types;
      filled = k.filled;
      fields = k.fields;
      put_makers = λ m put old. (let to = some_put (put_of N m) put in maker m (put_known m to.0 to.1 old) (k.put_makers m to.0 to.1 old));
      clear_makers = λ f c old. maker f.node (old_known f.node old (all-has (λ (g : FieldId). IsKnown D N g.node) N.clear f fits.clears_known (clears-has N.clear f c))) (k.clear_makers f c old);
      required = k.required;
      homes = λ m to f e old home needs. may_leave f to (k.homes m to f e old home needs);
    }

  pub passes_schema : PassesSchema O D L N
  passes_schema =
      let up = up_to_one (revs D.schemas) N.under effect in
      record { schema = s; front = up.0; view = view; up_to = up.1; keeps = go up.0 (same_front up.0 up.1) N.schema agrees.view }
    where
      go : (rs : List Rev) → rs ≡ T.chain N.under → (o : Option (List ℕ)) → IfSome o (IsUpgrade s (T.view N.rev)) → MatchOption o (KeepsToSchema O D L s rs N) (MayFollow s)
      go rs same None i = keeps_schema rs same
      go rs same (Some text) i = record { view = T.view N.rev; written = i.written.written; sound = i.sound; wide = i.wide }

  -- there is room for a schema that it brings in
  pub has_room : HasRoomForSchema D N
  has_room = go N.schema base (all-has (IsMadeAsTold T) (A ++ N ∷ []) N keeps.made (append_right A (N ∷ []) N (inl refl))).room
    where
      go : (o : Option (List ℕ)) → MatchOption o (Has (revs D.schemas) N.under) (λ _. last_of (revs D.schemas) ≡ Some N.under) → IfSome o (λ _. length (T.chain N.under) < 64) → IfSome o (λ _. length D.schemas < 64)
      go None h r = tt
      go (Some text) h r = subst (λ (k : ℕ). k < 64) (sym (ap length (conforms.line.last N.under h)) ∙ length-map D.schemas (λ (e : SchemaEntry). e.rev)) r
