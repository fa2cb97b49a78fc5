-- The world after a client made the schema of its main line wider.
use Rattle.std.proofs.Common.{◌≡◌, ◌≢◌, ℕ, zero, suc, Ok, ◌+◌, ◌<◌, ◌≤◌, ◌^◌, Bool, true, false, cond, List, [], ◌∷◌, length, length-append, take, Option, Some, None, refl, sym, ap, ◌∙◌, subst, arith}
use Rattle.std.specs.BTreeMap.{BTreeMap, get}
use Rattle.std.specs.List.{AllByRecursion, cons_option, slice_get, slice_set}
use Rattle.std.specs.Option.{option_and_then}
use Rattle.std.specs.Prelude.{unwrap_or}
use Rattle.serde_json.specs.Written.{compact_text}
use Rattle.st_ids.proofs.Orders.{same_rev-itself, same_rev-true}
use Rattle.st_ids.specs.Order.{rev_cmp, same_rev}
use Rattle.st_ids.specs.Root.{opening}
use Rattle.st_ids.specs.declared.names.Rev.{Rev}
use Rattle.st_schema.specs.Reading.{schema_of_text}
use Rattle.st_schema.specs.Schema.{SchemaView, is_sound}
use Rattle.st_schema.specs.Written.{schema_data}
use Rattle.st_marks.specs.declared.intents.Intent.{Intent}
use Rattle.st_marks.specs.declared.schemas.SchemaEntry.{SchemaEntry}
use Rattle.st_marks.specs.Document.{Document, last_of, revs}
use Rattle.st_marks.specs.Intent.{Fits}
use Rattle.st_doc.specs.Doc.{document_of}
use Rattle.st_edits.specs.ArrayTypes.{is_array_type}
use Rattle.st_script.specs.Header.{HeaderView, header_view}
use Rattle.st_script.specs.declared.answer.Answer.{Answer}
use Rattle.st_script.specs.declared.answer.Answer.TheVariants.{No, Upgrade as Upgrades}
use Rattle.st_script.specs.declared.refusal.Refusal.{Refusal}
use Rattle.st_lists.specs.Clients.{next_rev, with_new_commit}
use Rattle.st_lists.specs.Lines.{HasHead, commits_of, main_line}
use Rattle.st_lists.specs.Log.{commit_of, commits_in}
use Rattle.st_schema.specs.Wider.{wider_of}
use Rattle.st_lists.specs.declared.lists.Client.{Client}
use Rattle.st_lists.specs.declared.lists.Entry.{Entry}
use Rattle.st_lists.specs.declared.lists.WorldState.{WorldState}
use Rattle.st_edits.specs.InEffect.{empty_schema, schema_in_effect}
use Rattle.st_schema_laws.proofs.Entries.{entries_count}
use Rattle.st_schema_laws.proofs.Texts.{schema_text}
use Rattle.st_world_laws.specs.Worlds.{IsClient}
use Rattle.st_plain.specs.Replicas.{IsSound, IsSoundAfter}
use Rattle.st_plain_schemas.specs.Schemas.{HasReading}
use Rattle.st_world.specs.Upgrade.{change_of_schema, refusal_to_upgrade, upgrade}
use Rattle.st_world.specs.World.{AtRefusal, HasShown, IsUpgradedBy, opening_document}
use Rattle.st_edits.specs.InEffect.{last_in_effect}
use Rattle.st_plain_schemas.specs.Upgrade.{HasKeptOf, HasUpgraded, IsKeptBeside}
use Rattle.st_plain_schemas.specs.declared.known.KnownSchema.{KnownSchema}
use Rattle.st_heads.specs.declared.replica.Replica.{Replica}
use Rattle.st_plain.specs.declared.world.World.{World}
use Rattle.st_plain.proofs.Acting.{one_at, shown, shown_of}
use Rattle.st_plain.proofs.Everyone.{clients_of}
use Rattle.st_world_laws.proofs.Everyone.{set_same}
use Rattle.st_plain.proofs.Keeping.{AreOne, kept_committed, kept_main}
use Rattle.st_plain.proofs.Knowing.{known_schema, known_some, same_schemas}
use Rattle.st_world_laws.proofs.Leading.{may_upgrade}
use Rattle.st_plain.proofs.Refusing.{refusal_as}
use Rattle.st_plain.proofs.Stepping.{sound_client_with, sound_later, start_of}
use Rattle.st_world_laws.proofs.Telling.{turn_intents}
use Rattle.st_world_laws.proofs.Upgrading.{upgrade_fits, upgrade_goes}

-- ## What is asked of two documents with the same schemas

-- the commit and the refusal of an upgrade go by the schemas of a document alone
upgrade_by : (c : Client) (D E : Document) (new : SchemaView) → E.schemas ≡ D.schemas → upgrade c (change_of_schema (next_rev c) (last_in_effect D) new) (refusal_to_upgrade c (schema_in_effect D) (length D.schemas) new)
    ≡ upgrade c (change_of_schema (next_rev c) (last_in_effect E) new) (refusal_to_upgrade c (schema_in_effect E) (length E.schemas) new)
upgrade_by c D E new same = sym (ap by same)
  where
    by : List SchemaEntry → Client × Answer
    by es =
        let last = unwrap_or (last_of (revs es)) opening in
        let schema = unwrap_or (option_and_then (λ (e : SchemaEntry). schema_of_text e.text) (last_of es)) empty_schema in
        upgrade c (change_of_schema (next_rev c) last new) (refusal_to_upgrade c schema (length es) new)

-- ## How many commits

few_in : (es : List Entry) → length (commits_in es) ≤ length es
few_in [] = omega arith
few_in (e ∷ es) = go (commit_of e) (few_in es)
  where
    go : (o : Option Intent) → length (commits_in es) ≤ length es → length (cons_option o (commits_in es)) ≤ suc (length es)
    go None few = omega (arith, few)
    go (Some N) few = omega (arith, few)

few_taken : (n : ℕ) (es : List Entry) → length (take n es) ≤ length es
few_taken zero es = omega arith
few_taken (suc n) [] = omega arith
few_taken (suc n) (e ∷ es) = omega (arith, few_taken n es)

-- ## The table of schemas

-- the reading of a schema that is kept beside others
kept_reading : (old schemas : BTreeMap Rev KnownSchema) (rev : Rev) (new : SchemaView) → is_sound new ≡ true → IsKeptBeside old rev new schemas → HasReading schemas rev (compact_text (schema_data new))
kept_reading old schemas rev new sound b = (
  b.known,
  b.map rev ∙ ap (λ t. cond t (Some b.known) (get rev_cmp old rev)) (same_rev-itself rev),
  record {
    schema = (schema_text new sound).back ∙ ap (λ (s : SchemaView). Some s) (sym b.schema);
    arrays = b.arrays ∙ ap is_array_type (sym b.schema);
  },
)

-- readings under other revisions are kept still
others_kept : (old schemas : BTreeMap Rev KnownSchema) (rev : Rev) (new : SchemaView) → IsKeptBeside old rev new schemas → (r : Rev) (text : List ℕ) → r ≢ rev → HasReading old r text → HasReading schemas r text
others_kept old schemas rev new b r text apart has = (has.0, go (same_rev rev r) refl ∙ has.1, has.2)
  where
    go : (t : Bool) → same_rev rev r ≡ t → get rev_cmp schemas r ≡ get rev_cmp old r
    go true e = absurd (apart (sym (same_rev-true rev r e)))
    go false e = b.map r ∙ ap (λ t. cond t (Some b.known) (get rev_cmp old r)) e

-- ## The world

module _ (w : World) (i : ℕ) (c : Client) (k : Replica) (s : IsSound w) (at_c : slice_get w.lists.clients i ≡ Some c) (at_k : slice_get w.kept i ≡ Some k) where
  abbrev h : HeaderView
  h = header_view w.header

  abbrev log : List Entry
  log = w.lists.log

  abbrev D : Document
  D = document_of k.main.doc

  one : AreOne h log c k
  one = one_at w i c k s at_c at_k

  are : AllByRecursion (IsClient h log) w.lists.clients
  are = clients_of h log w.lists.clients w.kept s.kept

  main : HasHead (opening_document h) log (main_line c) D
  main = kept_main h log c k one.kept

  same_there : (shown_of c k).schemas ≡ D.schemas
  same_there = same_schemas w i c s at_c 0 (main_line c) refl D main

  last_there : last_in_effect D ≡ last_in_effect (shown_of c k)
  last_there = ap (λ (es : List SchemaEntry). unwrap_or (last_of (revs es)) opening) (sym same_there)

  -- the look-up gives the schema in effect
  pub known_is : (x : KnownSchema) → Some x ≡ get rev_cmp w.schemas (last_in_effect D) → x.schema ≡ schema_in_effect D
  known_is x found =
      known_schema w i c s at_c 0 (main_line c) refl (shown_of c k) (shown w i c k s at_c at_k) x (found ∙ ap (get rev_cmp w.schemas) last_there)
      ∙ ap (λ (es : List SchemaEntry). unwrap_or (option_and_then (λ (e : SchemaEntry). schema_of_text e.text) (last_of es)) empty_schema) same_there

  pub known_there : None ≡ get rev_cmp w.schemas (last_in_effect D) → ⊥
  known_there none = known_some w i c s at_c 0 (main_line c) refl (shown_of c k) (shown w i c k s at_c at_k) (none ∙ ap (get rev_cmp w.schemas) last_there)

  pub fits_main : (new : SchemaView) → Fits D (change_of_schema (next_rev c) (last_in_effect D) new)
  fits_main new = upgrade_fits h (start_of w w.steps s) log c one.client D main new

  pub few_schemas : length D.schemas < 2 ^ 32
  few_schemas =
      let st = start_of w w.steps s in
      let count = entries_count (opening_document h) D (commits_of log (main_line c)) (turn_intents (commits_of log (main_line c)) (opening_document h) st.sound one.client.shown_fit) main in
      let first : length (opening_document h).schemas ≡ 1 = refl in
      omega (arith, count, first, few_commits)
    where
      few_commits : length (commits_of log (main_line c)) ≤ 65535 + 256
      few_commits = omega (arith, length-append (commits_in (take c.received log)) c.pending, few_in (take c.received log), few_taken c.received log, s.entries, one.client.few)

  -- the world in which the client is so, and this is kept
  abbrev After : Client → Replica → BTreeMap Rev KnownSchema → Type 0
  After d m t = IsSoundAfter (w.steps + 1) (record w { lists = record w.lists { clients = slice_set w.lists.clients i d }; kept = slice_set w.kept i m; schemas = t })

  module _ (new : SchemaView) (sound : is_sound new ≡ true) (old : SchemaView) (is_old : old ≡ schema_in_effect D) (c' : Client) (k' : Replica) (schemas : BTreeMap Rev KnownSchema) (a : Answer)
      (done : upgrade c (change_of_schema (next_rev c) (last_in_effect D) new) (refusal_to_upgrade c old (length D.schemas) new) ≡ (c', a))
      (kept : HasUpgraded (refusal_to_upgrade c old (length D.schemas) new) k (change_of_schema (next_rev c) (last_in_effect D) new) k') (noted : HasKeptOf a new w.schemas schemas) where
    abbrev N : Intent
    N = change_of_schema (next_rev c) (last_in_effect D) new

    pub upgraded_as : upgrade c (change_of_schema (next_rev c) (last_in_effect (shown_of c k)) new) (refusal_to_upgrade c (schema_in_effect (shown_of c k)) (length (shown_of c k).schemas) new) ≡ (c', a)
    upgraded_as = sym (upgrade_by c D (shown_of c k) new same_there) ∙ sym (ap (λ v. upgrade c N (refusal_to_upgrade c v (length D.schemas) new)) is_old) ∙ done

    -- a refusal leaves all as it was
    pub upgrade_refused : AtRefusal a ((c' ≡ c) × (k' ≡ k) × (schemas ≡ w.schemas))
    upgrade_refused = go (refusal_to_upgrade c old (length D.schemas) new) done kept
      where
        at : (d : Client) (b : Answer) → ◌≡◌ {A = Client × Answer} (d, b) (c', a) → AtRefusal b ((c' ≡ c) × (k' ≡ k) × (schemas ≡ w.schemas)) → AtRefusal a ((c' ≡ c) × (k' ≡ k) × (schemas ≡ w.schemas))
        at d b e p = subst (λ x. AtRefusal x ((c' ≡ c) × (k' ≡ k) × (schemas ≡ w.schemas))) (ap (λ (q : Client × Answer). q.1) e) p

        go : (o : Option Refusal) → upgrade c N o ≡ (c', a) → HasUpgraded o k N k' → AtRefusal a ((c' ≡ c) × (k' ≡ k) × (schemas ≡ w.schemas))
        go None e m = at (with_new_commit c N) (Upgrades (next_rev c)) e tt
        go (Some why) e m = at c (No why) e (ap (λ (q : Client × Answer). q.0) (sym e), m, subst (λ x. HasKeptOf x new w.schemas schemas) (ap (λ (q : Client × Answer). q.1) (sym e)) noted)

    -- and the world
    pub upgrade_leaves : AtRefusal a (◌≡◌ {A = World} (record w { lists = record w.lists { clients = slice_set w.lists.clients i c' }; kept = slice_set w.kept i k'; schemas = schemas }) w)
    upgrade_leaves = refusal_as a _ _ whole upgrade_refused
      where
        whole : (c' ≡ c) × (k' ≡ k) × (schemas ≡ w.schemas) → ◌≡◌ {A = World} (record w { lists = record w.lists { clients = slice_set w.lists.clients i c' }; kept = slice_set w.kept i k'; schemas = schemas }) w
        whole p =
            let cs : slice_set w.lists.clients i c' ≡ w.lists.clients = ap (slice_set w.lists.clients i) p.0 ∙ set_same w.lists.clients i c at_c in
            let ks : slice_set w.kept i k' ≡ w.kept = ap (slice_set w.kept i) p.1 ∙ set_same w.kept i k at_k in
            λ j. record w { lists = record w.lists { clients = cs j }; kept = ks j; schemas = p.2 j }

    pub sound_upgrade : IsSoundAfter (w.steps + 1) (record w { lists = record w.lists { clients = slice_set w.lists.clients i c' }; kept = slice_set w.kept i k'; schemas = schemas })
    sound_upgrade = go (refusal_to_upgrade c old (length D.schemas) new) refl done kept
      where
        go : (o : Option Refusal) → refusal_to_upgrade c old (length D.schemas) new ≡ o → upgrade c N o ≡ (c', a) → HasUpgraded o k N k' → After c' k' schemas
        go (Some why) is e m =
            let table : schemas ≡ w.schemas = subst (λ x. HasKeptOf x new w.schemas schemas) (ap (λ (q : Client × Answer). q.1) (sym e)) noted in
            let same : After c k w.schemas = subst (λ (cs : List Client). IsSoundAfter (w.steps + 1) (record w { lists = record w.lists { clients = cs }; kept = slice_set w.kept i k })) (sym (set_same w.lists.clients i c at_c))
            (subst (λ (ks : List Replica). IsSoundAfter (w.steps + 1) (record w { kept = ks })) (sym (set_same w.kept i k at_k)) (sound_later w.steps w s)) in
            subst (λ (d : Client). After d k' schemas) (ap (λ (q : Client × Answer). q.0) e) (subst (λ (x : Replica). After c x schemas) (sym m) (subst (λ t. After c k t) (sym table) same))
        go None is e m =
            let st = start_of w w.steps s in
            let may = may_upgrade c old (length D.schemas) new is in
            let b : IsKeptBeside w.schemas (next_rev c) new schemas = subst (λ x. HasKeptOf x new w.schemas schemas) (ap (λ (q : Client × Answer). q.1) (sym e)) noted in
            let g = upgrade_goes h st (HasReading w.schemas) log w.lists.clients s.sessions are s.few_names s.schema i c at_c may.none may.room D main may.few new sound (subst (λ v. wider_of v new ≡ Ok tt) is_old may.wide)
            (HasReading schemas) (others_kept w.schemas schemas (next_rev c) new b) (kept_reading w.schemas schemas (next_rev c) new sound b) in
            subst (λ (d : Client). After d k' schemas) (ap (λ (q : Client × Answer). q.0) e)
            (sound_client_with w i c (with_new_commit c N) k' schemas s at_c (record { client = g.client; kept = kept_committed h st log c k k' N may.none one.kept m }) g.session g.connected g.ids g.forks g.keeps)

pub next_upgraded : (h : HeaderView) (w : WorldState) (i : ℕ) (c q d : Client) (E : Document) (new : SchemaView) (a : Answer) → slice_get w.clients i ≡ Some c → slice_get w.clients i ≡ Some q → HasShown (opening_document h) w.log (main_line c) E
    → upgrade c (change_of_schema (next_rev c) (last_in_effect E) new) (refusal_to_upgrade c (schema_in_effect E) (length E.schemas) new) ≡ (d, a) → IsUpgradedBy h w i q new (record w { clients = slice_set w.clients i d }) a
next_upgraded h w i c q d E new a at_c at_q shown is =
    let same : c ≡ q = cc in
    subst (λ (x : Client). IsUpgradedBy h w i x new (record w { clients = slice_set w.clients i d }) a) same (E, d, shown, is, refl)
