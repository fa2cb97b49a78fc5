-- From lists of which holds what steps keep, each step leads on: there are next lists, of which the same holds, and an answer.
use Rattle.st_edits.specs.InEffect.{schema_in_effect}
use Rattle.std.proofs.lemmas.Bool.Decides.{nat_tests}
use Rattle.std.proofs.Common.{is_some, Bool, Err, IfSome, IsSome, List, None, Ok, Option, Result, Some, [], cond, false, inl, inr, length, map, nat_le, refl, subst, true, ℕ, ◌++◌, ◌+◌, ◌∷◌, ◌≡◌, ◌⊎◌, ap, sym, ◌<◌, arith}
use Rattle.std.specs.Option.{option_and_then, option_map_or, option_or}
use Rattle.std.specs.Prelude.{option_map}
use Rattle.st_lists.specs.Clients.{HasReceived, next_rev, place_of, received_by, with_ack, with_edited, with_received, joined_of, with_new_commit}
use Rattle.st_lists.specs.Lines.{HasHead, Line, commits_of, edited_on, line_of, with_transaction_on, main_line}
use Rattle.st_world_laws.specs.Worlds.{Any, IsWorld}
use Rattle.st_world_laws.proofs.Going.{GoesOn, LineGoes, ack_goes, delivery_goes, dropped_sound, joined_sound, left_sound, meant_in, returned_sound, sent_sound, set_sound, undo_goes, main_goes}
use Rattle.st_world_laws.proofs.Parts.{next_joined}
use Rattle.st_world_laws.specs.Worlds.{IsClient, IsTransaction}
use Rattle.st_world.specs.World.{AtClient, ByConnected, HasShown, IsActOf, IsAfterEdit, IsAfterNeed, IsBegun, IsBranchDropped, IsDelivered, IsDeliveredIn, IsDeliveredTo, IsDoneIn, IsEdited, IsEditedIn, IsForked, IsJoined, IsMergedBy, IsNeeded, IsNext, IsPendingTold, IsRebasedBy, IsShown, IsUndoneBy, IsVerdictOf, OnLine, abort, act_of_none, after_edit, after_entry, answer_of, begin, branch_at, cells_given, commit, drop_client, enter, intent_of, join, leave, limit_refusal, needs_connection, next_names, opening_document, reconnect, refusal_of, refusal_to_reconnect, sequence, uuid_for, with_client, word_of, IsUpgradedBy}
use Rattle.st_edits.specs.InEffect.{last_in_effect}
use Rattle.std.specs.List.{find, slice_get, slice_set}
use Rattle.serde_json.specs.Written.{compact_text}
use Rattle.st_ids.specs.Listing.{Has}
use Rattle.st_ids.specs.Order.{same_node}
use Rattle.st_ids.specs.declared.names.Limit.{Limit}
use Rattle.st_ids.specs.declared.names.LimitOf.TheVariants.{Clients, Log}
use Rattle.st_ids.specs.declared.names.NodeId.{NodeId}
use Rattle.st_ids.specs.declared.names.Place.{Place}
use Rattle.st_ids.proofs.Orders.{same_node-true}
use Rattle.st_tree.specs.Preorder.{opening_listed}
use Rattle.st_tree.specs.declared.edit.EditFault.{EditFault}
use Rattle.st_tree.specs.declared.flat.FlatNode.{FlatNode}
use Rattle.st_marks.specs.declared.changes.NewNode.{NewNode}
use Rattle.st_marks.specs.declared.intents.Intent.{Intent}
use Rattle.st_marks.specs.declared.verdicts.Verdict.{Verdict}
use Rattle.st_marks.specs.Document.{Document, IsSoundInForm, NodeType}
use Rattle.st_ids.specs.Root.{root}
use Rattle.st_marks.specs.CarryOut.{void, void_data}
use Rattle.st_marks.specs.Intent.{new_node, new_type}
use Rattle.st_marks.specs.Run.{Run, done, next}
use Rattle.st_marks.specs.Verdict.{carried_document}
use Rattle.st_marks.proofs.Members.{append_left, append_right}
use Rattle.st_opening.specs.Start.{first_said, type_at}
use Rattle.st_log_laws.proofs.Turns.{has_run, rest}
use Rattle.st_log_laws.proofs.Verdicts.{has_verdict}
use Rattle.st_doc.proofs.Trees.{node_shows}
use Rattle.st_edits.specs.ArrayTypes.{is_array_type}
use Rattle.st_edits.specs.Resolve.{need}
use Rattle.st_script.specs.Header.{HeaderView}
use Rattle.st_script.specs.Steps.{ActView, EditView, StepView}
use Rattle.st_script.specs.Steps as step
use Rattle.st_script.specs.declared.answer.Answer.{Answer}
use Rattle.st_script.specs.declared.answer.Answer.TheVariants.{Ack, Deliver, No, Pending, Show, Upgrade as Upgrades}
use Rattle.st_script.specs.declared.refusal.Refusal.{Refusal}
use Rattle.st_script.specs.declared.refusal.Refusal.TheVariants.{Clash, Limit as OverLimit, NoBranch, NoClient, NotBegun, NotConnected, NothingNew, NothingToSend, Taken, Unfinished}
use Rattle.st_lists.specs.Open.{with_open}
use Rattle.st_lists.specs.declared.lists.Transaction.{Transaction}
use Rattle.st_lists.specs.Log.{clashes, commit_of, sessions_in}
use Rattle.st_lists.specs.Limits.{entries_limit_passed, log_limit_passed, names_limit_passed, pending_limit_passed}
use Rattle.st_lists.specs.Names.{names_in_text}
use Rattle.st_world.specs.declared.edit_word.EditWord.{EditWord}
use Rattle.st_lists.specs.declared.lists.Client.{Client}
use Rattle.st_lists.specs.declared.lists.Entry.{Entry}
use Rattle.st_lists.specs.declared.lists.WorldState.{WorldState}
use Rattle.st_world_laws.proofs.Begun.{IsStart, opened_start, typed_name}
use Rattle.st_world_laws.proofs.Clients.{received_fit, received_sound}
use Rattle.st_world_laws.proofs.Everyone.{all_get}
use Rattle.st_ids.specs.declared.names.Rev.{Rev}
use Rattle.st_world.specs.Undo.{IsAfterUndo}
use Rattle.st_world_laws.proofs.Undoing.{has_undo}
use Rattle.st_world_laws.proofs.TextOfEach.{has_texts}
use Rattle.st_world_laws.proofs.Voids.{has_void}
use Rattle.st_world_laws.proofs.Meant.{IsMeaning, IsMeant, edit_means, need_means}
use Rattle.st_world_laws.proofs.Entering.{may_reconnect, within_log}
use Rattle.st_lists.specs.declared.lists.Body.{Body}
use Rattle.st_world_laws.proofs.Agreed.{same_keeps}
use Rattle.st_schema.specs.declared.names.NotWider.{NotWider}
use Rattle.st_ids.specs.declared.names.LimitOf.TheVariants.{Schemas}
use Rattle.st_schema.specs.Wider.{wider_of}
use Rattle.st_world.specs.Upgrade.{change_of_schema, refusal_to_upgrade, upgrade, refusal_of_narrowing}
use Rattle.st_world_laws.proofs.Upgrading.{upgrade_goes}
use Rattle.st_schema.specs.Schema.{is_sound, SchemaView}
use Rattle.st_world_laws.specs.Worlds.{KeepsRules}

-- ## The nodes of a document can be listed

abbrev Lists-all : Document → List NodeId → Type 0
Lists-all D ns = (n : NodeId) → IsSome (D.nodes n) → Has ns n

said_node : (xs : List FlatNode) (n : NodeId) → IsSome (first_said (type_at n) xs) → Has (map (λ (x : FlatNode). x.node) xs) n
said_node [] n h = cc
said_node (x ∷ xs) n h = go (type_at n x) refl (λ i. said_node xs n i) h
  where
    go : (o : Option NodeType) → type_at n x ≡ o → (IsSome (first_said (type_at n) xs) → Has (map (λ (y : FlatNode). y.node) xs) n) → IsSome (option_or o (first_said (type_at n) xs))
        → Has (map (λ (y : FlatNode). y.node) (x ∷ xs)) n
    go None e rest i = inr (rest i)
    go (Some t) e rest i = inl (typed_name n x (rw e refl))

new_among : (n : NodeId) (ms : List NewNode) → IsSome (find (λ (m : NewNode). same_node m.node n) ms) → Has (map (λ (m : NewNode). m.node) ms) n
new_among n [] h = cc
new_among n (m ∷ ms) h = go (same_node m.node n) refl (λ i. new_among n ms i) h
  where
    go : (b : Bool) → same_node m.node n ≡ b → (IsSome (find (λ (x : NewNode). same_node x.node n) ms) → Has (map (λ (x : NewNode). x.node) ms) n)
        → IsSome {T = NewNode} (cond b (Some m) (find (λ (x : NewNode). same_node x.node n) ms)) → Has (map (λ (x : NewNode). x.node) (m ∷ ms)) n
    go true e rest i = inl (same_node-true m.node n e)
    go false e rest i = inr (rest i)

new_listed : (N : Intent) (n : NodeId) → IsSome (new_type N n) → Has (map (λ (m : NewNode). m.node) N.new) n
new_listed N n h = new_among n N.new (there (new_node N n) h)
  where
    there : (o : Option NewNode) → IsSome {T = NodeType} (option_map (λ (m : NewNode). record { ty = m.ty; leaf = m.leaf }) o) → IsSome o
    there None h = h
    there (Some m) h = h

-- a node is an old one or one that the commit makes
one_of : (o p : Option NodeType) → IsSome (option_or o p) → IsSome o ⊎ IsSome p
one_of None p h = inr h
one_of (Some t) p h = inl h

void_nodes : (D : Document) (N : Intent) (n : NodeId) → IsSome ((void D N).nodes n) → IsSome (D.nodes n) ⊎ IsSome (new_type N n)
void_nodes D N n h = go N.schema h
  where
    go : (o : Option (List ℕ)) → IsSome ((option_map_or (λ _. D) o (void_data D N)).nodes n) → IsSome (D.nodes n) ⊎ IsSome (new_type N n)
    go None h = one_of (D.nodes n) (new_type N n) h
    go (Some t) h = inl h

carried_nodes : (v : Verdict) (D : Document) (N : Intent) (n : NodeId) → IsSome ((carried_document v D N).nodes n) → IsSome (D.nodes n) ⊎ IsSome (new_type N n)
carried_nodes Verdict.Sound D N n h = one_of (D.nodes n) (new_type N n) h
carried_nodes (Verdict.Need m) D N n h = void_nodes D N n h
carried_nodes (Verdict.Cycle m) D N n h = void_nodes D N n h
carried_nodes (Verdict.Schema u) D N n h = void_nodes D N n h

run_listed : {Ns : List Intent} {D E : Document} → Run D Ns E → (ns : List NodeId) → Lists-all D ns → (ms : List NodeId) × Lists-all E ms
run_listed done ns all = (ns, all)
run_listed (next {D} {N = N} v is rest) ns all =
    let new = map (λ (m : NewNode). m.node) N.new in
    run_listed rest (ns ++ new) (λ n h. either n (carried_nodes v D N n h))
  where
    either : (n : NodeId) → IsSome (D.nodes n) ⊎ IsSome (new_type N n) → Has (ns ++ map (λ (m : NewNode). m.node) N.new) n
    either n (inl h) = append_left ns (map (λ (m : NewNode). m.node) N.new) n (all n h)
    either n (inr h) = append_right ns (map (λ (m : NewNode). m.node) N.new) n (new_listed N n h)

start_listed : (h : HeaderView) (Ns : List Intent) (D : Document) → Run (opening_document h) Ns D → (ns : List NodeId) × Lists-all D ns
start_listed h Ns D run = let xs = opening_listed h.tree in run_listed run (map (λ (x : FlatNode). x.node) xs) (λ n there. said_node xs n there)

-- and after what is edited
open_listed : (D : Document) (joined : Option Intent) (ns : List NodeId) → Lists-all D ns → (ms : List NodeId) × Lists-all (with_open D joined) ms
open_listed D None ns all = (ns, all)
open_listed D (Some J) ns all = (ns ++ map (λ (m : NewNode). m.node) J.new, λ n h. either n (one_of (D.nodes n) (new_type J n) h))
  where
    either : (n : NodeId) → IsSome (D.nodes n) ⊎ IsSome (new_type J n) → Has (ns ++ map (λ (m : NewNode). m.node) J.new) n
    either n (inl h) = append_left ns (map (λ (m : NewNode). m.node) J.new) n (all n h)
    either n (inr h) = append_right ns (map (λ (m : NewNode). m.node) J.new) n (new_listed J n h)

-- what lets a client upgrade
pub record MayUpgrade (c : Client) (old : SchemaView) (in_effect : ℕ) (new : SchemaView) : Type 0 where
  pub none : c.transaction ≡ None
  pub wide : wider_of old new ≡ Ok tt
  pub room : pending_limit_passed c ≡ None
  pub few : in_effect < 64

pub may_upgrade : (c : Client) (old : SchemaView) (in_effect : ℕ) (new : SchemaView) → refusal_to_upgrade c old in_effect new ≡ None → MayUpgrade c old in_effect new
may_upgrade c old in_effect new e = go c.transaction refl (wider_of old new) refl (nat_le 64 in_effect) refl (pending_limit_passed c) refl e
  where
    under : nat_le 64 in_effect ≡ false → in_effect < 64
    under q = grind (arith, nat_tests)

    go : (t : Option Transaction) → c.transaction ≡ t → (r : Result (Unit {0}) NotWider) → wider_of old new ≡ r → (b : Bool) → nat_le 64 in_effect ≡ b → (p : Option Limit) → pending_limit_passed c ≡ p
        → ◌≡◌ {A = Option Refusal} (cond (is_some t) (Some Unfinished) (option_or (refusal_of_narrowing r) (option_map (λ l. OverLimit l) (option_or (cond b (Some (record { of = Schemas; kept = in_effect })) None) p)))) None
        → MayUpgrade c old in_effect new
    go (Some t) q r wide b few p room e = absurd (cc)
    go None q (Err f) wide b few p room e = absurd (cc)
    go None q (Ok u) wide true few p room e = absurd (cc)
    go None q (Ok u) wide false few (Some l) room e = absurd (cc)
    go None q (Ok u) wide false few None room e = record { none = q; wide = wide; room = room; few = under few }

-- ## The steps of a client that is there

module _ (h : HeaderView) (w : WorldState) (s : IsWorld h w) where
  -- next lists, an answer, and that the same holds
  abbrev pub Leads : (WorldState → Answer → Type 0) → Type 0
  Leads is_next = (v : WorldState) × (a : Answer) × is_next v a × IsWorld h v

  -- next lists and an answer, and that the same holds under a condition
  abbrev pub LeadsIf : Type 0 → (WorldState → Answer → Type 0) → Type 0
  LeadsIf P is_next = (v : WorldState) × (a : Answer) × is_next v a × (P → IsWorld h v)

  anyway : (P : Type 0) (is_next : WorldState → Answer → Type 0) → Leads is_next → LeadsIf P is_next
  anyway P is_next r = (r.0, r.1, r.2, λ p. r.3)

  abbrev stays : (a : Answer) → Leads (λ v b. (v ≡ w) × (b ≡ a))
  stays a = (w, a, (refl, refl), s)

  pub st : IsStart (opening_document h)
  st = opened_start h s.header

  -- on a line on which a client goes on
  module _ (i : ℕ) (c : Client) (at : slice_get w.clients i ≡ Some c) (k : ℕ) (l : Line) (g : LineGoes h st Any w.log w.clients i c k l) where
    head : (D : Document) × HasHead (opening_document h) w.log l D
    head = has_run (commits_of w.log l) (opening_document h) st.sound g.fit

    -- what it shows
    abbrev E : Document
    E = with_open head.0 (edited_on l)

    shown : HasShown (opening_document h) w.log l E
    shown = (head.0, head.1, refl)

    goes : (does : Document → Client → Answer → Type 0) (d : Client) (a : Answer) → does E d a → GoesOn h st Any w.log w.clients i c d → Leads (IsDoneIn h w i l does)
    goes does d a so x = (record w { clients = slice_set w.clients i d }, a, (E, d, shown, so, refl), set_sound h w i c d s at x.client x.session x.keeps)

    -- an edit in the transaction that is open
    edited_in : (t : Transaction) (word : EditWord) (r : Result Intent EditFault) → l.transaction ≡ Some t → IsTransaction h w.log l c t → IsMeaning (with_open head.0 t.joined) (next_names c (Some t)) word r → (d : Client) × (a : Answer) × IsEditedIn c k t word r d a
    edited_in t word (Err f) is x means = (c, No (refusal_of f), (refl, refl))
    edited_in t word (Ok M) is x means = go (names_limit_passed c M)
      where
        m : IsMeant (with_open x.before t.joined) (next_names c (Some t)) word M
        m = meant_in h st Any w.log w.clients s.sessions s.clients s.few_names s.schema i c at l (with_open head.0 t.joined) t word M x head.0 head.1 refl (means M refl)

        go : (o : Option Limit) → (d : Client) × (a : Answer) × IsJoined c k t word M o d a
        go (Some over) = (c, No (OverLimit over), (refl, refl))
        go None =
            let J = next_joined h st w.log l c t word M g.fit (g.room t is) x m in
            (with_transaction_on c k (Some (with_edited t J.0 (length M.new) (cells_given word M))), answer_of word t.rev, (J.0, J.1, refl, refl))

    meaning_at : (word : EditWord) (r : Result Intent EditFault) (o : Option Transaction) → l.transaction ≡ o → IsMeaning E (next_names c l.transaction) word r → IsMeaning (with_open head.0 (option_and_then (λ (t : Transaction). t.joined) o)) (next_names c o) word r
    meaning_at word r o is means = subst (λ (o : Option Transaction). IsMeaning (with_open head.0 (option_and_then (λ (t : Transaction). t.joined) o)) (next_names c o) word r) is means

    after : (word : EditWord) (r : Result Intent EditFault) → IsMeaning E (next_names c l.transaction) word r → (d : Client) × (a : Answer) × IsAfterEdit c k l l.transaction word r d a
    after word r means = go l.transaction refl g.transaction
      where
        go : (o : Option Transaction) → l.transaction ≡ o → IfSome o (IsTransaction h w.log l c) → (d : Client) × (a : Answer) × IsAfterEdit c k l o word r d a
        go None is x = let p = after_edit c k l word r in (p.0, p.1, refl)
        go (Some t) is x = edited_in t word r is x (meaning_at word r (Some t) is means)

    after_need : (r : Result Intent EditFault) → IsMeaning E (next_names c l.transaction) EditWord.Need r → (d : Client) × (a : Answer) × IsAfterNeed c k l.transaction r d a
    after_need r means = go l.transaction refl g.transaction
      where
        go : (o : Option Transaction) → l.transaction ≡ o → IfSome o (IsTransaction h w.log l c) → (d : Client) × (a : Answer) × IsAfterNeed c k o r d a
        go None is x = (c, No NotBegun, (refl, refl))
        go (Some t) is x = edited_in t EditWord.Need r is x (meaning_at EditWord.Need r (Some t) is means)

    has_edited : (e : EditView) → Leads (IsEdited h w i c k l e)
    has_edited e =
        let r = intent_of E (schema_in_effect E) (next_names c l.transaction) e in
        let means = edit_means E (next_names c l.transaction) (g.editable E shown) (g.schema E shown) e in
        let d = after (word_of e) r means in
        goes (λ D. IsAfterEdit c k l l.transaction (word_of e) (intent_of D (schema_in_effect D) (next_names c l.transaction) e)) d.0 d.1 d.2 (g.edits d.0 E (word_of e) r d.1 shown means d.2)

    has_needed : (path : List Place) → Leads (IsNeeded h w i c k l path)
    has_needed path =
        let r = need E (next_names c l.transaction) path in
        let means = need_means E (next_names c l.transaction) (g.editable E shown) (g.schema E shown) path in
        let d = after_need r means in
        goes (λ D. IsAfterNeed c k l.transaction (need D (next_names c l.transaction) path)) d.0 d.1 d.2 (g.needs d.0 E r d.1 shown means d.2)

    has_begun : Leads (IsBegun h w i c k l)
    has_begun =
        let p = begin c k l l.transaction (last_in_effect E) in
        goes (λ D d b. begin c k l l.transaction (last_in_effect D) ≡ (d, b)) p.0 p.1 refl (g.begins p.0 E p.1 shown refl)

    has_committed : Leads (λ v a. with_client w i (commit c k l.transaction) ≡ (v, a))
    has_committed =
        let p = commit c k l.transaction in
        let x = g.commits p.0 p.1 refl in
        (record w { clients = slice_set w.clients i p.0 }, p.1, refl, set_sound h w i c p.0 s at x.client x.session x.keeps)

    has_aborted : Leads (λ v a. with_client w i (abort c k l.transaction) ≡ (v, a))
    has_aborted =
        let p = abort c k l.transaction in
        let x = g.aborts p.0 p.1 refl in
        (record w { clients = slice_set w.clients i p.0 }, p.1, refl, set_sound h w i c p.0 s at x.client x.session x.keeps)

    has_shown : (a : Answer) × IsShown h w l a
    has_shown =
        let known = start_listed h (commits_of w.log l) head.0 head.1 in
        let listed = open_listed head.0 (edited_on l) known.0 known.1 in
        let sound = (g.editable E shown).sound in
        let t = node_shows (is_array_type (schema_in_effect E)) E sound listed.0 listed.1 root sound.root_known in
        (Show (compact_text t.0), (E, compact_text t.0, shown, (t.0, t.1, refl), refl))

  -- the steps of a client as a whole
  module _ (i : ℕ) (c : Client) (at : slice_get w.clients i ≡ Some c) where
    client : IsClient h w.log c
    client = all_get (IsClient h w.log) w.clients i c s.clients at

    received : (D : Document) × HasReceived (opening_document h) w.log c D
    received = has_run (received_by w.log c) (opening_document h) st.sound (received_fit h st w.log c client)

    has_pending : (a : Answer) × IsPendingTold h w c a
    has_pending =
        let D = received.0 in
        let sound = received_sound h st w.log c D client received.1 in
        let fit = rest c.pending received.1 client.shown_fit in
        let texts = has_texts c.pending D sound fit in
        let void = has_void D c.pending sound fit in
        (Pending texts.0 void.0, (D, texts.0, void.0, received.1, texts.1, void.1, refl))

    has_undone : (rev : Rev) → Leads (IsUndoneBy h w i c rev)
    has_undone rev =
        let r = after_undo c.transaction in
        let g = undo_goes h st Any w.log w.clients s.sessions s.clients s.few_names s.schema i c at r.0 h.history rev r.1 r.2 in
        (record w { clients = slice_set w.clients i r.0 }, r.1, (r.0, r.2, refl), set_sound h w i c r.0 s at g.client g.session g.keeps)
      where
        after_undo : (o : Option Transaction) → (d : Client) × (a : Answer) × IsAfterUndo (opening_document h) h.history w.log c o rev d a
        after_undo (Some t) = (c, No Unfinished, (refl, refl))
        after_undo None = has_undo (opening_document h) h.history w.log c rev st.sound client.shown_fit

    has_upgraded : (new : SchemaView) → LineGoes h st Any w.log w.clients i c 0 (main_line c) → LeadsIf (is_sound new ≡ true) (IsUpgradedBy h w i c new)
    has_upgraded new g =
        let D = has_run (commits_of w.log (main_line c)) (opening_document h) st.sound g.fit in
        let E = with_open D.0 (joined_of c) in
        go E D.0 (D.0, D.1, refl) D.1 (λ none. ap (with_open D.0) (ap (option_and_then (λ (t : Transaction). t.joined)) none)) (refusal_to_upgrade c (schema_in_effect E) (length E.schemas) new) refl
      where
        go : (E D : Document) → HasShown (opening_document h) w.log (main_line c) E → HasHead (opening_document h) w.log (main_line c) D → (c.transaction ≡ None → E ≡ D) → (o : Option Refusal) → refusal_to_upgrade c (schema_in_effect E) (length E.schemas) new ≡ o
            → LeadsIf (is_sound new ≡ true) (IsUpgradedBy h w i c new)
        go E D shown head closed (Some why) e =
            (record w { clients = slice_set w.clients i c }, No why, (E, c, shown, ap (upgrade c (change_of_schema (next_rev c) (last_in_effect E) new)) e, refl), λ sound. set_sound h w i c c s at client refl (same_keeps h st Any w.log w.clients i c c at refl s.schema))
        go E D shown head closed None e =
            let may = may_upgrade c (schema_in_effect E) (length E.schemas) new e in
            let there : D ≡ E = sym (closed may.none) in
            let N = change_of_schema (next_rev c) (last_in_effect E) new in (
              record w { clients = slice_set w.clients i (with_new_commit c N) },
              Upgrades (next_rev c),
              (E, with_new_commit c N, shown, ap (upgrade c N) e, refl),
              λ sound.
                  let g = upgrade_goes h st Any w.log w.clients s.sessions s.clients s.few_names s.schema i c at may.none may.room E (subst (HasHead (opening_document h) w.log (main_line c)) there head) may.few new sound may.wide Any (λ r t apart k. tt) tt in
                  set_sound h w i c (with_new_commit c N) s at g.client g.session g.keeps,
            )

    has_acked : c.connected ≡ true → Leads (λ v a. with_client w i (with_ack c, Ack c.received) ≡ (v, a))
    has_acked on =
        let g = ack_goes h st Any w.log w.clients s.sessions s.clients s.few_names s.schema i c at (with_ack c) on refl in
        (record w { clients = slice_set w.clients i (with_ack c) }, Ack c.received, refl, set_sound h w i c (with_ack c) s at g.client g.session g.keeps)

    verdict_of : (D : Document) (o : Option Intent) → IsSoundInForm D → (v : Verdict) × IsVerdictOf D o v
    verdict_of D None sound = (Verdict.Sound, refl)
    verdict_of D (Some N) sound = has_verdict D N sound

    has_delivery : (D : Document) (o : Option Entry) → IsSoundInForm D → (d : Client) × (a : Answer) × IsDeliveredTo D c o d a
    has_delivery D None sound = (c, No NothingNew, (refl, refl))
    has_delivery D (Some e) sound = let v = verdict_of D (commit_of e) sound in (with_received e c, Deliver (c.received + 1) v.0, (v.0, v.1, refl, refl))

    has_delivery_in : (D : Document) (o : Option Transaction) → IsSoundInForm D → (d : Client) × (a : Answer) × IsDeliveredIn D c o (slice_get w.log c.received) d a
    has_delivery_in D None sound = has_delivery D (slice_get w.log c.received) sound
    has_delivery_in D (Some t) sound = (c, No Unfinished, (refl, refl))

    has_delivered : Leads (IsDelivered h w i c)
    has_delivered =
        let D = received.0 in
        let r = has_delivery_in D c.transaction (received_sound h st w.log c D client received.1) in
        let g = delivery_goes h st Any w.log w.clients s.sessions s.clients s.few_names s.schema i c at r.0 D r.1 r.2 in
        (record w { clients = slice_set w.clients i r.0 }, r.1, (D, r.0, received.1, r.2, refl), set_sound h w i c r.0 s at g.client g.session g.keeps)

    has_sent : (texts : List Body) → c.queue ≡ texts → Leads (λ v a. sequence w i c texts ≡ (v, a))
    has_sent [] is = (w, No NothingToSend, refl, s)
    has_sent (text ∷ rest) is = go (log_limit_passed w.log (names_in_text text)) refl
      where
        go : (o : Option Limit) → log_limit_passed w.log (names_in_text text) ≡ o → Leads (λ v a. after_entry w i c text rest o ≡ (v, a))
        go (Some l) e = (w, limit_refusal l, refl, s)
        go None e = let p = after_entry w i c text rest None in (p.0, p.1, refl, sent_sound h w i c text rest s at is (within_log w.log (names_in_text text) e).1)

  -- ## Sessions come and go

  module _ (i : ℕ) (c : Client) (at : slice_get w.clients i ≡ Some c) where
    has_left : Leads (λ v a. leave w i c (entries_limit_passed w.log) ≡ (v, a))
    has_left = go (entries_limit_passed w.log)
      where
        go : (o : Option Limit) → Leads (λ v a. leave w i c o ≡ (v, a))
        go (Some l) = (w, limit_refusal l, refl, s)
        go None = let p = leave w i c None in (p.0, p.1, refl, left_sound h w i c s at)

    has_dropped : Leads (λ v a. drop_client w i c (entries_limit_passed w.log) ≡ (v, a))
    has_dropped = go (entries_limit_passed w.log)
      where
        go : (o : Option Limit) → Leads (λ v a. drop_client w i c o ≡ (v, a))
        go (Some l) = (w, limit_refusal l, refl, s)
        go None = let p = drop_client w i c None in (p.0, p.1, refl, dropped_sound h w i c s at)

    has_returned : Leads (λ v a. reconnect w i c (refusal_to_reconnect w.log c) ≡ (v, a))
    has_returned = go (refusal_to_reconnect w.log c) refl
      where
        go : (o : Option Refusal) → refusal_to_reconnect w.log c ≡ o → Leads (λ v a. reconnect w i c o ≡ (v, a))
        go (Some why) e = (w, No why, refl, s)
        go None e = let p = reconnect w i c None in (p.0, p.1, refl, returned_sound h w i c s at (may_reconnect w.log c e).0.1)

  has_joined : (name : List ℕ) (told : Option ℕ) → Leads (λ v a. join w name told ≡ (v, a))
  has_joined name told = go (nat_le 64 (length w.clients)) (nat_le 65535 (length w.log)) (clashes uuid w.log)
    where
      session : ℕ
      session = sessions_in w.log + 1

      uuid : ℕ
      uuid = uuid_for session told

      go : (b c d : Bool) → Leads (λ v x. cond b (w, limit_refusal (record { of = Clients; kept = length w.clients })) (cond c (w, limit_refusal (record { of = Log; kept = length w.log })) (cond d (w, No Clash) (enter w session uuid name))) ≡ (v, x))
      go true c d = (w, limit_refusal (record { of = Clients; kept = length w.clients }), refl, s)
      go false true d = (w, limit_refusal (record { of = Log; kept = length w.log }), refl, s)
      go false false true = (w, No Clash, refl, s)
      go false false false = let p = enter w session uuid name in (p.0, p.1, refl, joined_sound h w uuid name s)

  -- ## Acts

  -- the steps of branches lead on
  pub record BranchesLead (i : ℕ) (c : Client) (k : ℕ) (l : Line) : Type 0 where
    pub forks : Leads (IsForked w i c k l)
    pub rebases : Leads (IsRebasedBy h w i c k)
    pub merges : Leads (IsMergedBy h w i c k)
    pub drops : Leads (IsBranchDropped w i c k)

  has_act_of : (x : ActView) (i : ℕ) (c : Client) (k : ℕ) (l : Line) → slice_get w.clients i ≡ Some c → LineGoes h st Any w.log w.clients i c k l → BranchesLead i c k l → (needs_connection x ≡ true → c.connected ≡ true) → LeadsIf (KeepsRules x) (IsActOf h w x i c k l)
  has_act_of (step.join uuid) i c k l at g b on = anyway (KeepsRules (step.join uuid)) (IsActOf h w (step.join uuid) i c k l) (stays (No Taken))
  has_act_of (step.edit e) i c k l at g b on = anyway (KeepsRules (step.edit e)) (IsActOf h w (step.edit e) i c k l) (has_edited i c at k l g e)
  has_act_of (step.need path) i c k l at g b on = anyway (KeepsRules (step.need path)) (IsActOf h w (step.need path) i c k l) (has_needed i c at k l g path)
  has_act_of step.begin i c k l at g b on = anyway (KeepsRules step.begin) (IsActOf h w step.begin i c k l) (has_begun i c at k l g)
  has_act_of step.commit i c k l at g b on = anyway (KeepsRules step.commit) (IsActOf h w step.commit i c k l) (has_committed i c at k l g)
  has_act_of step.abort i c k l at g b on = anyway (KeepsRules step.abort) (IsActOf h w step.abort i c k l) (has_aborted i c at k l g)
  has_act_of (step.undo rev) i c k l at g b on = anyway (KeepsRules (step.undo rev)) (IsActOf h w (step.undo rev) i c k l) (has_undone i c at rev)
  has_act_of (step.upgrade new) i c k l at g b on = has_upgraded i c at new (main_goes h st Any w.log w.clients s.sessions s.clients s.few_names s.schema i c at)
  has_act_of step.sequence i c k l at g b on = anyway (KeepsRules step.sequence) (IsActOf h w step.sequence i c k l) (has_sent i c at c.queue refl)
  has_act_of step.ack i c k l at g b on = anyway (KeepsRules step.ack) (IsActOf h w step.ack i c k l) (has_acked i c at (on refl))
  has_act_of step.deliver i c k l at g b on = anyway (KeepsRules step.deliver) (IsActOf h w step.deliver i c k l) (has_delivered i c at)
  has_act_of step.leave i c k l at g b on = anyway (KeepsRules step.leave) (IsActOf h w step.leave i c k l) (has_left i c at)
  has_act_of step.drop_client i c k l at g b on = anyway (KeepsRules step.drop_client) (IsActOf h w step.drop_client i c k l) (has_dropped i c at)
  has_act_of step.reconnect i c k l at g b on = anyway (KeepsRules step.reconnect) (IsActOf h w step.reconnect i c k l) (has_returned i c at)
  has_act_of step.fork i c k l at g b on = anyway (KeepsRules step.fork) (IsActOf h w step.fork i c k l) (b.forks)
  has_act_of step.rebase i c k l at g b on = anyway (KeepsRules step.rebase) (IsActOf h w step.rebase i c k l) (b.rebases)
  has_act_of step.merge i c k l at g b on = anyway (KeepsRules step.merge) (IsActOf h w step.merge i c k l) (b.merges)
  has_act_of step.drop_branch i c k l at g b on = anyway (KeepsRules step.drop_branch) (IsActOf h w step.drop_branch i c k l) (b.drops)
  has_act_of step.show i c k l at g b on = anyway (KeepsRules step.show) (IsActOf h w step.show i c k l) (let r = has_shown i c at k l g in (w, r.0, (refl, r.1), s))
  has_act_of step.pending i c k l at g b on = anyway (KeepsRules step.pending) (IsActOf h w step.pending i c k l) (let r = has_pending i c at in (w, r.0, (refl, r.1), s))

  has_act_of_none : (name : List ℕ) (x : ActView) → Leads (λ v a. act_of_none w name x ≡ (v, a))
  has_act_of_none name (step.join uuid) = has_joined name uuid
  has_act_of_none name (step.edit e) = (w, No NoClient, refl, s)
  has_act_of_none name (step.need path) = (w, No NoClient, refl, s)
  has_act_of_none name step.begin = (w, No NoClient, refl, s)
  has_act_of_none name step.commit = (w, No NoClient, refl, s)
  has_act_of_none name step.abort = (w, No NoClient, refl, s)
  has_act_of_none name (step.undo rev) = (w, No NoClient, refl, s)
  has_act_of_none name (step.upgrade schema) = (w, No NoClient, refl, s)
  has_act_of_none name step.sequence = (w, No NoClient, refl, s)
  has_act_of_none name step.ack = (w, No NoClient, refl, s)
  has_act_of_none name step.deliver = (w, No NoClient, refl, s)
  has_act_of_none name step.leave = (w, No NoClient, refl, s)
  has_act_of_none name step.drop_client = (w, No NoClient, refl, s)
  has_act_of_none name step.reconnect = (w, No NoClient, refl, s)
  has_act_of_none name step.fork = (w, No NoClient, refl, s)
  has_act_of_none name step.rebase = (w, No NoClient, refl, s)
  has_act_of_none name step.merge = (w, No NoClient, refl, s)
  has_act_of_none name step.drop_branch = (w, No NoClient, refl, s)
  has_act_of_none name step.show = (w, No NoClient, refl, s)
  has_act_of_none name step.pending = (w, No NoClient, refl, s)

  -- ## Steps

  -- each line of a client goes on, and so do the steps of branches there
  pub record AllLead : Type 0 where
    pub lines : (i : ℕ) (c : Client) (k : ℕ) (l : Line) → slice_get w.clients i ≡ Some c → line_of c k ≡ Some l → LineGoes h st Any w.log w.clients i c k l
    pub branches : (i : ℕ) (c : Client) (k : ℕ) (l : Line) → slice_get w.clients i ≡ Some c → line_of c k ≡ Some l → BranchesLead i c k l

  pub leads_on : AllLead → (x : StepView) → LeadsIf (KeepsRules x.act) (IsNext h w x)
  leads_on all x = place (place_of x.client w.clients)
    where
      nothing : (a : Answer) → LeadsIf (KeepsRules x.act) (λ v b. (v ≡ w) × (b ≡ a))
      nothing a = (w, a, (refl, refl), λ p. s)

      none : LeadsIf (KeepsRules x.act) (λ v a. act_of_none w x.client x.act ≡ (v, a))
      none = anyway (KeepsRules x.act) (λ v a. act_of_none w x.client x.act ≡ (v, a)) (has_act_of_none x.client x.act)

      by : (needs connected : Bool) (i : ℕ) (c : Client) (k : ℕ) (l : Line) → ((needs ≡ true → connected ≡ true) → LeadsIf (KeepsRules x.act) (IsActOf h w x.act i c k l)) → LeadsIf (KeepsRules x.act) (λ v a. ByConnected needs connected w v a (IsActOf h w x.act i c k l v a))
      by false connected i c k l onward = onward (λ e. absurd (cc))
      by true true i c k l onward = onward (λ e. refl)
      by true false i c k l onward = nothing (No NotConnected)

      on : (i : ℕ) (c : Client) (k : ℕ) (o : Option Line) → line_of c k ≡ o → slice_get w.clients i ≡ Some c → LeadsIf (KeepsRules x.act) (λ v a. OnLine w (λ l. ByConnected (needs_connection x.act) c.connected w v a (IsActOf h w x.act i c k l v a)) o v a)
      on i c k None is at = nothing (No NoBranch)
      on i c k (Some l) is at = by (needs_connection x.act) c.connected i c k l (has_act_of x.act i c k l at (all.lines i c k l at is) (all.branches i c k l at is))

      client_at : (i : ℕ) (o : Option Client) → slice_get w.clients i ≡ o → LeadsIf (KeepsRules x.act) (AtClient h w x (option_map (λ c. (i, c)) o))
      client_at i None at = none
      client_at i (Some c) at = on i c (branch_at x.branch x.act) (line_of c (branch_at x.branch x.act)) refl at

      place : (o : Option ℕ) → LeadsIf (KeepsRules x.act) (AtClient h w x (option_and_then (λ i. option_map (λ c. (i, c)) (slice_get w.clients i)) o))
      place None = none
      place (Some i) = client_at i (slice_get w.clients i) refl
