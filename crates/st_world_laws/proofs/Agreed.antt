-- The commits of the log, and those that each client shows, agree with the schema, whoever makes a step.
use Rattle.std.proofs.Common.{Bool, Err, IfSome, IsSome, List, None, Ok, Option, Result, Some, [], ap, append_assoc, arith, drop, false, inl, inr, length, length-append, refl, subst, suc, sym, take, true, zero, ℕ, ◌++◌, ◌+◌, ◌<◌, ◌∙◌, ◌∷◌, ◌≡◌, ◌≢◌, ◌≤◌, ◌⊎◌}
use Rattle.std.specs.Option.{option_and_then, option_map_or, option_or}
use Rattle.std.specs.Prelude.{is_some, option_map, ◌==◌}
use Rattle.st_lists.specs.Lines.{HasHead, Line, all_commits, branch_line, branch_of, commits_of, edited_on, line_of, main_line, own_of}
use Rattle.st_lists.specs.Names.{names_in, names_made}
use Rattle.st_lists.specs.declared.lists.Branch.{Branch}
use Rattle.st_marks.proofs.Members.{all-has, append_left, append_right, has-all, has-append, has-map, map-has}
use Rattle.st_world_laws.proofs.Among.{branch_among, branch_is, line_room, line_new}
use Rattle.st_world_laws.proofs.Clients.{shown_sound, main_among, next_new, own_first, own_more, queue_first, received_more}
use Rattle.st_world_laws.proofs.Lookup.{branch_found}
use Rattle.st_world_laws.proofs.Parts.{edited_fits, edited_room, edits_fit, follow, open_schemas}
use Rattle.st_world_laws.specs.Worlds.{BranchesKeepSchemas, CommitsKeepSchemas, EditsKeepSchemas, HasMain, HaveOwnSessions, IsBranch, IsClient, IsHeader, IsTransaction, KeepSchemasAsTold, KeepToSchemas, LineFits, KeepsLine}
use Rattle.st_world.specs.World.{IsDeliveredTo, after_edit, cells_given, next_names, opening_document, with_new_on}
use Rattle.st_edits.specs.InEffect.{last_in_effect}
use Rattle.std.specs.List.{cons_option, find, remove, slice_get, slice_set, AllByRecursion}
use Rattle.std.proofs.lemmas.Bool.Decides.{nat_tests}
use Rattle.std.proofs.lemmas.List.{append-nil, take_all}
use Rattle.st_ids.specs.Listing.{Has}
use Rattle.st_ids.specs.declared.names.Limit.{Limit}
use Rattle.st_ids.specs.declared.names.NodeId.{NodeId}
use Rattle.st_ids.specs.declared.names.Rev.{Rev}
use Rattle.st_tree.specs.declared.edit.EditFault.{EditFault}
use Rattle.st_schema.specs.Written.{schema_data}
use Rattle.serde_json.specs.Written.{compact_text}
use Rattle.st_marks.specs.declared.intents.Intent.{Intent}
use Rattle.st_marks.specs.Document.{Document, IsSoundInForm, NodeType, revs}
use Rattle.st_ids.specs.Root.{opening}
use Rattle.st_marks.specs.Extends.{item_kept}
use Rattle.st_marks.specs.declared.changes.NewNode.{NewNode}
use Rattle.st_ids.specs.Order.{same_node}
use Rattle.st_marks.specs.Document.{NodeType}
use Rattle.st_marks.specs.Intent.{Fits, IsIntent, IsKnown, Owns, cell_of, is_new, new_type, put_of, register_of}
use Rattle.st_marks.specs.declared.intents.Put.{Put}
use Rattle.st_marks.specs.declared.intents.To.{To}
use Rattle.st_marks.specs.declared.verdicts.Verdict.{Verdict}
use Rattle.st_marks.specs.CarryOut.{full}
use Rattle.st_marks.specs.Run.{Run}
use Rattle.st_marks.proofs.Lookups.{put-has}
use Rattle.st_marks.proofs.OneVerdict.{one_run}
use Rattle.st_lists.specs.Open.{FitsSoFar, IsWithPart, with_open}
use Rattle.st_heads.specs.inside.Parts.{CanFollow}
use Rattle.st_lemmas.proofs.Bools.{true-false}
use Rattle.st_log_laws.specs.Names.{revisions, HaveNewRevisions}
use Rattle.st_log_laws.specs.Turns.{FitInTurn, IsSublist}
use Rattle.st_log_laws.proofs.Shorter.{sublist_itself, sublist_joined, sublist_none, has_longer, new_shorter}
use Rattle.st_schema_laws.specs.Agreeing.{TellsHomes}
use Rattle.st_edits.specs.Fields.{register_in}
use Rattle.st_schema_laws.proofs.Homes.{tells_own}
use Rattle.st_lists.specs.Undoing.{IsUndoing}
use Rattle.st_schema_laws.proofs.Opened.{allowed_conforms}
use Rattle.st_script.specs.Header.{HeaderView}
use Rattle.st_script.specs.declared.answer.Answer.{Answer}
use Rattle.st_lists.specs.Log.{commits_by, commits_of_text, intents_of, log_and_waiting, waiting, commit_in, commit_of, commits_in, log_with}
use Rattle.st_lists.specs.Clients.{joined_of, next_rev, with_ack, with_commit, with_connection, without_connection, with_edited, with_new_commit, with_transaction, without_transaction, new_client, pending_after, received_by, with_received}
use Rattle.st_lists.specs.Limits.{limit_passed}
use Rattle.st_world.specs.declared.edit_word.EditWord.{EditWord}
use Rattle.st_lists.specs.declared.lists.Body.{Body}
use Rattle.st_lists.specs.declared.lists.Body.TheVariants.{Join, Leave}
use Rattle.st_lists.specs.declared.lists.Client.{Client}
use Rattle.st_lists.specs.declared.lists.Entry.{Entry}
use Rattle.st_lists.specs.declared.lists.Transaction.{Transaction}
use Rattle.st_world_laws.proofs.Begun.{IsStart, opens_allowed, opened_start}
use Rattle.st_world_laws.proofs.Meant.{IsMeaning, IsMeant}
use Rattle.st_world_laws.proofs.Everyone.{all_get, all_set, others_apart, set_same, all_as}
use Rattle.st_ids.proofs.Shared.{at_has}
use Rattle.st_lists.proofs.Present.{all_rest, are_apart}
use Rattle.st_lists.proofs.Logs.{by_sublist, commits_split, entered_commits, entered_front, last_entry, no_commit, one_commit}
use Rattle.st_lemmas.proofs.Lists.{AllByRecursion-append}
use Rattle.st_part_laws.proofs.Told.{told_under}
use Rattle.st_schema_laws.proofs.EditsInLine.{some_last}
use Rattle.st_part_laws.proofs.Chains.{last-has}
use Rattle.st_marks.specs.Verdict.{carried_document}
use Rattle.st_marks.specs.Back.{IsBack}
use Rattle.st_marks.specs.declared.schemas.SchemaEntry.{SchemaEntry}
use Rattle.st_schema_laws.proofs.Texts.{schema_text}
use Rattle.st_schema_laws.specs.Widening.{IsTextOf}
use Rattle.st_schema_laws.proofs.SchemasKept.{join_agrees}
use Rattle.st_schema_laws.proofs.Conformity.{conforms_edited, conforms_at_first}
use Rattle.st_schema_laws.proofs.Told.{commit_at_home}
use Rattle.st_schema_laws.proofs.Lines.{undo_goes_on, line_after_conforms}
use Rattle.st_schema_laws.specs.Lines.{IsLine}
use Rattle.st_world_laws.proofs.OwnHomes.{own_homes_agree}
use Rattle.st_world_laws.proofs.Telling.{GoesAnew, made_as_told, same_known, run_after, IsToldAnew, goes_front, goes_longer, goes_more, goes_told, nothing_known, commit_is_told, homes_are_told, new_is_told}
use Rattle.st_world_laws.specs.Worlds.{IsKnownBy, IsMadeAsTold}
use Rattle.st_schema_laws.specs.AgreeingInEffect.{Told, AgreesInLine, ConformsInEffect, with_home, with_commit as told_with_commit}

-- what is told before any commit
abbrev told_first : HeaderView → Told
told_first h = record { under = λ r. opening; chain = λ r. opening ∷ []; view = λ r. h.schema; home = λ m. register_in ((opening_document h).place m) }

-- before any client joins
pub begun_keeps : (h : HeaderView) (K : Rev → List ℕ → Type 0) → IsHeader h → K opening (compact_text (schema_data h.schema)) → KeepToSchemas h K [] []
begun_keeps h K k known = record {
  told = told_first h;
  keep = record {
    opened = known;
    logged = record {
      line = record {
        sound = st.sound;
        made = st.made;
        conforms = conforms_at_first (told_first h) (opening_document h) st.sound st.made refl refl refl k.schema texts
            (allowed_conforms h.schema (told_first h).home h.tree (compact_text (schema_data h.schema)) k.schema (opens_allowed h.schema h.tree k.tree) (λ m i. refl));
        fit = tt;
        new = record { once = tt; new = λ N i j. i };
        earlier = tt;
        agree = tt;
      };
      known = tt;
      made = tt;
      first = λ m e. refl;
    };
    shown = tt;
    edited = tt;
    branches = tt;
  };
}
  where
    st : IsStart (opening_document h)
    st = opened_start h k

    texts : (e : SchemaEntry) → Has (opening_document h).schemas e → IsTextOf h.schema e.text
    texts e (inl same) = subst (λ (x : SchemaEntry). IsTextOf h.schema x.text) same (schema_text h.schema k.schema)
    texts e (inr i) = absurd i

front_sublist : (As Bs : List Intent) → IsSublist As (As ++ Bs)
front_sublist [] Bs = sublist_none Bs
front_sublist (N ∷ As) Bs = item_kept refl (front_sublist As Bs)

-- what is known stays known
known_more : (K L : Rev → List ℕ → Type 0) → ((r : Rev) (text : List ℕ) → K r text → L r text) → (Ns : List Intent) → AllByRecursion (IsKnownBy K) Ns → AllByRecursion (IsKnownBy L) Ns
known_more K L more Ns all = has-all (IsKnownBy L) Ns (λ N i. go N N.schema (all-has (IsKnownBy K) Ns N all i))
  where
    go : (N : Intent) (o : Option (List ℕ)) → IfSome o (K N.rev) → IfSome o (L N.rev)
    go N None k = tt
    go N (Some text) k = more N.rev text k

line_known_more : (K L : Rev → List ℕ → Type 0) → ((r : Rev) (text : List ℕ) → K r text → L r text) → (T : Told) (O : Document) (Ns : List Intent) → KeepsLine K T O Ns → KeepsLine L T O Ns
line_known_more K L more T O Ns w = record { line = w.line; known = known_more K L more Ns w.known; made = w.made; first = w.first }

pub knows_more : (h : HeaderView) (K L : Rev → List ℕ → Type 0) (log : List Entry) (cs : List Client) → ((r : Rev) (text : List ℕ) → K r text → L r text) → KeepToSchemas h K log cs → KeepToSchemas h L log cs
knows_more h K L log cs more w =
    let O = opening_document h in
    let T = w.told in
    record {
      told = T;
      keep = record {
        opened = more opening (compact_text (schema_data h.schema)) w.keep.opened;
        logged = line_known_more K L more T O (commits_in log) w.keep.logged;
        shown = all_as (λ (c : Client). CommitsKeepSchemas h K T log (main_line c)) (λ (c : Client). CommitsKeepSchemas h L T log (main_line c)) cs (λ c p. line_known_more K L more T O (commits_of log (main_line c)) p) w.keep.shown;
        edited = w.keep.edited;
        branches = all_as (BranchesKeepSchemas h K T log) (BranchesKeepSchemas h L T log) cs
            (λ c p. all_as (λ (b : Branch). CommitsKeepSchemas h K T log (branch_line b) × EditsKeepSchemas h T log (branch_line b)) (λ (b : Branch). CommitsKeepSchemas h L T log (branch_line b) × EditsKeepSchemas h T log (branch_line b))
            c.branches (λ b q. (line_known_more K L more T O (commits_of log (branch_line b)) q.0, q.1)) p) w.keep.branches;
      };
    }

all_both : {A : Type 0} (P Q : A → Type 0) (xs : List A) → AllByRecursion P xs → AllByRecursion Q xs → AllByRecursion (λ x. P x × Q x) xs
all_both P Q [] p q = tt
all_both P Q (x ∷ xs) p q = ((p.0, q.0), all_both P Q xs p.1 q.1)

-- a node that an intent puts, or makes, is there after it
put_there : (D : Document) (J : Intent) → Fits D J → (m : NodeId) → IsSome (put_of J m) → IsSome ((full D J).nodes m)
put_there D J f m h = go (put_of J m) refl h
  where
    there : (o p : Option NodeType) → IsSome p ⊎ IsSome o → IsSome (option_or o p)
    there (Some t) p h = refl
    there None p (inl h) = h
    there None p (inr h) = absurd (cc)

    go : (o : Option To) → put_of J m ≡ o → IsSome o → IsSome ((full D J).nodes m)
    go None e h = absurd (cc)
    go (Some to) e h =
        there (D.nodes m) (new_type J m) (all-has (λ (p : Put). IsKnown D J p.node × IfSome (cell_of p.to) (Owns D J p.node) × IfSome (register_of p.to) (λ f. IsKnown D J f.node)) J.put (record { node = m; to = to }) f.puts_known (put-has J m to e)).0

made_there : (D : Document) (J : Intent) (m : NodeId) → is_new J m ≡ true → IsSome ((full D J).nodes m)
made_there D J m h = go (D.nodes m) (new_type J m) h
  where
    go : (o p : Option NodeType) → is_some p ≡ true → IsSome (option_or o p)
    go (Some t) p h = refl
    go None (Some t) h = refl
    go None None h = cc

-- the last schema in effect is in effect
pub last_there : (D : Document) → IsSoundInForm D → (u : Rev) → u ≡ last_in_effect D → Has (revs D.schemas) u
last_there D sound u e = subst (Has (revs D.schemas)) (sym e) (last-has (revs D.schemas) (last_in_effect D) (some_last (revs D.schemas) sound.in_effect.begun))

-- a part is made under the schema of the transaction
pub part_under : (D : Document) (rev under : Rev) (joined : Option Intent) (M : Intent) → FitsSoFar D rev under joined → under ≡ last_in_effect D → M.under ≡ last_in_effect (with_open D joined) → M.under ≡ under
part_under D rev under joined M so last e = e ∙ open_schemas D rev under joined so ∙ sym last

module _ (h : HeaderView) (st : IsStart (opening_document h)) where
  -- ## The lines of branches

  -- a branch's line has its number
  pub branch_numbered : (log : List Entry) (c : Client) (b : Branch) → IsClient h log c → Has c.branches b → line_of c b.number ≡ Some (branch_line b)
  branch_numbered log c b k i = go b.number (branch_is h st log c k b i).numbered (branch_found c b.number b k.branches.numbers i refl)
    where
      go : (n : ℕ) → 0 < n → branch_of c n ≡ Some b → line_of c n ≡ Some (branch_line b)
      go zero low e = absurd (omega (arith, low))
      go (suc n) low e = ap (option_map branch_line) e

  -- what is edited on it fits in turn
  branch_edits_fit : (log : List Entry) (c : Client) (b : Branch) (t : Transaction) (J : Intent) → IsClient h log c → Has c.branches b → b.transaction ≡ Some t → names_in (commits_in log) ≤ 131072 → (x : IsTransaction h log (branch_line b) c t) → t.joined ≡ Some J
      → FitInTurn x.before (J ∷ [])
  branch_edits_fit log c b t J k i is all x joined =
      let made : option_map_or names_made (edited_on (branch_line b)) 0 ≡ names_made J =
      ap (λ (o : Option Transaction). option_map_or names_made (option_and_then (λ (u : Transaction). u.joined) o) 0) is ∙ ap (λ (o : Option Intent). option_map_or names_made o 0) joined in
      edits_fit h st log (branch_line b) c t J (branch_is h st log c k b i).fit (omega (arith, line_room h st log c k b.number (branch_line b) (branch_numbered log c b k i) all, made)) x joined

  -- where a transaction is open on a line of a client, another commit of it has another revision
  pub line_next_apart : (log : List Entry) (c : Client) (l : Line) (t : Transaction) (r : Rev) → IsTransaction h log l c t → r ≡ next_rev c → r ≡ t.rev → ⊥
  line_next_apart log c l t r x is e = let num : t.rev.num ≡ c.ids + 1 = ap (λ (q : Rev). q.num) (sym e ∙ is) in omega (arith, num, x.num)

  -- a transaction on the main line has another revision than one on a branch
  not_main : (log : List Entry) (c : Client) (b : Branch) (t u : Transaction) → IsClient h log c → Has c.branches b → c.transaction ≡ Some t → b.transaction ≡ Some u → t.rev ≡ u.rev → ⊥
  not_main log c b t u k i main is e =
      let zeroth : 0 ≡ b.number = k.branches.transactions 0 b.number (main_line c) (branch_line b) t u refl (branch_numbered log c b k i) main is e in
      omega (arith, zeroth, (branch_is h st log c k b i).numbered)

module _ (h : HeaderView) (st : IsStart (opening_document h)) (K : Rev → List ℕ → Type 0) where
  -- these commits agree with their schemas in turn
  abbrev Agree : Told → List Intent → Type 0
  Agree T Ns = KeepsLine K T (opening_document h) Ns

  -- those that a client shows do
  abbrev Shown : Told → List Entry → Client → Type 0
  Shown T log c = CommitsKeepSchemas h K T log (main_line c)

  -- what is edited does
  abbrev Edited : Told → List Entry → Client → Type 0
  Edited T log c = EditsKeepSchemas h T log (main_line c)

  -- what a branch has and what is edited on it does
  abbrev pub BranchKeeps : Told → List Entry → Branch → Type 0
  BranchKeeps T log b = CommitsKeepSchemas h K T log (branch_line b) × EditsKeepSchemas h T log (branch_line b)

  -- and so for each branch of a client
  abbrev Branches : Told → List Entry → Client → Type 0
  Branches T log c = BranchesKeepSchemas h K T log c

  pub nothing_edited : (T : Told) (log : List Entry) (l : Line) → option_and_then (λ (t : Transaction). t.joined) l.transaction ≡ None → EditsKeepSchemas h T log l
  nothing_edited T log l none D main = subst (λ o. IfSome o (AgreesInLine T D)) (sym none) tt

  -- a line has one commit more, which was made under the last schema in effect and agrees with it
  pub agrees_more : (T : Told) (log : List Entry) (l : Line) (D : Document) (N : Intent) → CommitsKeepSchemas h K T log l → HasHead (opening_document h) log l D → (Has (revisions (commits_of log l) ++ opening ∷ []) N.rev → ⊥)
      → LineFits h log (record l { own = l.own ++ N ∷ [] }) → N.under ≡ last_in_effect D → AgreesInLine T D N → IsKnownBy K N → IsMadeAsTold T N → CommitsKeepSchemas h K T log (record l { own = l.own ++ N ∷ [] })
  agrees_more T log l D N agree head fresh fit under keeps known made =
      let same = own_more h st log l N in
      subst (Agree T) same (goes_more T (opening_document h) (commits_of log l) D N agree head fresh (subst (FitInTurn (opening_document h)) (sym same) fit) under keeps known made)

  -- a client that stays as it is
  pub same_keeps : (log : List Entry) (cs : List Client) (i : ℕ) (c c' : Client) → slice_get cs i ≡ Some c → c ≡ c' → KeepToSchemas h K log cs → KeepToSchemas h K log (slice_set cs i c')
  same_keeps log cs i c c' at same w = subst (KeepToSchemas h K log) (sym (set_same cs i c at) ∙ ap (slice_set cs i) same) w

  -- a client is now so, with the same homes
  pub one_keeps : (T : Told) (log : List Entry) (cs : List Client) (i : ℕ) (c' : Client) → KeepSchemasAsTold h K log cs T → Shown T log c' → Edited T log c' → Branches T log c' → KeepToSchemas h K log (slice_set cs i c')
  one_keeps T log cs i c' w shown edited branches = record {
    told = T;
    keep = record {
      opened = w.opened;
      logged = w.logged;
      shown = all_set (Shown T log) cs i c' w.shown shown;
      edited = all_set (Edited T log) cs i c' w.edited edited;
      branches = all_set (Branches T log) cs i c' w.branches branches;
    };
  }

  -- ## An entry is received

  taken_shows : (T : Told) (log : List Entry) (c : Client) (e : Entry) → IsClient h log c → IsClient h log (with_received e c) → slice_get log c.received ≡ Some e
      → Agree T (commits_in log) → Shown T log c → Shown T log (with_received e c)
  taken_shows T log c e k next at logged shown = go (commit_of e) refl
    where
      A : List Intent
      A = received_by log c

      front_log : List Intent
      front_log = commits_in (take (c.received + 1) log)

      own : (N : Intent) → commit_of e ≡ Some N → (e.session == c.session) ≡ true → Agree T (front_log ++ pending_after e c)
      own N is b =
          let first = own_first h st log c e N k at is b in
          let tail : drop 1 c.pending ≡ _ = ap (λ l. drop 1 l) first in
          let head : c.pending ≡ N ∷ drop 1 c.pending = first ∙ ap (λ l. N ∷ l) (sym tail) in
          let now : front_log ≡ A ++ N ∷ [] = received_more h st log c e at ∙ ap (λ l. A ++ l) (one_commit e N is) in
          let same : drop 1 c.pending ≡ pending_after e c = sym (rw (is, b) refl) in
          subst (Agree T) (ap (λ l. A ++ l) head ∙ sym (append_assoc A (N ∷ []) (drop 1 c.pending)) ∙ ap (λ l. l ++ drop 1 c.pending) (sym now) ∙ ap (λ l. front_log ++ l) same) shown

      -- what the client has pending comes after one commit more
      other : (N : Intent) → commit_of e ≡ Some N → (e.session == c.session) ≡ false → Agree T (front_log ++ pending_after e c)
      other N is b =
          let now : front_log ≡ A ++ N ∷ [] = received_more h st log c e at ∙ ap (λ l. A ++ l) (one_commit e N is) in
          let same : c.pending ≡ pending_after e c = sym (rw (is, b) refl) in
          let longer : Agree T front_log = goes_front T (opening_document h) front_log (commits_in (drop (c.received + 1) log)) (subst (Agree T) (commits_split (c.received + 1) log) logged) in
          let new : HaveNewRevisions (opening ∷ []) (front_log ++ pending_after e c) = new_shorter (opening ∷ []) (front_log ++ pending_after e c) (all_commits log (with_received e c)) (main_among h st log (with_received e c) next) next.new in
          goes_longer T (opening_document h) A front_log (pending_after e c) (subst (IsSublist A) (sym now) (front_sublist A (N ∷ []))) (subst (λ l. Agree T (A ++ l)) same shown) longer next.shown_fit new

      by : (N : Intent) → commit_of e ≡ Some N → (b : Bool) → (e.session == c.session) ≡ b → Agree T (front_log ++ pending_after e c)
      by N is true b = own N is b
      by N is false b = other N is b

      go : (o : Option Intent) → commit_of e ≡ o → Agree T (front_log ++ pending_after e c)
      go (Some N) is = by N is (e.session == c.session) refl
      go None is =
          let now : front_log ≡ A = received_more h st log c e at ∙ ap (λ l. A ++ l) (no_commit e is) ∙ append-nil A in
          let same : c.pending ≡ pending_after e c = sym (rw is refl) in
          subst (Agree T) (ap (λ l. l ++ c.pending) (sym now) ∙ ap (λ l. front_log ++ l) same) shown

  pub delivered_keeps : (log : List Entry) (cs : List Client) (i : ℕ) (c c' : Client) (D : Document) (a : Answer) → AllByRecursion (IsClient h log) cs → IsClient h log c' → slice_get cs i ≡ Some c → c.transaction ≡ None
      → IsDeliveredTo D c (slice_get log c.received) c' a → KeepToSchemas h K log cs → KeepToSchemas h K log (slice_set cs i c')
  delivered_keeps log cs i c c' D a are next at none is w = go (slice_get log c.received) refl is
    where
      go : (o : Option Entry) → slice_get log c.received ≡ o → IsDeliveredTo D c o c' a → KeepToSchemas h K log (slice_set cs i c')
      go None e d = same_keeps log cs i c c' at (sym d.0) w
      go (Some x) e d =
          let now = taken_shows w.told log c x (all_get (IsClient h log) cs i c are at) (subst (IsClient h log) d.2 next) e w.keep.logged (all_get (Shown w.told log) cs i c w.keep.shown at) in
          one_keeps w.told log cs i c' w.keep (subst (Shown w.told log) (sym d.2) now) (nothing_edited w.told log (main_line c') (ap joined_of d.2 ∙ ap (option_and_then (λ (t : Transaction). t.joined)) none))
          (subst (Branches w.told log) (sym d.2) (all_get (Branches w.told log) cs i c w.keep.branches at))

  -- ## The log grows

  entered_shows : (T : Told) (log : List Entry) (session : ℕ) (body : Body) (l : Line) → l.received ≤ length log → CommitsKeepSchemas h K T log l → CommitsKeepSchemas h K T (log_with log session body) l
  entered_shows T log session body l within shown = subst (λ (es : List Entry). Agree T (commits_in es ++ (l.base ++ l.own))) (sym (entered_front log session body l.received within)) shown

  -- what is edited stands on the same document
  entered_edits : (T : Told) (log : List Entry) (session : ℕ) (body : Body) (l : Line) → l.received ≤ length log → EditsKeepSchemas h T log l → EditsKeepSchemas h T (log_with log session body) l
  entered_edits T log session body l within edited D main = edited D (subst (λ (es : List Entry). Run (opening_document h) (commits_in es ++ (l.base ++ l.own)) D) (entered_front log session body l.received within) main)

  all_edits_entered : (T : Told) (log : List Entry) (session : ℕ) (body : Body) (cs : List Client) → AllByRecursion (IsClient h log) cs → AllByRecursion (Edited T log) cs → AllByRecursion (Edited T (log_with log session body)) cs
  all_edits_entered T log session body [] are edited = tt
  all_edits_entered T log session body (c ∷ cs) are edited = (entered_edits T log session body (main_line c) are.0.within edited.0, all_edits_entered T log session body cs are.1 edited.1)

  all_entered : (T : Told) (log : List Entry) (session : ℕ) (body : Body) (cs : List Client) → AllByRecursion (IsClient h log) cs → AllByRecursion (Shown T log) cs → AllByRecursion (Shown T (log_with log session body)) cs
  all_entered T log session body [] are shown = tt
  all_entered T log session body (c ∷ cs) are shown = (entered_shows T log session body (main_line c) are.0.within shown.0, all_entered T log session body cs are.1 shown.1)

  -- and so do branches
  branches_entered : (T : Told) (log : List Entry) (session : ℕ) (body : Body) (c : Client) (bs : List Branch) → AllByRecursion (IsBranch h log c) bs → AllByRecursion (BranchKeeps T log) bs → AllByRecursion (BranchKeeps T (log_with log session body)) bs
  branches_entered T log session body c [] are keep = tt
  branches_entered T log session body c (b ∷ bs) are keep = (
    (entered_shows T log session body (branch_line b) are.0.within keep.0.0, entered_edits T log session body (branch_line b) are.0.within keep.0.1),
    branches_entered T log session body c bs are.1 keep.1,
  )

  all_branches_entered : (T : Told) (log : List Entry) (session : ℕ) (body : Body) (cs : List Client) → AllByRecursion (IsClient h log) cs → AllByRecursion (Branches T log) cs → AllByRecursion (Branches T (log_with log session body)) cs
  all_branches_entered T log session body [] are keep = tt
  all_branches_entered T log session body (c ∷ cs) are keep = (branches_entered T log session body c c.branches are.0.branches.each keep.0, all_branches_entered T log session body cs are.1 keep.1)

  -- the oldest text of a client comes after the commits of the log
  last_agrees : (T : Told) (log : List Entry) (c : Client) (text : Body) (rest : List Body) → IsClient h log c → c.queue ≡ text ∷ rest → FitInTurn (opening_document h) (commits_in log ++ commits_of_text text)
      → HaveNewRevisions (opening ∷ []) (commits_in log ++ commits_of_text text) → Agree T (commits_in log) → Shown T log c → Agree T (commits_in log ++ commits_of_text text)
  last_agrees T log c text rest k is last_fit last_new logged shown =
      let A = received_by log c in
      let B = commits_by c.session (drop c.received log) in
      let X = commits_of_text text in
      let R = intents_of rest in
      let first : waiting log c ≡ X ++ R = (queue_first (waiting log c) c.connected c.queue rest text k.queued is).1 in
      let all : A ++ c.pending ≡ ((A ++ B) ++ X) ++ R =
      ap (λ l. A ++ l) (k.under_way ∙ ap (λ l. B ++ l) first) ∙ sym (append_assoc A B (X ++ R)) ∙ sym (append_assoc (A ++ B) X R) in
      let among : IsSublist (A ++ B) (commits_in log) = subst (IsSublist (A ++ B)) (sym (commits_split c.received log)) (sublist_joined (sublist_itself A) (by_sublist c.session (drop c.received log))) in
      goes_longer T (opening_document h) (A ++ B) (commits_in log) X among (goes_front T (opening_document h) ((A ++ B) ++ X) R (subst (Agree T) all shown)) logged last_fit last_new

  pub sent_keeps : (log : List Entry) (cs : List Client) (i : ℕ) (c c' : Client) (text : Body) → AllByRecursion (IsClient h log) cs → slice_get cs i ≡ Some c → c.queue ≡ text ∷ c'.queue → c' ≡ record c { queue = c'.queue }
      → FitInTurn (opening_document h) (commits_in log ++ commits_of_text text) → HaveNewRevisions (opening ∷ []) (commits_in log ++ commits_of_text text)
      → KeepToSchemas h K log cs → KeepToSchemas h K (log_with log c.session text) (slice_set cs i c')
  sent_keeps log cs i c c' text are at is is_c last_fit last_new w =
      let k = all_get (IsClient h log) cs i c are at in
      let mine = all_get (Shown w.told log) cs i c w.keep.shown at in record {
        told = w.told;
        keep = record {
          opened = w.keep.opened;
          logged = subst (Agree w.told) (sym (entered_commits log c.session text)) (last_agrees w.told log c text c'.queue k is last_fit last_new w.keep.logged mine);
          shown = all_set (Shown w.told (log_with log c.session text)) cs i c' (all_entered w.told log c.session text cs are w.keep.shown)
              (subst (Shown w.told (log_with log c.session text)) (sym is_c) (entered_shows w.told log c.session text (main_line c) k.within mine));
          edited = all_set (Edited w.told (log_with log c.session text)) cs i c' (all_edits_entered w.told log c.session text cs are w.keep.edited)
              (subst (Edited w.told (log_with log c.session text)) (sym is_c) (entered_edits w.told log c.session text (main_line c) k.within (all_get (Edited w.told log) cs i c w.keep.edited at)));
          branches = all_set (Branches w.told (log_with log c.session text)) cs i c' (all_branches_entered w.told log c.session text cs are w.keep.branches)
              (subst (Branches w.told (log_with log c.session text)) (sym is_c) (branches_entered w.told log c.session text c c.branches k.branches.each (all_get (Branches w.told log) cs i c w.keep.branches at)));
        };
      }

  pub joined_keeps : (log : List Entry) (cs : List Client) (session uuid : ℕ) (name : List ℕ) (c : Client) → AllByRecursion (IsClient h log) cs → c ≡ new_client (length log + 1) session uuid name
      → KeepToSchemas h K log cs → KeepToSchemas h K (log_with log session (Join uuid)) (cs ++ c ∷ [])
  joined_keeps log cs session uuid name c are is_c w =
      let longer = log_with log session (Join uuid) in
      let size : length longer ≡ length log + 1 = omega (arith, length-append log (last_entry log session (Join uuid) ∷ [])) in
      let commits : commits_in log ≡ commits_in longer = sym (entered_commits log session (Join uuid) ∙ append-nil (commits_in log)) in
      let whole : take (length log + 1) longer ≡ longer = take_all (length log + 1) longer (omega (arith, size)) in
      let all : commits_in log ≡ commits_in (take (length log + 1) longer) ++ [] = commits ∙ ap commits_in (sym whole) ∙ sym (append-nil (commits_in (take (length log + 1) longer))) in record {
        told = w.told;
        keep = record {
          opened = w.keep.opened;
          logged = subst (Agree w.told) commits w.keep.logged;
          shown = AllByRecursion-append (Shown w.told longer) cs (c ∷ []) (all_entered w.told log session (Join uuid) cs are w.keep.shown) (subst (Shown w.told longer) (sym is_c) (subst (Agree w.told) all w.keep.logged), tt);
          edited = AllByRecursion-append (Edited w.told longer) cs (c ∷ []) (all_edits_entered w.told log session (Join uuid) cs are w.keep.edited) (nothing_edited w.told longer (main_line c) (ap joined_of is_c), tt);
          branches = AllByRecursion-append (Branches w.told longer) cs (c ∷ []) (all_branches_entered w.told log session (Join uuid) cs are w.keep.branches) (subst (Branches w.told longer) (sym is_c) tt, tt);
        };
      }

  -- ## Sessions come and go

  -- an entry without a commit leaves what agreed
  entered_logged : (T : Told) (log : List Entry) (session : ℕ) (body : Body) → commit_in body ≡ None → Agree T (commits_in log) → Agree T (commits_in (log_with log session body))
  entered_logged T log session body none a =
      subst (Agree T) (sym (entered_commits log session body ∙ ap (λ o. commits_in log ++ cons_option o []) none ∙ append-nil (commits_in log))) a

  pub left_keeps : (log : List Entry) (cs : List Client) (i session : ℕ) → AllByRecursion (IsClient h log) cs → KeepToSchemas h K log cs → KeepToSchemas h K (log_with log session Leave) (remove cs i)
  left_keeps log cs i session are w = record {
    told = w.told;
    keep = record {
      opened = w.keep.opened;
      logged = entered_logged w.told log session Leave refl w.keep.logged;
      shown = all_rest (Shown w.told (log_with log session Leave)) cs i (all_entered w.told log session Leave cs are w.keep.shown);
      edited = all_rest (Edited w.told (log_with log session Leave)) cs i (all_edits_entered w.told log session Leave cs are w.keep.edited);
      branches = all_rest (Branches w.told (log_with log session Leave)) cs i (all_branches_entered w.told log session Leave cs are w.keep.branches);
    };
  }

  pub dropped_keeps : (log : List Entry) (cs : List Client) (i : ℕ) (c : Client) → AllByRecursion (IsClient h log) cs → slice_get cs i ≡ Some c → KeepToSchemas h K log cs → KeepToSchemas h K (log_with log c.session Leave) (slice_set cs i (without_connection c))
  dropped_keeps log cs i c are at w =
      let k = all_get (IsClient h log) cs i c are at in
      let longer = log_with log c.session Leave in record {
        told = w.told;
        keep = record {
          opened = w.keep.opened;
          logged = entered_logged w.told log c.session Leave refl w.keep.logged;
          shown = all_set (Shown w.told longer) cs i (without_connection c) (all_entered w.told log c.session Leave cs are w.keep.shown) (entered_shows w.told log c.session Leave (main_line c) k.within (all_get (Shown w.told log) cs i c w.keep.shown at));
          edited = all_set (Edited w.told longer) cs i (without_connection c) (all_edits_entered w.told log c.session Leave cs are w.keep.edited)
              (entered_edits w.told log c.session Leave (main_line c) k.within (all_get (Edited w.told log) cs i c w.keep.edited at));
          branches = all_set (Branches w.told longer) cs i (without_connection c) (all_branches_entered w.told log c.session Leave cs are w.keep.branches)
              (branches_entered w.told log c.session Leave c c.branches k.branches.each (all_get (Branches w.told log) cs i c w.keep.branches at));
        };
      }

  -- what waits agrees after the whole log
  waiting_agrees : (T : Told) (log : List Entry) (c : Client) → IsClient h log c → Agree T (commits_in log) → Shown T log c → Agree T (log_and_waiting log c)
  waiting_agrees T log c k logged shown =
      let A = received_by log c in
      let B = commits_by c.session (drop c.received log) in
      let W = waiting log c in
      let all : A ++ c.pending ≡ (A ++ B) ++ W = ap (λ l. A ++ l) k.under_way ∙ sym (append_assoc A B W) in
      let among : IsSublist (A ++ B) (commits_in log) = subst (IsSublist (A ++ B)) (sym (commits_split c.received log)) (sublist_joined (sublist_itself A) (by_sublist c.session (drop c.received log))) in
      goes_longer T (opening_document h) (A ++ B) (commits_in log) W among (subst (Agree T) all shown) logged k.sent_fit (new_shorter (opening ∷ []) (log_and_waiting log c) (all_commits log c) (front_sublist (log_and_waiting log c) (own_of c.branches)) k.new)

  pub returned_keeps : (log : List Entry) (cs : List Client) (i : ℕ) (c : Client) → AllByRecursion (IsClient h log) cs → slice_get cs i ≡ Some c → c.transaction ≡ None → KeepToSchemas h K log cs → KeepToSchemas h K (log_with log c.session (Join c.uuid)) (slice_set cs i (with_connection log c))
  returned_keeps log cs i c are at none w =
      let k = all_get (IsClient h log) cs i c are at in
      let longer = log_with log c.session (Join c.uuid) in
      let d : Client = with_connection log c in
      let size : length longer ≡ length log + 1 = omega (arith, length-append log (last_entry log c.session (Join c.uuid) ∷ [])) in
      let commits : commits_in log ≡ commits_in longer = sym (entered_commits log c.session (Join c.uuid) ∙ append-nil (commits_in log)) in
      let whole : take (length log + 1) longer ≡ longer = take_all (length log + 1) longer (omega (arith, size)) in
      let all : log_and_waiting log c ≡ commits_in (take (length log + 1) longer) ++ waiting log c = ap (λ l. l ++ waiting log c) (commits ∙ ap commits_in (sym whole)) in record {
        told = w.told;
        keep = record {
          opened = w.keep.opened;
          logged = entered_logged w.told log c.session (Join c.uuid) refl w.keep.logged;
          shown = all_set (Shown w.told longer) cs i d (all_entered w.told log c.session (Join c.uuid) cs are w.keep.shown) (subst (Agree w.told) all (waiting_agrees w.told log c k w.keep.logged (all_get (Shown w.told log) cs i c w.keep.shown at)));
          edited = all_set (Edited w.told longer) cs i d (all_edits_entered w.told log c.session (Join c.uuid) cs are w.keep.edited) (nothing_edited w.told longer (main_line d) (ap (option_and_then (λ (t : Transaction). t.joined)) none));
          branches = all_set (Branches w.told longer) cs i d (all_branches_entered w.told log c.session (Join c.uuid) cs are w.keep.branches)
              (branches_entered w.told log c.session (Join c.uuid) c c.branches k.branches.each (all_get (Branches w.told log) cs i c w.keep.branches at));
        };
      }

  -- ## More is told

  -- of a revision of a client's session that no commit has
  module _ (log : List Entry) (c : Client) (r : Rev) (k : IsClient h log c) (few : names_in (commits_in log) ≤ 131072) (session : r.session ≡ c.session) (fresh : Has (revisions (all_commits log c) ++ opening ∷ []) r → ⊥)
      (L : Rev → List ℕ → Type 0) (T told : Told) (anew : GoesAnew (opening_document h) K L T told r) where
    -- what a client shows then keeps to its schemas, and what its branches have
    abbrev ShownThen : Client → Type 0
    ShownThen d = CommitsKeepSchemas h L told log (main_line d)

    abbrev BranchesThen : Client → Type 0
    BranchesThen d = BranchesKeepSchemas h L told log d

    abbrev BranchThen : Branch → Type 0
    BranchThen b = CommitsKeepSchemas h L told log (branch_line b) × EditsKeepSchemas h told log (branch_line b)

    -- no commit that there is for the client has its revision, nor has the opening
    not_opening : Has (opening ∷ []) r → ⊥
    not_opening i = fresh (append_right (revisions (all_commits log c)) (opening ∷ []) r i)

    pub not_made : (M : Intent) → Has (all_commits log c) M → M.rev ≡ r → ⊥
    not_made M i e = fresh (append_left (revisions (all_commits log c)) (opening ∷ []) r (subst (Has (revisions (all_commits log c))) e (map-has (λ (X : Intent). X.rev) (all_commits log c) M i)))

    not_among : (Ns : List Intent) → ((M : Intent) → Has Ns M → M.rev ≡ r → ⊥) → Has (revisions Ns ++ opening ∷ []) r → ⊥
    not_among Ns none i = elim (has-append (revisions Ns) (opening ∷ []) r i) [
      | inl j ↦ (let m = has-map (λ (X : Intent). X.rev) Ns r j in none m.0 m.1 m.2)
      | inr j ↦ not_opening j
    ]

    not_entered : (M : Intent) → Has (commits_in log) M → M.rev ≡ r → ⊥
    not_entered M i e = not_made M (append_left (log_and_waiting log c) (own_of c.branches) M (append_left (commits_in log) (waiting log c) M i)) e

    -- nor has one that there is for another client
    not_by : (d : Client) → IsClient h log d → (c.session == d.session) ≡ false → (M : Intent) → Has (all_commits log d) M → M.rev ≡ r → ⊥
    not_by d l apart M i e = go (has-append (log_and_waiting log d) (own_of d.branches) M i)
      where
        differ : M.rev.session ≡ d.session → ⊥
        differ s = let same : c.session ≡ d.session = sym session ∙ ap (λ (r : Rev). r.session) (sym e) ∙ s in grind (arith, nat_tests)

        sent : Has (commits_in log) M ⊎ Has (waiting log d) M → ⊥
        sent (inl j) = not_entered M j e
        sent (inr j) = differ (all-has (λ (X : Intent). X.rev.session ≡ d.session) (waiting log d) M l.own j)

        go : Has (log_and_waiting log d) M ⊎ Has (own_of d.branches) M → ⊥
        go (inl j) = sent (has-append (commits_in log) (waiting log d) M j)
        go (inr j) = differ (all-has (λ (X : Intent). X.rev.session ≡ d.session) (own_of d.branches) M l.branches.own j)

    -- so it is new to a line that is among those commits
    not_on : (d : Client) → ((M : Intent) → Has (all_commits log d) M → M.rev ≡ r → ⊥) → (l : Line) → IsSublist (commits_of log l) (all_commits log d) → Has (revisions (commits_of log l) ++ opening ∷ []) r → ⊥
    not_on d none l among = not_among (commits_of log l) (λ M i e. none M (has_longer among M i) e)

    keeps : (Ns : List Intent) → (Has (revisions Ns ++ opening ∷ []) r → ⊥) → Agree T Ns → KeepsLine L told (opening_document h) Ns
    keeps Ns new a = goes_told K L T told (opening_document h) r Ns anew new a

    -- the commits of the log agree as before
    pub logged_told : Agree T (commits_in log) → KeepsLine L told (opening_document h) (commits_in log)
    logged_told a = keeps (commits_in log) (not_among (commits_in log) not_entered) a

    -- what is edited on a line to which the revision is new, in a transaction of another revision, does too
    edits_told : (d : Client) (l : Line) → (Has (revisions (commits_of log l) ++ opening ∷ []) r → ⊥) → ((t : Transaction) → l.transaction ≡ Some t → IsTransaction h log l d t → r ≡ t.rev → ⊥)
        → ((t : Transaction) (J : Intent) (i : IsTransaction h log l d t) → l.transaction ≡ Some t → t.joined ≡ Some J → FitInTurn i.before (J ∷ [])) → IfSome l.transaction (IsTransaction h log l d)
        → CommitsKeepSchemas h K T log l → EditsKeepSchemas h T log l → EditsKeepSchemas h told log l
    edits_told d l new apart fits opened agree edited D main = go l.transaction refl opened (edited D main)
      where
        J_told : (t : Transaction) (J : Intent) → l.transaction ≡ Some t → t.joined ≡ Some J → IsTransaction h log l d t → AgreesInLine T D J → AgreesInLine told D J
        J_told t J is joined i a =
            let same : i.before ≡ D = one_run i.main main in
            let so : FitsSoFar i.before t.rev t.under (Some J) = subst (FitsSoFar i.before t.rev t.under) joined i.so_far in
            let under : J.under ≡ last_in_effect D = so.2 ∙ i.under ∙ ap last_in_effect same in
            anew.told.edits (commits_of log l) D J agree.line main (subst (λ F. FitInTurn F (J ∷ [])) same (fits t J i is joined)) under new (λ e. apart t is i (sym e ∙ so.1)) a

        by : (t : Transaction) (o : Option Intent) → l.transaction ≡ Some t → t.joined ≡ o → IsTransaction h log l d t → IfSome o (AgreesInLine T D) → IfSome o (AgreesInLine told D)
        by t None is joined i a = tt
        by t (Some J) is joined i a = J_told t J is joined i a

        go : (o : Option Transaction) → l.transaction ≡ o → IfSome o (IsTransaction h log l d) → IfSome (option_and_then (λ (t : Transaction). t.joined) o) (AgreesInLine T D) → IfSome (option_and_then (λ (t : Transaction). t.joined) o) (AgreesInLine told D)
        go None is i a = tt
        go (Some t) is i a = by t t.joined is refl i a

    -- a client to whose commits the revision is new
    module _ (d : Client) (l : IsClient h log d) (none : (M : Intent) → Has (all_commits log d) M → M.rev ≡ r → ⊥) where
      pub main_told : Shown T log d → ShownThen d
      main_told shown = keeps (commits_of log (main_line d)) (not_on d none (main_line d) (main_among h st log d l)) shown

      pub main_edits_told : ((t : Transaction) → d.transaction ≡ Some t → IsTransaction h log (main_line d) d t → r ≡ t.rev → ⊥) → Shown T log d → Edited T log d → Edited told log d
      main_edits_told apart shown edited =
          edits_told d (main_line d) (not_on d none (main_line d) (main_among h st log d l)) apart (λ t J i is joined. edited_fits h st log d t J l is few i joined) l.transaction shown edited

      pub branch_told : (b : Branch) → Has d.branches b → CommitsKeepSchemas h K T log (branch_line b) → CommitsKeepSchemas h L told log (branch_line b)
      branch_told b i agree =
          keeps (commits_of log (branch_line b)) (not_on d none (branch_line b) (branch_among h st log d l b i)) agree

      pub branch_keeps_told : (b : Branch) → Has d.branches b → ((t : Transaction) → b.transaction ≡ Some t → IsTransaction h log (branch_line b) d t → r ≡ t.rev → ⊥) → BranchKeeps T log b → BranchThen b
      branch_keeps_told b i apart keep =
          let x = branch_is h st log d l b i in (
            branch_told b i keep.0,
            edits_told d (branch_line b) (not_on d none (branch_line b) (branch_among h st log d l b i)) apart (λ t J y is joined. branch_edits_fit h st log d b t J l i is few y joined) x.transaction keep.0 keep.1,
          )

      pub branches_told : ((b : Branch) (t : Transaction) → Has d.branches b → b.transaction ≡ Some t → IsTransaction h log (branch_line b) d t → r ≡ t.rev → ⊥) → Branches T log d → BranchesThen d
      branches_told apart keep = has-all BranchThen d.branches (λ b i. branch_keeps_told b i (λ t is x. apart b t i is x) (all-has (BranchKeeps T log) d.branches b keep i))

    -- another client
    module _ (d : Client) (l : IsClient h log d) (apart : (c.session == d.session) ≡ false) where
      other_rev : (m : Line) (t : Transaction) → IsTransaction h log m d t → r ≡ t.rev → ⊥
      other_rev m t x e = let same : c.session ≡ d.session = sym session ∙ ap (λ (r : Rev). r.session) e ∙ x.session in grind (arith, nat_tests)

      other_told : Shown T log d → ShownThen d
      other_told shown = main_told d l (not_by d l apart) shown

      other_edits_told : Shown T log d × Edited T log d → Edited told log d
      other_edits_told both = main_edits_told d l (not_by d l apart) (λ t is x. other_rev (main_line d) t x) both.0 both.1

      other_branches_told : Branches T log d → BranchesThen d
      other_branches_told keep = branches_told d l (not_by d l apart) (λ b t i is x. other_rev (branch_line b) t x) keep

    -- what holds of all clients by the homes of before holds of all by those that are told, and of the one that goes on
    module _ (P Q : Client → Type 0) (other : (d : Client) → IsClient h log d → (c.session == d.session) ≡ false → P d → Q d) where
      later : (cs : List Client) → AllByRecursion (λ (x : Client). x.session ≢ c.session) cs → AllByRecursion (IsClient h log) cs → AllByRecursion P cs → AllByRecursion Q cs
      later [] apart are all = tt
      later (d ∷ cs) apart are all = (other d are.0 (are_apart c.session d.session apart.0) all.0, later cs apart.1 are.1 all.1)

      all_told : (c' : Client) (cs : List Client) (i : ℕ) → HaveOwnSessions cs → slice_get cs i ≡ Some c → AllByRecursion (IsClient h log) cs → AllByRecursion P cs → Q c' → AllByRecursion Q (slice_set cs i c')
      all_told c' [] i s at are all own = tt
      all_told c' (d ∷ cs) zero s at are all own =
          let same : d ≡ c = cc in
          (own, later cs (subst (λ (x : Client). AllByRecursion (λ (y : Client). y.session ≢ x.session) cs) same s.0) are.1 all.1)
      all_told c' (d ∷ cs) (suc i) s at are all own = (other d are.0 (others_apart cs d c s.0 (at_has cs i c at)) all.0, all_told c' cs i s.1 at are.1 all.1 own)

    -- the client is now so: what its lines have and what is edited on them agrees with the homes that are told
    pub told_keeps : (cs : List Client) (i : ℕ) (c' : Client) → HaveOwnSessions cs → AllByRecursion (IsClient h log) cs → slice_get cs i ≡ Some c → KeepSchemasAsTold h K log cs T → ShownThen c' → Edited told log c' → BranchesThen c' → KeepToSchemas h L log (slice_set cs i c')
    told_keeps cs i c' sessions are at w shown edited branches = record {
      told = told;
      keep = record {
        opened = anew.known opening (compact_text (schema_data h.schema)) (λ e. not_opening (inl e)) w.opened;
        logged = logged_told w.logged;
        shown = all_told (Shown T log) ShownThen other_told c' cs i sessions at are w.shown shown;
        edited = all_told (λ (d : Client). Shown T log d × Edited T log d) (Edited told log) other_edits_told c' cs i sessions at are (all_both (Shown T log) (Edited T log) cs w.shown w.edited) edited;
        branches = all_told (Branches T log) BranchesThen other_branches_told c' cs i sessions at are w.branches branches;
      };
    }

  -- ## A commit is pending

  -- where no transaction is open
  pub new_keeps : (log : List Entry) (cs : List Client) (i : ℕ) (c : Client) (D : Document) (word : EditWord) (N : Intent) → HaveOwnSessions cs → AllByRecursion (IsClient h log) cs → names_in (commits_in log) ≤ 131072
      → slice_get cs i ≡ Some c → c.transaction ≡ None → HasMain h log c D → IsMeant D (next_names c None) word N → LineFits h log (main_line (with_new_commit c N)) → KeepToSchemas h K log cs
      → KeepToSchemas h K log (slice_set cs i (with_new_commit c N))
  new_keeps log cs i c D word N sessions are few at none main m fit w =
      let O = opening_document h in
      let k = all_get (IsClient h log) cs i c are at in
      let T = w.told in
      let told = with_home (told_with_commit T N (T.view N.under)) N in
      let anew = same_known O K T told N.rev (new_is_told O T N m.fits.itself) in
      let fresh = next_new h st log c N.rev k m.rev in
      let session : N.rev.session ≡ c.session = ap (λ (r : Rev). r.session) m.rev in
      let own = not_made log c N.rev k few session fresh K T told anew in
      let line = main_told log c N.rev k few session fresh K T told anew c k own (all_get (Shown T log) cs i c w.keep.shown at) in
      let beside = branches_told log c N.rev k few session fresh K T told anew c k own (λ b t j is x. line_next_apart h st log c (branch_line b) t N.rev x m.rev) (all_get (Branches T log) cs i c w.keep.branches at) in
      let here = line_after_conforms told O (commits_of log (main_line c)) line.line D main in
      let new = not_on log c N.rev k few session fresh K T told anew c own (main_line c) (main_among h st log c k) in
      let shown : Shown told log (with_new_commit c N) = agrees_more told log (main_line c) D N line main new fit m.under (m.agrees told here (tells_own T.home N) (told_under T.under N)) (nothing_known K N m.no_schema) (made_as_told told N (tells_own T.home N) m.no_schema) in
      told_keeps log c N.rev k few session fresh K T told anew cs i (with_new_commit c N) sessions are at w.keep shown (nothing_edited told log (main_line (with_new_commit c N)) (ap (option_and_then (λ (t : Transaction). t.joined)) none)) beside

  pub edited_keeps : (log : List Entry) (cs : List Client) (i : ℕ) (c c' : Client) (D : Document) (word : EditWord) (r : Result Intent EditFault) (a : Answer) → HaveOwnSessions cs → AllByRecursion (IsClient h log) cs → names_in (commits_in log) ≤ 131072
      → slice_get cs i ≡ Some c → c.transaction ≡ None → HasMain h log c D → IsMeaning D (next_names c None) word r → after_edit c 0 (main_line c) word r ≡ (c', a) → IsClient h log c' → KeepToSchemas h K log cs → KeepToSchemas h K log (slice_set cs i c')
  edited_keeps log cs i c c' D word (Err f) a sessions are few at none main means is next w = same_keeps log cs i c c' at (ap (λ (p : Client × Answer). p.0) is) w
  edited_keeps log cs i c c' D word (Ok N) a sessions are few at none main means is next w = go (limit_passed c 0 (main_line c) N) is
    where
      go : (o : Option Limit) → with_new_on c 0 word N o ≡ (c', a) → KeepToSchemas h K log (slice_set cs i c')
      go (Some l) is = same_keeps log cs i c c' at (ap (λ (p : Client × Answer). p.0) is) w
      go None is =
          let same : with_new_commit c N ≡ c' = ap (λ (p : Client × Answer). p.0) is in
          subst (λ x. KeepToSchemas h K log (slice_set cs i x)) same (new_keeps log cs i c D word N sessions are few at none main (means N refl) (subst (λ x. LineFits h log (main_line x)) (sym same) next.shown_fit) w)

  -- ## A commit is undone

  -- an intent without new nodes makes none
  makes_none : (B : Intent) (m : NodeId) → B.new ≡ [] → is_new B m ≡ true → ⊥
  makes_none B m none new =
      let e : is_some (option_map (λ (k : NewNode). let t : NodeType = record { ty = k.ty; leaf = k.leaf } in t) (find (λ (k : NewNode). same_node k.node m) [])) ≡ true = subst (λ (l : List NewNode). is_some (option_map (λ (k : NewNode). let t : NodeType = record { ty = k.ty; leaf = k.leaf } in t) (find (λ (k : NewNode). same_node k.node m) l)) ≡ true) none new in
      let f : false ≡ true = e in cc

  -- what undoes a commit of data comes after the list that has it
  undoing_keeps : (T : Told) (list : List Intent) (rev fresh : Rev) (B : Intent) (E : Document) → Agree T list → Run (opening_document h) list E → (u : IsUndoing (opening_document h) list rev fresh B) → u.commit.schema ≡ None
      → (Has (revisions list ++ opening ∷ []) B.rev → ⊥) → FitInTurn (opening_document h) (list ++ B ∷ []) → B.schema ≡ None → Agree (told_with_commit T B (T.view B.under)) (list ++ B ∷ [])
  undoing_keeps T list rev fresh B E agree run u data_only new fit none =
      let O = opening_document h in
      let at = u.is_at in
      let whole : list ≡ at.front ++ u.commit ∷ at.rest = at.list in
      let same : u.after ≡ E = one_run u.now run in
      let on : Run u.before (u.commit ∷ at.rest) E = run_after at.before (subst (λ l. Run O l E) whole run) in
      let anew = same_known O K T (told_with_commit T B (T.view B.under)) B.rev (commit_is_told O T B (T.view B.under)) in
      let before = goes_told K K T (told_with_commit T B (T.view B.under)) O B.rev list anew new agree in
      record {
        line = subst (λ l. IsLine (told_with_commit T B (T.view B.under)) O (l ++ B ∷ [])) (sym whole)
            (undo_goes_on T O u.before E at.front at.rest u.commit B fresh (subst (IsLine T O) whole agree.line) at.before on (subst (λ l. Has (revisions l ++ opening ∷ []) B.rev → ⊥) whole new)
            (subst (λ l. FitInTurn O (l ++ B ∷ [])) whole fit) data_only at.verdict (subst (λ F. IsBack u.before (carried_document Verdict.Sound u.before u.commit) fresh (last_in_effect F) B) same u.back));
        known = AllByRecursion-append (IsKnownBy K) list (B ∷ []) agree.known (nothing_known K B none, tt);
        made = AllByRecursion-append (IsMadeAsTold (told_with_commit T B (T.view B.under))) list (B ∷ []) before.made (made_as_told (told_with_commit T B (T.view B.under)) B (λ m made. absurd (makes_none B m u.back.nothing_new.0 made)) none, tt);
        first = agree.first;
      }

  pub undone_keeps : (log : List Entry) (cs : List Client) (i : ℕ) (c : Client) (rev : Rev) (B : Intent) (E : Document) → HaveOwnSessions cs → AllByRecursion (IsClient h log) cs → names_in (commits_in log) ≤ 131072 → slice_get cs i ≡ Some c → c.transaction ≡ None
      → HasMain h log c E → (u : IsUndoing (opening_document h) (received_by log c ++ c.pending) rev (next_rev c) B) → u.commit.schema ≡ None → B.schema ≡ None → LineFits h log (main_line (with_new_commit c B)) → KeepToSchemas h K log cs
      → KeepToSchemas h K log (slice_set cs i (with_new_commit c B))
  undone_keeps log cs i c rev B E sessions are few at none main u data_only no_schema fit w =
      let k = all_get (IsClient h log) cs i c are at in
      let T = w.told in
      let told = told_with_commit T B (T.view B.under) in
      let anew = same_known (opening_document h) K T told B.rev (commit_is_told (opening_document h) T B (T.view B.under)) in
      let named : B.rev ≡ next_rev c = u.back.rev_and_under.0 in
      let session : B.rev.session ≡ c.session = ap (λ (r : Rev). r.session) named in
      let fresh = next_new h st log c B.rev k named in
      let own = not_made log c B.rev k few session fresh K T told anew in
      let beside = branches_told log c B.rev k few session fresh K T told anew c k own (λ b t j is x. line_next_apart h st log c (branch_line b) t B.rev x named) (all_get (Branches T log) cs i c w.keep.branches at) in
      let new = not_on log c B.rev k few session fresh K T told anew c own (main_line c) (main_among h st log c k) in
      let same = own_more h st log (main_line c) B in
      let shown : Shown told log (with_new_commit c B) = subst (Agree told) same
      (undoing_keeps T (received_by log c ++ c.pending) rev (next_rev c) B E (all_get (Shown T log) cs i c w.keep.shown at) main u data_only new (subst (FitInTurn (opening_document h)) (sym same) fit) no_schema) in
      told_keeps log c B.rev k few session fresh K T told anew cs i (with_new_commit c B) sessions are at w.keep shown (nothing_edited told log (main_line (with_new_commit c B)) (ap (option_and_then (λ (t : Transaction). t.joined)) none)) beside

  -- it tells how much it received
  pub acked_keeps : (log : List Entry) (cs : List Client) (i : ℕ) (c : Client) → slice_get cs i ≡ Some c → KeepToSchemas h K log cs → KeepToSchemas h K log (slice_set cs i (with_ack c))
  acked_keeps log cs i c at w =
      one_keeps w.told log cs i (with_ack c) w.keep (all_get (Shown w.told log) cs i c w.keep.shown at) (all_get (Edited w.told log) cs i c w.keep.edited at) (all_get (Branches w.told log) cs i c w.keep.branches at)

  -- ## A part more of what is edited

  -- what was edited agrees, where the homes of another part's new nodes are told
  so_far_told : (T : Told) (D : Document) (J M : Intent) → Fits D J → Fits (full D J) M → AgreesInLine T D J → AgreesInLine (with_home T M) D J
  so_far_told T D J M so fits a = commit_at_home T M D J (λ m put. old m (put_there D J so m put)) (λ m new. old m (made_there D J m new)) a
    where
      old : (m : NodeId) → IsSome ((full D J).nodes m) → is_new M m ≡ false
      old m known = go (is_new M m) refl
        where
          go : (b : Bool) → is_new M m ≡ b → is_new M m ≡ false
          go false e = e
          go true e = let none : is_some ((full D J).nodes m) ≡ false = ap is_some (fits.fresh_nodes m e) in absurd (true-false known none)

  -- a line's document with what was edited on it conforms
  pub open_conforms : (T : Told) (D : Document) (rev under : Rev) (joined : Option Intent) → IsSoundInForm D → FitsSoFar D rev under joined → under ≡ last_in_effect D → ConformsInEffect T D → IfSome joined (AgreesInLine T D) → ConformsInEffect T (with_open D joined)
  open_conforms T D rev under None sound so last here a = here
  open_conforms T D rev under (Some J) sound so last here a = conforms_edited T D J sound so.0 a here so.3 (last_there D sound J.under (so.2 ∙ last))

  -- one part more, of the transaction's commit
  module _ (O D : Document) (M J' : Intent) (rev under : Rev) (sound : IsSoundInForm D) (last : under ≡ last_in_effect D) (m_rev : M.rev ≡ rev) (m_under : M.under ≡ under) where
    -- what is told then, and what agrees by it
    pub record IsPartTold (T : Told) : Type 0 where
      pub told : Told
      pub anew : IsToldAnew O T told rev
      pub whole : ConformsInEffect told D → AgreesInLine told D J'

    pub part_told : (T : Told) (joined : Option Intent) → FitsSoFar D rev under joined → CanFollow D joined M → IsWithPart joined M J' → IsSoundInForm (with_open D joined) → IfSome joined (AgreesInLine T D)
        → ((U : Told) → ConformsInEffect U (with_open D joined) → TellsHomes U.home M → U.under M.rev ≡ M.under → AgreesInLine U (with_open D joined) M) → IsIntent M → IsPartTold T
    part_told T None so can w after a agrees itself =
        let told = with_home (told_with_commit T M (T.view M.under)) M in
        record {
          told = told;
          anew = subst (IsToldAnew O T told) m_rev (new_is_told O T M itself);
          whole = λ here. subst (AgreesInLine told D) (sym w) (agrees told here (tells_own T.home M) (told_under T.under M));
        }
    part_told T (Some J) so can w after a agrees itself =
        let told = with_home T M in
        let before : AgreesInLine told D J = so_far_told T D J M so.0 can.then_fits a in
        record {
          told = told;
          anew = subst (IsToldAnew O T told) m_rev (homes_are_told O T M itself);
          whole = λ here.
              let there = conforms_edited told D J sound so.0 before here so.3 (last_there D sound J.under (so.2 ∙ last)) in
              let under_told : T.under M.rev ≡ M.under = ap T.under (m_rev ∙ sym so.1) ∙ a.under ∙ so.2 ∙ sym m_under in
              join_agrees told D sound here J M J' after can w before (agrees told there (tells_own T.home M) under_told) (so.2 ∙ last);
        }

  pub parted_keeps : (log : List Entry) (cs : List Client) (i : ℕ) (c : Client) (t : Transaction) (word : EditWord) (M J : Intent) → HaveOwnSessions cs → AllByRecursion (IsClient h log) cs → names_in (commits_in log) ≤ 131072
      → slice_get cs i ≡ Some c → c.transaction ≡ Some t → (x : IsTransaction h log (main_line c) c t) → IsMeant (with_open x.before t.joined) (next_names c (Some t)) word M → IsWithPart t.joined M J
      → KeepToSchemas h K log cs → KeepToSchemas h K log (slice_set cs i (with_transaction c (with_edited t J (length M.new) (cells_given word M))))
  parted_keeps log cs i c t word M J sessions are few at is x m w keeps =
      let O = opening_document h in
      let k = all_get (IsClient h log) cs i c are at in
      let T = keeps.told in
      let D = x.before in
      let sound = shown_sound h st log c D k x.main in
      let before : IfSome t.joined (AgreesInLine T D) = subst (λ o. IfSome (option_and_then (λ (t : Transaction). t.joined) o) (AgreesInLine T D)) is (all_get (Edited T log) cs i c keeps.keep.edited at D x.main) in
      let p = part_told O D M J t.rev t.under sound x.under m.rev (part_under D t.rev t.under t.joined M x.so_far x.under m.under) T t.joined x.so_far (follow h st log (main_line c) c t word M k.shown_fit (edited_room h st log c t k is few) x m) w x.sound before m.agrees m.fits.itself in
      let told = p.told in
      let anew = same_known O K T told t.rev p.anew in
      let own = not_made log c t.rev k few x.session x.new K T told anew in
      let line = main_told log c t.rev k few x.session x.new K T told anew c k own (all_get (Shown T log) cs i c keeps.keep.shown at) in
      let beside = branches_told log c t.rev k few x.session x.new K T told anew c k own (λ b u j opened y e. not_main h st log c b t u k j is opened e) (all_get (Branches T log) cs i c keeps.keep.branches at) in
      let here : ConformsInEffect told D = line_after_conforms told O (commits_of log (main_line c)) line.line D x.main in
      told_keeps log c t.rev k few x.session x.new K T told anew cs i (with_transaction c (with_edited t J (length M.new) (cells_given word M))) sessions are at keeps.keep line
      (λ E main. subst (λ F. AgreesInLine told F J) (one_run x.main main) (p.whole here)) beside

  -- ## Transactions that begin and end

  -- one begins, or what was edited is dropped
  pub ended_keeps : (log : List Entry) (cs : List Client) (i : ℕ) (c c' : Client) → slice_get cs i ≡ Some c → c'.received ≡ c.received → c'.pending ≡ c.pending → c'.branches ≡ c.branches → joined_of c' ≡ None → KeepToSchemas h K log cs → KeepToSchemas h K log (slice_set cs i c')
  ended_keeps log cs i c c' at received pending branches none w =
      one_keeps w.told log cs i c' w.keep
      (subst (Agree w.told) (ap (λ n. commits_in (take n log) ++ c.pending) (sym received) ∙ ap (λ l. received_by log c' ++ l) (sym pending)) (all_get (Shown w.told log) cs i c w.keep.shown at))
      (nothing_edited w.told log (main_line c') none) (subst (AllByRecursion (BranchKeeps w.told log)) (sym branches) (all_get (Branches w.told log) cs i c w.keep.branches at))

  -- what was edited is a commit
  pub committed_keeps : (log : List Entry) (cs : List Client) (i : ℕ) (c : Client) (t : Transaction) (J : Intent) → HaveOwnSessions cs → AllByRecursion (IsClient h log) cs → names_in (commits_in log) ≤ 131072
      → slice_get cs i ≡ Some c → c.transaction ≡ Some t → t.joined ≡ Some J → IsTransaction h log (main_line c) c t
      → LineFits h log (main_line (with_commit (without_transaction c) J)) → KeepToSchemas h K log cs → KeepToSchemas h K log (slice_set cs i (with_commit (without_transaction c) J))
  committed_keeps log cs i c t J sessions are few at is joined x fit w =
      let O = opening_document h in
      let k = all_get (IsClient h log) cs i c are at in
      let T = w.told in
      let told = with_home T J in
      let opened_as : joined_of c ≡ Some J = ap (option_and_then (λ (t : Transaction). t.joined)) is ∙ joined in
      let mine : AgreesInLine T x.before J = subst (λ o. IfSome o (AgreesInLine T x.before)) opened_as (all_get (Edited T log) cs i c w.keep.edited at x.before x.main) in
      let so : FitsSoFar x.before t.rev t.under (Some J) = subst (FitsSoFar x.before t.rev t.under) joined x.so_far in
      let anew = same_known O K T told t.rev (subst (IsToldAnew O T told) so.1 (homes_are_told O T J so.0.itself)) in
      let own = not_made log c t.rev k few x.session x.new K T told anew in
      let line = main_told log c t.rev k few x.session x.new K T told anew c k own (all_get (Shown T log) cs i c w.keep.shown at) in
      let beside = branches_told log c t.rev k few x.session x.new K T told anew c k own (λ b u j opened y e. not_main h st log c b t u k j is opened e) (all_get (Branches T log) cs i c w.keep.branches at) in
      let new = subst (λ r. Has (revisions (commits_of log (main_line c)) ++ opening ∷ []) r → ⊥) (sym so.1) (line_new h st log c k 0 (main_line c) t.rev refl x.new) in
      told_keeps log c t.rev k few x.session x.new K T told anew cs i (with_commit (without_transaction c) J) sessions are at w.keep
      (agrees_more told log (main_line c) x.before J line x.main new fit (so.2 ∙ x.under) (own_homes_agree T x.before J mine) (nothing_known K J so.3) (made_as_told told J (tells_own T.home J) so.3))
      (nothing_edited told log (main_line (with_commit (without_transaction c) J)) refl) beside
