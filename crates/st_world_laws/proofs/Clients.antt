-- What holds of a client's lists after each of its steps, and after those of others.
use Rattle.std.specs.Option.{option_map_or}
use Rattle.st_lists.specs.Lines.{HasHead, Line, all_commits, branch_line, commits_of, main_line, own_of}
use Rattle.st_lists.specs.Names.{names_in, names_in_text, names_made, names_on_all, unsequenced}
use Rattle.st_lists.specs.declared.lists.Branch.{Branch}
use Rattle.st_log_laws.proofs.Shorter.{has_longer, new_shorter, sublist_itself, sublist_joined, sublist_none, sublist_on}
use Rattle.st_marks.specs.Extends.{item_gained, item_kept}
use Rattle.st_world_laws.proofs.Beside.{KeepsFronts, among_same, branches_beside, branches_stay, same_fronts, transactions_beside}
use Rattle.st_world_laws.proofs.Lookup.{IsOpenAt, own_by_places, own_gone, own_same}
use Rattle.st_world_laws.specs.Worlds.{HasMain, IsBranch, IsCarried, IsClient, IsQueue, IsTransaction, LineFits}
use Rattle.std.proofs.Common.{◌≡◌, ◌≢◌, ◌≤◌, ◌<◌, ◌+◌, ◌==◌, ℕ, zero, suc, Bool, true, false, cond, List, [], ◌∷◌, ◌++◌, length, take, drop, Option, Some, None, IfSome, is_some, refl, sym, ap, ◌∙◌, subst, arith, append_assoc, length-append, ◌⊎◌, inl, inr}
use Rattle.std.specs.List.{slice_get, cons_option, AllByRecursion}
use Rattle.std.proofs.lemmas.Bool.Decides.{nat_tests}
use Rattle.std.proofs.lemmas.List.{append-nil, take_all}
use Rattle.std.proofs.lemmas.Option.{slice_get_within}
use Rattle.st_ids.specs.Listing.{Has}
use Rattle.st_ids.specs.declared.names.NodeId.{NodeId}
use Rattle.st_ids.specs.declared.names.Rev.{Rev}
use Rattle.st_tree.specs.Preorder.{cell_named, node_named}
use Rattle.st_marks.specs.declared.intents.Intent.{Intent}
use Rattle.st_marks.specs.Document.{Document, NodeType, IsSoundInForm, owned_cell}
use Rattle.st_ids.specs.Root.{opening}
use Rattle.st_marks.specs.Intent.{Fits}
use Rattle.st_marks.proofs.Members.{all-has, has-all, append_left, append_right, has-append, has-map, map-has, distinct-append, distinct-between}
use Rattle.st_log_laws.specs.Names.{HaveNewRevisions, revisions}
use Rattle.st_log_laws.specs.Turns.{FitInTurn, HasRoom, IsSublist}
use Rattle.st_log_laws.proofs.Turns.{front, then_one, turn_extends, made_in_run}
use Rattle.st_log_laws.proofs.Room.{room_in_run}
use Rattle.st_log_laws.proofs.Beside.{another_later, later_fits, one_fits}
use Rattle.st_script.specs.Header.{HeaderView}
use Rattle.st_clusters.specs.Log.{carried_count}
use Rattle.st_world_laws.proofs.Ranges.{carried_ack, carried_anew, carried_as, carried_beside, carried_commit, carried_new, carried_offline, carried_sent, entered_ranges, same_ranges}
use Rattle.st_lists.specs.Log.{range_in, ranges_in, commit_in, commits_by, commits_of_text, intents_of, is_text, log_and_waiting, own_in_flight, waiting, commit_of, commits_in, log_with}
use Rattle.st_lists.specs.Clients.{HasReceived, carried_of, ids_from, joined_of, queue_with, with_ack, with_commit, with_connection, without_connection, texts_from, new_client, next_rev, received_by}
use Rattle.st_world.specs.World.{opening_document}
use Rattle.st_lists.specs.declared.lists.Body.{Body}
use Rattle.st_lists.specs.declared.lists.Body.TheVariants.{Ack, Join, Leave, Commit}
use Rattle.st_lists.specs.declared.lists.Client.{Client}
use Rattle.st_lists.specs.declared.lists.Entry.{Entry}
use Rattle.st_lists.specs.declared.lists.Transaction.{Transaction}
use Rattle.st_world_laws.proofs.Begun.{IsStart}
use Rattle.st_lists.proofs.Names.{names_append, fewer_names}
use Rattle.st_world_laws.proofs.Counting.{room_left}
use Rattle.st_lists.proofs.Logs.{take-get, commits_append, commits_split, by_sublist, by_own, by_other, by_none, one_commit, no_commit, last_entry, entered_commits, entered_front, entered_rest, by_own_text, text_first, texts_append}
use Rattle.st_lemmas.proofs.Lists.{AllByRecursion-append, drop-slice_get}

-- ## Lists

sublist_of : {As Bs Cs Ds : List Intent} → As ≡ Cs → Bs ≡ Ds → IsSublist As Bs → IsSublist Cs Ds
sublist_of {As} {Bs} {Cs} {Ds} p q g = subst (λ l. IsSublist Cs l) q (subst (λ l. IsSublist l Bs) p g)

-- what holds of all holds of those behind
all_behind : {X : Type 0} (P : X → Type 0) (xs ys : List X) → AllByRecursion P (xs ++ ys) → AllByRecursion P ys
all_behind P [] ys h = h
all_behind P (x ∷ xs) ys h = all_behind P xs ys h.1

-- an intent of a new revision comes last
new_more : (rs : List Rev) (Ns : List Intent) (N : Intent) → HaveNewRevisions rs Ns → (Has (revisions Ns ++ rs) N.rev → ⊥) → HaveNewRevisions rs (Ns ++ N ∷ [])
new_more rs Ns N h fresh = record {
  once = distinct-append (λ (M : Intent). M.rev) Ns (N ∷ []) h.once (tt, tt) (λ M K i j e. last M K i j e);
  new = λ M i. go M (has-append Ns (N ∷ []) M i);
}
  where
    last : (M K : Intent) → Has Ns M → Has (N ∷ []) K → K.rev ≢ M.rev
    last M K i (inl e) same = fresh (append_left (revisions Ns) rs N.rev (subst (Has (revisions Ns)) (sym same ∙ ap (λ (X : Intent). X.rev) (sym e)) (map-has (λ (X : Intent). X.rev) Ns M i)))
    last M K i (inr j) same = absurd j

    go : (M : Intent) → Has Ns M ⊎ Has (N ∷ []) M → Has rs M.rev → ⊥
    go M (inl i) k = h.new M i k
    go M (inr (inl e)) k = fresh (append_right (revisions Ns) rs N.rev (subst (Has rs) (ap (λ (X : Intent). X.rev) (sym e)) k))
    go M (inr (inr j)) k = absurd j

-- an intent of a new revision comes between
pub new_between : (rs : List Rev) (As Bs : List Intent) (N : Intent) → HaveNewRevisions rs (As ++ Bs) → (Has (revisions (As ++ Bs) ++ rs) N.rev → ⊥) → HaveNewRevisions rs (As ++ N ∷ Bs)
new_between rs [] Bs N h fresh = record {
  once = (has-all (λ (M : Intent). M.rev ≢ N.rev) Bs (λ M i e. fresh (append_left (revisions Bs) rs N.rev (subst (Has (revisions Bs)) e (map-has (λ (X : Intent). X.rev) Bs M i)))), h.once);
  new = λ M i k. first M i k;
}
  where
    first : (M : Intent) → Has (N ∷ Bs) M → Has rs M.rev → ⊥
    first M (inl e) k = fresh (append_right (revisions Bs) rs N.rev (subst (Has rs) (ap (λ (X : Intent). X.rev) (sym e)) k))
    first M (inr i) k = h.new M i k
new_between rs (A ∷ As) Bs N h fresh =
    let rest = new_between rs As Bs N (record { once = h.once.1; new = λ M i. h.new M (inr i) }) (λ i. fresh (inr i)) in record {
      once = (has-all (λ (M : Intent). M.rev ≢ A.rev) (As ++ N ∷ Bs) (λ M i. apart M (has-append As (N ∷ Bs) M i)), rest.once);
      new = λ M i. first M i;
    }
  where
    apart : (M : Intent) → Has As M ⊎ Has (N ∷ Bs) M → M.rev ≢ A.rev
    apart M (inl i) e = all-has (λ (M : Intent). M.rev ≢ A.rev) (As ++ Bs) M h.once.0 (append_left As Bs M i) e
    apart M (inr (inl q)) e = fresh (inl (sym (ap (λ (X : Intent). X.rev) q ∙ e)))
    apart M (inr (inr i)) e = all-has (λ (M : Intent). M.rev ≢ A.rev) (As ++ Bs) M h.once.0 (append_right As Bs M i) e

    first : (M : Intent) → Has (A ∷ (As ++ N ∷ Bs)) M → Has rs M.rev → ⊥
    first M (inl e) k = h.new M (inl e) k
    first M (inr i) k = go (has-append As (N ∷ Bs) M i)
      where
        go : Has As M ⊎ Has (N ∷ Bs) M → ⊥
        go (inl j) = h.new M (inr (append_left As Bs M j)) k
        go (inr (inl e)) = fresh (inr (append_right (revisions (As ++ Bs)) rs N.rev (subst (Has rs) (ap (λ (X : Intent). X.rev) (sym e)) k)))
        go (inr (inr j)) = h.new M (inr (append_right As Bs M j)) k

-- what stands in a list with one more between
pub has_between : (As Bs : List Intent) (N M : Intent) → Has (As ++ N ∷ Bs) M → (N ≡ M) ⊎ Has (As ++ Bs) M
has_between As Bs N M i = go (has-append As (N ∷ Bs) M i)
  where
    go : Has As M ⊎ Has (N ∷ Bs) M → (N ≡ M) ⊎ Has (As ++ Bs) M
    go (inl j) = inr (append_left As Bs M j)
    go (inr (inl e)) = inl e
    go (inr (inr j)) = inr (append_right As Bs M j)

pub rev_between : (rs : List Rev) (As Bs : List Intent) (N : Intent) (r : Rev) → Has (revisions (As ++ N ∷ Bs) ++ rs) r → (N.rev ≡ r) ⊎ Has (revisions (As ++ Bs) ++ rs) r
rev_between rs As Bs N r i = go (has-append (revisions (As ++ N ∷ Bs)) rs r i)
  where
    go : Has (revisions (As ++ N ∷ Bs)) r ⊎ Has rs r → (N.rev ≡ r) ⊎ Has (revisions (As ++ Bs) ++ rs) r
    go (inr j) = inr (append_right (revisions (As ++ Bs)) rs r j)
    go (inl j) =
        let m = has-map (λ (X : Intent). X.rev) (As ++ N ∷ Bs) r j in
        by m.0 m.2 (has_between As Bs N m.0 m.1)
      where
        by : (M : Intent) → M.rev ≡ r → (N ≡ M) ⊎ Has (As ++ Bs) M → (N.rev ≡ r) ⊎ Has (revisions (As ++ Bs) ++ rs) r
        by M e (inl q) = inl (ap (λ (X : Intent). X.rev) q ∙ e)
        by M e (inr q) = inr (append_left (revisions (As ++ Bs)) rs r (subst (Has (revisions (As ++ Bs))) e (map-has (λ (X : Intent). X.rev) (As ++ Bs) M q)))

pub none_open : (o : Option Transaction) (P : Transaction → Type 0) → o ≡ None → IfSome o P
none_open o P none = subst (λ x. IfSome x P) (sym none) tt

-- ## What waits

drop_front : {X : Type 0} (xs ys : List X) → drop (length xs) (xs ++ ys) ≡ ys
drop_front [] ys = refl
drop_front (x ∷ xs) ys = drop_front xs ys

drop_whole : (n : ℕ) (xs : List Entry) → length xs ≡ n → drop n xs ≡ []
drop_whole zero [] e = refl
drop_whole (suc n) [] e = refl
drop_whole zero (x ∷ xs) e = absurd (omega (arith, e))
drop_whole (suc n) (x ∷ xs) e = drop_whole n xs (omega (arith, e))

-- what is pending behind the commits in flight waits
pub waits : (log : List Entry) (c : Client) (Ws : List Intent) → c.pending ≡ own_in_flight log c ++ Ws → waiting log c ≡ Ws
waits log c Ws e = ap (drop (length (own_in_flight log c))) e ∙ drop_front (own_in_flight log c) Ws

-- a text more in the queue, of one that is connected
queue_more : (Ws : List Intent) (texts : List Body) (b : Bool) (text : Body) → IsQueue Ws b texts → IsQueue (Ws ++ commits_of_text text) b (cond b (texts ++ text ∷ []) texts)
queue_more Ws texts true text h = texts_append texts (text ∷ []) ∙ ap (λ l. l ++ commits_of_text text) h
queue_more Ws texts false text h = h

texts_more : (texts : List Body) (b : Bool) (text : Body) → is_text text ≡ true → AllByRecursion (λ (q : Body). is_text q ≡ true) texts → AllByRecursion (λ (q : Body). is_text q ≡ true) (cond b (texts ++ text ∷ []) texts)
texts_more texts true text is h = AllByRecursion-append (λ (q : Body). is_text q ≡ true) texts (text ∷ []) h (is, tt)
texts_more texts false text is h = h

-- who has a text in the queue is connected, and its commit waits first
pub queue_first : (Ws : List Intent) (b : Bool) (texts rest : List Body) (text : Body) → IsQueue Ws b texts → texts ≡ text ∷ rest → (b ≡ true) × (Ws ≡ commits_of_text text ++ intents_of rest)
queue_first Ws true texts rest text h is = (refl, sym h ∙ ap intents_of is ∙ text_first text rest)
queue_first Ws false texts rest text h is = let bad : [] ≡ text ∷ rest = sym h ∙ is in absurd (cc)

queue_rest : (Ws : List Intent) (b : Bool) (rest : List Body) → b ≡ true → intents_of rest ≡ Ws → IsQueue Ws b rest
queue_rest Ws b rest on is = subst (λ x. IsQueue Ws x rest) (sym on) is

-- the queue of commits that wait anew
queue_anew : (n s taken ids : ℕ) (Ws : List Intent) → intents_of (texts_from n s taken ids Ws) ≡ Ws
queue_anew n s taken ids [] = refl
queue_anew n s taken ids (N ∷ Ws) = ap (λ l. N ∷ l) (queue_anew n s ids ids Ws)

texts_anew : (n s taken ids : ℕ) (Ws : List Intent) → AllByRecursion (λ (q : Body). is_text q ≡ true) (texts_from n s taken ids Ws)
texts_anew n s taken ids [] = tt
texts_anew n s taken ids (N ∷ Ws) = (refl, texts_anew n s ids ids Ws)

-- a text without a commit carries no ids
pub no_ids : (text : Body) → commit_in text ≡ None → range_in text ≡ None
no_ids (Join uuid) none = refl
no_ids Leave none = refl
no_ids (Ack reference) none = refl
no_ids (Commit reference ids N) none = cc

module _ (h : HeaderView) (st : IsStart (opening_document h)) where
  -- ## What a client has

  -- what it shows is among what the log comes to
  pub shown_among : (log : List Entry) (c : Client) → IsClient h log c → IsSublist (received_by log c ++ c.pending) (log_and_waiting log c)
  shown_among log c k =
      let A = received_by log c in
      let rest = drop c.received log in
      let B = commits_by c.session rest in
      let Q = waiting log c in
      sublist_of (ap (λ l. A ++ l) (sym k.under_way)) (sym (append_assoc A (commits_in rest) Q) ∙ ap (λ l. l ++ Q) (sym (commits_split c.received log)))
      (sublist_joined (sublist_itself A) (sublist_joined (by_sublist c.session rest) (sublist_itself Q)))

  pub pending_few : (log : List Entry) (c : Client) → IsClient h log c → names_in c.pending ≤ 16384
  pending_few log c k = let all : (option_map_or names_made (joined_of c) 0 + names_in c.pending) + names_on_all c.branches ≤ 16384 = k.few_names in omega (arith, all)

  pub waiting_fewer : (log : List Entry) (c : Client) → IsClient h log c → names_in (waiting log c) ≤ names_in c.pending
  waiting_fewer log c k = omega (arith, names_append (own_in_flight log c) (waiting log c), ap names_in k.under_way)

  pub waiting_few : (log : List Entry) (c : Client) → IsClient h log c → names_in (waiting log c) ≤ 16384
  waiting_few log c k = omega (arith, waiting_fewer log c k, pending_few log c k)

  pub sent_few : (log : List Entry) (c : Client) → IsClient h log c → names_in (log_and_waiting log c) ≤ names_in (commits_in log) + 16384
  sent_few log c k = omega (arith, names_append (commits_in log) (waiting log c), waiting_few log c k)

  -- no revision is there twice in what the log comes to
  pub sent_new : (log : List Entry) (c : Client) → IsClient h log c → HaveNewRevisions (opening ∷ []) (log_and_waiting log c)
  sent_new log c k = new_shorter (opening ∷ []) (log_and_waiting log c) (all_commits log c) (sublist_of (append-nil (log_and_waiting log c)) refl (sublist_joined (sublist_itself (log_and_waiting log c)) (sublist_none (own_of c.branches)))) k.new

  -- its next revision is new
  pub next_new : (log : List Entry) (c : Client) (r : Rev) → IsClient h log c → r ≡ next_rev c → Has (revisions (all_commits log c) ++ opening ∷ []) r → ⊥
  next_new log c r k is i = go (has-append (revisions (all_commits log c)) (opening ∷ []) r i)
    where
      go : Has (revisions (all_commits log c)) r ⊎ Has (opening ∷ []) r → ⊥
      go (inl j) =
          let m = has-map (λ (N : Intent). N.rev) (all_commits log c) r j in
          let same : m.0.rev ≡ next_rev c = m.2 ∙ is in
          let low = k.ids m.0 m.1 (ap (λ (q : Rev). q.session) same) in
          let num : m.0.rev.num ≡ c.ids + 1 = ap (λ (q : Rev). q.num) same in
          omega (arith, low, num)
      go (inr (inl e)) = let num : 0 ≡ c.ids + 1 = ap (λ (q : Rev). q.num) (e ∙ is) in omega (arith, num)
      go (inr (inr j)) = j

  -- a revision that is new to all of its commits is new to those that are among them
  pub among_new : (log : List Entry) (c : Client) (r : Rev) (Ns : List Intent) → IsSublist Ns (all_commits log c) → (Has (revisions (all_commits log c) ++ opening ∷ []) r → ⊥) → Has (revisions Ns ++ opening ∷ []) r → ⊥
  among_new log c r Ns among fresh i = go (has-append (revisions Ns) (opening ∷ []) r i)
    where
      go : Has (revisions Ns) r ⊎ Has (opening ∷ []) r → ⊥
      go (inl j) =
          let m = has-map (λ (N : Intent). N.rev) Ns r j in
          fresh (append_left (revisions (all_commits log c)) (opening ∷ []) r (subst (Has (revisions (all_commits log c))) m.2 (map-has (λ (N : Intent). N.rev) (all_commits log c) m.0 (has_longer among m.0 m.1))))
      go (inr j) = fresh (append_right (revisions (all_commits log c)) (opening ∷ []) r j)

  -- so is what it shows
  pub main_among : (log : List Entry) (c : Client) → IsClient h log c → IsSublist (received_by log c ++ c.pending) (all_commits log c)
  main_among log c k = sublist_of (append-nil (received_by log c ++ c.pending)) refl (sublist_joined (shown_among log c k) (sublist_none (own_of c.branches)))

  pub shown_new : (log : List Entry) (c : Client) (r : Rev) → IsClient h log c → (Has (revisions (all_commits log c) ++ opening ∷ []) r → ⊥) → Has (revisions (received_by log c ++ c.pending) ++ opening ∷ []) r → ⊥
  shown_new log c r k fresh = among_new log c r (received_by log c ++ c.pending) (main_among log c k) fresh

  -- the document of a line whose commits fit is sound
  pub head_sound : (log : List Entry) (l : Line) (D : Document) → LineFits h log l → HasHead (opening_document h) log l D → IsSoundInForm D
  head_sound log l D fit r = (turn_extends st.sound fit r).after

  pub shown_sound : (log : List Entry) (c : Client) (D : Document) → IsClient h log c → HasMain h log c D → IsSoundInForm D
  shown_sound log c D k r = head_sound log (main_line c) D k.shown_fit r

  pub received_fit : (log : List Entry) (c : Client) → IsClient h log c → FitInTurn (opening_document h) (received_by log c)
  received_fit log c k = front (received_by log c) c.pending (opening_document h) k.shown_fit

  pub received_sound : (log : List Entry) (c : Client) (D : Document) → IsClient h log c → HasReceived (opening_document h) log c D → IsSoundInForm D
  received_sound log c D k r = (turn_extends st.sound (received_fit log c k) r).after

  -- no node and no cell of a line's document has a revision that is new to the line
  pub unused_nodes : (log : List Entry) (l : Line) (D : Document) (r : Rev) → LineFits h log l → HasHead (opening_document h) log l D → (Has (revisions (commits_of log l) ++ opening ∷ []) r → ⊥) → (j : ℕ) → D.nodes (node_named r j) ≡ None
  unused_nodes log l D r fit head new j = go (D.nodes (node_named r j)) refl
    where
      go : (o : Option NodeType) → D.nodes (node_named r j) ≡ o → D.nodes (node_named r j) ≡ None
      go None e = e
      go (Some t) e = absurd (new ((made_in_run (opening ∷ []) fit head st.made).nodes (node_named r j) (ap is_some e)))

  pub unused_cells : (log : List Entry) (l : Line) (D : Document) (r : Rev) → LineFits h log l → HasHead (opening_document h) log l D → (Has (revisions (commits_of log l) ++ opening ∷ []) r → ⊥) → (j : ℕ) → D.row_of (cell_named r j) ≡ None
  unused_cells log l D r fit head new j = go (D.row_of (cell_named r j)) refl
    where
      go : (o : Option NodeId) → D.row_of (cell_named r j) ≡ o → D.row_of (cell_named r j) ≡ None
      go None e = e
      go (Some n) e =
          let p = ((head_sound log l D fit head).one_row (cell_named r j) n).0 e in
          absurd (new ((made_in_run (opening ∷ []) fit head st.made).cells n (owned_cell (cell_named r j) p.0) p.1))

  -- ## A line has one commit more

  pub own_more : (log : List Entry) (l : Line) (N : Intent) → commits_of log l ++ N ∷ [] ≡ commits_of log (record l { own = l.own ++ N ∷ [] })
  own_more log l N =
      let A = commits_in (take l.received log) in
      append_assoc A (l.base ++ l.own) (N ∷ []) ∙ ap (λ Ns. A ++ Ns) (append_assoc l.base l.own (N ∷ []))

  pub fits_more : (log : List Entry) (l : Line) (D : Document) (N : Intent) → LineFits h log l → HasHead (opening_document h) log l D → FitInTurn D (N ∷ []) → LineFits h log (record l { own = l.own ++ N ∷ [] })
  fits_more log l D N fit head last = subst (FitInTurn (opening_document h)) (own_more log l N) (then_one (commits_of log l) (N ∷ []) fit head last)

  -- ## A commit of its own is pending

  -- the commit waits last, and stands between what the log comes to and the own commits of other branches
  main_waits : (log : List Entry) (c : Client) (N : Intent) → IsClient h log c → waiting log (with_commit c N) ≡ waiting log c ++ N ∷ []
  main_waits log c N k = waits log (with_commit c N) (waiting log c ++ N ∷ []) (ap (λ l. l ++ N ∷ []) k.under_way ∙ append_assoc (own_in_flight log c) (waiting log c) (N ∷ []))

  pub main_between : (log : List Entry) (c : Client) (N : Intent) → IsClient h log c → log_and_waiting log c ++ N ∷ own_of c.branches ≡ all_commits log (with_commit c N)
  main_between log c N k =
      sym (append_assoc (log_and_waiting log c) (N ∷ []) (own_of c.branches)) ∙ ap (λ l. l ++ own_of c.branches) (append_assoc (commits_in log) (waiting log c) (N ∷ []) ∙ ap (λ l. commits_in log ++ l) (sym (main_waits log c N k)))

  -- the main line takes a commit behind its own
  pub main_takes : (log : List Entry) (c : Client) (D : Document) (N : Intent) → IsClient h log c → c.transaction ≡ None → HasMain h log c D → Fits D N → N.rev.session ≡ c.session → N.rev.num ≤ c.ids
      → (Has (revisions (all_commits log c) ++ opening ∷ []) N.rev → ⊥) → ((b : Branch) (t : Transaction) → Has c.branches b → b.transaction ≡ Some t → t.rev ≢ N.rev) → length c.pending < 256
      → unsequenced c + names_made N ≤ 16384 → names_in (commits_in log) ≤ 131072 → IsClient h log (with_commit c N)
  main_takes log c D N k none shown fits session num fresh apart few few_names all =
      let O = opening_document h in
      let A = received_by log c in
      let B = commits_by c.session (drop c.received log) in
      let Q = waiting log c in
      let W = own_of c.branches in
      let L = log_and_waiting log c in
      let now = main_waits log c N k in
      let more : L ++ N ∷ [] ≡ log_and_waiting log (with_commit c N) = append_assoc (commits_in log) Q (N ∷ []) ∙ ap (λ l. commits_in log ++ l) (sym now) in
      let between = main_between log c N k in
      let fresh_sent = among_new log c N.rev L (sublist_of (append-nil L) refl (sublist_joined (sublist_itself L) (sublist_none W))) fresh in
      let sound = shown_sound log c D k shown in
      let one_name : names_in (N ∷ []) ≡ names_made N = omega arith in
      let sum : unsequenced c ≡ (option_map_or names_made (joined_of c) 0 + names_in c.pending) + names_on_all c.branches = refl in
      let pending : names_in c.pending + names_made N ≤ 16384 = omega (arith, sum, few_names) in
      let room_all : HasRoom O (L ++ N ∷ []) = room_left O (L ++ N ∷ []) st (omega (arith, names_append L (N ∷ []), names_append (commits_in log) Q, waiting_fewer log c k, one_name, pending, all)) in
      let room_shown : HasRoom O ((A ++ c.pending) ++ N ∷ []) =
      room_left O ((A ++ c.pending) ++ N ∷ []) st (omega (arith, names_append (A ++ c.pending) (N ∷ []), fewer_names (shown_among log c k), names_append (commits_in log) Q, waiting_fewer log c k, one_name, pending, all)) in
      let last = one_fits D N sound fits (room_in_run (N ∷ []) st.sound k.shown_fit shown room_shown) in
      let few_now : (option_map_or names_made (joined_of c) 0 + names_in (c.pending ++ N ∷ [])) + names_on_all c.branches ≤ 16384 = omega (arith, names_append c.pending (N ∷ []), one_name, sum, few_names) in
      record {
        within = k.within;
        few = omega (arith, length-append c.pending (N ∷ []), few);
        few_names = few_now;
        under_way = ap (λ l. l ++ N ∷ []) k.under_way ∙ append_assoc B Q (N ∷ []) ∙ ap (λ l. B ++ l) (sym now);
        queued = subst (λ l. IsQueue l c.connected (queue_with c (Commit c.received (ids_from c.session c.taken c.ids) N))) (sym now) (queue_more Q c.queue c.connected (Commit c.received (ids_from c.session c.taken c.ids) N) k.queued);
        shown_fit = fits_more log (main_line c) D N k.shown_fit shown last;
        sent_fit = subst (FitInTurn O) more (later_fits (opening ∷ []) O D (A ++ c.pending) L N st.sound st.made (shown_among log c k) k.shown_fit k.sent_fit shown fits fresh_sent room_all);
        new = subst (HaveNewRevisions (opening ∷ [])) between (new_between (opening ∷ []) L W N k.new fresh);
        own = subst (AllByRecursion (λ (M : Intent). M.rev.session ≡ c.session)) (sym now) (AllByRecursion-append (λ (M : Intent). M.rev.session ≡ c.session) Q (N ∷ []) k.own (session, tt));
        texts = texts_more c.queue c.connected (Commit c.received (ids_from c.session c.taken c.ids) N) refl k.texts;
        carried = carried_commit (ranges_in log) c N k.carried;
        ids = λ M i s. lower M (has_between L W N M (subst (λ l. Has l M) (sym between) i)) s;
        transaction = none_open c.transaction _ none;
        branches = branches_beside h log log c (with_commit c N) k.branches (record { branches = refl; forks = refl; session = refl; ids = omega arith; received = omega arith }) (same_fronts log) grown
            (λ b t i e x j. x.new (still t b i e (subst (λ l. Has (revisions l ++ opening ∷ []) t.rev) (sym between) j)))
            (own_same c (with_commit c N) k.branches.transactions k.branches.numbers refl refl);
      }
    where
      lower : (M : Intent) → (N ≡ M) ⊎ Has (all_commits log c) M → M.rev.session ≡ c.session → M.rev.num ≤ c.ids
      lower M (inl e) s = omega (arith, num, ap (λ (X : Intent). X.rev.num) e)
      lower M (inr i) s = k.ids M i s

      grown : IsSublist (commits_of log (main_line c)) (commits_of log (main_line (with_commit c N)))
      grown = sublist_joined (sublist_itself (received_by log c)) (sublist_of (append-nil c.pending) refl (sublist_joined (sublist_itself c.pending) (sublist_none (N ∷ []))))

      still : (t : Transaction) (b : Branch) → Has c.branches b → b.transaction ≡ Some t → Has (revisions (log_and_waiting log c ++ N ∷ own_of c.branches) ++ opening ∷ []) t.rev → Has (revisions (all_commits log c) ++ opening ∷ []) t.rev
      still t b i e j = elim (rev_between (opening ∷ []) (log_and_waiting log c) (own_of c.branches) N t.rev j) [ inl same ↦ absurd (apart b t i e (sym same)) | inr q ↦ q ]

  -- a client with other ids, no fewer, and with no transaction open on the main line
  pub client_free : (log : List Entry) (c : Client) (ids : ℕ) → IsClient h log c → c.ids ≤ ids → IsClient h log (record c { ids = ids; transaction = None })
  client_free log c ids k more =
      let d : Client = record c { ids = ids; transaction = None } in
      let few : (0 + names_in c.pending) + names_on_all c.branches ≤ 16384 = omega (arith, few_names_of c k.few_names) in
      record {
        within = k.within;
        few = k.few;
        few_names = few;
        under_way = k.under_way;
        queued = k.queued;
        shown_fit = k.shown_fit;
        sent_fit = k.sent_fit;
        new = k.new;
        own = k.own;
        texts = k.texts;
        carried = carried_as (ranges_in log) c d refl refl refl refl more k.carried;
        ids = λ N i s. omega (arith, k.ids N i s, more);
        transaction = tt;
        branches = branches_stay h log log c d k.branches (record { branches = refl; forks = refl; session = refl; ids = more; received = omega arith }) (same_fronts log) (sublist_itself (received_by log c ++ c.pending)) refl
            (own_gone c d k.branches.transactions k.branches.numbers refl refl);
      }
    where
      few_names_of : (c : Client) → unsequenced c ≤ 16384 → (option_map_or names_made (joined_of c) 0 + names_in c.pending) + names_on_all c.branches ≤ 16384
      few_names_of c few = few

  -- with no transaction open any more, and with these ids generated
  pub client_committed : (log : List Entry) (c : Client) (ids : ℕ) (D : Document) (N : Intent) → IsClient h log c → HasMain h log c D → Fits D N → N.rev.session ≡ c.session → N.rev.num ≤ ids → c.ids ≤ ids
      → (Has (revisions (all_commits log c) ++ opening ∷ []) N.rev → ⊥) → ((b : Branch) (t : Transaction) → Has c.branches b → b.transaction ≡ Some t → t.rev ≢ N.rev) → length c.pending < 256
      → (names_in c.pending + names_on_all c.branches) + names_made N ≤ 16384 → names_in (commits_in log) ≤ 131072 → IsClient h log (with_commit (record c { ids = ids; transaction = None }) N)
  client_committed log c ids D N k shown fits session num more_ids fresh apart few few_names all =
      let d : Client = record c { ids = ids; transaction = None } in
      let sum : unsequenced d ≡ (0 + names_in c.pending) + names_on_all c.branches = refl in
      main_takes log d D N (client_free log c ids k more_ids) refl shown fits session num fresh apart few (omega (arith, sum, few_names)) all

  -- the next revision is not that of a transaction
  pub next_apart : (log : List Entry) (c : Client) → IsClient h log c → (b : Branch) (t : Transaction) → Has c.branches b → b.transaction ≡ Some t → t.rev ≢ next_rev c
  next_apart log c k b t i e same =
      let x = subst (λ o. IfSome o (IsTransaction h log (branch_line b) c)) e (all-has (IsBranch h log c) c.branches b k.branches.each i).transaction in
      let num : t.rev.num ≡ c.ids + 1 = ap (λ (r : Rev). r.num) same in
      omega (arith, x.num, num)

  -- ## It tells how much it received

  pub client_acked : (log : List Entry) (c : Client) → c.connected ≡ true → IsClient h log c → IsClient h log (with_ack c)
  client_acked log c on k =
      let texts : intents_of (c.queue ++ Ack c.received ∷ []) ≡ intents_of c.queue = texts_append c.queue (Ack c.received ∷ []) ∙ append-nil (intents_of c.queue) in
      record {
        within = k.within;
        few = k.few;
        few_names = k.few_names;
        under_way = k.under_way;
        queued = queue_rest (waiting log c) c.connected (c.queue ++ Ack c.received ∷ []) on (texts ∙ subst (λ b. IsQueue (waiting log c) b c.queue) on k.queued);
        shown_fit = k.shown_fit;
        sent_fit = k.sent_fit;
        new = k.new;
        own = k.own;
        texts = AllByRecursion-append (λ (q : Body). is_text q ≡ true) c.queue (Ack c.received ∷ []) k.texts (refl, tt);
        carried = carried_ack (ranges_in log) c (with_ack c) refl refl refl refl (omega arith) k.carried;
        ids = k.ids;
        transaction = transactions_beside h log log (main_line c) (main_line (with_ack c)) c (with_ack c) c.transaction k.transaction refl (omega arith) refl refl (λ t e i j. i.new j);
        branches = branches_stay h log log c (with_ack c) k.branches (record { branches = refl; forks = refl; session = refl; ids = omega arith; received = omega arith }) (same_fronts log) (sublist_itself (received_by log c ++ c.pending)) refl
            (own_same c (with_ack c) k.branches.transactions k.branches.numbers refl refl);
      }

  -- ## It isn't connected any more

  pub client_offline : (log : List Entry) (c : Client) → IsClient h log c → IsClient h log (without_connection c)
  client_offline log c k = record {
    within = k.within;
    few = k.few;
    few_names = k.few_names;
    under_way = k.under_way;
    queued = refl;
    shown_fit = k.shown_fit;
    sent_fit = k.sent_fit;
    new = k.new;
    own = k.own;
    texts = tt;
    carried = carried_offline (ranges_in log) c k.carried;
    ids = k.ids;
    transaction = transactions_beside h log log (main_line c) (main_line (without_connection c)) c (without_connection c) c.transaction k.transaction refl (omega arith) refl refl (λ t e i j. i.new j);
    branches = branches_stay h log log c (without_connection c) k.branches (record { branches = refl; forks = refl; session = refl; ids = omega arith; received = omega arith }) (same_fronts log) (sublist_itself (received_by log c ++ c.pending)) refl
        (own_same c (without_connection c) k.branches.transactions k.branches.numbers refl refl);
  }

  -- ## An entry is received

  -- the commits received with one more entry
  pub received_more : (log : List Entry) (c : Client) (e : Entry) → slice_get log c.received ≡ Some e → commits_in (take (c.received + 1) log) ≡ received_by log c ++ commits_in (e ∷ [])
  received_more log c e at = ap commits_in (take-get log c.received e at) ∙ commits_append (take c.received log) (e ∷ [])

  -- a commit of its own is the first that is pending
  pub own_first : (log : List Entry) (c : Client) (e : Entry) (N : Intent) → IsClient h log c → slice_get log c.received ≡ Some e → commit_of e ≡ Some N → (e.session == c.session) ≡ true
      → c.pending ≡ N ∷ (commits_by c.session (drop (c.received + 1) log) ++ waiting log c)
  own_first log c e N k at is own =
      k.under_way ∙ ap (λ l. commits_by c.session l ++ waiting log c) (drop-slice_get log c.received e at) ∙ ap (λ l. l ++ waiting log c) (by_own c.session e (drop (c.received + 1) log) N own is)

  pub client_own : (log : List Entry) (c : Client) (e : Entry) (N : Intent) (rest : List Intent) → IsClient h log c → slice_get log c.received ≡ Some e → commit_of e ≡ Some N → (e.session == c.session) ≡ true
      → rest ≡ drop 1 c.pending → c.transaction ≡ None → IsClient h log (record c { received = c.received + 1; pending = rest })
  client_own log c e N rest k at is own rest_is none =
      let first = own_first log c e N k at is own in
      let same : rest ≡ commits_by c.session (drop (c.received + 1) log) ++ waiting log c = rest_is ∙ ap (λ l. drop 1 l) first in
      let d : Client = record c { received = c.received + 1; pending = rest } in
      let still : waiting log c ≡ waiting log d = sym (waits log d (waiting log c) same) in
      let head : c.pending ≡ N ∷ rest = first ∙ ap (λ l. N ∷ l) (sym same) in
      let A = received_by log c in
      let now : commits_in (take (c.received + 1) log) ≡ A ++ N ∷ [] = received_more log c e at ∙ ap (λ l. A ++ l) (one_commit e N is) in
      let all : A ++ c.pending ≡ commits_in (take (c.received + 1) log) ++ rest = ap (λ l. A ++ l) head ∙ sym (append_assoc A (N ∷ []) rest) ∙ ap (λ l. l ++ rest) (sym now) in
      let size : length c.pending ≡ suc (length rest) = ap length head in
      let names : names_in c.pending ≡ names_made N + names_in rest = ap names_in head in
      let before : (option_map_or names_made (joined_of c) 0 + names_in c.pending) + names_on_all c.branches ≤ 16384 = k.few_names in
      let fewer : (option_map_or names_made (joined_of c) 0 + names_in rest) + names_on_all c.branches ≤ 16384 = omega (arith, names, before) in
      record {
        within = omega (arith, slice_get_within log c.received e at);
        few = omega (arith, size, k.few);
        few_names = fewer;
        under_way = same ∙ ap (λ l. commits_by c.session (drop (c.received + 1) log) ++ l) still;
        queued = subst (λ l. IsQueue l c.connected c.queue) still k.queued;
        shown_fit = subst (FitInTurn (opening_document h)) all k.shown_fit;
        sent_fit = subst (λ l. FitInTurn (opening_document h) (commits_in log ++ l)) still k.sent_fit;
        new = subst (λ l. HaveNewRevisions (opening ∷ []) ((commits_in log ++ l) ++ own_of c.branches)) still k.new;
        own = subst (AllByRecursion (λ (M : Intent). M.rev.session ≡ c.session)) still k.own;
        texts = k.texts;
        carried = carried_as (ranges_in log) c d refl refl refl refl (omega arith) k.carried;
        ids = λ M i s. k.ids M (subst (λ l. Has ((commits_in log ++ l) ++ own_of c.branches) M) (sym still) i) s;
        transaction = none_open c.transaction _ none;
        branches = branches_stay h log log c d k.branches (record { branches = refl; forks = refl; session = refl; ids = omega arith; received = omega arith }) (same_fronts log) (among_same all) (ap (λ l. (commits_in log ++ l) ++ own_of c.branches) still)
            (own_same c d k.branches.transactions k.branches.numbers refl refl);
      }

  -- what the log has and what waits, told around an entry
  sent_around : (log : List Entry) (c : Client) (e : Entry) (N : Intent) → slice_get log c.received ≡ Some e → commit_of e ≡ Some N
      → received_by log c ++ N ∷ (commits_in (drop (c.received + 1) log) ++ waiting log c) ≡ log_and_waiting log c
  sent_around log c e N at is =
      let A = received_by log c in
      let C = commits_in (drop (c.received + 1) log) in
      let Q = waiting log c in
      let now : commits_in (take (c.received + 1) log) ≡ A ++ N ∷ [] = received_more log c e at ∙ ap (λ l. A ++ l) (one_commit e N is) in
      sym (append_assoc A (N ∷ []) (C ++ Q)) ∙ sym (append_assoc (A ++ N ∷ []) C Q) ∙ ap (λ l. (l ++ C) ++ Q) (sym now) ∙ ap (λ l. l ++ Q) (sym (commits_split (c.received + 1) log))

  -- what another sent can be carried out before what is pending
  pub other_fit : (log : List Entry) (c : Client) (e : Entry) (N : Intent) → IsClient h log c → slice_get log c.received ≡ Some e → commit_of e ≡ Some N → (e.session == c.session) ≡ false
      → names_in (commits_in log) ≤ 131072 → FitInTurn (opening_document h) (received_by log c ++ N ∷ c.pending)
  other_fit log c e N k at is other all =
      let O = opening_document h in
      let A = received_by log c in
      let rest = drop (c.received + 1) log in
      let C = commits_in rest in
      let Q = waiting log c in
      let pending : commits_by c.session rest ++ Q ≡ c.pending = sym (k.under_way ∙ ap (λ l. commits_by c.session l ++ Q) (drop-slice_get log c.received e at) ∙ ap (λ l. l ++ Q) (by_other c.session e rest other)) in
      let around = sent_around log c e N at is in
      let among : IsSublist (A ++ N ∷ c.pending) (log_and_waiting log c) =
      sublist_of (ap (λ l. A ++ N ∷ l) pending) around (sublist_joined (sublist_itself A) (item_kept refl (sublist_joined (by_sublist c.session rest) (sublist_itself Q)))) in
      let front_fit : FitInTurn O (A ++ N ∷ []) = front (A ++ N ∷ []) (C ++ Q) O (subst (FitInTurn O) (sym around ∙ sym (append_assoc A (N ∷ []) (C ++ Q))) k.sent_fit) in
      another_later (opening ∷ []) O A N c.pending st.sound st.made front_fit k.shown_fit (new_shorter (opening ∷ []) (A ++ N ∷ c.pending) (log_and_waiting log c) among (sent_new log c k))
      (room_left O (A ++ N ∷ c.pending) st (omega (arith, fewer_names among, sent_few log c k, all)))

  pub client_other : (log : List Entry) (c : Client) (e : Entry) (N : Intent) → IsClient h log c → slice_get log c.received ≡ Some e → commit_of e ≡ Some N → (e.session == c.session) ≡ false
      → names_in (commits_in log) ≤ 131072 → c.transaction ≡ None → IsClient h log (record c { received = c.received + 1 })
  client_other log c e N k at is other all none =
      let A = received_by log c in
      let now : commits_in (take (c.received + 1) log) ≡ A ++ N ∷ [] = received_more log c e at ∙ ap (λ l. A ++ l) (one_commit e N is) in
      let same : c.pending ≡ commits_by c.session (drop (c.received + 1) log) ++ waiting log c =
      k.under_way ∙ ap (λ l. commits_by c.session l ++ waiting log c) (drop-slice_get log c.received e at) ∙ ap (λ l. l ++ waiting log c) (by_other c.session e (drop (c.received + 1) log) other) in
      let d : Client = record c { received = c.received + 1 } in
      let still : waiting log c ≡ waiting log d = sym (waits log d (waiting log c) same) in
      record {
        within = omega (arith, slice_get_within log c.received e at);
        few = k.few;
        few_names = k.few_names;
        under_way = same ∙ ap (λ l. commits_by c.session (drop (c.received + 1) log) ++ l) still;
        queued = subst (λ l. IsQueue l c.connected c.queue) still k.queued;
        shown_fit = subst (FitInTurn (opening_document h)) (sym (append_assoc A (N ∷ []) c.pending) ∙ ap (λ l. l ++ c.pending) (sym now)) (other_fit log c e N k at is other all);
        sent_fit = subst (λ l. FitInTurn (opening_document h) (commits_in log ++ l)) still k.sent_fit;
        new = subst (λ l. HaveNewRevisions (opening ∷ []) ((commits_in log ++ l) ++ own_of c.branches)) still k.new;
        own = subst (AllByRecursion (λ (M : Intent). M.rev.session ≡ c.session)) still k.own;
        texts = k.texts;
        carried = carried_as (ranges_in log) c d refl refl refl refl (omega arith) k.carried;
        ids = λ M i s. k.ids M (subst (λ l. Has ((commits_in log ++ l) ++ own_of c.branches) M) (sym still) i) s;
        transaction = none_open c.transaction _ none;
        branches = branches_stay h log log c d k.branches (record { branches = refl; forks = refl; session = refl; ids = omega arith; received = omega arith }) (same_fronts log) (subst (λ Ns. IsSublist (A ++ c.pending) (Ns ++ c.pending)) (sym now) (sublist_of refl (sym (append_assoc A (N ∷ []) c.pending)) (sublist_joined (sublist_itself A) (item_gained (sublist_itself c.pending))))) (ap (λ l. (commits_in log ++ l) ++ own_of c.branches) still)
            (own_same c d k.branches.transactions k.branches.numbers refl refl);
      }

  pub client_none : (log : List Entry) (c : Client) (e : Entry) → IsClient h log c → slice_get log c.received ≡ Some e → commit_of e ≡ None → c.transaction ≡ None → IsClient h log (record c { received = c.received + 1 })
  client_none log c e k at is none =
      let A = received_by log c in
      let now : commits_in (take (c.received + 1) log) ≡ A = received_more log c e at ∙ ap (λ l. A ++ l) (no_commit e is) ∙ append-nil A in
      let same : c.pending ≡ commits_by c.session (drop (c.received + 1) log) ++ waiting log c =
      k.under_way ∙ ap (λ l. commits_by c.session l ++ waiting log c) (drop-slice_get log c.received e at) ∙ ap (λ l. l ++ waiting log c) (by_none c.session e (drop (c.received + 1) log) is) in
      let d : Client = record c { received = c.received + 1 } in
      let still : waiting log c ≡ waiting log d = sym (waits log d (waiting log c) same) in
      record {
        within = omega (arith, slice_get_within log c.received e at);
        few = k.few;
        few_names = k.few_names;
        under_way = same ∙ ap (λ l. commits_by c.session (drop (c.received + 1) log) ++ l) still;
        queued = subst (λ l. IsQueue l c.connected c.queue) still k.queued;
        shown_fit = subst (FitInTurn (opening_document h)) (ap (λ l. l ++ c.pending) (sym now)) k.shown_fit;
        sent_fit = subst (λ l. FitInTurn (opening_document h) (commits_in log ++ l)) still k.sent_fit;
        new = subst (λ l. HaveNewRevisions (opening ∷ []) ((commits_in log ++ l) ++ own_of c.branches)) still k.new;
        own = subst (AllByRecursion (λ (M : Intent). M.rev.session ≡ c.session)) still k.own;
        texts = k.texts;
        carried = carried_as (ranges_in log) c d refl refl refl refl (omega arith) k.carried;
        ids = λ M i s. k.ids M (subst (λ l. Has ((commits_in log ++ l) ++ own_of c.branches) M) (sym still) i) s;
        transaction = none_open c.transaction _ none;
        branches = branches_stay h log log c d k.branches (record { branches = refl; forks = refl; session = refl; ids = omega arith; received = omega arith }) (same_fronts log) (among_same (ap (λ l. l ++ c.pending) (sym now))) (ap (λ l. (commits_in log ++ l) ++ own_of c.branches) still)
            (own_same c d k.branches.transactions k.branches.numbers refl refl);
      }

  -- ## The log grows

  -- its fronts stay
  fronts_with : (log : List Entry) (session : ℕ) (text : Body) → KeepsFronts log (log_with log session text)
  fronts_with log session text = record { longer = omega (arith, length-append log (last_entry log session text ∷ [])); fronts = λ i low. ap commits_in (entered_front log session text i low) }

  -- of one with the same queue and pending commits, after an entry without a commit
  pub client_after_text : (log : List Entry) (session : ℕ) (text : Body) (c : Client) → commit_in text ≡ None → IsClient h log c → IsClient h (log_with log session text) c
  client_after_text log session text c none k =
      let e = last_entry log session text in
      let Q = waiting log c in
      let commits : commits_in (log_with log session text) ≡ commits_in log = entered_commits log session text ∙ ap (λ o. commits_in log ++ cons_option o []) none ∙ append-nil (commits_in log) in
      let by : commits_by c.session (drop c.received (log_with log session text)) ≡ commits_by c.session (drop c.received log) =
      entered_rest log session text c.session c.received k.within ∙ ap (λ l. commits_by c.session (drop c.received log) ++ l) (by_none c.session e [] none) ∙ append-nil (commits_by c.session (drop c.received log)) in
      let still : Q ≡ waiting (log_with log session text) c = ap (λ (l : List Intent). drop (length l) c.pending) (sym by) in
      let all : log_and_waiting log c ≡ log_and_waiting (log_with log session text) c = ap (λ l. l ++ Q) (sym commits) ∙ ap (λ l. commits_in (log_with log session text) ++ l) still in
      let whole : all_commits log c ≡ all_commits (log_with log session text) c = ap (λ l. l ++ own_of c.branches) all in
      record {
        within = omega (arith, k.within, length-append log (e ∷ []));
        few = k.few;
        few_names = k.few_names;
        under_way = k.under_way ∙ ap (λ l. l ++ Q) (sym by) ∙ ap (λ l. own_in_flight (log_with log session text) c ++ l) still;
        queued = subst (λ l. IsQueue l c.connected c.queue) still k.queued;
        shown_fit = subst (FitInTurn (opening_document h)) (ap (λ l. commits_in l ++ c.pending) (sym (entered_front log session text c.received k.within))) k.shown_fit;
        sent_fit = subst (FitInTurn (opening_document h)) all k.sent_fit;
        new = subst (HaveNewRevisions (opening ∷ [])) whole k.new;
        own = subst (AllByRecursion (λ (M : Intent). M.rev.session ≡ c.session)) still k.own;
        texts = k.texts;
        carried = subst (λ rs. IsCarried rs c) (sym (same_ranges log session text (no_ids text none))) k.carried;
        ids = λ N i s. k.ids N (subst (λ l. Has l N) (sym whole) i) s;
        transaction = transactions_beside h log (log_with log session text) (main_line c) (main_line c) c c c.transaction k.transaction refl (omega arith) refl (ap (λ (es : List Entry). commits_in es ++ c.pending) (entered_front log session text c.received k.within))
            (λ t e i j. i.new (subst (λ l. Has (revisions l ++ opening ∷ []) t.rev) (sym whole) j));
        branches = branches_stay h log (log_with log session text) c c k.branches (record { branches = refl; forks = refl; session = refl; ids = omega arith; received = omega arith }) (fronts_with log session text)
            (among_same (ap (λ (es : List Entry). commits_in es ++ c.pending) (sym (entered_front log session text c.received k.within)))) whole k.branches.transactions;
      }

  -- of a client that joins
  pub client_joined : (log : List Entry) (session uuid : ℕ) (name : List ℕ) → 1 ≤ session → carried_count session (ranges_in log) ≡ 0 → FitInTurn (opening_document h) (commits_in log) → HaveNewRevisions (opening ∷ []) (commits_in log)
      → ((N : Intent) → Has (commits_in log) N → N.rev.session ≡ session → ⊥) → IsClient h (log_with log session (Join uuid)) (new_client (length log + 1) session uuid name)
  client_joined log session uuid name one carried fit new none =
      let O = opening_document h in
      let e = last_entry log session (Join uuid) in
      let size : length (log_with log session (Join uuid)) ≡ length log + 1 = omega (arith, length-append log (e ∷ [])) in
      let commits : commits_in log ≡ commits_in (log_with log session (Join uuid)) = sym (entered_commits log session (Join uuid) ∙ append-nil (commits_in log)) in
      let whole : take (length log + 1) (log_with log session (Join uuid)) ≡ log_with log session (Join uuid) = take_all (length log + 1) (log_with log session (Join uuid)) (omega (arith, size)) in
      let d : Client = new_client (length log + 1) session uuid name in
      let flight : own_in_flight (log_with log session (Join uuid)) d ≡ [] = ap (commits_by session) (drop_whole (length log + 1) (log_with log session (Join uuid)) size) in
      let nothing : [] ≡ waiting (log_with log session (Join uuid)) d = sym (waits (log_with log session (Join uuid)) d [] (sym (ap (λ l. l ++ []) flight))) in
      let shown : commits_in log ≡ commits_in (take (length log + 1) (log_with log session (Join uuid))) ++ [] =
      commits ∙ sym (append-nil (commits_in (log_with log session (Join uuid)))) ∙ ap (λ l. commits_in l ++ []) (sym whole) in
      let all : commits_in log ≡ log_and_waiting (log_with log session (Join uuid)) d = commits ∙ sym (append-nil (commits_in (log_with log session (Join uuid)))) ∙ ap (λ l. commits_in (log_with log session (Join uuid)) ++ l) nothing in
      record {
        within = omega (arith, size);
        few = omega arith;
        few_names = omega arith;
        under_way = sym (ap (λ l. l ++ waiting (log_with log session (Join uuid)) d) flight ∙ sym nothing);
        queued = nothing;
        shown_fit = subst (FitInTurn O) shown fit;
        sent_fit = subst (FitInTurn O) all fit;
        new = subst (HaveNewRevisions (opening ∷ [])) (all ∙ sym (append-nil (log_and_waiting (log_with log session (Join uuid)) d))) new;
        own = subst (AllByRecursion (λ (M : Intent). M.rev.session ≡ session)) nothing tt;
        texts = tt;
        carried = carried_new (ranges_in (log_with log session (Join uuid))) d one refl refl (ap (carried_count session) (same_ranges log session (Join uuid) refl) ∙ carried);
        ids = λ N i s. absurd (none N (subst (λ l. Has l N) (append-nil (log_and_waiting (log_with log session (Join uuid)) d) ∙ sym all) i) s);
        transaction = tt;
        branches = record { few = omega arith; numbers = tt; each = tt; standing = tt; own = tt; transactions = own_by_places d (λ i j r x y. nowhere i r x) };
      }
    where
      nowhere : {i j : ℕ} (k : ℕ) (r : Rev) → IsOpenAt (new_client (length log + 1) session uuid name) k r → i ≡ j
      nowhere zero r x = absurd (not_some x.0 x.1)
        where
          not_some : (t : Transaction) → None ≡ Some t → ⊥
          not_some t e = cc
      nowhere (suc k) r x = absurd x.2

  -- of one that comes back
  pub client_returned : (log : List Entry) (c : Client) → IsClient h log c → c.transaction ≡ None → IsClient h (log_with log c.session (Join c.uuid)) (with_connection log c)
  client_returned log c k none =
      let O = opening_document h in
      let longer = log_with log c.session (Join c.uuid) in
      let e = last_entry log c.session (Join c.uuid) in
      let W = waiting log c in
      let d : Client = with_connection log c in
      let size : length longer ≡ length log + 1 = omega (arith, length-append log (e ∷ [])) in
      let commits : commits_in log ≡ commits_in longer = sym (entered_commits log c.session (Join c.uuid) ∙ append-nil (commits_in log)) in
      let whole : take (length log + 1) longer ≡ longer = take_all (length log + 1) longer (omega (arith, size)) in
      let flight : own_in_flight longer d ≡ [] = ap (commits_by c.session) (drop_whole (length log + 1) longer size) in
      let still : W ≡ waiting longer d = sym (waits longer d W (sym (ap (λ l. l ++ W) flight))) in
      let shown : log_and_waiting log c ≡ commits_in (take (length log + 1) longer) ++ W = ap (λ l. l ++ W) (commits ∙ ap commits_in (sym whole)) in
      let all : log_and_waiting log c ≡ log_and_waiting longer d = ap (λ l. l ++ W) commits ∙ ap (λ l. commits_in longer ++ l) still in
      let every : all_commits log c ≡ all_commits longer d = ap (λ l. l ++ own_of c.branches) all in
      let size_pending : length c.pending ≡ length (own_in_flight log c) + length W = ap length k.under_way ∙ length-append (own_in_flight log c) W in
      let before : (option_map_or names_made (joined_of c) 0 + names_in c.pending) + names_on_all c.branches ≤ 16384 = k.few_names in
      let names : (option_map_or names_made (joined_of d) 0 + names_in W) + names_on_all c.branches ≤ 16384 = omega (arith, waiting_fewer log c k, before) in
      record {
        within = omega (arith, size);
        few = omega (arith, size_pending, k.few);
        few_names = names;
        under_way = still ∙ sym (ap (λ l. l ++ waiting longer d) flight);
        queued = queue_anew (length log + 1) c.session (carried_of log c) c.ids W ∙ still;
        shown_fit = subst (FitInTurn O) shown k.sent_fit;
        sent_fit = subst (FitInTurn O) all k.sent_fit;
        new = subst (HaveNewRevisions (opening ∷ [])) every k.new;
        own = subst (AllByRecursion (λ (M : Intent). M.rev.session ≡ c.session)) still k.own;
        texts = texts_anew (length log + 1) c.session (carried_of log c) c.ids W;
        carried = subst (λ rs. IsCarried rs d) (sym (same_ranges log c.session (Join c.uuid) refl)) (carried_anew (ranges_in log) c d (length log + 1) W refl refl refl refl k.carried);
        ids = λ N i s. k.ids N (subst (λ l. Has l N) (sym every) i) s;
        transaction = none_open c.transaction _ none;
        branches = branches_stay h log longer c d k.branches (record { branches = refl; forks = refl; session = refl; ids = omega arith; received = omega (arith, k.within) }) (fronts_with log c.session (Join c.uuid))
            (sublist_on (shown_among log c k) (among_same shown)) every (own_same c d k.branches.transactions k.branches.numbers refl refl);
      }

  -- of the sender
  pub client_sent : (log : List Entry) (c : Client) (text : Body) (rest : List Body) → IsClient h log c → c.queue ≡ text ∷ rest → IsClient h (log_with log c.session text) (record c { queue = rest })
  client_sent log c text rest k is =
      let e = last_entry log c.session text in
      let X = commits_of_text text in
      let B = commits_by c.session (drop c.received log) in
      let R = intents_of rest in
      let commits : commits_in (log_with log c.session text) ≡ commits_in log ++ X = entered_commits log c.session text in
      let on = queue_first (waiting log c) c.connected c.queue rest text k.queued is in
      let first : waiting log c ≡ X ++ R = on.1 in
      let all_but : log_and_waiting log c ≡ commits_in (log_with log c.session text) ++ R = ap (λ l. commits_in log ++ l) first ∙ sym (append_assoc (commits_in log) X R) ∙ ap (λ l. l ++ R) (sym commits) in
      let by : commits_by c.session (drop c.received (log_with log c.session text)) ≡ B ++ X = entered_rest log c.session text c.session c.received k.within ∙ ap (λ l. B ++ l) (by_own_text log c.session text) in
      let longer = log_with log c.session text in
      let d : Client = record c { queue = rest } in
      let split : c.pending ≡ (B ++ X) ++ R = k.under_way ∙ ap (λ l. B ++ l) first ∙ sym (append_assoc B X R) in
      let still : R ≡ waiting longer d = sym (waits longer d R (split ∙ ap (λ l. l ++ R) (sym by))) in
      let all : log_and_waiting log c ≡ log_and_waiting longer d = all_but ∙ ap (λ l. commits_in longer ++ l) still in
      let every : all_commits log c ≡ all_commits longer d = ap (λ l. l ++ own_of c.branches) all in
      record {
        within = omega (arith, k.within, length-append log (e ∷ []));
        few = k.few;
        few_names = k.few_names;
        under_way = split ∙ ap (λ l. l ++ R) (sym by) ∙ ap (λ l. own_in_flight longer d ++ l) still;
        queued = queue_rest (waiting longer d) c.connected rest on.0 still;
        shown_fit = subst (FitInTurn (opening_document h)) (ap (λ l. commits_in l ++ c.pending) (sym (entered_front log c.session text c.received k.within))) k.shown_fit;
        sent_fit = subst (FitInTurn (opening_document h)) all k.sent_fit;
        new = subst (HaveNewRevisions (opening ∷ [])) every k.new;
        own = subst (AllByRecursion (λ (M : Intent). M.rev.session ≡ c.session)) still (all_behind (λ (M : Intent). M.rev.session ≡ c.session) X R (subst (AllByRecursion (λ (M : Intent). M.rev.session ≡ c.session)) first k.own));
        texts = (subst (AllByRecursion (λ (q : Body). is_text q ≡ true)) is k.texts).1;
        carried = subst (λ rs. IsCarried rs d) (sym (entered_ranges log c.session text)) (carried_sent (ranges_in log) c text rest is k.carried);
        ids = λ M i s. k.ids M (subst (λ l. Has l M) (sym every) i) s;
        transaction = transactions_beside h log (log_with log c.session text) (main_line c) (main_line (record c { queue = rest })) c (record c { queue = rest }) c.transaction k.transaction refl (omega arith) refl (ap (λ (es : List Entry). commits_in es ++ c.pending) (entered_front log c.session text c.received k.within))
            (λ t e i j. i.new (subst (λ l. Has (revisions l ++ opening ∷ []) t.rev) (sym every) j));
        branches = branches_stay h log longer c d k.branches (record { branches = refl; forks = refl; session = refl; ids = omega arith; received = omega arith }) (fronts_with log c.session text)
            (among_same (ap (λ (es : List Entry). commits_in es ++ c.pending) (sym (entered_front log c.session text c.received k.within)))) every (own_same c d k.branches.transactions k.branches.numbers refl refl);
      }

  -- of each other client, after a commit
  commit_beside : (log : List Entry) (c d : Client) (text : Body) (N : Intent) (rest : List Body) → commit_in text ≡ Some N → IsClient h log c → IsClient h log d → c.queue ≡ text ∷ rest → (c.session == d.session) ≡ false
      → names_in (commits_in log) + names_made N ≤ 131072 → IsClient h (log_with log c.session text) d
  commit_beside log c d text N rest one k l is apart few =
      let O = opening_document h in
      let e = last_entry log c.session text in
      let L = commits_in log in
      let R = intents_of rest in
      let Q = waiting log d in
      let B = commits_by d.session (drop d.received log) in
      let commits : commits_in (log_with log c.session text) ≡ L ++ N ∷ [] = entered_commits log c.session text ∙ ap (λ o. L ++ cons_option o []) one in
      let first : waiting log c ≡ N ∷ R = (queue_first (waiting log c) c.connected c.queue rest text k.queued is).1 ∙ sym (text_first text rest) ∙ ap (λ o. cons_option o R) one in
      let from : log_and_waiting log c ≡ (L ++ N ∷ []) ++ R = ap (λ l. L ++ l) first ∙ sym (append_assoc L (N ∷ []) R) in
      let by : commits_by d.session (drop d.received (log_with log c.session text)) ≡ B =
      entered_rest log c.session text d.session d.received l.within ∙ ap (λ l. B ++ l) (by_other d.session e [] apart) ∙ append-nil B in
      let still : Q ≡ waiting (log_with log c.session text) d = ap (λ (l : List Intent). drop (length l) d.pending) (sym by) in
      let all : L ++ N ∷ Q ≡ log_and_waiting (log_with log c.session text) d = sym (append_assoc L (N ∷ []) Q) ∙ ap (λ l. l ++ Q) (sym commits) ∙ ap (λ l. commits_in (log_with log c.session text) ++ l) still in
      let mine : N.rev.session ≡ c.session = (subst (AllByRecursion (λ (M : Intent). M.rev.session ≡ c.session)) first k.own).0 in
      let front_fit : FitInTurn O (L ++ N ∷ []) = front (L ++ N ∷ []) R O (subst (FitInTurn O) from k.sent_fit) in
      let sender : HaveNewRevisions (opening ∷ []) (L ++ N ∷ R) = subst (HaveNewRevisions (opening ∷ [])) (ap (λ l. L ++ l) first) (sent_new log c k) in
      let W = own_of d.branches in
      let every : L ++ N ∷ (Q ++ W) ≡ all_commits (log_with log c.session text) d = sym (append_assoc L (N ∷ Q) W) ∙ ap (λ x. x ++ W) all in
      let whole : HaveNewRevisions (opening ∷ []) (L ++ N ∷ (Q ++ W)) =
      new_between (opening ∷ []) L (Q ++ W) N (subst (HaveNewRevisions (opening ∷ [])) (append_assoc L Q W) l.new) (λ i. fresh N R mine sender (has-append (revisions (L ++ (Q ++ W))) (opening ∷ []) N.rev i)) in
      let new : HaveNewRevisions (opening ∷ []) (L ++ N ∷ Q) =
      new_shorter (opening ∷ []) (L ++ N ∷ Q) (L ++ N ∷ (Q ++ W)) (sublist_joined (sublist_itself L) (item_kept refl (sublist_of (append-nil Q) refl (sublist_joined (sublist_itself Q) (sublist_none W))))) whole in
      let one_name : names_in (N ∷ Q) ≡ names_made N + names_in Q = refl in
      let room : HasRoom O (L ++ N ∷ Q) = room_left O (L ++ N ∷ Q) st (omega (arith, names_append L (N ∷ Q), one_name, few, waiting_few log d l)) in
      record {
        within = omega (arith, l.within, length-append log (e ∷ []));
        few = l.few;
        few_names = l.few_names;
        under_way = l.under_way ∙ ap (λ x. x ++ Q) (sym by) ∙ ap (λ x. own_in_flight (log_with log c.session text) d ++ x) still;
        queued = subst (λ x. IsQueue x d.connected d.queue) still l.queued;
        shown_fit = subst (FitInTurn O) (ap (λ x. commits_in x ++ d.pending) (sym (entered_front log c.session text d.received l.within))) l.shown_fit;
        sent_fit = subst (FitInTurn O) all (another_later (opening ∷ []) O L N Q st.sound st.made front_fit l.sent_fit new room);
        new = subst (HaveNewRevisions (opening ∷ [])) every whole;
        own = subst (AllByRecursion (λ (M : Intent). M.rev.session ≡ d.session)) still l.own;
        texts = l.texts;
        carried = subst (λ rs. IsCarried rs d) (sym (entered_ranges log c.session text)) (carried_beside (ranges_in log) c d text rest is k.carried differ l.carried);
        ids = λ M i s. ids N mine M (has_between L (Q ++ W) N M (subst (λ x. Has x M) (sym every) i)) s;
        transaction = transactions_beside h log (log_with log c.session text) (main_line d) (main_line d) d d d.transaction l.transaction refl (omega arith) refl (ap (λ (es : List Entry). commits_in es ++ d.pending) (entered_front log c.session text d.received l.within))
            (λ t e i j. apart_from (main_line d) t N mine i (rev_between (opening ∷ []) L (Q ++ W) N t.rev (subst (λ x. Has (revisions x ++ opening ∷ []) t.rev) (sym every) j)));
        branches = branches_beside h log (log_with log c.session text) d d l.branches (record { branches = refl; forks = refl; session = refl; ids = omega arith; received = omega arith }) (fronts_with log c.session text)
            (among_same (ap (λ (es : List Entry). commits_in es ++ d.pending) (sym (entered_front log c.session text d.received l.within))))
            (λ b t i e x j. apart_from (branch_line b) t N mine x (rev_between (opening ∷ []) L (Q ++ W) N t.rev (subst (λ y. Has (revisions y ++ opening ∷ []) t.rev) (sym every) j)))
            l.branches.transactions;
      }
    where
      differ : c.session ≡ d.session → ⊥
      differ s = grind (arith, nat_tests)

      -- the revision of a transaction is not that of the commit, nor of another
      apart_from : (m : Line) (t : Transaction) (N : Intent) → N.rev.session ≡ c.session → IsTransaction h log m d t → (N.rev ≡ t.rev) ⊎ Has (revisions (commits_in log ++ (waiting log d ++ own_of d.branches)) ++ opening ∷ []) t.rev → ⊥
      apart_from m t N mine i (inl same) = differ (sym mine ∙ ap (λ (r : Rev). r.session) same ∙ i.session)
      apart_from m t N mine i (inr q) = i.new (subst (λ x. Has (revisions x ++ opening ∷ []) t.rev) (sym (append_assoc (commits_in log) (waiting log d) (own_of d.branches))) q)

      fresh : (N : Intent) (R : List Intent) → N.rev.session ≡ c.session → HaveNewRevisions (opening ∷ []) (commits_in log ++ N ∷ R)
          → Has (revisions (commits_in log ++ (waiting log d ++ own_of d.branches))) N.rev ⊎ Has (opening ∷ []) N.rev → ⊥
      fresh N R mine sender (inr j) = sender.new N (append_right (commits_in log) (N ∷ R) N (inl refl)) j
      fresh N R mine sender (inl j) =
          let m = has-map (λ (X : Intent). X.rev) (commits_in log ++ (waiting log d ++ own_of d.branches)) N.rev j in
          place m.0 m.2 (has-append (commits_in log) (waiting log d ++ own_of d.branches) m.0 m.1)
        where
          place : (M : Intent) → M.rev ≡ N.rev → Has (commits_in log) M ⊎ Has (waiting log d ++ own_of d.branches) M → ⊥
          place M e (inl i) = distinct-between (λ (X : Intent). X.rev) (commits_in log) (N ∷ R) M N sender.once i (inl refl) (sym e)
          place M e (inr i) =
              let theirs : M.rev.session ≡ d.session =
              all-has (λ (X : Intent). X.rev.session ≡ d.session) (waiting log d ++ own_of d.branches) M (AllByRecursion-append (λ (X : Intent). X.rev.session ≡ d.session) (waiting log d) (own_of d.branches) l.own l.branches.own) i in
              differ (sym mine ∙ sym (ap (λ (r : Rev). r.session) e) ∙ theirs)

      ids : (N : Intent) → N.rev.session ≡ c.session → (M : Intent) → (N ≡ M) ⊎ Has (commits_in log ++ (waiting log d ++ own_of d.branches)) M → M.rev.session ≡ d.session → M.rev.num ≤ d.ids
      ids N mine M (inl e) s = absurd (differ (sym mine ∙ ap (λ (X : Intent). X.rev.session) e ∙ s))
      ids N mine M (inr i) s = l.ids M (subst (λ x. Has x M) (sym (append_assoc (commits_in log) (waiting log d) (own_of d.branches))) i) s

  pub client_beside : (log : List Entry) (c d : Client) (text : Body) (rest : List Body) → IsClient h log c → IsClient h log d → c.queue ≡ text ∷ rest → (c.session == d.session) ≡ false
      → names_in (commits_in log) + names_in_text text ≤ 131072 → IsClient h (log_with log c.session text) d
  client_beside log c d text rest k l is apart few = go (commit_in text) refl
    where
      go : (o : Option Intent) → commit_in text ≡ o → IsClient h (log_with log c.session text) d
      go None none = client_after_text log c.session text d none l
      go (Some N) one = commit_beside log c d text N rest one k l is apart (omega (arith, few, ap (λ (o : Option Intent). option_map_or names_made o 0) one))
