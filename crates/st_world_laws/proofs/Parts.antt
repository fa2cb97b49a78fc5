-- A client's open transaction: where it edits, and one part more.
use Rattle.std.proofs.Common.{IfSome, List, None, Option, Some, [], ap, arith, inl, inr, length, refl, subst, suc, sym, zero, ℕ, ◌++◌, ◌+◌, ◌<◌, ◌∙◌, ◌∷◌, ◌≡◌, ◌≤◌, ◌⊎◌}
use Rattle.std.specs.Prelude.{is_some, option_map, unwrap_or}
use Rattle.st_ids.specs.Listing.{AreDistinct, Has}
use Rattle.st_lists.proofs.Names.{names_append}
use Rattle.st_lists.proofs.Written.{transaction_here}
use Rattle.st_lists.specs.Clients.{joined_of, new_transaction, next_rev, received_by, with_begun, with_commit, with_edited, with_id, with_transaction, without_transaction}
use Rattle.st_lists.specs.Lines.{HasHead, HaveOwnTransactions, Line, all_commits, branch_line, commits_of, edited_on, line_of, main_line, on_branch, with_commit_on, with_transaction_on}
use Rattle.st_lists.specs.Names.{names_in, names_made, names_on_all, unsequenced}
use Rattle.st_lists.specs.declared.lists.Branch.{Branch}
use Rattle.st_log_laws.proofs.Shorter.{sublist_itself}
use Rattle.st_world_laws.proofs.Among.{line_fit, line_new, line_room, line_transaction, open_apart, open_on_branch}
use Rattle.st_world_laws.proofs.Beside.{branches_stay, same_fronts, transactions_beside}
use Rattle.st_world_laws.proofs.Branching.{branch_takes, branch_turned, names_turned, open_changed, own_turned, split_at}
use Rattle.st_world_laws.proofs.Clients.{head_sound, main_takes, next_new, unused_cells, unused_nodes}
use Rattle.st_world_laws.proofs.Lookup.{IsOpenAt, branch_there, line_open, line_there, one_place, open_line, own_beside, own_gone, own_same, own_with}
use Rattle.std.specs.Option.{option_and_then, option_or, option_map_or}
use Rattle.st_ids.specs.Root.{opening}
use Rattle.st_ids.specs.declared.names.CellId.{CellId}
use Rattle.st_ids.specs.declared.names.NodeId.{NodeId}
use Rattle.st_ids.specs.declared.names.Rev.{Rev}
use Rattle.st_tree.specs.Preorder.{cell_named, node_named}
use Rattle.st_marks.specs.declared.intents.Intent.{Intent}
use Rattle.st_marks.specs.declared.verdicts.Verdict.{Verdict}
use Rattle.st_marks.specs.CarryOut.{full, with_schema}
use Rattle.st_marks.specs.Document.{Document, NodeType, HasShortRows, IsSoundInForm, last_of, revs}
use Rattle.st_marks.specs.Intent.{Fits, group_cells, new_row_of, new_type}
use Rattle.st_marks.specs.Run.{Run}
use Rattle.st_marks.proofs.Lookups.{group-new_row_of}
use Rattle.st_marks.proofs.Members.{flat_map-has}
use Rattle.st_marks.proofs.OneVerdict.{carried_extends, one_run}
use Rattle.st_log_laws.specs.Turns.{FitInTurn}
use Rattle.st_log_laws.proofs.Beside.{one_fits}
use Rattle.st_log_laws.proofs.Room.{room_after, room_in_run, short_after}
use Rattle.st_edits.specs.declared.names.NameCounters.{NameCounters}
use Rattle.st_edits.specs.Given.{IsCountedFrom}
use Rattle.st_join.proofs.JoinNames.{cells_of_both, nodes_of_both}
use Rattle.st_join.proofs.JoinOf.{joined_is_join}
use Rattle.st_join.specs.inside.Lists.{join_of}
use Rattle.st_lists.specs.Open.{FitsSoFar, IsSoundPart, IsWithPart, with_open}
use Rattle.st_heads.specs.inside.Parts.{CanFollow}
use Rattle.st_heads.proofs.Editing.{can_follow, fits_so_far, open_shows}
use Rattle.st_script.specs.Header.{HeaderView}
use Rattle.st_lists.specs.Log.{commits_in, log_and_waiting, ranges_in}
use Rattle.st_world_laws.proofs.Ranges.{carried_as}
use Rattle.st_lists.specs.declared.lists.Client.{Client}
use Rattle.st_lists.specs.declared.lists.Entry.{Entry}
use Rattle.st_lists.specs.declared.lists.Transaction.{Transaction}
use Rattle.st_world.specs.declared.edit_word.EditWord.{EditWord}
use Rattle.st_world_laws.specs.Worlds.{HasMain, IsClient, IsTransaction, LineFits}
use Rattle.st_world.specs.World.{HasShown, cells_given, next_names, opening_document}
use Rattle.st_edits.specs.InEffect.{last_in_effect}
use Rattle.st_world_laws.proofs.Begun.{IsStart}
use Rattle.st_log_laws.specs.Names.{revisions}
use Rattle.st_world_laws.proofs.Counting.{room_left}
use Rattle.st_world_laws.proofs.Meant.{IsEditable, IsMeant}

-- ## Numbers

-- how many names what was edited makes
abbrev pub names_edited : Option Intent → ℕ
names_edited joined = option_map_or names_made joined 0

cells_low : (word : EditWord) (M : Intent) → length (group_cells M) ≤ cells_given word M
cells_low EditWord.Insert M = omega arith
cells_low EditWord.Remove M = omega arith
cells_low EditWord.Move M = omega arith
cells_low EditWord.Set M = omega arith
cells_low EditWord.Clear M = omega arith
cells_low EditWord.Need M = omega arith

-- an intent whose numbers are counted on makes no name of a later number
pub later_node : (G : NameCounters) (nodes cells : ℕ) (M : Intent) (D : Document) (k : ℕ) → IsCountedFrom G nodes cells M → D.nodes (node_named G.rev k) ≡ None → G.nodes + nodes ≤ k → (full D M).nodes (node_named G.rev k) ≡ None
later_node G nodes cells M D k counted none past = go (new_type M n) refl
  where
    n : NodeId
    n = node_named G.rev k

    go : (o : Option NodeType) → new_type M n ≡ o → option_or (D.nodes n) (new_type M n) ≡ None
    go None e = ap (λ x. option_or x (new_type M n)) none ∙ e
    go (Some t) e =
        let c = counted.nodes n (ap is_some e) in
        let same : k ≡ c.0 = ap (λ (m : NodeId). m.0.at) c.1 in
        absurd (omega (arith, same, c.3, past))

pub later_cell : (G : NameCounters) (nodes cells : ℕ) (M : Intent) (D : Document) (k : ℕ) → IsCountedFrom G nodes cells M → D.row_of (cell_named G.rev k) ≡ None → G.cells + cells ≤ k → (full D M).row_of (cell_named G.rev k) ≡ None
later_cell G nodes cells M D k counted none past = go (new_row_of M d) refl
  where
    d : CellId
    d = cell_named G.rev k

    go : (o : Option NodeId) → new_row_of M d ≡ o → option_or (D.row_of d) (new_row_of M d) ≡ None
    go None e = ap (λ x. option_or x (new_row_of M d)) none ∙ e
    go (Some n) e =
        let g = group-new_row_of M d n e in
        let c = counted.cells g.3.0 (flat_map-has (λ g. g.cells) M.groups g.0 g.3.0 g.1 g.3.1) in
        let same : k ≡ c.0 = ap (λ (x : CellId). x.0.at) (sym g.3.2 ∙ c.1) in
        absurd (omega (arith, same, c.3, past))

-- ## The document that is shown

-- what was edited leaves the schemas in effect
pub open_schemas : (D : Document) (rev under : Rev) (joined : Option Intent) → FitsSoFar D rev under joined → last_in_effect (with_open D joined) ≡ last_in_effect D
open_schemas D rev under None so = refl
open_schemas D rev under (Some J) so = ap (λ (o : Option (List ℕ)). unwrap_or (last_of (revs (with_schema J o D.schemas))) opening) so.3

-- a part of what is edited leaves rows short, where few names were made
open_short : (O D : Document) (st : IsStart O) (Ns : List Intent) (rev under : Rev) (joined : Option Intent) (M : Intent) → FitInTurn O Ns → Run O Ns D → IsSoundInForm D → FitsSoFar D rev under joined → IsSoundInForm (with_open D joined)
    → Fits (with_open D joined) M → names_in Ns + (names_edited joined + names_made M) ≤ 200000 → HasShortRows (full (with_open D joined) M)
open_short O D st Ns rev under None M fit run line so sound fits few =
    let one : names_in (M ∷ []) ≡ names_made M = omega arith in
    let all : names_in Ns + (0 + names_made M) ≤ 200000 = few in
    short_after D M line fits [] (room_in_run (M ∷ []) st.sound fit run (room_left O (Ns ++ M ∷ []) st (omega (arith, names_append Ns (M ∷ []), one, all))))
open_short O D st Ns rev under (Some J) M fit run line so sound fits few =
    let two : names_in (J ∷ M ∷ []) ≡ names_made J + names_made M = omega arith in
    let all : names_in Ns + (names_made J + names_made M) ≤ 200000 = few in
    let room = room_in_run (J ∷ M ∷ []) st.sound fit run (room_left O (Ns ++ J ∷ M ∷ []) st (omega (arith, names_append Ns (J ∷ M ∷ []), two, all))) in
    short_after (full D J) M sound fits [] (room_after D J line so.0 (M ∷ []) Verdict.Sound room)

-- two parts are joined, and their names are those of both
names_joined : (D : Document) (joined : Option Intent) (M K : Intent) → IsSoundInForm D → CanFollow D joined M → IsWithPart joined M K → names_made K ≡ names_edited joined + names_made M
names_joined D None M K sound follow w =
    let same : names_made K ≡ names_made M = ap names_made w in
    let as_said : names_made K ≡ 0 + names_made M = omega (arith, same) in
    as_said
names_joined D (Some J) M K sound follow w =
    let both : length K.new + length (group_cells K) ≡ (length J.new + length (group_cells J)) + (length M.new + length (group_cells M)) = omega (arith, nodes_of_both D J M K sound follow w, cells_of_both D J M K sound follow w) in
    both

has_part : (D : Document) (joined : Option Intent) (M : Intent) → IsSoundInForm D → CanFollow D joined M → (K : Intent) × IsWithPart joined M K
has_part D None M sound follow = (M, refl)
has_part D (Some J) M sound follow = (join_of J M, joined_is_join D J M sound follow)

-- ## Lines

main_there : (c : Client) (l : Line) → line_of c zero ≡ Some l → l ≡ main_line c
main_there c l at = cc

ids_stay : (c : Client) (j : ℕ) (o : Option Transaction) → record (with_transaction_on c j o) { ids = c.ids } ≡ with_transaction_on c j o
ids_stay c zero o = refl
ids_stay c (suc j) o = refl

line_stays : (c : Client) (j : ℕ) (l : Line) → line_of c j ≡ Some l → line_of (record c { ids = c.ids + 1 }) j ≡ Some l
line_stays c zero l at = at
line_stays c (suc j) l at = at

open_stays : (c : Client) (i : ℕ) (r : Rev) → IsOpenAt (record c { ids = c.ids + 1 }) i r → IsOpenAt c i r
open_stays c zero r x = x
open_stays c (suc i) r x = x

session_stays : (c : Client) (j : ℕ) → (with_transaction_on c j None).session ≡ c.session
session_stays c zero = refl
session_stays c (suc j) = refl

ids_there : (c : Client) (j : ℕ) → (with_transaction_on c j None).ids ≡ c.ids
ids_there c zero = refl
ids_there c (suc j) = refl

all_stay : (log : List Entry) (c : Client) (j : ℕ) → all_commits log (with_transaction_on c j None) ≡ all_commits log c
all_stay log c zero = refl
all_stay log c (suc j) = ap (λ l. log_and_waiting log c ++ l) (own_turned (suc j) None c.branches)

-- what was edited on the line waits no more
names_freed : (c : Client) (j : ℕ) (l : Line) → AreDistinct (λ (x : Branch). x.number) c.branches → line_of c j ≡ Some l → unsequenced (with_transaction_on c j None) + option_map_or names_made (edited_on l) 0 ≡ unsequenced c
names_freed c zero l distinct at =
    let edited : option_map_or names_made (edited_on l) 0 ≡ option_map_or names_made (joined_of c) 0 = ap (λ (m : Line). option_map_or names_made (edited_on m) 0) (main_there c l at) in
    let now : unsequenced (with_transaction_on c zero None) ≡ (0 + names_in c.pending) + names_on_all c.branches = refl in
    let was : unsequenced c ≡ (option_map_or names_made (joined_of c) 0 + names_in c.pending) + names_on_all c.branches = refl in
    omega (arith, edited, now, was)
names_freed c (suc j) l distinct at =
    let b = line_there c j l at in
    let p = branch_there c (suc j) b.0 b.1 in
    let edited : option_map_or names_made (edited_on (branch_line b.0)) 0 ≡ option_map_or names_made (edited_on l) 0 = ap (λ (m : Line). option_map_or names_made (edited_on m) 0) b.2 in
    let now : unsequenced (with_transaction_on c (suc j) None) ≡ (option_map_or names_made (joined_of c) 0 + names_in c.pending) + names_on_all (on_branch (suc j) (λ x. record x { transaction = None }) c.branches) = refl in
    let was : unsequenced c ≡ (option_map_or names_made (joined_of c) 0 + names_in c.pending) + names_on_all c.branches = refl in
    let turned : names_on_all (on_branch (suc j) (λ x. record x { transaction = None }) c.branches) + option_map_or names_made (edited_on (branch_line b.0)) 0 ≡ names_on_all c.branches + 0 = names_turned (suc j) b.0 None c.branches (split_at (suc j) b.0 c.branches distinct p.0 p.1) in
    omega (arith, edited, now, was, turned)

-- where one ended, what is open was so before
still_open : (c : Client) (j n : ℕ) (s : Rev) → IsOpenAt (with_transaction_on c j None) n s → IsOpenAt c n s
still_open c zero zero s x = absurd (bad x.0 x.1)
  where
    bad : (t : Transaction) → None ≡ Some t → ⊥
    bad t q = cc
still_open c zero (suc n) s x = x
still_open c (suc j) zero s x = x
still_open c (suc j) (suc n) s x =
    let y = open_changed c (with_transaction_on c (suc j) None) (suc j) (λ b. record b { transaction = None }) n s (λ b. refl) refl x in
    (y.0, y.1, y.2, y.3, either y.0 y.1 y.4, y.5)
  where
    either : (b : Branch) (t : Transaction) → ((b.number ≡ suc j) × (None ≡ Some t)) ⊎ (b.transaction ≡ Some t) → b.transaction ≡ Some t
    either b t (inl q) = absurd (bad q.1)
      where
        bad : None ≡ Some t → ⊥
        bad e = cc
    either b t (inr q) = q

module _ (h : HeaderView) (st : IsStart (opening_document h)) where
  -- what a line of a client shows can be edited
  pub editable_on : (log : List Entry) (c : Client) (j : ℕ) (l : Line) (E : Document) → IsClient h log c → line_of c j ≡ Some l → HasShown (opening_document h) log l E → IsEditable E (next_names c l.transaction)
  editable_on log c j l E k at shown = go l.transaction (line_transaction h st log c k j l at) shown.2
    where
      D : Document
      D = shown.0

      fit : LineFits h log l
      fit = line_fit h st log c k j l at

      new : Has (revisions (commits_of log l) ++ opening ∷ []) (next_rev c) → ⊥
      new = line_new h st log c k j l (next_rev c) at (next_new h st log c (next_rev c) k refl)

      go : (o : Option Transaction) → IfSome o (IsTransaction h log l c) → E ≡ with_open D (option_and_then (λ (t : Transaction). t.joined) o) → IsEditable E (next_names c o)
      go None i same = subst (λ F. IsEditable F (next_names c None)) (sym same) (record {
        sound = head_sound h st log l D fit shown.1;
        nodes = λ n low. unused_nodes h st log l D (next_rev c) fit shown.1 new n;
        cells = λ n low. unused_cells h st log l D (next_rev c) fit shown.1 new n;
      })
      go (Some t) i same =
          let here : with_open i.before t.joined ≡ E = ap (λ F. with_open F t.joined) (one_run i.main shown.1) ∙ sym same in
          subst (λ F. IsEditable F (next_names c (Some t))) here (record { sound = i.sound; nodes = i.nodes; cells = i.cells })

  pub editable : (log : List Entry) (c : Client) (E : Document) → IsClient h log c → HasShown (opening_document h) log (main_line c) E → IsEditable E (next_names c c.transaction)
  editable log c E k shown = editable_on log c zero (main_line c) E k refl shown

  -- what was edited on a line fits in turn where there is room, and so rows stay short after it
  pub edits_fit : (log : List Entry) (l : Line) (owner : Client) (t : Transaction) (J : Intent) → LineFits h log l → names_in (commits_of log l) + names_made J ≤ 200000 → (i : IsTransaction h log l owner t) → t.joined ≡ Some J → FitInTurn i.before (J ∷ [])
  edits_fit log l owner t J fit room i joined =
      let D = i.before in
      let Ns = commits_of log l in
      let so = subst (FitsSoFar D t.rev t.under) joined i.so_far in
      let one : names_in (J ∷ []) ≡ names_made J = omega arith in
      one_fits D J (head_sound h st log l D fit i.main) so.0 (room_in_run (J ∷ []) st.sound fit i.main (room_left (opening_document h) (Ns ++ J ∷ []) st (omega (arith, names_append Ns (J ∷ []), one, room))))

  -- what is edited in a transaction that is open on a line
  edited_there : (l : Line) (t : Transaction) → l.transaction ≡ Some t → option_map_or names_made (edited_on l) 0 ≡ names_edited t.joined
  edited_there l t is = ap (λ (o : Option Transaction). names_edited (option_and_then (λ (x : Transaction). x.joined) o)) is

  -- a line leaves room for what was edited on it and one part more
  pub edited_room_on : (log : List Entry) (c : Client) (j : ℕ) (l : Line) (t : Transaction) → IsClient h log c → line_of c j ≡ Some l → l.transaction ≡ Some t → names_in (commits_in log) ≤ 131072
      → names_in (commits_of log l) + (names_edited t.joined + 2048) ≤ 200000
  edited_room_on log c j l t k at is all = omega (arith, line_room h st log c k j l at all, edited_there l t is)

  pub edited_fits_on : (log : List Entry) (c : Client) (j : ℕ) (l : Line) (t : Transaction) (J : Intent) → IsClient h log c → line_of c j ≡ Some l → l.transaction ≡ Some t → names_in (commits_in log) ≤ 131072
      → (i : IsTransaction h log l c t) → t.joined ≡ Some J → FitInTurn i.before (J ∷ [])
  edited_fits_on log c j l t J k at is all i joined =
      let made : names_edited t.joined ≡ names_made J = ap names_edited joined in
      edits_fit log l c t J (line_fit h st log c k j l at) (omega (arith, edited_room_on log c j l t k at is all, made)) i joined

  pub edited_fits : (log : List Entry) (c : Client) (t : Transaction) (J : Intent) → IsClient h log c → c.transaction ≡ Some t → names_in (commits_in log) ≤ 131072 → (i : IsTransaction h log (main_line c) c t) → t.joined ≡ Some J → FitInTurn i.before (J ∷ [])
  edited_fits log c t J k is all i joined = edited_fits_on log c zero (main_line c) t J k refl is all i joined

  -- ## One part more

  -- so does what a client shows
  pub edited_room : (log : List Entry) (c : Client) (t : Transaction) → IsClient h log c → c.transaction ≡ Some t → names_in (commits_in log) ≤ 131072 → names_in (received_by log c ++ c.pending) + (names_edited t.joined + 2048) ≤ 200000
  edited_room log c t k is all = edited_room_on log c zero (main_line c) t k refl is all

  -- the transaction that is open on a line goes on
  module _ (log : List Entry) (l : Line) (c : Client) (t : Transaction) (word : EditWord) (M : Intent) (fit : LineFits h log l) (room : names_in (commits_of log l) + (names_edited t.joined + 2048) ≤ 200000)
      (i : IsTransaction h log l c t) (m : IsMeant (with_open i.before t.joined) (next_names c (Some t)) word M) where
    abbrev D : Document
    D = i.before

    abbrev T : Document
    T = with_open D t.joined

    line : IsSoundInForm D
    line = head_sound h st log l D fit i.main

    pub counted : (t.nodes + length M.new) + (t.cells + cells_given word M) ≤ 2048
    counted = m.counted.room i.counted

    short : HasShortRows (full T M)
    short = open_short (opening_document h) D st (commits_of log l) t.rev t.under t.joined M fit i.main line i.so_far i.sound m.fits (omega (arith, room, made))
      where
        made : names_made M ≤ 2048
        made = let both : length M.new + length (group_cells M) ≤ 2048 = omega (arith, counted, cells_low word M) in both

    pub is_part : IsSoundPart T M
    is_part = record { fits = m.fits; no_schema = m.no_schema; verdict = m.verdict; short = short }

    same_under : M.under ≡ t.under
    same_under = m.under ∙ open_schemas D t.rev t.under t.joined i.so_far ∙ sym i.under

    pub so_far : FitsSoFar D M.rev M.under t.joined
    so_far = subst (λ u. FitsSoFar D M.rev u t.joined) (sym same_under) (subst (λ r. FitsSoFar D r t.under t.joined) (sym m.rev) i.so_far)

    after : IsSoundInForm (full T M)
    after = (carried_extends T M Verdict.Sound i.sound m.fits short m.verdict).after

    pub follow : CanFollow D t.joined M
    follow = can_follow D M line m.no_schema t.joined so_far m.fits after

    pub next_joined : (K : Intent) × IsWithPart t.joined M K
    next_joined = has_part D t.joined M line follow

    module _ (K : Intent) (w : IsWithPart t.joined M K) where
      pub shows : full D K ≡ full T M
      shows = open_shows D M line m.no_schema t.joined K follow w

      pub whole_names : names_made K ≡ names_edited t.joined + names_made M
      whole_names = names_joined D t.joined M K line follow w

      still : FitsSoFar D t.rev t.under (Some K)
      still = subst (λ u. FitsSoFar D t.rev u (Some K)) same_under (subst (λ r. FitsSoFar D r M.under (Some K)) m.rev (fits_so_far D M line m.no_schema t.joined K so_far m.fits follow w))

      abbrev u : Transaction
      u = with_edited t K (length M.new) (cells_given word M)

      pub transaction : IsTransaction h log l c u
      transaction = record {
        session = i.session;
        num = i.num;
        new = i.new;
        room = i.room;
        counted = counted;
        before = D;
        main = i.main;
        under = i.under;
        so_far = still;
        sound = subst IsSoundInForm (sym shows) after;
        nodes = λ j past. subst (λ (F : Document). F.nodes (node_named t.rev j) ≡ None) (sym shows) (later_node (next_names c (Some t)) (length M.new) (cells_given word M) M T j m.counted (i.nodes j (omega (arith, past))) past);
        cells = λ j past. subst (λ (F : Document). F.row_of (cell_named t.rev j) ≡ None) (sym shows) (later_cell (next_names c (Some t)) (length M.new) (cells_given word M) M T j m.counted (i.cells j (omega (arith, past))) past);
      }

  -- a transaction of the main line is now so
  main_turned : (log : List Entry) (c : Client) (ids : ℕ) (o : Option Transaction) → IsClient h log c → c.ids ≤ ids
      → IfSome o (IsTransaction h log (main_line c) (record c { ids = ids })) → ((u : Transaction) → o ≡ Some u → IsOpenAt c zero u.rev ⊎ ((j : ℕ) → IsOpenAt c j u.rev → ⊥))
      → unsequenced c + option_map_or names_made (option_and_then (λ (t : Transaction). t.joined) o) 0 ≤ 16384 + option_map_or names_made (joined_of c) 0
      → IsClient h log (record c { ids = ids; transaction = o })
  main_turned log c ids o k more now place few =
      let d : Client = record c { ids = ids; transaction = o } in
      let sum : unsequenced c ≡ (option_map_or names_made (joined_of c) 0 + names_in c.pending) + names_on_all c.branches = refl in
      let few_now : (option_map_or names_made (option_and_then (λ (t : Transaction). t.joined) o) 0 + names_in c.pending) + names_on_all c.branches ≤ 16384 = omega (arith, sum, few) in record {
        within = k.within;
        few = k.few;
        few_names = few_now;
        under_way = k.under_way;
        queued = k.queued;
        shown_fit = k.shown_fit;
        sent_fit = k.sent_fit;
        new = k.new;
        own = k.own;
        texts = k.texts;
        carried = carried_as (ranges_in log) c d refl refl refl refl more k.carried;
        ids = λ N i s. omega (arith, k.ids N i s, more);
        transaction = transactions_beside h log log (main_line c) (main_line d) (record c { ids = ids }) d o now refl (omega arith) refl refl (λ t q x j. x.new j);
        branches = branches_stay h log log c d k.branches (record { branches = refl; forks = refl; session = refl; ids = more; received = omega arith }) (same_fronts log) (sublist_itself (received_by log c ++ c.pending)) refl (apart o refl);
      }
    where
      apart : (x : Option Transaction) → o ≡ x → HaveOwnTransactions (record c { ids = ids; transaction = o })
      apart None none = own_gone c (record c { ids = ids; transaction = o }) k.branches.transactions k.branches.numbers refl none
      apart (Some u) is = by (place u is)
        where
          at_main : (s : Rev) → IsOpenAt (record c { ids = ids; transaction = o }) zero s → s ≡ u.rev
          at_main s x = sym x.2 ∙ ap (λ (t : Transaction). t.rev) (same (sym x.1 ∙ is))
            where
              same : Some x.0 ≡ Some u → x.0 ≡ u
              same q = cc

          by : IsOpenAt c zero u.rev ⊎ ((j : ℕ) → IsOpenAt c j u.rev → ⊥) → HaveOwnTransactions (record c { ids = ids; transaction = o })
          by (inl there) = own_beside c (record c { ids = ids; transaction = o }) k.branches.transactions k.branches.numbers refl (λ s x. subst (IsOpenAt c zero) (sym (at_main s x)) there)
          by (inr none) = own_with c (record c { ids = ids; transaction = o }) zero u.rev k.branches.transactions k.branches.numbers (λ j s x. was j s x) none
            where
              was : (j : ℕ) (s : Rev) → IsOpenAt (record c { ids = ids; transaction = o }) j s → IsOpenAt c j s ⊎ ((j ≡ zero) × (s ≡ u.rev))
              was zero s x = inr (refl, at_main s x)
              was (suc j) s x = inl x

  -- that of a line is
  pub client_turned : (log : List Entry) (c : Client) (ids j : ℕ) (l : Line) (o : Option Transaction) → IsClient h log c → line_of c j ≡ Some l → c.ids ≤ ids
      → IfSome o (IsTransaction h log l (record c { ids = ids })) → ((u : Transaction) → o ≡ Some u → IsOpenAt c j u.rev ⊎ ((i : ℕ) → IsOpenAt c i u.rev → ⊥))
      → unsequenced c + option_map_or names_made (option_and_then (λ (t : Transaction). t.joined) o) 0 ≤ 16384 + option_map_or names_made (edited_on l) 0
      → IsClient h log (record (with_transaction_on c j o) { ids = ids })
  client_turned log c ids zero l o k at more now place few =
      let same : l ≡ main_line c = main_there c l at in
      let edited : option_map_or names_made (edited_on l) 0 ≡ option_map_or names_made (joined_of c) 0 = ap (λ (m : Line). option_map_or names_made (edited_on m) 0) same in
      main_turned log c ids o k more (subst (λ (m : Line). IfSome o (IsTransaction h log m (record c { ids = ids }))) same now) place (omega (arith, few, edited))
  client_turned log c ids (suc j) l o k at more now place few =
      let b = line_there c j l at in
      let p = branch_there c (suc j) b.0 b.1 in
      let edited : option_map_or names_made (edited_on (branch_line b.0)) 0 ≡ option_map_or names_made (edited_on l) 0 = ap (λ (m : Line). option_map_or names_made (edited_on m) 0) b.2 in
      branch_turned h st log c ids (suc j) b.0 o k p.0 p.1 more (subst (λ (m : Line). IfSome o (IsTransaction h log m (record c { ids = ids }))) (sym b.2) now) place (omega (arith, few, edited))

  -- one part more in it
  pub client_edited : (log : List Entry) (c : Client) (j : ℕ) (l : Line) (t : Transaction) (word : EditWord) (M : Intent) → IsClient h log c → line_of c j ≡ Some l → l.transaction ≡ Some t → names_in (commits_in log) ≤ 131072
      → (i : IsTransaction h log l c t) → IsMeant (with_open i.before t.joined) (next_names c (Some t)) word M → (K : Intent) → IsWithPart t.joined M K → unsequenced c + names_made M ≤ 16384
      → IsClient h log (with_transaction_on c j (Some (with_edited t K (length M.new) (cells_given word M))))
  client_edited log c j l t word M k at is all i m K w few =
      let u = with_edited t K (length M.new) (cells_given word M) in
      let room = edited_room_on log c j l t k at is all in
      let fit = line_fit h st log c k j l at in
      let whole = whole_names log l c t word M fit room i m K w in
      let was : option_map_or names_made (edited_on l) 0 ≡ names_edited t.joined = edited_there l t is in
      let now : unsequenced c + names_made K ≤ 16384 + option_map_or names_made (edited_on l) 0 = omega (arith, few, was, whole) in
      subst (IsClient h log) (ids_stay c j (Some u)) (client_turned log c c.ids j l (Some u) k at (omega arith) (transaction log l c t word M fit room i m K w)
      (λ v q. inl (subst (IsOpenAt c j) (rev_there t v q) (open_line c j l t at is))) now)
    where
      rev_there : (t v : Transaction) → Some (with_edited t K (length M.new) (cells_given word M)) ≡ Some v → t.rev ≡ v.rev
      rev_there t v q = ap (λ (x : Transaction). x.rev) (same q)
        where
          same : Some (with_edited t K (length M.new) (cells_given word M)) ≡ Some v → with_edited t K (length M.new) (cells_given word M) ≡ v
          same q = cc

  pub client_parted : (log : List Entry) (c : Client) (t : Transaction) (word : EditWord) (M : Intent) (k : IsClient h log c) → c.transaction ≡ Some t → names_in (commits_in log) ≤ 131072
      → (i : IsTransaction h log (main_line c) c t) → IsMeant (with_open i.before t.joined) (next_names c (Some t)) word M → (K : Intent) → IsWithPart t.joined M K → unsequenced c + names_made M ≤ 16384
      → IsClient h log (with_transaction c (with_edited t K (length M.new) (cells_given word M)))
  client_parted log c t word M k is all i m K w few = client_edited log c zero (main_line c) t word M k refl is all i m K w few

  -- ## Transactions that begin and end

  -- one begins on a line
  pub client_begins : (log : List Entry) (c : Client) (j : ℕ) (l : Line) (D : Document) → IsClient h log c → line_of c j ≡ Some l → HasHead (opening_document h) log l D → length l.own < 256
      → IsClient h log (record (with_transaction_on c j (Some (new_transaction (next_rev c) (last_in_effect D)))) { ids = c.ids + 1 })
  client_begins log c j l D k at head room =
      let u = new_transaction (next_rev c) (last_in_effect D) in
      let fresh = next_new h st log c (next_rev c) k refl in
      let fit = line_fit h st log c k j l at in
      let new = line_new h st log c k j l (next_rev c) at fresh in
      client_turned log c (c.ids + 1) j l (Some u) k at (omega arith)
      (record {
        session = refl;
        num = omega arith;
        new = fresh;
        room = room;
        counted = omega arith;
        before = D;
        main = head;
        under = refl;
        so_far = tt;
        sound = head_sound h st log l D fit head;
        nodes = λ i low. unused_nodes h st log l D (next_rev c) fit head new i;
        cells = λ i low. unused_cells h st log l D (next_rev c) fit head new i;
      })
      (λ v q. inr (λ i x. open_apart h st log c k i (subst (IsOpenAt c i) (rev_there v q) x))) (omega (arith, k.few_names))
    where
      rev_there : (v : Transaction) → Some (new_transaction (next_rev c) (last_in_effect D)) ≡ Some v → v.rev ≡ next_rev c
      rev_there v q = ap (λ (x : Transaction). x.rev) (same q)
        where
          same : Some (new_transaction (next_rev c) (last_in_effect D)) ≡ Some v → v ≡ new_transaction (next_rev c) (last_in_effect D)
          same q = cc

  pub client_begun : (log : List Entry) (c : Client) (D : Document) → IsClient h log c → HasMain h log c D → length c.pending < 256 → IsClient h log (with_begun c (last_in_effect D))
  client_begun log c D k main room = client_begins log c zero (main_line c) D k refl main room

  -- that of a line ends
  pub client_ends : (log : List Entry) (c : Client) (j : ℕ) (l : Line) → IsClient h log c → line_of c j ≡ Some l → IsClient h log (with_transaction_on c j None)
  client_ends log c j l k at =
      subst (IsClient h log) (ids_stay c j None) (client_turned log c c.ids j l None k at (omega arith) tt (λ u q. absurd (bad u q)) (omega (arith, k.few_names)))
    where
      bad : (u : Transaction) → None ≡ Some u → ⊥
      bad u q = cc

  pub client_ended : (log : List Entry) (c : Client) → IsClient h log c → IsClient h log (without_transaction c)
  client_ended log c k = client_ends log c zero (main_line c) k refl

  -- ## A line takes a commit

  pub client_takes : (log : List Entry) (c : Client) (j : ℕ) (l : Line) (D : Document) (N : Intent) → IsClient h log c → line_of c j ≡ Some l → l.transaction ≡ None → HasHead (opening_document h) log l D → Fits D N
      → N.rev.session ≡ c.session → N.rev.num ≤ c.ids → (Has (revisions (all_commits log c) ++ opening ∷ []) N.rev → ⊥) → ((i : ℕ) → IsOpenAt c i N.rev → ⊥) → length l.own < 256
      → unsequenced c + names_made N ≤ 16384 → names_in (commits_in log) ≤ 131072 → IsClient h log (with_commit_on c j N)
  client_takes log c zero l D N k at none head fits session num fresh apart room few all =
      let same : l ≡ main_line c = main_there c l at in
      main_takes h st log c D N k (sym (ap (λ (m : Line). m.transaction) same) ∙ none) (subst (λ (m : Line). HasHead (opening_document h) log m D) same head) fits session num fresh
      (λ b t i e q. let o = open_on_branch h st log c k b t i e in apart o.0 (subst (IsOpenAt c o.0) q o.1)) (omega (arith, room, ap (λ (m : Line). length m.own) same)) few all
  client_takes log c (suc j) l D N k at none head fits session num fresh apart room few all =
      let b = line_there c j l at in
      let p = branch_there c (suc j) b.0 b.1 in
      branch_takes h st log c (suc j) b.0 D N k p.0 p.1 (ap (λ (m : Line). m.transaction) b.2 ∙ none) (subst (λ (m : Line). HasHead (opening_document h) log m D) (sym b.2) head) fits session num fresh apart
      (omega (arith, room, ap (λ (m : Line). length m.own) b.2)) few all

  counted_on : (log : List Entry) (c : Client) → IsClient h log c → IsClient h log (record c { ids = c.ids + 1 })
  counted_on log c k =
      let d : Client = record c { ids = c.ids + 1 } in record {
        within = k.within;
        few = k.few;
        few_names = k.few_names;
        under_way = k.under_way;
        queued = k.queued;
        shown_fit = k.shown_fit;
        sent_fit = k.sent_fit;
        new = k.new;
        own = k.own;
        texts = k.texts;
        carried = carried_as (ranges_in log) c d refl refl refl refl (omega arith) k.carried;
        ids = λ N i s. omega (arith, k.ids N i s);
        transaction = transactions_beside h log log (main_line c) (main_line d) c d c.transaction k.transaction refl (omega arith) refl refl (λ t q x j. x.new j);
        branches = branches_stay h log log c d k.branches (record { branches = refl; forks = refl; session = refl; ids = omega arith; received = omega arith }) (same_fronts log) (sublist_itself (received_by log c ++ c.pending)) refl
            (own_same c d k.branches.transactions k.branches.numbers refl refl);
      }

  -- one of the next id
  pub client_adds : (log : List Entry) (c : Client) (j : ℕ) (l : Line) (D : Document) (N : Intent) → IsClient h log c → line_of c j ≡ Some l → l.transaction ≡ None → HasHead (opening_document h) log l D → Fits D N
      → N.rev ≡ next_rev c → length l.own < 256 → unsequenced c + names_made N ≤ 16384 → names_in (commits_in log) ≤ 131072 → IsClient h log (with_commit_on (with_id c) j N)
  client_adds log c j l D N k at none head fits rev room few all =
      let d : Client = record c { ids = c.ids + 1 } in
      let fresh = next_new h st log c N.rev k rev in
      let num : N.rev.num ≡ c.ids + 1 = ap (λ (r : Rev). r.num) rev in
      client_takes log d j l D N (counted_on log c k) (line_stays c j l at) none head fits (ap (λ (r : Rev). r.session) rev) (omega (arith, num)) fresh
      (λ i x. open_apart h st log c k i (subst (IsOpenAt c i) rev (open_stays c i N.rev x))) room few all

  -- what was edited in the transaction of a line is committed
  pub client_commits_on : (log : List Entry) (c : Client) (j : ℕ) (l : Line) (t : Transaction) (J : Intent) → IsClient h log c → line_of c j ≡ Some l → l.transaction ≡ Some t → t.joined ≡ Some J → IsTransaction h log l c t
      → names_in (commits_in log) ≤ 131072 → IsClient h log (with_commit_on (with_transaction_on c j None) j J)
  client_commits_on log c j l t J k at is joined i all =
      let d = with_transaction_on c j None in
      let so = subst (FitsSoFar i.before t.rev t.under) joined i.so_far in
      let made : option_map_or names_made (edited_on l) 0 ≡ names_made J = edited_there l t is ∙ ap names_edited joined in
      client_takes log d j (record l { transaction = None }) i.before J ended there refl i.main so.0 (ap (λ (r : Rev). r.session) so.1 ∙ i.session ∙ sym (session_stays c j)) (omega (arith, ap (λ (r : Rev). r.num) so.1, i.num, ids_there c j))
      (λ q. i.new (subst (Has (revisions (all_commits log c) ++ opening ∷ [])) so.1 (subst (λ Ns. Has (revisions Ns ++ opening ∷ []) J.rev) (all_stay log c j) q)))
      (λ n x. closed n (subst (IsOpenAt d n) so.1 x)) i.room (omega (arith, k.few_names, names_freed c j l k.branches.numbers at, made)) all
    where
      ended : IsClient h log (with_transaction_on c j None)
      ended = client_ends log c j l k at

      there : line_of (with_transaction_on c j None) j ≡ Some (record l { transaction = None })
      there = transaction_here c j None ∙ ap (option_map (λ (x : Line). record x { transaction = None })) at

      -- no transaction of its revision is open any more
      closed : (n : ℕ) → IsOpenAt (with_transaction_on c j None) n t.rev → ⊥
      closed n x =
          let same : n ≡ j = one_place c n j t.rev k.branches.transactions k.branches.numbers (still_open c j n t.rev x) (open_line c j l t at is) in
          let y = line_open (with_transaction_on c j None) j t.rev ended.branches.numbers (subst (λ m. IsOpenAt (with_transaction_on c j None) m t.rev) same x) in
          bad y.0 y.1 (sym y.2 ∙ there) y.3
        where
          bad : (m : Line) (u : Transaction) → Some m ≡ Some (record l { transaction = None }) → m.transaction ≡ Some u → ⊥
          bad m u e q = let line : m ≡ record l { transaction = None } = cc in let none : None ≡ Some u = sym (ap (λ (x : Line). x.transaction) line) ∙ q in cc

  pub client_commits : (log : List Entry) (c : Client) (t : Transaction) (J : Intent) → IsClient h log c → c.transaction ≡ Some t → t.joined ≡ Some J → IsTransaction h log (main_line c) c t → names_in (commits_in log) ≤ 131072
      → IsClient h log (with_commit (without_transaction c) J)
  client_commits log c t J k is joined i all = client_commits_on log c zero (main_line c) t J k refl is joined i all
