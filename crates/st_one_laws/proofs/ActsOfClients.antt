-- What one client does, of two that are alike: one answer, and clients that are alike.
use Rattle.std.proofs.Common.{◌≡◌, inl, ℕ, ◌+◌, ◌==◌, nat_le, Bool, true, false, not, List, length, take, Option, Some, None, Result, Ok, Err, refl, sym, ap, ◌∙◌, subst, cond, is_some, IfSome, option_map, option_and_then}
use Rattle.std.specs.List.{find}
use Rattle.std.specs.Option.{option_map_or, option_or}
use Rattle.st_ids.specs.Listing.{AreDistinct}
use Rattle.st_ids.specs.Order.{same_rev}
use Rattle.st_ids.specs.declared.names.Limit.{Limit}
use Rattle.st_ids.specs.declared.names.Rev.{Rev}
use Rattle.st_tree.specs.declared.edit.EditFault.{EditFault}
use Rattle.st_schema.specs.Schema.{SchemaView}
use Rattle.st_schema.specs.Wider.{wider_of}
use Rattle.st_marks.specs.declared.intents.Intent.{Intent}
use Rattle.st_marks.specs.declared.verdicts.Verdict.{Verdict}
use Rattle.st_marks.specs.Document.{Document}
use Rattle.st_marks.specs.Intent.{IsIntent}
use Rattle.st_marks.proofs.OneVerdict.{one_verdict}
use Rattle.st_lists.specs.Voids.{is_void}
use Rattle.st_script.specs.declared.answer.Answer.{Answer}
use Rattle.st_script.specs.declared.answer.Answer.TheVariants as answer
use Rattle.st_script.specs.declared.refusal.Refusal.{Refusal}
use Rattle.st_script.specs.declared.refusal.Refusal.TheVariants as no
use Rattle.st_lists.specs.declared.lists.Branch.{Branch}
use Rattle.st_lists.specs.declared.lists.Client.{Client}
use Rattle.st_lists.specs.declared.lists.Entry.{Entry}
use Rattle.st_lists.specs.declared.lists.Transaction.{Transaction}
use Rattle.st_lists.specs.Clients.{next_rev, new_transaction, with_edited, with_id, with_new_commit, with_received}
use Rattle.st_lists.specs.Limits.{limit_passed, names_limit_passed, own_limit_passed}
use Rattle.st_lists.specs.Lines.{Line, commits_of, has_children, main_line, with_base, with_commits_on, with_transaction_on, without_branch}
use Rattle.st_lists.specs.Log.{commit_of, floor}
use Rattle.st_edits.specs.declared.names.NameCounters.{NameCounters}
use Rattle.st_lists.specs.Voids.{AreVoid}
use Rattle.st_world.specs.Branches.{IsMerged, IsRebased, drop_branch, fork, refusal_to_fork, refusal_to_merge, refusal_to_rebase}
use Rattle.st_world.specs.Kept.{IsKept, Unless}
use Rattle.st_world.specs.Undo.{IsAfterUndo, IsUndone, IsUndoneAt, has_commit, has_rev, entry_number, refusal_of_rev, refusal_over}
use Rattle.st_world.specs.Upgrade.{change_of_schema, refusal_of_narrowing, refusal_to_upgrade, schemas_limit_passed, upgrade}
use Rattle.st_world.specs.World.{IsAfterEdit, IsAfterNeed, IsDeliveredIn, IsDeliveredTo, IsEditedIn, IsJoined, IsVerdictOf, abort, after_commit, after_edit, answer_of, begin, cells_given, commit, next_names, refusal_of, with_beginning, with_new_on}
use Rattle.st_world.specs.declared.edit_word.EditWord.{EditWord}
use Rattle.st_world.specs.declared.edit_word.EditWord.TheVariants as word
use Rattle.st_same_laws.proofs.CarriedDocuments.{verdict_same}
use Rattle.st_one_laws.specs.AlikeWorlds.{AlikeBranch, AlikeClient, AlikeEntry, AlikeLine, AlikeTransaction, InBoth, IsAlike, OneByOne}
use Rattle.st_one_laws.proofs.OneByOne.{any_same, as_long, found, option_mapped, taken}
use Rattle.st_one_laws.proofs.AlikeIntents.{alike_itself, alike_says, parts_alike, rev_alike}
use Rattle.st_one_laws.proofs.AlikeLogs.{branches_limit_alike, children_alike, commits_of_alike, floor_alike, head_alike, limit_alike, main_alike, names_limit_alike, next_both, own_limit_alike, pending_limit_alike, received_both, session_alike}
use Rattle.st_one_laws.proofs.AlikeClients.{all_committed_on, based_alike, committed_on, edited_one, forked_alike, ids_alike, ids_more, new_transaction_alike, newly_committed, some_alike, taken_alike, transaction_on, without_alike}
use Rattle.st_one_laws.proofs.VoidCommits.{at_alike, undoing_alike, void_alike}

-- alike clients and one answer
abbrev pub Same : Client → Answer → Client → Answer → Type 0
Same d a e b = AlikeClient d e × (a ≡ b)

-- what equals such a pair
pub same_of : (p q : Client × Answer) (d e : Client) (a b : Answer) → Same p.0 p.1 q.0 q.1 → p ≡ (d, a) → q ≡ (e, b) → Same d a e b
same_of p q d e a b s f g = subst (λ (x : Client × Answer). Same x.0 x.1 e b) f (subst (λ (x : Client × Answer). Same p.0 p.1 x.0 x.1) g s)

pub same_by : (x y d e : Client) (f g a b : Answer) → AlikeClient x y → f ≡ g → d ≡ x → a ≡ f → e ≡ y → b ≡ g → Same d a e b
same_by x y d e f g a b s same p q r t = (subst (λ z. AlikeClient z e) (sym p) (subst (AlikeClient x) (sym r) s), q ∙ same ∙ sym t)

module _ (c d : Client) (s : AlikeClient c d) where
  kept_same : (e f : Client) (a b why other : Answer) → why ≡ other → IsKept c e a why → IsKept d f b other → Same e a f b
  kept_same e f a b why other w p q = same_by c d e f why other a b s w p.0 p.1 q.0 q.1

  -- a step that is refused or not
  pub unless_same : (o p : Option Refusal) (e f : Client) (a b : Answer) (P Q : Type 0) → o ≡ p → (P → Q → Same e a f b) → Unless o c e a P → Unless p d f b Q → Same e a f b
  unless_same o p e f a b P Q same next x y = go p (subst (λ r. Unless r c e a P) same x) y
    where
      go : (r : Option Refusal) → Unless r c e a P → Unless r d f b Q → Same e a f b
      go None x y = next x y
      go (Some why) x y = kept_same e f a b (answer.No why) (answer.No why) refl x y

  -- ## Edits

  new_on : (k : ℕ) (w : EditWord) (N : Intent) (o : Option Limit) → Same (with_new_on c k w N o).0 (with_new_on c k w N o).1 (with_new_on d k w N o).0 (with_new_on d k w N o).1
  new_on k w N None = (committed_on (with_id c) (with_id d) k N N (ids_alike c d (c.ids + 1) (d.ids + 1) s (ids_more c d s)) (alike_itself N), ap (answer_of w) (next_both c d s))
  new_on k w N (Some o) = (s, refl)

  edit_same : (k : ℕ) (l m : Line) (w : EditWord) (r : Result Intent EditFault) → AlikeLine l m → Same (after_edit c k l w r).0 (after_edit c k l w r).1 (after_edit d k m w r).0 (after_edit d k m w r).1
  edit_same k l m w (Err f) a = (s, refl)
  edit_same k l m w (Ok N) a =
      subst (λ o. Same (after_edit c k l w (Ok N)).0 (after_edit c k l w (Ok N)).1 (with_new_on d k w N o).0 (with_new_on d k w N o).1) (limit_alike c d k l m N s a) (new_on k w N (limit_passed c k l N))

  joined_same : (k : ℕ) (t u : Transaction) (w : EditWord) (M : Intent) (o p : Option Limit) (e f : Client) (a b : Answer) → AlikeTransaction t u → IfSome u.joined IsIntent → o ≡ p → IsJoined c k t w M o e a → IsJoined d k u w M p f b → Same e a f b
  joined_same k t u w M o p e f a b r i same x y = go p (subst (λ q. IsJoined c k t w M q e a) same x) y
    where
      go : (q : Option Limit) → IsJoined c k t w M q e a → IsJoined d k u w M q f b → Same e a f b
      go (Some q) x y = kept_same e f a b (answer.No (no.Limit q)) (answer.No (no.Limit q)) refl x y
      go None x y =
          let joined : IsAlike x.0 y.0 = parts_alike t.joined u.joined M x.0 y.0 r.joined i x.1 y.1 in
          let now = edited_one t u x.0 y.0 (length M.new) (cells_given w M) (length M.new) (cells_given w M) r joined refl refl in
          same_by (with_transaction_on c k (Some (with_edited t x.0 (length M.new) (cells_given w M)))) (with_transaction_on d k (Some (with_edited u y.0 (length M.new) (cells_given w M)))) e f (answer_of w t.rev) (answer_of w u.rev) a b
          (transaction_on c d k (Some (with_edited t x.0 (length M.new) (cells_given w M))) (Some (with_edited u y.0 (length M.new) (cells_given w M))) s now) (ap (answer_of w) r.rev) x.2 x.3 y.2 y.3

  edited_in : (k : ℕ) (t u : Transaction) (w : EditWord) (r : Result Intent EditFault) (e f : Client) (a b : Answer) → AlikeTransaction t u → IfSome u.joined IsIntent → IsEditedIn c k t w r e a → IsEditedIn d k u w r f b → Same e a f b
  edited_in k t u w (Err g) e f a b r i x y = kept_same e f a b (answer.No (refusal_of g)) (answer.No (refusal_of g)) refl x y
  edited_in k t u w (Ok M) e f a b r i x y = joined_same k t u w M (names_limit_passed c M) (names_limit_passed d M) e f a b r i (names_limit_alike c d M s) x y

  names_same : (t u : Option Transaction) → InBoth AlikeTransaction t u → next_names c t ≡ next_names d u
  names_same None None a = ap (λ (r : Rev). let n : NameCounters = record { rev = r; nodes = 0; cells = 0 } in n) (next_both c d s)
  names_same None (Some u) a = absurd a
  names_same (Some t) None a = absurd a
  names_same (Some t) (Some u) a = λ i. record { rev = a.rev i; nodes = a.nodes i; cells = a.cells i }

  pub after_edit_same : (k : ℕ) (l m : Line) (t u : Option Transaction) (w : EditWord) (means : NameCounters → Result Intent EditFault) (e f : Client) (a b : Answer) → AlikeLine l m → InBoth AlikeTransaction t u
      → IfSome (option_and_then (λ (t : Transaction). t.joined) u) IsIntent → IsAfterEdit c k l t w (means (next_names c t)) e a → IsAfterEdit d k m u w (means (next_names d u)) f b → Same e a f b
  after_edit_same k l m t u w means e f a b line r i x y = go t u r i (subst (λ n. IsAfterEdit c k l t w (means n) e a) (names_same t u r) x) y
    where
      go : (t u : Option Transaction) → InBoth AlikeTransaction t u → IfSome (option_and_then (λ (t : Transaction). t.joined) u) IsIntent → IsAfterEdit c k l t w (means (next_names d u)) e a → IsAfterEdit d k m u w (means (next_names d u)) f b → Same e a f b
      go None None r i x y = same_of (after_edit c k l w (means (next_names d None))) (after_edit d k m w (means (next_names d None))) e f a b (edit_same k l m w (means (next_names d None)) line) x y
      go None (Some u) r i x y = absurd r
      go (Some t) None r i x y = absurd r
      go (Some t) (Some u) r i x y = edited_in k t u w (means (next_names d (Some u))) e f a b r i x y

  pub after_need_same : (k : ℕ) (t u : Option Transaction) (means : NameCounters → Result Intent EditFault) (e f : Client) (a b : Answer) → InBoth AlikeTransaction t u
      → IfSome (option_and_then (λ (t : Transaction). t.joined) u) IsIntent → IsAfterNeed c k t (means (next_names c t)) e a → IsAfterNeed d k u (means (next_names d u)) f b → Same e a f b
  after_need_same k t u means e f a b r i x y = go t u r i (subst (λ n. IsAfterNeed c k t (means n) e a) (names_same t u r) x) y
    where
      go : (t u : Option Transaction) → InBoth AlikeTransaction t u → IfSome (option_and_then (λ (t : Transaction). t.joined) u) IsIntent → IsAfterNeed c k t (means (next_names d u)) e a → IsAfterNeed d k u (means (next_names d u)) f b → Same e a f b
      go None None r i x y = kept_same e f a b (answer.No no.NotBegun) (answer.No no.NotBegun) refl x y
      go None (Some u) r i x y = absurd r
      go (Some t) None r i x y = absurd r
      go (Some t) (Some u) r i x y = edited_in k t u word.Need (means (next_names d (Some u))) e f a b r i x y

  -- ## Transactions

  beginning : (k : ℕ) (under : Rev) (o : Option Limit) → Same (with_beginning c k under o).0 (with_beginning c k under o).1 (with_beginning d k under o).0 (with_beginning d k under o).1
  beginning k under None = (
    ids_alike (with_transaction_on c k (Some (new_transaction (next_rev c) under))) (with_transaction_on d k (Some (new_transaction (next_rev d) under))) (c.ids + 1) (d.ids + 1)
        (transaction_on c d k (Some (new_transaction (next_rev c) under)) (Some (new_transaction (next_rev d) under)) s (new_transaction_alike (next_rev c) (next_rev d) under under (next_both c d s) refl)) (ids_more c d s),
    ap (λ r. answer.Begin r) (next_both c d s),
  )
  beginning k under (Some o) = (s, refl)

  pub begin_same : (k : ℕ) (l m : Line) (t u : Option Transaction) (under : Rev) → AlikeLine l m → InBoth AlikeTransaction t u → Same (begin c k l t under).0 (begin c k l t under).1 (begin d k m u under).0 (begin d k m u under).1
  begin_same k l m None None under a r =
      subst (λ o. Same (begin c k l None under).0 (begin c k l None under).1 (with_beginning d k under o).0 (with_beginning d k under o).1) (own_limit_alike k l m 1 1 a refl) (beginning k under (own_limit_passed k l 1))
  begin_same k l m None (Some u) under a r = absurd r
  begin_same k l m (Some t) None under a r = absurd r
  begin_same k l m (Some t) (Some u) under a r = (s, refl)

  pub abort_same : (k : ℕ) (t u : Option Transaction) → InBoth AlikeTransaction t u → Same (abort c k t).0 (abort c k t).1 (abort d k u).0 (abort d k u).1
  abort_same k None None r = (s, refl)
  abort_same k None (Some u) r = absurd r
  abort_same k (Some t) None r = absurd r
  abort_same k (Some t) (Some u) r = (transaction_on c d k None None s tt, refl)

after_commit_same : (c d : Client) (k : ℕ) (r q : Rev) (o p : Option Intent) → AlikeClient c d → r ≡ q → InBoth IsAlike o p → Same (after_commit c k r o).0 (after_commit c k r o).1 (after_commit d k q p).0 (after_commit d k q p).1
after_commit_same c d k r q None None s e a = (s, refl)
after_commit_same c d k r q None (Some M) s e a = absurd a
after_commit_same c d k r q (Some N) None s e a = absurd a
after_commit_same c d k r q (Some N) (Some M) s e a = (committed_on c d k N M s a, ap (λ x. answer.Commit (Some x)) e)

pub commit_same : (c d : Client) (k : ℕ) (t u : Option Transaction) → AlikeClient c d → InBoth AlikeTransaction t u → Same (commit c k t).0 (commit c k t).1 (commit d k u).0 (commit d k u).1
commit_same c d k None None s r = (s, refl)
commit_same c d k None (Some u) s r = absurd r
commit_same c d k (Some t) None s r = absurd r
commit_same c d k (Some t) (Some u) s r = after_commit_same (with_transaction_on c k None) (with_transaction_on d k None) k t.rev u.rev t.joined u.joined (transaction_on c d k None None s tt) r.rev r.joined

-- ## Receiving

verdict_of_alike : (D : Document) (o p : Option Intent) (v w : Verdict) → InBoth IsAlike o p → IsVerdictOf D o v → IsVerdictOf D p w → v ≡ w
verdict_of_alike D None None v w a x y = x ∙ sym y
verdict_of_alike D None (Some M) v w a x y = absurd a
verdict_of_alike D (Some N) None v w a x y = absurd a
verdict_of_alike D (Some N) (Some M) v w a x y = one_verdict D M v w (verdict_same D N M v (alike_says N M a) x) y

delivered_to : (c d : Client) (D : Document) (o p : Option Entry) (e f : Client) (a b : Answer) → AlikeClient c d → InBoth AlikeEntry o p → IsDeliveredTo D c o e a → IsDeliveredTo D d p f b → Same e a f b
delivered_to c d D None None e f a b s r x y = same_by c d e f (answer.No no.NothingNew) (answer.No no.NothingNew) a b s refl x.0 x.1 y.0 y.1
delivered_to c d D None (Some q) e f a b s r x y = absurd r
delivered_to c d D (Some p) None e f a b s r x y = absurd r
delivered_to c d D (Some p) (Some q) e f a b s r x y =
    let void : x.0 ≡ y.0 = verdict_of_alike D (commit_of p) (commit_of q) x.0 y.0 r.body.1 x.1 y.1 in
    same_by (with_received p c) (with_received q d) e f (answer.Deliver (c.received + 1) x.0) (answer.Deliver (d.received + 1) y.0) a b (taken_alike p q c d r s) (λ i. answer.Deliver (received_both c d s i + 1) (void i)) x.2 x.3 y.2 y.3

pub delivered_same : (c d : Client) (D : Document) (t u : Option Transaction) (o p : Option Entry) (e f : Client) (a b : Answer) → AlikeClient c d → InBoth AlikeTransaction t u → InBoth AlikeEntry o p
    → IsDeliveredIn D c t o e a → IsDeliveredIn D d u p f b → Same e a f b
delivered_same c d D None None o p e f a b s r q x y = delivered_to c d D o p e f a b s q x y
delivered_same c d D None (Some u) o p e f a b s r q x y = absurd r
delivered_same c d D (Some t) None o p e f a b s r q x y = absurd r
delivered_same c d D (Some t) (Some u) o p e f a b s r q x y = same_by c d e f (answer.No no.Unfinished) (answer.No no.Unfinished) a b s refl x.0 x.1 y.0 y.1

-- ## Undoing

has_by : (rev : Rev) (o p : Option Intent) → InBoth IsAlike o p → option_map_or (has_rev rev) o false ≡ option_map_or (has_rev rev) p false
has_by rev None None a = refl
has_by rev None (Some M) a = absurd a
has_by rev (Some N) None a = absurd a
has_by rev (Some N) (Some M) a = ap (λ r. same_rev r rev) (rev_alike N M a)

number_alike : (rev : Rev) (es fs : List Entry) (c d : Client) → OneByOne AlikeEntry es fs → AlikeClient c d → entry_number rev es c ≡ entry_number rev fs d
number_alike rev es fs c d o s =
    ap (λ n. option_map (λ (e : Entry). e.n) (find (has_commit rev) (take n es))) (received_both c d s)
    ∙ option_mapped AlikeEntry (λ (e : Entry). e.n) (λ (e : Entry). e.n) (λ e f r. r.n) (find (has_commit rev) (take d.received es)) (find (has_commit rev) (take d.received fs))
    (found AlikeEntry (has_commit rev) (has_commit rev) (λ e f r. has_by rev (commit_of e) (commit_of f) r.body.1) (take d.received es) (take d.received fs) (taken AlikeEntry d.received es fs o))

floor_both : (history : ℕ) (es fs : List Entry) (c d : Client) → OneByOne AlikeEntry es fs → AlikeClient c d → floor history es c.received ≡ floor history fs d.received
floor_both history es fs c d o s = ap (floor history es) (received_both c d s) ∙ floor_alike history d.received es fs o

refusal_alike : (history : ℕ) (es fs : List Entry) (c d : Client) (Ns Ms : List Intent) (rev : Rev) → OneByOne AlikeEntry es fs → AlikeClient c d → OneByOne IsAlike Ns Ms
    → refusal_of_rev history es c Ns rev ≡ refusal_of_rev history fs d Ms rev
refusal_alike history es fs c d Ns Ms rev o s p =
    let any = any_same IsAlike (has_rev rev) (has_rev rev) (λ N M a. ap (λ r. same_rev r rev) (rev_alike N M a)) Ns Ms p in
    let low = floor_both history es fs c d o s in
    let number = number_alike rev es fs c d o s in
    λ i. cond (not (any i)) (Some no.NoCommit) (cond (not (rev.session == session_alike c d s i)) (Some no.NotOwn) (cond (option_map_or (λ n. nat_le n (low i)) (number i) false) (Some (no.Gone (low i))) None))

over_alike : (v w : Verdict) (N M : Intent) (c d : Client) → v ≡ w → IsAlike N M → AlikeClient c d → refusal_over v N c ≡ refusal_over w M d
over_alike v w N M c d e a s = λ i. cond (is_void (e i)) (Some no.VoidCommit) (cond (is_some ((alike_says N M a).schema i)) (Some no.Kind) (option_map (λ l. no.Limit l) (pending_limit_alike c d s i)))

undone_same : (O : Document) (Ns Ms : List Intent) (rev : Rev) (c d e f : Client) (a b : Answer) → AlikeClient c d → OneByOne IsAlike Ns Ms → AreDistinct (λ (N : Intent). N.rev) Ms → IsUndone O Ns rev c e a → IsUndone O Ms rev d f b → Same e a f b
undone_same O Ns Ms rev c d e f a b s o once x y =
    let back = undoing_alike O Ns Ms rev (next_rev c) (next_rev d) x.0 y.0 o once (next_both c d s) x.1 y.1 in
    same_by (with_new_commit c x.0) (with_new_commit d y.0) e f (answer.Undo (next_rev c)) (answer.Undo (next_rev d)) a b (newly_committed c d x.0 y.0 s back) (ap (λ r. answer.Undo r) (next_both c d s)) x.2 x.3 y.2 y.3

undone_at : (O : Document) (Ns Ms : List Intent) (rev : Rev) (c d e f : Client) (a b : Answer) → AlikeClient c d → OneByOne IsAlike Ns Ms → AreDistinct (λ (N : Intent). N.rev) Ms → IsUndoneAt O Ns rev c e a → IsUndoneAt O Ms rev d f b → Same e a f b
undone_at O Ns Ms rev c d e f a b s o once (N, D, v, at, x) (M, E, w, there, y) =
    let one = at_alike O Ns Ms rev N M D E v w o once at there in
    unless_same c d s (refusal_over v N c) (refusal_over w M d) e f a b (IsUndone O Ns rev c e a) (IsUndone O Ms rev d f b) (over_alike v w N M c d one.2 one.0 s) (undone_same O Ns Ms rev c d e f a b s o once) x y

pub undo_same : (O : Document) (history : ℕ) (es fs : List Entry) (c d : Client) (t u : Option Transaction) (rev : Rev) (e f : Client) (a b : Answer) → OneByOne AlikeEntry es fs → AlikeClient c d → InBoth AlikeTransaction t u
    → AreDistinct (λ (N : Intent). N.rev) (commits_of fs (main_line d)) → IsAfterUndo O history es c t rev e a → IsAfterUndo O history fs d u rev f b → Same e a f b
undo_same O history es fs c d (Some t) (Some u) rev e f a b o s r once x y = same_by c d e f (answer.No no.Unfinished) (answer.No no.Unfinished) a b s refl x.0 x.1 y.0 y.1
undo_same O history es fs c d (Some t) None rev e f a b o s r once x y = absurd r
undo_same O history es fs c d None (Some u) rev e f a b o s r once x y = absurd r
undo_same O history es fs c d None None rev e f a b o s r once x y =
    let Ns = commits_of es (main_line c) in
    let Ms = commits_of fs (main_line d) in
    let both = commits_of_alike es fs (main_line c) (main_line d) o (main_alike c d s) in
    unless_same c d s (refusal_of_rev history es c Ns rev) (refusal_of_rev history fs d Ms rev) e f a b (IsUndoneAt O Ns rev c e a) (IsUndoneAt O Ms rev d f b) (refusal_alike history es fs c d Ns Ms rev o s both)
    (undone_at O Ns Ms rev c d e f a b s both once) x y

-- ## Upgrades

upgraded : (c d : Client) (N M : Intent) (o : Option Refusal) → AlikeClient c d → N ≡ M → Same (upgrade c N o).0 (upgrade c N o).1 (upgrade d M o).0 (upgrade d M o).1
upgraded c d N M None s e = (newly_committed c d N M s (inl e), ap (λ r. answer.Upgrade r) (next_both c d s))
upgraded c d N M (Some why) s e = (s, refl)

to_upgrade : (c d : Client) (old : SchemaView) (n : ℕ) (new : SchemaView) → AlikeClient c d → refusal_to_upgrade c old n new ≡ refusal_to_upgrade d old n new
to_upgrade c d old n new s = λ i. cond (some_alike AlikeTransaction c.transaction d.transaction s.transaction i) (Some no.Unfinished)
    (option_or (refusal_of_narrowing (wider_of old new)) (option_map (λ l. no.Limit l) (option_or (schemas_limit_passed n) (pending_limit_alike c d s i))))

pub upgrade_same : (c d : Client) (under : Rev) (old : SchemaView) (n : ℕ) (new : SchemaView) → AlikeClient c d
    → Same (upgrade c (change_of_schema (next_rev c) under new) (refusal_to_upgrade c old n new)).0 (upgrade c (change_of_schema (next_rev c) under new) (refusal_to_upgrade c old n new)).1
    (upgrade d (change_of_schema (next_rev d) under new) (refusal_to_upgrade d old n new)).0 (upgrade d (change_of_schema (next_rev d) under new) (refusal_to_upgrade d old n new)).1
upgrade_same c d under old n new s =
    let N = change_of_schema (next_rev c) under new in
    let M = change_of_schema (next_rev d) under new in
    let o = refusal_to_upgrade c old n new in
    subst (λ p. Same (upgrade c N o).0 (upgrade c N o).1 (upgrade d M p).0 (upgrade d M p).1) (to_upgrade c d old n new s) (upgraded c d N M o s (ap (λ r. change_of_schema r under new) (next_both c d s)))

-- ## Branches

fork_by : (c d : Client) (k : ℕ) (l m : Line) (o : Option Refusal) → AlikeClient c d → AlikeLine l m → Same (fork c k l o).0 (fork c k l o).1 (fork d k m o).0 (fork d k m o).1
fork_by c d k l m None s a = (forked_alike c d k l m s a, ap (λ (x : Client). answer.Fork (x.forks + 1)) s.plain)
fork_by c d k l m (Some why) s a = (s, refl)

to_fork : (c d : Client) (l m : Line) → AlikeClient c d → AlikeLine l m → refusal_to_fork c l ≡ refusal_to_fork d m
to_fork c d l m s a = λ i. cond (some_alike AlikeTransaction l.transaction m.transaction a.transaction i) (Some no.Unfinished) (option_map (λ o. no.Limit o) (branches_limit_alike c d s i))

pub fork_same : (c d : Client) (k : ℕ) (l m : Line) → AlikeClient c d → AlikeLine l m → Same (fork c k l (refusal_to_fork c l)).0 (fork c k l (refusal_to_fork c l)).1 (fork d k m (refusal_to_fork d m)).0 (fork d k m (refusal_to_fork d m)).1
fork_same c d k l m s a = subst (λ o. Same (fork c k l (refusal_to_fork c l)).0 (fork c k l (refusal_to_fork c l)).1 (fork d k m o).0 (fork d k m o).1) (to_fork c d l m s a) (fork_by c d k l m (refusal_to_fork c l) s a)

pub to_rebase : (b e : Branch) → AlikeBranch b e → refusal_to_rebase b ≡ refusal_to_rebase e
to_rebase b e a = ap (λ x. cond x (Some no.Unfinished) None) (some_alike AlikeTransaction b.transaction e.transaction a.transaction)

pub rebased_same : (O : Document) (es fs : List Entry) (c d : Client) (k : ℕ) (b g : Branch) (l m : Line) (e f : Client) (a z : Answer) → OneByOne AlikeEntry es fs → AlikeClient c d → AlikeBranch b g → AlikeLine l m
    → IsRebased O es c k b l e a → IsRebased O fs d k g m f z → Same e a f z
rebased_same O es fs c d k b g l m e f a z o s r q (D, void, head, are, x, y) (E, gone, top, were, u, v) =
    let same : D ≡ E = head_alike O es fs l m D E o q head top in
    let voids : void ≡ gone = void_alike E b.own g.own void gone r.own (subst (λ (F : Document). AreVoid F b.own void) same are) were in
    same_by (with_base c k l) (with_base d k m) e f (answer.Rebase void) (answer.Rebase gone) a z (based_alike c d k l m s q) (ap (λ n. answer.Rebase n) voids) x y u v

pub to_merge : (c d : Client) (k : ℕ) (b g : Branch) (l m : Line) → AlikeClient c d → AlikeBranch b g → AlikeLine l m → refusal_to_merge c k b l ≡ refusal_to_merge d k g m
to_merge c d k b g l m s r q =
    let own : length b.own ≡ length g.own = as_long IsAlike b.own g.own r.own in
    let limit : own_limit_passed b.parent l (length b.own) ≡ own_limit_passed g.parent m (length g.own) = ap (λ n. own_limit_passed n l (length b.own)) r.parent ∙ own_limit_alike g.parent l m (length b.own) (length g.own) q own in
    λ i. cond (some_alike AlikeTransaction b.transaction g.transaction r.transaction i) (Some no.Unfinished) (cond (some_alike AlikeTransaction l.transaction m.transaction q.transaction i) (Some no.Unfinished)
    (cond (children_alike c d k s i) (Some no.HasChildren) (option_map (λ o. no.Limit o) (limit i))))

pub merged_same : (O : Document) (es fs : List Entry) (c d : Client) (k : ℕ) (b g : Branch) (l m : Line) (e f : Client) (a z : Answer) → OneByOne AlikeEntry es fs → AlikeClient c d → AlikeBranch b g → AlikeLine l m
    → IsMerged O es c k b l e a → IsMerged O fs d k g m f z → Same e a f z
merged_same O es fs c d k b g l m e f a z o s r q (D, void, head, are, x, y) (E, gone, top, were, u, v) =
    let same : D ≡ E = head_alike O es fs l m D E o q head top in
    let voids : void ≡ gone = void_alike E b.own g.own void gone r.own (subst (λ (F : Document). AreVoid F b.own void) same are) were in
    let parent : with_commits_on (without_branch c k) b.parent b.own ≡ with_commits_on (without_branch c k) g.parent b.own = ap (λ n. with_commits_on (without_branch c k) n b.own) r.parent in
    same_by (with_commits_on (without_branch c k) g.parent b.own) (with_commits_on (without_branch d k) g.parent g.own) e f (answer.Merge void) (answer.Merge gone) a z
    (all_committed_on g.parent b.own g.own (without_branch c k) (without_branch d k) (without_alike c d k s) r.own) (ap (λ n. answer.Merge n) voids) (x ∙ parent) y u v

dropped_by : (c d : Client) (k : ℕ) (x y : Bool) → x ≡ y → AlikeClient c d → (p : Client × Answer) (q : Client × Answer) → p ≡ cond x (c, answer.No no.HasChildren) (without_branch c k, answer.DropBranch) → q ≡ cond y (d, answer.No no.HasChildren) (without_branch d k, answer.DropBranch)
    → Same p.0 p.1 q.0 q.1
dropped_by c d k true true e s p q f g = same_by c d p.0 q.0 (answer.No no.HasChildren) (answer.No no.HasChildren) p.1 q.1 s refl (ap (λ (z : Client × Answer). z.0) f) (ap (λ (z : Client × Answer). z.1) f) (ap (λ (z : Client × Answer). z.0) g) (ap (λ (z : Client × Answer). z.1) g)
dropped_by c d k true false e s p q f g = absurd (cc)
dropped_by c d k false true e s p q f g = absurd (cc)
dropped_by c d k false false e s p q f g =
    same_by (without_branch c k) (without_branch d k) p.0 q.0 answer.DropBranch answer.DropBranch p.1 q.1 (without_alike c d k s) refl (ap (λ (z : Client × Answer). z.0) f) (ap (λ (z : Client × Answer). z.1) f) (ap (λ (z : Client × Answer). z.0) g) (ap (λ (z : Client × Answer). z.1) g)

pub drop_same : (c d : Client) (k : ℕ) → AlikeClient c d → Same (drop_branch c k).0 (drop_branch c k).1 (drop_branch d k).0 (drop_branch d k).1
drop_same c d k s = dropped_by c d k (has_children c k) (has_children d k) (children_alike c d k s) s (drop_branch c k) (drop_branch d k) refl refl
