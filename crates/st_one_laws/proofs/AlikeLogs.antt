-- Logs, lines and clients that are alike.
use Rattle.std.proofs.Common.{◌≡◌, ℕ, zero, suc, ◌+◌, ◌-◌, ◌==◌, nat_le, nat_lt, min, max, Bool, false, List, [], ◌∷◌, ◌++◌, length, take, drop, Option, Some, None, refl, sym, ap, ◌∙◌, subst, cond, option_map, option_and_then, fold}
use Rattle.std.specs.List.{cons_option, filter}
use Rattle.std.specs.Option.{option_map_or, option_or}
use Rattle.st_clusters.specs.Free.{free_number, spans_meet}
use Rattle.st_clusters.specs.declared.ids.IdRange.{IdRange}
use Rattle.st_ids.specs.declared.names.LimitOf.TheVariants.{Branch as BranchLimit, Branches, Log, Names, Pending, Unsequenced}
use Rattle.st_marks.specs.declared.intents.Intent.{Intent}
use Rattle.st_marks.specs.Document.{Document}
use Rattle.st_lists.specs.Open.{with_open}
use Rattle.st_lists.specs.declared.lists.Body.{Body}
use Rattle.st_lists.specs.declared.lists.Body.TheVariants.{Join, Leave, Ack, Commit}
use Rattle.st_lists.specs.declared.lists.Branch.{Branch}
use Rattle.st_lists.specs.declared.lists.Client.{Client}
use Rattle.st_lists.specs.declared.lists.Entry.{Entry}
use Rattle.st_lists.specs.declared.lists.Transaction.{Transaction}
use Rattle.st_lists.specs.Clients.{HasReceived, joined_of, next_rev}
use Rattle.st_lists.specs.Limits.{entries_limit_passed, limit_passed, log_limit_passed, names_limit_passed, own_limit_passed, pending_limit_passed, branches_limit_passed}
use Rattle.st_lists.specs.Lines.{HasHead, Line, branch_line, branch_of, commits_of, edited_on, has_children, line_of, main_line}
use Rattle.st_lists.specs.Log.{clashes, commit_in, commit_of, commits_by, commits_in, connected_after, connected_by, floor, is_connected, known_reference, meets, minimum, own_in_flight, range_in, ranges_in, reference_in, reference_of, sessions_in, uuid_in, waiting, with_reference}
use Rattle.st_lists.specs.Names.{names_in_text, names_made, names_on, names_on_all, unsequenced}
use Rattle.st_valid.specs.Author.{author_list}
use Rattle.st_world.specs.World.{HasShown}
use Rattle.st_same_laws.proofs.CarriedDocuments.{full_same}
use Rattle.st_one_laws.specs.AlikeWorlds.{AlikeBody, AlikeBranch, AlikeClient, AlikeEntry, AlikeLine, AlikeTransaction, InBoth, IsAlike, OneByOne, bare}
use Rattle.st_one_laws.proofs.OneByOne.{any_same, as_long, behind, dropped, filter_mapped, filtered, folded, found, taken}
use Rattle.st_one_laws.proofs.AlikeIntents.{alike_says, lead_alike, names_alike, option_names_alike}

-- ## Logs

-- their commits say the same, and so do those over which a session writes
pub commits_alike : (es fs : List Entry) → OneByOne AlikeEntry es fs → OneByOne IsAlike (commits_in es) (commits_in fs)
commits_alike es fs o = filter_mapped AlikeEntry IsAlike commit_of commit_of (λ e f a. a.body.1) es fs o

own_alike : (s : ℕ) (es fs : List Entry) → OneByOne AlikeEntry es fs → OneByOne IsAlike (commits_by s es) (commits_by s fs)
own_alike s es fs o =
    commits_alike (filter (λ (e : Entry). e.session == s) es) (filter (λ (e : Entry). e.session == s) fs)
    (filtered AlikeEntry (λ (e : Entry). e.session == s) (λ (e : Entry). e.session == s) (λ e f r. λ i. r.session i == s) es fs o)

pub authors_alike : (es fs : List Entry) (s r : ℕ) → OneByOne AlikeEntry es fs → OneByOne IsAlike (author_list es s r) (author_list fs s r)
authors_alike es fs s r o =
    behind IsAlike (commits_in (take r es)) (commits_in (take r fs)) (commits_by s (drop r es)) (commits_by s (drop r fs))
    (commits_alike (take r es) (take r fs) (taken AlikeEntry r es fs o)) (own_alike s (drop r es) (drop r fs) (dropped AlikeEntry r es fs o))

after_bare : (before : Bool) (b : Body) → connected_after before b ≡ connected_after before (bare b).0
after_bare before (Join uuid) = refl
after_bare before Leave = refl
after_bare before (Ack reference) = refl
after_bare before (Commit reference ids intent) = refl

reference_bare : (n : ℕ) (b : Body) → reference_in n b ≡ reference_in n (bare b).0
reference_bare n (Join uuid) = refl
reference_bare n Leave = refl
reference_bare n (Ack reference) = refl
reference_bare n (Commit reference ids intent) = refl

range_bare : (b : Body) → range_in b ≡ (bare b).1
range_bare (Join uuid) = refl
range_bare Leave = refl
range_bare (Ack reference) = refl
range_bare (Commit reference ids intent) = refl

pub uuid_bare : (b : Body) → uuid_in b ≡ uuid_in (bare b).0
uuid_bare (Join uuid) = refl
uuid_bare Leave = refl
uuid_bare (Ack reference) = refl
uuid_bare (Commit reference ids intent) = refl

-- they carry the same ids, and tell the same UUIDs
pub ranges_alike : (es fs : List Entry) → OneByOne AlikeEntry es fs → ranges_in es ≡ ranges_in fs
ranges_alike [] [] o = refl
ranges_alike [] (f ∷ fs) o = absurd o
ranges_alike (e ∷ es) [] o = absurd o
ranges_alike (e ∷ es) (f ∷ fs) o =
    let range : range_in e.body ≡ range_in f.body = range_bare e.body ∙ ap (λ (p : Body × Option IdRange). p.1) o.0.body.0 ∙ sym (range_bare f.body) in
    λ i. cons_option (range i) (ranges_alike es fs o.1 i)

pub clashes_alike : (uuid : ℕ) (es fs : List Entry) → OneByOne AlikeEntry es fs → clashes uuid es ≡ clashes uuid fs
clashes_alike uuid es fs o = any_same AlikeEntry (meets uuid) (meets uuid) (λ e f a. ap (λ u. option_map_or (λ n. spans_meet (free_number n) (free_number uuid)) u false) (told e f a)) es fs o
  where
    told : (e f : Entry) → AlikeEntry e f → uuid_in e.body ≡ uuid_in f.body
    told e f a = uuid_bare e.body ∙ ap (λ (p : Body × Option IdRange). uuid_in p.0) a.body.0 ∙ sym (uuid_bare f.body)

connected_one : (s : ℕ) (before : Bool) (e f : Entry) → AlikeEntry e f → connected_by s before e ≡ connected_by s before f
connected_one s before e f a =
    let body : connected_after before e.body ≡ connected_after before f.body = after_bare before e.body ∙ ap (λ (p : Body × Option IdRange). connected_after before p.0) a.body.0 ∙ sym (after_bare before f.body) in
    λ i. cond (a.session i == s) (body i) before

reference_alike : (e f : Entry) → AlikeEntry e f → reference_of e ≡ reference_of f
reference_alike e f a = reference_bare e.n e.body ∙ (λ i. reference_in (a.n i) (a.body.0 i).0) ∙ sym (reference_bare f.n f.body)

pub connected_alike : (s : ℕ) (es fs : List Entry) → OneByOne AlikeEntry es fs → is_connected s es ≡ is_connected s fs
connected_alike s es fs o = folded AlikeEntry (connected_by s) (connected_by s) (connected_one s) false es fs o

pub known_alike : (s : ℕ) (es fs : List Entry) → OneByOne AlikeEntry es fs → known_reference s es ≡ known_reference s fs
known_alike s es fs o = folded AlikeEntry (with_reference s) (with_reference s) (λ known e f a. λ i. cond (a.session i == s) (max known (reference_alike e f a i)) known) 0 es fs o

pub sessions_alike : (es fs : List Entry) → OneByOne AlikeEntry es fs → sessions_in es ≡ sessions_in fs
sessions_alike es fs o = folded AlikeEntry (λ most (e : Entry). max most e.session) (λ most (e : Entry). max most e.session) (λ most e f a. ap (max most) a.session) 0 es fs o

abbrev least : List Entry → ℕ → Entry → ℕ
least log m e = cond (is_connected e.session log) (min m (known_reference e.session log)) m

least_one : (es fs : List Entry) → OneByOne AlikeEntry es fs → (m : ℕ) (e f : Entry) → AlikeEntry e f → least es m e ≡ least fs m f
least_one es fs o m e f a = ap (λ s. cond (is_connected s es) (min m (known_reference s es)) m) a.session ∙ (λ i. cond (connected_alike f.session es fs o i) (min m (known_alike f.session es fs o i)) m)

pub minimum_alike : (es fs : List Entry) → OneByOne AlikeEntry es fs → minimum es ≡ minimum fs
minimum_alike es fs o = ap (λ n. fold (least es) n es) (as_long AlikeEntry es fs o) ∙ folded AlikeEntry (least es) (least fs) (least_one es fs o) (length fs) es fs o

pub floor_alike : (history n : ℕ) (es fs : List Entry) → OneByOne AlikeEntry es fs → floor history es n ≡ floor history fs n
floor_alike history n es fs o = ap (λ m. m - history) (minimum_alike (take n es) (take n fs) (taken AlikeEntry n es fs o))

pub entries_limit_alike : (es fs : List Entry) → OneByOne AlikeEntry es fs → entries_limit_passed es ≡ entries_limit_passed fs
entries_limit_alike es fs o = ap (λ n. cond (nat_le 65535 n) (Some (record { of = Log; kept = n })) None) (as_long AlikeEntry es fs o)

pub log_limit_alike : (es fs : List Entry) (made made' : ℕ) → OneByOne AlikeEntry es fs → made ≡ made' → log_limit_passed es made ≡ log_limit_passed fs made'
log_limit_alike es fs made made' o e =
    let names = names_alike (commits_in es) (commits_in fs) (commits_alike es fs o) in
    λ i. cond (nat_le 65535 (as_long AlikeEntry es fs o i)) (Some (record { of = Log; kept = as_long AlikeEntry es fs o i })) (cond (nat_lt 131072 (names i + e i)) (Some (record { of = Names; kept = names i })) None)

-- ## Lines

pub commits_of_alike : (es fs : List Entry) (l m : Line) → OneByOne AlikeEntry es fs → AlikeLine l m → OneByOne IsAlike (commits_of es l) (commits_of fs m)
commits_of_alike es fs l m o a =
    let received : OneByOne AlikeEntry (take l.received es) (take m.received fs) = subst (λ n. OneByOne AlikeEntry (take l.received es) (take n fs)) a.received (taken AlikeEntry l.received es fs o) in
    behind IsAlike (commits_in (take l.received es)) (commits_in (take m.received fs)) (l.base ++ l.own) (m.base ++ m.own) (commits_alike (take l.received es) (take m.received fs) received)
    (behind IsAlike l.base m.base l.own m.own a.base a.own)

pub head_alike : (O : Document) (es fs : List Entry) (l m : Line) (D E : Document) → OneByOne AlikeEntry es fs → AlikeLine l m → HasHead O es l D → HasHead O fs m E → D ≡ E
head_alike O es fs l m D E o a r q = lead_alike O D E (commits_of es l) (commits_of fs m) (commits_of_alike es fs l m o a) r q

edited_by : (t u : Option Transaction) → InBoth AlikeTransaction t u → InBoth IsAlike (option_and_then (λ (t : Transaction). t.joined) t) (option_and_then (λ (t : Transaction). t.joined) u)
edited_by None None a = tt
edited_by None (Some u) a = absurd a
edited_by (Some t) None a = absurd a
edited_by (Some t) (Some u) a = a.joined

pub edited_alike : (l m : Line) → AlikeLine l m → InBoth IsAlike (edited_on l) (edited_on m)
edited_alike l m a = edited_by l.transaction m.transaction a.transaction

open_alike : (D : Document) (o p : Option Intent) → InBoth IsAlike o p → with_open D o ≡ with_open D p
open_alike D None None a = refl
open_alike D None (Some M) a = absurd a
open_alike D (Some N) None a = absurd a
open_alike D (Some N) (Some M) a = full_same D N M (alike_says N M a)

pub shown_alike : (O : Document) (es fs : List Entry) (l m : Line) (D E : Document) → OneByOne AlikeEntry es fs → AlikeLine l m → HasShown O es l D → HasShown O fs m E → D ≡ E
shown_alike O es fs l m D E o a r q =
    let head : r.0 ≡ q.0 = head_alike O es fs l m r.0 q.0 o a r.1 q.1 in
    r.2 ∙ ap (λ F. with_open F (edited_on l)) head ∙ open_alike q.0 (edited_on l) (edited_on m) (edited_alike l m a) ∙ sym q.2

-- ## Clients

pub name_alike : (c d : Client) → AlikeClient c d → c.name ≡ d.name
name_alike c d a = ap (λ (x : Client). x.name) a.plain

pub session_alike : (c d : Client) → AlikeClient c d → c.session ≡ d.session
session_alike c d a = ap (λ (x : Client). x.session) a.plain

pub connected_both : (c d : Client) → AlikeClient c d → c.connected ≡ d.connected
connected_both c d a = ap (λ (x : Client). x.connected) a.plain

pub received_both : (c d : Client) → AlikeClient c d → c.received ≡ d.received
received_both c d a = ap (λ (x : Client). x.received) a.plain

pub next_both : (c d : Client) → AlikeClient c d → next_rev c ≡ next_rev d
next_both c d a = ap next_rev a.plain

pub main_alike : (c d : Client) → AlikeClient c d → AlikeLine (main_line c) (main_line d)
main_alike c d a = record { received = received_both c d a; base = tt; own = a.pending; transaction = a.transaction }

pub branch_line_alike : (b e : Branch) → AlikeBranch b e → AlikeLine (branch_line b) (branch_line e)
branch_line_alike b e a = record { received = a.received; base = a.base; own = a.own; transaction = a.transaction }

pub branch_of_alike : (c d : Client) (k : ℕ) → AlikeClient c d → InBoth AlikeBranch (branch_of c k) (branch_of d k)
branch_of_alike c d k a = found AlikeBranch (λ (b : Branch). b.number == k) (λ (b : Branch). b.number == k) (λ b e r. ap (λ n. n == k) r.number) c.branches d.branches a.branches

lines_of : (b e : Option Branch) → InBoth AlikeBranch b e → InBoth AlikeLine (option_map branch_line b) (option_map branch_line e)
lines_of None None a = tt
lines_of None (Some e) a = absurd a
lines_of (Some b) None a = absurd a
lines_of (Some b) (Some e) a = branch_line_alike b e a

pub line_of_alike : (c d : Client) (k : ℕ) → AlikeClient c d → InBoth AlikeLine (line_of c k) (line_of d k)
line_of_alike c d zero a = main_alike c d a
line_of_alike c d (suc k) a = lines_of (branch_of c (suc k)) (branch_of d (suc k)) (branch_of_alike c d (suc k) a)

pub children_alike : (c d : Client) (k : ℕ) → AlikeClient c d → has_children c k ≡ has_children d k
children_alike c d k a = any_same AlikeBranch (λ (b : Branch). b.parent == k) (λ (b : Branch). b.parent == k) (λ b e r. ap (λ n. n == k) r.parent) c.branches d.branches a.branches

pub received_alike : (O : Document) (es fs : List Entry) (c d : Client) (D E : Document) → OneByOne AlikeEntry es fs → AlikeClient c d → HasReceived O es c D → HasReceived O fs d E → D ≡ E
received_alike O es fs c d D E o a r q =
    let received : OneByOne AlikeEntry (take c.received es) (take d.received fs) = subst (λ n. OneByOne AlikeEntry (take c.received es) (take n fs)) (received_both c d a) (taken AlikeEntry c.received es fs o) in
    lead_alike O D E (commits_in (take c.received es)) (commits_in (take d.received fs)) (commits_alike (take c.received es) (take d.received fs) received) r q

in_flight_alike : (es fs : List Entry) (c d : Client) → OneByOne AlikeEntry es fs → AlikeClient c d → OneByOne IsAlike (own_in_flight es c) (own_in_flight fs d)
in_flight_alike es fs c d o a =
    let rest : OneByOne AlikeEntry (drop c.received es) (drop d.received fs) = subst (λ n. OneByOne AlikeEntry (drop c.received es) (drop n fs)) (received_both c d a) (dropped AlikeEntry c.received es fs o) in
    commits_alike (filter (λ (e : Entry). e.session == c.session) (drop c.received es)) (filter (λ (e : Entry). e.session == d.session) (drop d.received fs))
    (filtered AlikeEntry (λ (e : Entry). e.session == c.session) (λ (e : Entry). e.session == d.session) (λ e f r. λ i. r.session i == session_alike c d a i) (drop c.received es) (drop d.received fs) rest)

pub waiting_alike : (es fs : List Entry) (c d : Client) → OneByOne AlikeEntry es fs → AlikeClient c d → OneByOne IsAlike (waiting es c) (waiting fs d)
waiting_alike es fs c d o a =
    subst (λ n. OneByOne IsAlike (waiting es c) (drop n d.pending)) (as_long IsAlike (own_in_flight es c) (own_in_flight fs d) (in_flight_alike es fs c d o a))
    (dropped IsAlike (length (own_in_flight es c)) c.pending d.pending a.pending)

-- ## Names and limits

on_alike : (b e : Branch) → AlikeBranch b e → names_on b ≡ names_on e
on_alike b e a = λ i. option_names_alike (option_and_then (λ (t : Transaction). t.joined) b.transaction) (option_and_then (λ (t : Transaction). t.joined) e.transaction) (edited_by b.transaction e.transaction a.transaction) i + names_alike b.own e.own a.own i

on_all_alike : (bs es : List Branch) → OneByOne AlikeBranch bs es → names_on_all bs ≡ names_on_all es
on_all_alike [] [] o = refl
on_all_alike [] (e ∷ es) o = absurd o
on_all_alike (b ∷ bs) [] o = absurd o
on_all_alike (b ∷ bs) (e ∷ es) o = λ i. on_alike b e o.0 i + on_all_alike bs es o.1 i

unsequenced_alike : (c d : Client) → AlikeClient c d → unsequenced c ≡ unsequenced d
unsequenced_alike c d a = λ i. (option_names_alike (joined_of c) (joined_of d) (edited_by c.transaction d.transaction a.transaction) i + names_alike c.pending d.pending a.pending i) + on_all_alike c.branches d.branches a.branches i

pub own_limit_alike : (k : ℕ) (l m : Line) (n n' : ℕ) → AlikeLine l m → n ≡ n' → own_limit_passed k l n ≡ own_limit_passed k m n'
own_limit_alike zero l m n n' a e = λ i. cond (nat_lt 256 (as_long IsAlike l.own m.own a.own i + e i)) (Some (record { of = Pending; kept = as_long IsAlike l.own m.own a.own i })) None
own_limit_alike (suc k) l m n n' a e = λ i. cond (nat_lt 256 (as_long IsAlike l.own m.own a.own i + e i)) (Some (record { of = BranchLimit; kept = as_long IsAlike l.own m.own a.own i })) None

pub pending_limit_alike : (c d : Client) → AlikeClient c d → pending_limit_passed c ≡ pending_limit_passed d
pending_limit_alike c d a = own_limit_alike 0 (main_line c) (main_line d) 1 1 (main_alike c d a) refl

pub branches_limit_alike : (c d : Client) → AlikeClient c d → branches_limit_passed c ≡ branches_limit_passed d
branches_limit_alike c d a = ap (λ n. cond (nat_le 16 n) (Some (record { of = Branches; kept = n })) None) (as_long AlikeBranch c.branches d.branches a.branches)

pub names_limit_alike : (c d : Client) (N : Intent) → AlikeClient c d → names_limit_passed c N ≡ names_limit_passed d N
names_limit_alike c d N a = ap (λ n. cond (nat_lt 16384 (n + names_made N)) (Some (record { of = Unsequenced; kept = n })) None) (unsequenced_alike c d a)

pub limit_alike : (c d : Client) (k : ℕ) (l m : Line) (N : Intent) → AlikeClient c d → AlikeLine l m → limit_passed c k l N ≡ limit_passed d k m N
limit_alike c d k l m N a b = λ i. option_or (own_limit_alike k l m 1 1 b refl i) (names_limit_alike c d N a i)

pub text_names_alike : (b d : Body) → AlikeBody b d → names_in_text b ≡ names_in_text d
text_names_alike b d a = option_names_alike (commit_in b) (commit_in d) a.1
