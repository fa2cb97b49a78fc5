-- One who has read the entries up to a reference knows a number for each revision of their commits, and for each that a text tells behind them.
use Rattle.std.proofs.Common.{◌≡◌, ◌≤◌, ◌<◌, ◌+◌, ◌==◌, ◌⊎◌, inl, inr, ℕ, zero, suc, Bool, true, false, cond, List, [], ◌∷◌, ◌++◌, length, take, drop, filter, Option, Some, None, IfSome, refl, sym, ap, ◌∙◌, subst, arith, append_assoc}
use Rattle.std.specs.List.{AllByRecursion, cons_option, filter_map, slice_get}
use Rattle.std.proofs.lemmas.Bool.Decides.{nat_tests}
use Rattle.std.proofs.lemmas.List.{append-nil, take-append-drop, take-take, take_all}
use Rattle.std.proofs.lemmas.List.Elements.{filter_map-append}
use Rattle.std.proofs.lemmas.Option.{slice_get_within}
use Rattle.st_clusters.specs.Log.{AreInTurn, GoOn, carried_count}
use Rattle.st_clusters.specs.declared.ids.IdRange.{IdRange}
use Rattle.st_clusters.proofs.Logs.{carried_own, front_in_turn}
use Rattle.st_ids.specs.Listing.{Has}
use Rattle.st_marks.specs.declared.intents.Intent.{Intent}
use Rattle.st_marks.proofs.Members.{all-has, append_left, append_right, has-append}
use Rattle.st_script.specs.Header.{HeaderView}
use Rattle.st_lists.specs.Log.{commit_in, commit_of, commits_by, commits_in, intents_of, range_in, range_of, ranges_in, ranges_of, waiting}
use Rattle.st_lists.specs.declared.lists.Body.{Body}
use Rattle.st_lists.specs.declared.lists.Body.TheVariants.{Join, Leave, Ack, Commit}
use Rattle.st_lists.specs.declared.lists.Client.{Client}
use Rattle.st_lists.specs.declared.lists.Entry.{Entry}
use Rattle.st_lists.specs.declared.lists.WorldState.{WorldState}
use Rattle.st_lists.proofs.Logs.{take-get, texts_append}
use Rattle.st_valid.specs.Author.{author_list}
use Rattle.st_world_laws.specs.Worlds.{HasOwnIds, IsClient, IsEntryOf, IsQueue, IsWorld}
use Rattle.st_world_laws.proofs.Entering.{place_among}
use Rattle.st_world_laws.proofs.Everyone.{all_get}
use Rattle.st_texts.specs.Names.{IsKnownAt}
use Rattle.st_carried_ids.specs.CarriedIds.{AreNumbered, CarryIds, IsLogNumbered, IsNumbered}
use Rattle.st_carried_ids.proofs.Carrying.{carried_least}

-- the front of a log carries no more ids than a longer front
carried_front : (s : ℕ) (log : List Entry) (i n : ℕ) → i ≤ n → carried_count s (ranges_in (take i log)) ≤ carried_count s (ranges_in (take n log))
carried_front s log i n few =
    let front = take n log in
    let split : ranges_in front ≡ ranges_in (take i log) ++ ranges_in (drop i front) =
    ap ranges_in (sym (take-append-drop i front)) ∙ filter_map-append range_of (take i front) (drop i front) ∙ ap (λ l. ranges_in l ++ ranges_in (drop i front)) (take-take i n log few) in
    omega (arith, ap (carried_count s) split, carried_least s (ranges_in (take i log)) (ranges_in (drop i front)))

-- an item of a list's front is one of the list, before the front's end
get_front : {X : Type 0} (xs : List X) (n i : ℕ) (x : X) → slice_get (take n xs) i ≡ Some x → (slice_get xs i ≡ Some x) × (i < n)
get_front xs zero i x e = cc
get_front [] (suc n) i x e = cc
get_front (y ∷ ys) (suc n) zero x e = (e, omega arith)
get_front (y ∷ ys) (suc n) (suc i) x e = let rest = get_front ys n i x e in (rest.0, omega (arith, rest.1))

-- a commit of a log that is numbered
commit_low : (log : List Entry) (i : ℕ) (e : Entry) (N : Intent) → IsLogNumbered log → slice_get log i ≡ Some e → commit_of e ≡ Some N → N.rev.num ≤ carried_count e.session (ranges_in (take (i + 1) log))
commit_low log i e N all at is = go e.body refl is
  where
    go : (b : Body) → e.body ≡ b → commit_in b ≡ Some N → N.rev.num ≤ carried_count e.session (ranges_in (take (i + 1) log))
    go (Join uuid) body x = cc
    go Leave body x = cc
    go (Ack reference) body x = cc
    go (Commit reference ids M) body x = let same : M ≡ N = cc in all i e reference ids N at (body ∙ ap (Commit reference ids) same)

-- a front of a log that is numbered is so
log_front : (log : List Entry) (n : ℕ) → IsLogNumbered log → IsLogNumbered (take n log)
log_front log n all i e reference ids N at is =
    let here = get_front log n i e at in
    subst (λ l. N.rev.num ≤ carried_count e.session (ranges_in l)) (sym (take-take (i + 1) n log (omega (arith, here.1)))) (all i e reference ids N here.0 is)

all_front : {X : Type 0} (P : X → Type 0) (xs : List X) (n : ℕ) → AllByRecursion P xs → AllByRecursion P (take n xs)
all_front P xs zero all = tt
all_front P [] (suc n) all = tt
all_front P (x ∷ xs) (suc n) all = (all.0, all_front P xs n all.1)

-- so a log carries the revision of each of its commits
carries_each : (log : List Entry) (N : Intent) → AllByRecursion IsEntryOf log → IsLogNumbered log → Has (commits_in log) N → N.rev.num ≤ carried_count N.rev.session (ranges_in log)
carries_each log N entries all there =
    let p = place_among log N there in
    let own : N.rev.session ≡ p.1.session = subst (λ o. IfSome o (λ (M : Intent). M.rev.session ≡ p.1.session)) p.3 (all_get IsEntryOf log p.0 p.1 entries p.2) in
    let low = commit_low log p.0 p.1 N all p.2 p.3 in
    let size = length log in
    let whole : carried_count p.1.session (ranges_in (take size log)) ≡ carried_count p.1.session (ranges_in log) = ap (λ l. carried_count p.1.session (ranges_in l)) (take_all size log (omega arith)) in
    subst (λ m. N.rev.num ≤ carried_count m (ranges_in log)) (sym own) (omega (arith, low, whole, carried_front p.1.session log (p.0 + 1) size (omega (arith, slice_get_within log p.0 p.1 p.2))))

front_carries : (log : List Entry) (n : ℕ) (N : Intent) → AllByRecursion IsEntryOf log → IsLogNumbered log → Has (commits_in (take n log)) N → N.rev.num ≤ carried_count N.rev.session (ranges_in (take n log))
front_carries log n N entries all there = carries_each (take n log) N (all_front IsEntryOf log n entries) (log_front log n all) there

-- those of the entries up to a reference
pub numbered_up_to : (h : HeaderView) (w : WorldState) (reference : ℕ) (N : Intent) → IsWorld h w → CarryIds w → Has (commits_in (take reference w.log)) N → N.rev.num ≤ carried_count N.rev.session (ranges_in (take reference w.log))
numbered_up_to h w n N s f there = front_carries w.log n N s.log f.log there

-- ## What an author writes over

-- the commits of a session among some entries are in them, and have its revisions
by_session : (s : ℕ) (es : List Entry) (N : Intent) → AllByRecursion IsEntryOf es → Has (commits_by s es) N → Has (commits_in es) N × (N.rev.session ≡ s)
by_session s [] N entries there = absurd there
by_session s (e ∷ es) N entries there = go (e.session == s) (commit_of e) refl refl (λ i. by_session s es N entries.1 i) there
  where
    go : (b : Bool) (o : Option Intent) → (e.session == s) ≡ b → commit_of e ≡ o → (Has (commits_by s es) N → Has (commits_in es) N × (N.rev.session ≡ s))
        → Has (filter_map commit_of (cond b (e ∷ filter (λ (x : Entry). x.session == s) es) (filter (λ (x : Entry). x.session == s) es))) N → Has (cons_option o (commits_in es)) N × (N.rev.session ≡ s)
    go b None test is rest i = rest (none b is i)
      where
        none : (b : Bool) → commit_of e ≡ None → Has (filter_map commit_of (cond b (e ∷ filter (λ (x : Entry). x.session == s) es) (filter (λ (x : Entry). x.session == s) es))) N → Has (commits_by s es) N
        none true is i = subst (λ o. Has (cons_option o (commits_by s es)) N) is i
        none false is i = i
    go false (Some M) test is rest i = let x = rest i in (inr x.0, x.1)
    go true (Some M) test is rest i = here (subst (λ o. Has (cons_option o (commits_by s es)) N) is i)
      where
        own : M.rev.session ≡ e.session
        own = subst (λ o. IfSome o (λ (K : Intent). K.rev.session ≡ e.session)) is entries.0

        its : e.session ≡ s
        its = grind (arith, nat_tests, test)

        here : (M ≡ N) ⊎ Has (commits_by s es) N → ((M ≡ N) ⊎ Has (commits_in es) N) × (N.rev.session ≡ s)
        here (inl same) = (inl same, ap (λ (K : Intent). K.rev.session) (sym same) ∙ own ∙ its)
        here (inr j) = let x = rest j in (inr x.0, x.1)

-- the front of a log, and its rest
split : (log : List Entry) (n : ℕ) → commits_in log ≡ commits_in (take n log) ++ commits_in (drop n log)
split log n = ap commits_in (sym (take-append-drop n log)) ∙ filter_map-append commit_of (take n log) (drop n log)

all_rest : {X : Type 0} (P : X → Type 0) (xs : List X) (n : ℕ) → AllByRecursion P xs → AllByRecursion P (drop n xs)
all_rest P xs zero all = all
all_rest P [] (suc n) all = tt
all_rest P (x ∷ xs) (suc n) all = all_rest P xs n all.1

-- each that a session writes over is up to its reference, or one of its own that the log carries
author_known : (log : List Entry) (s n : ℕ) (ids : IdRange) (M : Intent) → AllByRecursion IsEntryOf log → IsLogNumbered log → carried_count s (ranges_in log) < ids.first + ids.count
    → Has (author_list log s n) M → IsKnownAt log s n ids M.rev
author_known log s n ids M entries all room there = elim (has-append (commits_in (take n log)) (commits_by s (drop n log)) M there) [
  | inl i ↦ inl (front_carries log n M entries all i)
  | inr i ↦
      let x = by_session s (drop n log) M (all_rest IsEntryOf log n entries) i in
      let low = carries_each log M entries all (subst (λ l. Has l M) (sym (split log n)) (append_right (commits_in (take n log)) (commits_in (drop n log)) M x.0)) in
      inr (x.1, omega (arith, subst (λ m. M.rev.num ≤ carried_count m (ranges_in log)) x.1 low, room))
]

-- a range among others begins behind what those before it carry
begins : (before : List IdRange) (q : IdRange) (later : List IdRange) → AreInTurn (before ++ q ∷ later) → q.first ≡ carried_count q.session before + 1
begins before q later on = (front_in_turn [] before (q ∷ later) on).1.1

-- ## Texts that wait

-- a text behind others that wait, and those before it
text_behind : (s : ℕ) (ranges : List IdRange) (texts : List Body) (text : Body) (later : List Body) → AreNumbered s ranges (texts ++ text ∷ later) → IsNumbered s (ranges ++ ranges_of texts) text
text_behind s ranges [] text later x = subst (λ l. IsNumbered s l text) (sym (append-nil ranges)) x.0
text_behind s ranges (q ∷ qs) text later x =
    let first : ranges_of (q ∷ qs) ≡ ranges_of (q ∷ []) ++ ranges_of qs = filter_map-append range_in (q ∷ []) qs in
    subst (λ l. IsNumbered s l text) (append_assoc ranges (ranges_of (q ∷ [])) (ranges_of qs) ∙ ap (λ l. ranges ++ l) (sym first)) (text_behind s (ranges ++ ranges_of (q ∷ [])) qs text later x.1)

texts_before : (s : ℕ) (ranges : List IdRange) (texts later : List Body) → AreNumbered s ranges (texts ++ later) → AreNumbered s ranges texts
texts_before s ranges [] later x = tt
texts_before s ranges (q ∷ qs) later x = (x.0, texts_before s (ranges ++ ranges_of (q ∷ [])) qs later x.1)

text_low : (s : ℕ) (ranges : List IdRange) (text : Body) (N : Intent) → IsNumbered s ranges text → commit_in text ≡ Some N → N.rev.num ≤ carried_count s (ranges ++ ranges_of (text ∷ []))
text_low s ranges (Join uuid) N x is = cc
text_low s ranges Leave N x is = cc
text_low s ranges (Ack reference) N x is = cc
text_low s ranges (Commit reference ids M) N x is = let same : M ≡ N = cc in subst (λ (K : Intent). K.rev.num ≤ carried_count s (ranges ++ ids ∷ [])) same x

-- they carry the id of each of their commits
texts_low : (s : ℕ) (ranges : List IdRange) (texts : List Body) (N : Intent) → AreNumbered s ranges texts → Has (intents_of texts) N → N.rev.num ≤ carried_count s (ranges ++ ranges_of texts)
texts_low s ranges [] N x there = absurd there
texts_low s ranges (q ∷ qs) N x there = subst (λ l. N.rev.num ≤ carried_count s l) all (go (commit_in q) refl (texts_low s (ranges ++ ranges_of (q ∷ [])) qs N x.1) there)
  where
    before : List IdRange
    before = ranges ++ ranges_of (q ∷ [])

    all : before ++ ranges_of qs ≡ ranges ++ ranges_of (q ∷ qs)
    all = append_assoc ranges (ranges_of (q ∷ [])) (ranges_of qs) ∙ ap (λ l. ranges ++ l) (sym (filter_map-append range_in (q ∷ []) qs))

    go : (o : Option Intent) → commit_in q ≡ o → (Has (intents_of qs) N → N.rev.num ≤ carried_count s (before ++ ranges_of qs)) → Has (cons_option o (intents_of qs)) N → N.rev.num ≤ carried_count s (before ++ ranges_of qs)
    go None is rest i = rest i
    go (Some M) is rest (inl same) = omega (arith, text_low s ranges q N x.0 (is ∙ ap Some same), carried_least s before (ranges_of qs))
    go (Some M) is rest (inr i) = rest i

-- a commit in a client's queue has its session
queue_own : (h : HeaderView) (log : List Entry) (c : Client) (N : Intent) → IsClient h log c → Has (intents_of c.queue) N → N.rev.session ≡ c.session
queue_own h log c N k there = go c.connected k.queued
  where
    go : (b : Bool) → IsQueue (waiting log c) b c.queue → N.rev.session ≡ c.session
    go true queued = all-has (λ (M : Intent). M.rev.session ≡ c.session) (waiting log c) N k.own (subst (λ l. Has l N) queued there)
    go false queued = absurd (subst (λ l. Has (intents_of l) N) queued there)

module _ (h : HeaderView) (w : WorldState) (s : IsWorld h w) (f : CarryIds w) where
  -- a commit of the log
  module _ (i : ℕ) (e : Entry) (n : ℕ) (ids : IdRange) (N : Intent) (at : slice_get w.log i ≡ Some e) (is : e.body ≡ Commit n ids N) where
    abbrev L : List Entry
    L = take i w.log

    range : range_of e ≡ Some ids
    range = ap range_in is

    its : ids.session ≡ e.session
    its = subst (λ o. IfSome o (λ (r : IdRange). r.session ≡ e.session)) range (all_get HasOwnIds w.log i e s.own_ids at)

    upto : ranges_in (take (i + 1) w.log) ≡ ranges_in L ++ ids ∷ []
    upto = ap ranges_in (take-get w.log i e at) ∙ filter_map-append range_of L (e ∷ []) ∙ ap (λ o. ranges_in L ++ cons_option o []) range

    whole : ranges_in w.log ≡ ranges_in L ++ ids ∷ ranges_in (drop (i + 1) w.log)
    whole =
        ap ranges_in (sym (take-append-drop (i + 1) w.log)) ∙ filter_map-append range_of (take (i + 1) w.log) (drop (i + 1) w.log)
        ∙ ap (λ l. l ++ ranges_in (drop (i + 1) w.log)) upto ∙ append_assoc (ranges_in L) (ids ∷ []) (ranges_in (drop (i + 1) w.log))

    first : ids.first ≡ carried_count e.session (ranges_in L) + 1
    first = begins (ranges_in L) ids (ranges_in (drop (i + 1) w.log)) (subst AreInTurn whole s.ranges) ∙ ap (λ m. carried_count m (ranges_in L) + 1) its

    count : carried_count e.session (ranges_in L ++ ids ∷ []) ≡ carried_count e.session (ranges_in L) + ids.count
    count = carried_own e.session (ranges_in L) ids its

    low : N.rev.num ≤ carried_count e.session (ranges_in L ++ ids ∷ [])
    low = subst (λ l. N.rev.num ≤ carried_count e.session l) upto (f.log i e n ids N at is)

    own : N.rev.session ≡ e.session
    own = subst (λ o. IfSome o (λ (K : Intent). K.rev.session ≡ e.session)) (ap commit_in is) (all_get IsEntryOf w.log i e s.log at)

    pub logged_known : (M : Intent) → Has (author_list L e.session n ++ N ∷ []) M → IsKnownAt L e.session n ids M.rev
    logged_known M there = elim (has-append (author_list L e.session n) (N ∷ []) M there) [
      | inl j ↦ author_known L e.session n ids M (all_front IsEntryOf w.log i s.log) (log_front w.log i f.log) (omega (arith, first)) j
      | inr j ↦ elim j [ inl same ↦ subst (λ (K : Intent). IsKnownAt L e.session n ids K.rev) same (inr (own, omega (arith, low, count, first))) | inr k ↦ absurd k ]
    ]

  -- a commit that waits
  module _ (c : Client) (before later : List Body) (n : ℕ) (ids : IdRange) (N : Intent) (there : Has w.clients c) (is : c.queue ≡ before ++ Commit n ids N ∷ later) where
    abbrev R : List IdRange
    R = ranges_in w.log ++ ranges_of before

    k : IsClient h w.log c
    k = all-has (IsClient h w.log) w.clients c s.clients there

    queue : AreNumbered c.session (ranges_in w.log) (before ++ Commit n ids N ∷ later)
    queue = subst (AreNumbered c.session (ranges_in w.log)) is (all-has (λ (d : Client). AreNumbered d.session (ranges_in w.log) d.queue) w.clients c f.waiting there)

    ranges : ranges_of c.queue ≡ ranges_of before ++ ids ∷ ranges_of later
    ranges = ap ranges_of is ∙ filter_map-append range_in before (Commit n ids N ∷ later)

    commits : intents_of c.queue ≡ intents_of before ++ N ∷ intents_of later
    commits = ap intents_of is ∙ texts_append before (Commit n ids N ∷ later)

    its_own : ids.session ≡ c.session
    its_own = all-has (λ (r : IdRange). r.session ≡ c.session) (ranges_of c.queue) ids k.carried.own (subst (λ l. Has l ids) (sym ranges) (append_right (ranges_of before) (ids ∷ ranges_of later) ids (inl refl)))

    begins_here : ids.first ≡ carried_count c.session R + 1
    begins_here = (front_in_turn (ranges_in w.log) (ranges_of before) (ids ∷ ranges_of later) (subst (GoOn (ranges_in w.log)) ranges k.carried.on)).1.1 ∙ ap (λ m. carried_count m R + 1) its_own

    own_before : (M : Intent) → Has (intents_of before) M → IsKnownAt w.log c.session n ids M.rev
    own_before M i = inr (
      queue_own h w.log c M k (subst (λ l. Has l M) (sym commits) (append_left (intents_of before) (N ∷ intents_of later) M i)),
      omega (arith, begins_here, texts_low c.session (ranges_in w.log) before M (texts_before c.session (ranges_in w.log) before (Commit n ids N ∷ later) queue) i),
    )

    itself : IsKnownAt w.log c.session n ids N.rev
    itself = inr (
      queue_own h w.log c N k (subst (λ l. Has l N) (sym commits) (append_right (intents_of before) (N ∷ intents_of later) N (inl refl))),
      omega (arith, begins_here, text_behind c.session (ranges_in w.log) before (Commit n ids N) later queue, carried_own c.session R ids its_own),
    )

    pub waiting_known : (M : Intent) → Has (author_list w.log c.session n ++ (intents_of before ++ N ∷ [])) M → IsKnownAt w.log c.session n ids M.rev
    waiting_known M i = elim (has-append (author_list w.log c.session n) (intents_of before ++ N ∷ []) M i) [
      | inl j ↦ author_known w.log c.session n ids M s.log f.log (omega (arith, begins_here, carried_least c.session (ranges_in w.log) (ranges_of before))) j
      | inr j ↦ elim (has-append (intents_of before) (N ∷ []) M j) [
        | inl x ↦ own_before M x
        | inr x ↦ elim x [ inl same ↦ subst (λ (K : Intent). IsKnownAt w.log c.session n ids K.rev) same itself | inr y ↦ absurd y ]
      ]
    ]
