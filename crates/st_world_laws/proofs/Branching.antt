-- One of a client's branches changes: it takes a commit, or a transaction begins, goes on or ends on it.
use Rattle.std.proofs.Common.{Bool, IfSome, List, None, Option, Some, [], ap, append_assoc, arith, cond, false, filter, inl, inr, length, length-append, map, refl, subst, suc, sym, take, true, zero, ℕ, ◌++◌, ◌+◌, ◌<◌, ◌∙◌, ◌∷◌, ◌≡◌, ◌≢◌, ◌≤◌, ◌⊎◌}
use Rattle.std.proofs.lemmas.Bool.Decides.{nat_tests}
use Rattle.std.proofs.lemmas.List.{append-nil}
use Rattle.std.specs.List.{AllByRecursion}
use Rattle.std.specs.Option.{option_and_then, option_map_or}
use Rattle.std.specs.Prelude.{if◌then◌else◌, not, ◌==◌}
use Rattle.st_ids.specs.Listing.{AreDistinct, Has}
use Rattle.st_ids.specs.Root.{opening}
use Rattle.st_ids.specs.declared.names.Rev.{Rev}
use Rattle.st_lists.proofs.Names.{fewer_names, names_append}
use Rattle.st_lists.specs.Clients.{joined_of}
use Rattle.st_lists.specs.Lines.{AreStanding, HasHead, HaveOwnTransactions, StandsOn, all_commits, branch_line, commits_of, edited_on, main_line, on_branch, own_of}
use Rattle.st_lists.specs.Log.{commits_in, log_and_waiting, ranges_in}
use Rattle.st_world_laws.proofs.Ranges.{carried_as}
use Rattle.st_lists.specs.Names.{names_in, names_made, names_on, names_on_all, unsequenced}
use Rattle.st_lists.specs.declared.lists.Branch.{Branch}
use Rattle.st_lists.specs.declared.lists.Client.{Client}
use Rattle.st_lists.specs.declared.lists.Entry.{Entry}
use Rattle.st_lists.specs.declared.lists.Transaction.{Transaction}
use Rattle.st_log_laws.proofs.Beside.{one_fits}
use Rattle.st_log_laws.proofs.Room.{room_in_run}
use Rattle.st_log_laws.proofs.Shorter.{sublist_itself, sublist_joined, sublist_none, sublist_on}
use Rattle.st_log_laws.specs.Names.{HaveNewRevisions, revisions}
use Rattle.st_log_laws.specs.Turns.{FitInTurn, IsSublist}
use Rattle.st_marks.proofs.Members.{all-has, append_left, append_right, distinct-has, has-all, has-append, has-map, map-has}
use Rattle.st_marks.specs.Document.{Document}
use Rattle.st_marks.specs.Intent.{Fits}
use Rattle.st_marks.specs.declared.intents.Intent.{Intent}
use Rattle.st_script.specs.Header.{HeaderView}
use Rattle.st_world_laws.proofs.Among.{all_few, branch_among, branch_is, open_on_branch}
use Rattle.st_world_laws.proofs.Begun.{IsStart}
use Rattle.st_world_laws.proofs.Beside.{all_stand, branch_beside, same_fronts, transactions_beside}
use Rattle.st_world_laws.proofs.Clients.{head_sound, fits_more, has_between, new_between, none_open, rev_between}
use Rattle.st_world_laws.proofs.Counting.{room_left}
use Rattle.st_world_laws.proofs.Lookup.{IsOpenAt, own_kept, own_with}
use Rattle.st_world_laws.specs.Worlds.{AreBranches, IsBranch, IsClient, IsTransaction}
use Rattle.st_world.specs.World.{opening_document}

-- ## Lists

-- a branch stands once in the list; what it is now, or that it is gone, is told around it
pub record IsSplitAt (n : ℕ) (b : Branch) (bs : List Branch) : Type 0 where
  pub before : List Branch
  pub after : List Branch
  pub is : bs ≡ before ++ b ∷ after
  pub changed : (g : Branch → Branch) → on_branch n g bs ≡ before ++ g b ∷ after
  pub without : filter (λ (x : Branch). not (x.number == n)) bs ≡ before ++ after

pub is_not : (m n : ℕ) → m ≢ n → (m == n) ≡ false
is_not m n apart = by (m == n) refl
  where
    by : (t : Bool) → (m == n) ≡ t → (m == n) ≡ false
    by false q = q
    by true q = let same : m ≡ n = grind (arith, nat_tests) in absurd (apart same)

others_kept : (n : ℕ) (g : Branch → Branch) (bs : List Branch) → AllByRecursion (λ (y : Branch). y.number ≢ n) bs → on_branch n g bs ≡ bs
others_kept n g [] a = refl
others_kept n g (x ∷ xs) a = ap (λ t. cond t (g x) x ∷ on_branch n g xs) (is_not x.number n a.0) ∙ ap (λ l. x ∷ l) (others_kept n g xs a.1)

abbrev pub others : ℕ → List Branch → List Branch
others n bs = filter (λ (x : Branch). not (x.number == n)) bs

others_left : (n : ℕ) (bs : List Branch) → AllByRecursion (λ (y : Branch). y.number ≢ n) bs → others n bs ≡ bs
others_left n [] a = refl
others_left n (x ∷ xs) a = ap (λ t. cond (not t) (x ∷ others n xs) (others n xs)) (is_not x.number n a.0) ∙ ap (λ l. x ∷ l) (others_left n xs a.1)

pub split_at : (n : ℕ) (b : Branch) (bs : List Branch) → AreDistinct (λ (x : Branch). x.number) bs → Has bs b → b.number ≡ n → IsSplitAt n b bs
split_at n b [] d i e = absurd i
split_at n b (x ∷ xs) d (inl q) e = record {
  before = [];
  after = xs;
  is = ap (λ y. y ∷ xs) q;
  changed = λ g. ap (λ t. cond t (g x) x ∷ on_branch n g xs) test ∙ ap (λ y. g y ∷ on_branch n g xs) q ∙ ap (λ l. g b ∷ l) (others_kept n g xs apart);
  without = ap (λ t. cond (not t) (x ∷ others n xs) (others n xs)) test ∙ others_left n xs apart;
}
  where
    number : x.number ≡ n
    number = ap (λ (y : Branch). y.number) q ∙ e

    test : (x.number == n) ≡ true
    test = let same : x.number ≡ n = number in grind (arith, nat_tests)

    apart : AllByRecursion (λ (y : Branch). y.number ≢ n) xs
    apart = subst (λ m. AllByRecursion (λ (y : Branch). y.number ≢ m) xs) number d.0
split_at n b (x ∷ xs) d (inr i) e = longer (split_at n b xs d.1 i e)
  where
    test : (x.number == n) ≡ false
    test = is_not x.number n (λ q. all-has (λ (y : Branch). y.number ≢ x.number) xs b d.0 i (e ∙ sym q))

    longer : IsSplitAt n b xs → IsSplitAt n b (x ∷ xs)
    longer rest = record {
      before = x ∷ rest.before;
      after = rest.after;
      is = ap (λ l. x ∷ l) rest.is;
      changed = λ g. ap (λ t. cond t (g x) x ∷ on_branch n g xs) test ∙ ap (λ l. x ∷ l) (rest.changed g);
      without = ap (λ t. cond (not t) (x ∷ others n xs) (others n xs)) test ∙ ap (λ l. x ∷ l) rest.without;
    }

pub names_around : (xs ys : List Branch) (b : Branch) → names_on_all (xs ++ b ∷ ys) ≡ names_on_all xs + (names_on b + names_on_all ys)
names_around [] ys b = omega arith
names_around (x ∷ xs) ys b = omega (arith, names_around xs ys b)

pub names_both : (xs ys : List Branch) → names_on_all (xs ++ ys) ≡ names_on_all xs + names_on_all ys
names_both [] ys = omega arith
names_both (x ∷ xs) ys = omega (arith, names_both xs ys)

pub own_both : (xs ys : List Branch) → own_of (xs ++ ys) ≡ own_of xs ++ own_of ys
own_both [] ys = refl
own_both (x ∷ xs) ys = ap (λ l. x.own ++ l) (own_both xs ys) ∙ sym (append_assoc x.own (own_of xs) (own_of ys))

-- what holds of the branch of the number as it is now, and of the others, holds
pub by_number : (Q : Branch → Type 0) (n : ℕ) (g : Branch → Branch) (b : Branch) → (b.number ≡ n → Q (g b)) → (b.number ≢ n → Q b) → Q (if b.number == n then g b else b)
by_number Q n g b here there = go (b.number == n) refl
  where
    go : (t : Bool) → (b.number == n) ≡ t → Q (cond t (g b) b)
    go true e = let same : b.number ≡ n = grind (arith, nat_tests) in here same
    go false e = there (λ q. differ q)
      where
        differ : b.number ≡ n → ⊥
        differ q = grind (arith, nat_tests)

-- where the one that changed has the same own commits, all have; so it is with the names that wait on it
pub own_unchanged : (n : ℕ) (g : Branch → Branch) → ((x : Branch) → (g x).own ≡ x.own) → (bs : List Branch) → own_of (on_branch n g bs) ≡ own_of bs
own_unchanged n g same [] = refl
own_unchanged n g same (x ∷ xs) =
    let rest : x.own ++ own_of (on_branch n g xs) ≡ x.own ++ own_of xs = ap (λ l. x.own ++ l) (own_unchanged n g same xs) in
    by_number (λ y. y.own ++ own_of (on_branch n g xs) ≡ x.own ++ own_of xs) n g x (λ q. ap (λ l. l ++ own_of (on_branch n g xs)) (same x) ∙ rest) (λ q. rest)

pub names_unchanged : (n : ℕ) (g : Branch → Branch) → ((x : Branch) → names_on (g x) ≡ names_on x) → (bs : List Branch) → names_on_all (on_branch n g bs) ≡ names_on_all bs
names_unchanged n g same [] = refl
names_unchanged n g same (x ∷ xs) =
    let rest : names_on x + names_on_all (on_branch n g xs) ≡ names_on x + names_on_all xs = ap (λ m. names_on x + m) (names_unchanged n g same xs) in
    by_number (λ y. names_on y + names_on_all (on_branch n g xs) ≡ names_on x + names_on_all xs) n g x (λ q. ap (λ m. m + names_on_all (on_branch n g xs)) (same x) ∙ rest) (λ q. rest)

pub own_turned : (n : ℕ) (o : Option Transaction) (bs : List Branch) → own_of (on_branch n (λ x. record x { transaction = o }) bs) ≡ own_of bs
own_turned n o bs = own_unchanged n (λ x. record x { transaction = o }) (λ x. refl) bs

-- what was edited on one gives way to what is
pub names_turned : (n : ℕ) (b : Branch) (o : Option Transaction) (bs : List Branch) → IsSplitAt n b bs
    → names_on_all (on_branch n (λ x. record x { transaction = o }) bs) + option_map_or names_made (edited_on (branch_line b)) 0 ≡ names_on_all bs + option_map_or names_made (option_and_then (λ (t : Transaction). t.joined) o) 0
names_turned n b o bs p =
    let g : Branch → Branch = λ x. record x { transaction = o } in
    let was : names_on_all bs ≡ names_on_all p.before + ((option_map_or names_made (edited_on (branch_line b)) 0 + names_in b.own) + names_on_all p.after) = ap names_on_all p.is ∙ names_around p.before p.after b in
    let is : names_on_all (on_branch n g bs) ≡ names_on_all p.before + ((option_map_or names_made (option_and_then (λ (t : Transaction). t.joined) o) 0 + names_in b.own) + names_on_all p.after) = ap names_on_all (p.changed g) ∙ names_around p.before p.after (g b) in
    omega (arith, was, is)

pub distinct_changed : (f : Branch → Branch) → ((b : Branch) → (f b).number ≡ b.number) → (bs : List Branch) → AreDistinct (λ (x : Branch). x.number) bs → AreDistinct (λ (x : Branch). x.number) (map f bs)
distinct_changed f keeps [] d = tt
distinct_changed f keeps (x ∷ xs) d = (has-all (λ (y : Branch). y.number ≢ (f x).number) (map f xs) (λ y i. apart y (has-map f xs y i)), distinct_changed f keeps xs d.1)
  where
    apart : (y : Branch) → (z : Branch) × Has xs z × (f z ≡ y) → y.number ≢ (f x).number
    apart y z q = all-has (λ (w : Branch). w.number ≢ x.number) xs z.0 d.0 z.1 (sym (keeps z.0) ∙ ap (λ (w : Branch). w.number) z.2 ∙ q ∙ keeps x)

same_length : (f : Branch → Branch) (bs : List Branch) → length (map f bs) ≡ length bs
same_length f [] = refl
same_length f (x ∷ xs) = ap suc (same_length f xs)

-- a commit stands in a list that has all others of another
pub record IsBetween (N : Intent) (Xs Ys : List Intent) : Type 0 where
  pub front : List Intent
  pub rest : List Intent
  pub before : Xs ≡ front ++ rest
  pub after : Ys ≡ front ++ N ∷ rest

pub new_there : (rs : List Rev) (N : Intent) (Xs Ys : List Intent) → IsBetween N Xs Ys → HaveNewRevisions rs Xs → (Has (revisions Xs ++ rs) N.rev → ⊥) → HaveNewRevisions rs Ys
new_there rs N Xs Ys b h fresh = subst (HaveNewRevisions rs) (sym b.after) (new_between rs b.front b.rest N (subst (HaveNewRevisions rs) b.before h) (λ i. fresh (subst (λ l. Has (revisions l ++ rs) N.rev) (sym b.before) i)))

pub has_there : (N M : Intent) (Xs Ys : List Intent) → IsBetween N Xs Ys → Has Ys M → (N ≡ M) ⊎ Has Xs M
has_there N M Xs Ys b i = go (has_between b.front b.rest N M (subst (λ l. Has l M) b.after i))
  where
    go : (N ≡ M) ⊎ Has (b.front ++ b.rest) M → (N ≡ M) ⊎ Has Xs M
    go (inl e) = inl e
    go (inr j) = inr (subst (λ l. Has l M) (sym b.before) j)

pub rev_there : (rs : List Rev) (N : Intent) (Xs Ys : List Intent) (r : Rev) → IsBetween N Xs Ys → Has (revisions Ys ++ rs) r → (N.rev ≡ r) ⊎ Has (revisions Xs ++ rs) r
rev_there rs N Xs Ys r b i = go (rev_between rs b.front b.rest N r (subst (λ l. Has (revisions l ++ rs) r) b.after i))
  where
    go : (N.rev ≡ r) ⊎ Has (revisions (b.front ++ b.rest) ++ rs) r → (N.rev ≡ r) ⊎ Has (revisions Xs ++ rs) r
    go (inl e) = inl e
    go (inr j) = inr (subst (λ l. Has (revisions l ++ rs) r) (sym b.before) j)

-- ## What is open on the branches

-- what is open on a branch after a change of one was so before, or is what the change made
pub open_changed : (c d : Client) (n : ℕ) (g : Branch → Branch) (m : ℕ) (s : Rev) → ((b : Branch) → (g b).number ≡ b.number) → d.branches ≡ on_branch n g c.branches → IsOpenAt d (suc m) s
    → (b : Branch) × (t : Transaction) × Has c.branches b × (b.number ≡ suc m) × (((b.number ≡ n) × ((g b).transaction ≡ Some t)) ⊎ (b.transaction ≡ Some t)) × (t.rev ≡ s)
open_changed c d n g m s keeps is x =
    let there = has-map (λ (b : Branch). if b.number == n then g b else b) c.branches x.0 (subst (λ (bs : List Branch). Has bs x.0) is x.2) in
    let b = there.0 in (
      b,
      x.1,
      there.1,
      by_number (λ y. y ≡ x.0 → b.number ≡ suc m) n g b (λ q e. sym (keeps b) ∙ ap (λ (y : Branch). y.number) e ∙ x.3) (λ q e. ap (λ (y : Branch). y.number) e ∙ x.3) there.2,
      by_number (λ y. y ≡ x.0 → ((b.number ≡ n) × ((g b).transaction ≡ Some x.1)) ⊎ (b.transaction ≡ Some x.1)) n g b
          (λ q e. inl (q, ap (λ (y : Branch). y.transaction) e ∙ x.4)) (λ q e. inr (ap (λ (y : Branch). y.transaction) e ∙ x.4)) there.2,
      x.5,
    )

module _ (h : HeaderView) (st : IsStart (opening_document h)) where
  -- ## Other branches

  -- a client with other branches, where its main line stays
  pub branched : (log : List Entry) (c : Client) (ids forks : ℕ) (bs : List Branch) → IsClient h log c → c.ids ≤ ids → (option_map_or names_made (joined_of c) 0 + names_in c.pending) + names_on_all bs ≤ 16384
      → HaveNewRevisions (opening ∷ []) (log_and_waiting log c ++ own_of bs) → ((N : Intent) → Has (own_of bs) N → N.rev.session ≡ c.session → N.rev.num ≤ ids)
      → ((t : Transaction) → c.transaction ≡ Some t → IsTransaction h log (main_line c) c t → Has (revisions (log_and_waiting log c ++ own_of bs) ++ opening ∷ []) t.rev → ⊥)
      → AreBranches h log (record c { ids = ids; forks = forks; branches = bs }) → IsClient h log (record c { ids = ids; forks = forks; branches = bs })
  branched log c ids forks bs k more few new low still are =
      let d : Client = record c { ids = ids; forks = forks; branches = bs } in record {
        within = k.within;
        few = k.few;
        few_names = few;
        under_way = k.under_way;
        queued = k.queued;
        shown_fit = k.shown_fit;
        sent_fit = k.sent_fit;
        new = new;
        own = k.own;
        ids = λ N i s. lower N (has-append (log_and_waiting log c) (own_of bs) N i) s;
        texts = k.texts;
        carried = carried_as (ranges_in log) c d refl refl refl refl more k.carried;
        transaction = transactions_beside h log log (main_line c) (main_line d) c d c.transaction k.transaction refl more refl refl still;
        branches = are;
      }
    where
      lower : (N : Intent) → Has (log_and_waiting log c) N ⊎ Has (own_of bs) N → N.rev.session ≡ c.session → N.rev.num ≤ ids
      lower N (inl i) s = omega (arith, k.ids N (append_left (log_and_waiting log c) (own_of c.branches) N i) s, more)
      lower N (inr i) s = low N i s

  -- ## One branch changes

  module _ (log : List Entry) (c : Client) (ids n : ℕ) (g : Branch → Branch) (number : (b : Branch) → (g b).number ≡ b.number) where
    abbrev d : Client
    d = record c { ids = ids; branches = on_branch n g c.branches }

    abbrev f : Branch → Branch
    f b = if b.number == n then g b else b

    f_number : (b : Branch) → (f b).number ≡ b.number
    f_number b = by_number (λ y. y.number ≡ b.number) n g b (λ q. number b) (λ q. refl)

    -- those that stood on lines that only grow still do
    pub stand_changed : ((b : Branch) → Has c.branches b → b.number ≡ n → IsSublist (commits_of log (branch_line b)) (commits_of log (branch_line (g b))))
        → ((before : List Branch) (b : Branch) → Has c.branches b → b.number ≡ n → ((p : Branch) → Has before p → Has c.branches p) → StandsOn log (main_line c) before b → StandsOn log (main_line c) (map f before) b → StandsOn log (main_line c) (map f before) (g b))
        → AreStanding log (main_line c) [] c.branches → AreStanding log (main_line c) [] (on_branch n g c.branches)
    stand_changed grown here s = all_stand log log (main_line c) (main_line c) f (Has c.branches) on [] c.branches (λ b i. i) s
      where
        line : (p : Branch) → Has c.branches p → IsSublist (commits_of log (branch_line p)) (commits_of log (branch_line (f p)))
        line p i = by_number (λ y. IsSublist (commits_of log (branch_line p)) (commits_of log (branch_line y))) n g p (λ q. grown p i q) (λ q. sublist_itself (commits_of log (branch_line p)))

        on : (before : List Branch) (b : Branch) → ((p : Branch) → Has before p → Has c.branches p) → Has c.branches b → StandsOn log (main_line c) before b → StandsOn log (main_line c) (map f before) (f b)
        on before b all i s = by_number (λ y. StandsOn log (main_line c) (map f before) y) n g b (λ q. here before b i q all s (stands_one b all s)) (λ q. stands_one b all s)
          where
            stands_one : (b : Branch) → ((p : Branch) → Has before p → Has c.branches p) → StandsOn log (main_line c) before b → StandsOn log (main_line c) (map f before) b
            stands_one b all (inl s) = inl s
            stands_one b all (inr s) = inr (f s.0, map-has f before s.0 s.1, f_number s.0 ∙ s.2, sublist_on s.3 (line s.0 (all s.0 s.1)))

    pub branches_changed : AreBranches h log c → ((b : Branch) → Has c.branches b → b.number ≡ n → IsBranch h log d (g b)) → ((b : Branch) → Has c.branches b → IsBranch h log d b)
        → AreStanding log (main_line c) [] (on_branch n g c.branches) → AllByRecursion (λ (N : Intent). N.rev.session ≡ c.session) (own_of (on_branch n g c.branches)) → HaveOwnTransactions d → AreBranches h log d
    branches_changed k here there stand own apart = record {
      few = subst (λ m. m ≤ 16) (sym (same_length f c.branches)) k.few;
      numbers = distinct_changed f f_number c.branches k.numbers;
      each = has-all (IsBranch h log d) (map f c.branches) (λ b i. each b (has-map f c.branches b i));
      standing = stand;
      own = own;
      transactions = apart;
    }
      where
        each : (b : Branch) → (x : Branch) × Has c.branches x × (f x ≡ b) → IsBranch h log d b
        each b x = subst (IsBranch h log d) x.2 (by_number (IsBranch h log d) n g x.0 (λ q. here x.0 x.1 q) (λ q. there x.0 x.1))

  -- ## A transaction on a branch

  pub branch_turned : (log : List Entry) (c : Client) (ids n : ℕ) (b : Branch) (o : Option Transaction) → IsClient h log c → Has c.branches b → b.number ≡ n → c.ids ≤ ids
      → IfSome o (IsTransaction h log (branch_line b) (record c { ids = ids })) → ((u : Transaction) → o ≡ Some u → IsOpenAt c n u.rev ⊎ ((j : ℕ) → IsOpenAt c j u.rev → ⊥))
      → unsequenced c + option_map_or names_made (option_and_then (λ (t : Transaction). t.joined) o) 0 ≤ 16384 + option_map_or names_made (edited_on (branch_line b)) 0
      → IsClient h log (record c { ids = ids; branches = on_branch n (λ x. record x { transaction = o }) c.branches })
  branch_turned log c ids n b o k i e more now place few =
      branched log c ids c.forks bs k more few_now (subst (λ l. HaveNewRevisions (opening ∷ []) (log_and_waiting log c ++ l)) (sym same_own) k.new)
      (λ N j s. omega (arith, k.ids N (append_right (log_and_waiting log c) (own_of c.branches) N (subst (λ l. Has l N) same_own j)) s, more))
      (λ t q x j. x.new (still t.rev j))
      (branches_changed log c ids n g (λ x. refl) k.branches here there (stand_changed log c ids n g (λ x. refl) (λ x j q. sublist_itself (commits_of log (branch_line x))) (λ before x j q all s r. r) k.branches.standing)
      (subst (AllByRecursion (λ (N : Intent). N.rev.session ≡ c.session)) (sym same_own) k.branches.own) apart)
    where
      g : Branch → Branch
      g x = record x { transaction = o }

      bs : List Branch
      bs = on_branch n g c.branches

      d : Client
      d = record c { ids = ids; branches = bs }

      p : IsSplitAt n b c.branches
      p = split_at n b c.branches k.branches.numbers i e

      same_own : own_of bs ≡ own_of c.branches
      same_own = own_turned n o c.branches

      still : (r : Rev) → Has (revisions (log_and_waiting log c ++ own_of bs) ++ opening ∷ []) r → Has (revisions (all_commits log c) ++ opening ∷ []) r
      still r j = subst (λ l. Has (revisions (log_and_waiting log c ++ l) ++ opening ∷ []) r) same_own j

      few_now : (option_map_or names_made (joined_of c) 0 + names_in c.pending) + names_on_all bs ≤ 16384
      few_now =
          let turned = names_turned n b o c.branches p in
          let sum : unsequenced c ≡ (option_map_or names_made (joined_of c) 0 + names_in c.pending) + names_on_all c.branches = refl in
          omega (arith, turned, sum, few)

      is_branch : IsBranch h log c b
      is_branch = branch_is h st log c k b i

      here_b : IsBranch h log d (g b)
      here_b = record {
        numbered = is_branch.numbered;
        given = is_branch.given;
        within = is_branch.within;
        received = is_branch.received;
        few = is_branch.few;
        fit = is_branch.fit;
        transaction = transactions_beside h log log (branch_line b) (branch_line (g b)) (record c { ids = ids }) d o now refl (omega arith) refl refl (λ t q x j. x.new (still t.rev j));
      }

      here : (x : Branch) → Has c.branches x → x.number ≡ n → IsBranch h log d (g x)
      here x j q = subst (λ y. IsBranch h log d (g y)) (distinct-has (λ (y : Branch). y.number) c.branches b x k.branches.numbers i j (e ∙ sym q)) here_b

      there : (x : Branch) → Has c.branches x → IsBranch h log d x
      there x j = branch_beside h log log c d x (branch_is h st log c k x j) (omega arith) (omega arith) refl more (same_fronts log) (λ t q y r. y.new (still t.rev r))

      was_open : (j : ℕ) (s : Rev) → IsOpenAt d j s → IsOpenAt c j s ⊎ ((u : Transaction) × (o ≡ Some u) × (j ≡ n) × (s ≡ u.rev))
      was_open zero s x = inl x
      was_open (suc m) s x = go (open_changed c d n g m s (λ y. refl) refl x)
        where
          go : (y : Branch) × (t : Transaction) × Has c.branches y × (y.number ≡ suc m) × (((y.number ≡ n) × (o ≡ Some t)) ⊎ (y.transaction ≡ Some t)) × (t.rev ≡ s) → IsOpenAt c (suc m) s ⊎ ((u : Transaction) × (o ≡ Some u) × (suc m ≡ n) × (s ≡ u.rev))
          go y = by y.4
            where
              by : ((y.0.number ≡ n) × (o ≡ Some y.1)) ⊎ (y.0.transaction ≡ Some y.1) → IsOpenAt c (suc m) s ⊎ ((u : Transaction) × (o ≡ Some u) × (suc m ≡ n) × (s ≡ u.rev))
              by (inl q) = inr (y.1, q.1, sym y.3 ∙ q.0, sym y.5)
              by (inr q) = inl (y.0, y.1, y.2, y.3, q, y.5)

      apart : HaveOwnTransactions d
      apart = go o refl
        where
          one : (u v : Transaction) → o ≡ Some u → o ≡ Some v → v ≡ u
          one u v p q = same (sym q ∙ p)
            where
              same : Some v ≡ Some u → v ≡ u
              same r = cc

          go : (x : Option Transaction) → o ≡ x → HaveOwnTransactions d
          go None none = own_kept c d k.branches.transactions k.branches.numbers (λ j s x. kept j s (was_open j s x))
            where
              kept : (j : ℕ) (s : Rev) → IsOpenAt c j s ⊎ ((u : Transaction) × (o ≡ Some u) × (j ≡ n) × (s ≡ u.rev)) → IsOpenAt c j s
              kept j s (inl x) = x
              kept j s (inr y) = absurd (bad (sym none ∙ y.1))
                where
                  bad : None ≡ Some y.0 → ⊥
                  bad r = cc
          go (Some u) is = by (place u is)
            where
              by : IsOpenAt c n u.rev ⊎ ((j : ℕ) → IsOpenAt c j u.rev → ⊥) → HaveOwnTransactions d
              by (inl there) = own_kept c d k.branches.transactions k.branches.numbers (λ j s x. kept j s (was_open j s x))
                where
                  kept : (j : ℕ) (s : Rev) → IsOpenAt c j s ⊎ ((v : Transaction) × (o ≡ Some v) × (j ≡ n) × (s ≡ v.rev)) → IsOpenAt c j s
                  kept j s (inl x) = x
                  kept j s (inr y) = subst (λ m. IsOpenAt c m s) (sym y.2) (subst (IsOpenAt c n) (sym (y.3 ∙ ap (λ (t : Transaction). t.rev) (one u y.0 is y.1))) there)
              by (inr none) = own_with c d n u.rev k.branches.transactions k.branches.numbers (λ j s x. kept j s (was_open j s x)) none
                where
                  kept : (j : ℕ) (s : Rev) → IsOpenAt c j s ⊎ ((v : Transaction) × (o ≡ Some v) × (j ≡ n) × (s ≡ v.rev)) → IsOpenAt c j s ⊎ ((j ≡ n) × (s ≡ u.rev))
                  kept j s (inl x) = inl x
                  kept j s (inr y) = inr (y.2, y.3 ∙ ap (λ (t : Transaction). t.rev) (one u y.0 is y.1))

  -- ## A branch takes a commit

  -- the commit stands between all others
  pub branch_between : (log : List Entry) (c : Client) (n : ℕ) (b : Branch) (N : Intent) → IsClient h log c → Has c.branches b → b.number ≡ n
      → IsBetween N (own_of c.branches) (own_of (on_branch n (λ x. record x { own = x.own ++ N ∷ [] }) c.branches))
  branch_between log c n b N k i e = record {
    front = own_of p.before ++ b.own;
    rest = own_of p.after;
    before = ap own_of p.is ∙ own_both p.before (b ∷ p.after) ∙ sym (append_assoc (own_of p.before) b.own (own_of p.after));
    after = ap own_of (p.changed g) ∙ own_both p.before (g b ∷ p.after) ∙ ap (λ l. own_of p.before ++ l) (append_assoc b.own (N ∷ []) (own_of p.after)) ∙ sym (append_assoc (own_of p.before) b.own (N ∷ own_of p.after));
  }
    where
      g : Branch → Branch
      g x = record x { own = x.own ++ N ∷ [] }

      p : IsSplitAt n b c.branches
      p = split_at n b c.branches k.branches.numbers i e

  -- and its names are counted
  pub branch_names : (log : List Entry) (c : Client) (n : ℕ) (b : Branch) (N : Intent) → IsClient h log c → Has c.branches b → b.number ≡ n
      → names_on_all (on_branch n (λ x. record x { own = x.own ++ N ∷ [] }) c.branches) ≡ names_on_all c.branches + names_made N
  branch_names log c n b N k i e =
      let g : Branch → Branch = λ x. record x { own = x.own ++ N ∷ [] } in
      let p = split_at n b c.branches k.branches.numbers i e in
      let was : names_on_all c.branches ≡ names_on_all p.before + ((option_map_or names_made (edited_on (branch_line b)) 0 + names_in b.own) + names_on_all p.after) = ap names_on_all p.is ∙ names_around p.before p.after b in
      let is : names_on_all (on_branch n g c.branches) ≡ names_on_all p.before + ((option_map_or names_made (edited_on (branch_line b)) 0 + names_in (b.own ++ N ∷ [])) + names_on_all p.after) = ap names_on_all (p.changed g) ∙ names_around p.before p.after (g b) in
      let one : names_in (N ∷ []) ≡ names_made N = omega arith in
      omega (arith, was, is, names_append b.own (N ∷ []), one)

  pub branch_takes : (log : List Entry) (c : Client) (n : ℕ) (b : Branch) (D : Document) (N : Intent) → IsClient h log c → Has c.branches b → b.number ≡ n → b.transaction ≡ None → HasHead (opening_document h) log (branch_line b) D → Fits D N
      → N.rev.session ≡ c.session → N.rev.num ≤ c.ids → (Has (revisions (all_commits log c) ++ opening ∷ []) N.rev → ⊥) → ((j : ℕ) → IsOpenAt c j N.rev → ⊥) → length b.own < 256
      → unsequenced c + names_made N ≤ 16384 → names_in (commits_in log) ≤ 131072 → IsClient h log (record c { branches = on_branch n (λ x. record x { own = x.own ++ N ∷ [] }) c.branches })
  branch_takes log c n b D N k i e none head fits session num fresh unopened room few all =
      branched log c c.ids c.forks bs k (omega arith) few_now (new_there (opening ∷ []) N (all_commits log c) (all_commits log d) between k.new fresh)
      (λ M j s. lower M s (has_there N M (own_of c.branches) (own_of bs) own_between j))
      (λ t q x j. still 0 t (t, q, refl) x.new j)
      (branches_changed log c c.ids n g (λ x. refl) k.branches here there (stand_changed log c c.ids n g (λ x. refl) (λ x j q. grown x) (λ before x j q above s r. r) k.branches.standing) own apart)
    where
      g : Branch → Branch
      g x = record x { own = x.own ++ N ∷ [] }

      bs : List Branch
      bs = on_branch n g c.branches

      d : Client
      d = record c { branches = bs }

      own_between : IsBetween N (own_of c.branches) (own_of bs)
      own_between = branch_between log c n b N k i e

      between : IsBetween N (all_commits log c) (all_commits log d)
      between = let L = log_and_waiting log c in record {
        front = L ++ own_between.front;
        rest = own_between.rest;
        before = ap (λ l. L ++ l) own_between.before ∙ sym (append_assoc L own_between.front own_between.rest);
        after = ap (λ l. L ++ l) own_between.after ∙ sym (append_assoc L own_between.front (N ∷ own_between.rest));
      }

      still : (j : ℕ) (t : Transaction) → IsOpenAt c j t.rev → (Has (revisions (all_commits log c) ++ opening ∷ []) t.rev → ⊥) → Has (revisions (all_commits log d) ++ opening ∷ []) t.rev → ⊥
      still j t x new q = go (rev_there (opening ∷ []) N (all_commits log c) (all_commits log d) t.rev between q)
        where
          go : (N.rev ≡ t.rev) ⊎ Has (revisions (all_commits log c) ++ opening ∷ []) t.rev → ⊥
          go (inl same) = unopened j (subst (IsOpenAt c j) (sym same) x)
          go (inr r) = new r

      lower : (M : Intent) → M.rev.session ≡ c.session → (N ≡ M) ⊎ Has (own_of c.branches) M → M.rev.num ≤ c.ids
      lower M s (inl q) = omega (arith, num, ap (λ (X : Intent). X.rev.num) q)
      lower M s (inr j) = k.ids M (append_right (log_and_waiting log c) (own_of c.branches) M j) s

      own : AllByRecursion (λ (M : Intent). M.rev.session ≡ c.session) (own_of bs)
      own = has-all (λ (M : Intent). M.rev.session ≡ c.session) (own_of bs) (λ M j. go M (has_there N M (own_of c.branches) (own_of bs) own_between j))
        where
          go : (M : Intent) → (N ≡ M) ⊎ Has (own_of c.branches) M → M.rev.session ≡ c.session
          go M (inl q) = sym (ap (λ (X : Intent). X.rev.session) q) ∙ session
          go M (inr j) = all-has (λ (X : Intent). X.rev.session ≡ c.session) (own_of c.branches) M k.branches.own j

      one_name : names_in (N ∷ []) ≡ names_made N
      one_name = omega arith

      few_now : (option_map_or names_made (joined_of c) 0 + names_in c.pending) + names_on_all bs ≤ 16384
      few_now =
          let sum : unsequenced c ≡ (option_map_or names_made (joined_of c) 0 + names_in c.pending) + names_on_all c.branches = refl in
          omega (arith, branch_names log c n b N k i e, sum, few)

      is_branch : IsBranch h log c b
      is_branch = branch_is h st log c k b i

      last : FitInTurn D (N ∷ [])
      last = one_fits D N (head_sound h st log (branch_line b) D is_branch.fit head) fits (room_in_run (N ∷ []) st.sound is_branch.fit head (room_left (opening_document h) (commits_of log (branch_line b) ++ N ∷ []) st enough))
        where
          enough : names_in (commits_of log (branch_line b) ++ N ∷ []) ≤ 200000
          enough = omega (arith, names_append (commits_of log (branch_line b)) (N ∷ []), one_name, fewer_names (branch_among h st log c k b i), all_few h st log c k, few, all)

      here_b : IsBranch h log d (g b)
      here_b = record {
        numbered = is_branch.numbered;
        given = is_branch.given;
        within = is_branch.within;
        received = is_branch.received;
        few = omega (arith, length-append b.own (N ∷ []), room);
        fit = fits_more h st log (branch_line b) D N is_branch.fit head last;
        transaction = none_open b.transaction _ none;
      }

      here : (x : Branch) → Has c.branches x → x.number ≡ n → IsBranch h log d (g x)
      here x j q = subst (λ y. IsBranch h log d (g y)) (distinct-has (λ (y : Branch). y.number) c.branches b x k.branches.numbers i j (e ∙ sym q)) here_b

      there : (x : Branch) → Has c.branches x → IsBranch h log d x
      there x j = branch_beside h log log c d x (branch_is h st log c k x j) (omega arith) (omega arith) refl (omega arith) (same_fronts log)
          (λ t q y r. let o = open_on_branch h st log c k x t j q in still o.0 t o.1 y.new r)

      grown : (x : Branch) → IsSublist (commits_of log (branch_line x)) (commits_of log (branch_line (g x)))
      grown x = sublist_joined (sublist_itself (commits_in (take x.received log))) (sublist_joined (sublist_itself x.base)
          (subst (λ l. IsSublist l (x.own ++ N ∷ [])) (append-nil x.own) (sublist_joined (sublist_itself x.own) (sublist_none (N ∷ [])))))

      apart : HaveOwnTransactions d
      apart = own_kept c d k.branches.transactions k.branches.numbers (λ j s x. kept j s x)
        where
          kept : (j : ℕ) (s : Rev) → IsOpenAt d j s → IsOpenAt c j s
          kept zero s x = x
          kept (suc m) s x = go (open_changed c d n g m s (λ y. refl) refl x)
            where
              go : (y : Branch) × (t : Transaction) × Has c.branches y × (y.number ≡ suc m) × (((y.number ≡ n) × (y.transaction ≡ Some t)) ⊎ (y.transaction ≡ Some t)) × (t.rev ≡ s) → IsOpenAt c (suc m) s
              go y = (y.0, y.1, y.2, y.3, either y.4, y.5)
                where
                  either : ((y.0.number ≡ n) × (y.0.transaction ≡ Some y.1)) ⊎ (y.0.transaction ≡ Some y.1) → y.0.transaction ≡ Some y.1
                  either (inl q) = q.1
                  either (inr q) = q
