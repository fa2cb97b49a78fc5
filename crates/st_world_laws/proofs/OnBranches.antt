-- Lists of branches of which one changes, several commits that come on one line, and what a branch stands on.
use Rattle.std.proofs.Common.{Bool, List, Some, [], ap, append_assoc, arith, cond, false, inl, inr, refl, subst, suc, sym, take, true, zero, ℕ, ◌++◌, ◌∙◌, ◌∷◌, ◌≡◌, ◌≢◌}
use Rattle.std.proofs.lemmas.Bool.Decides.{nat_tests}
use Rattle.std.proofs.lemmas.List.{append-nil}
use Rattle.std.specs.List.{AllByRecursion, find}
use Rattle.std.specs.Prelude.{◌==◌}
use Rattle.st_ids.specs.Listing.{AreDistinct, Has}
use Rattle.st_lists.proofs.Present.{not_same}
use Rattle.st_lists.specs.Clients.{with_commit}
use Rattle.st_lists.specs.Lines.{AreStanding, Line, StandsOn, commits_of, on_branch, with_commit_on, with_commits_on}
use Rattle.st_lists.specs.Log.{commits_in}
use Rattle.st_lists.specs.declared.lists.Branch.{Branch}
use Rattle.st_lists.specs.declared.lists.Client.{Client}
use Rattle.st_lists.specs.declared.lists.Entry.{Entry}
use Rattle.st_marks.proofs.Members.{all-has, append_left, distinct-has, first-has, has-all, has-map, map-has}
use Rattle.st_marks.specs.declared.intents.Intent.{Intent}

-- ## One branch changes

abbrev pub number_of : Branch → ℕ
number_of b = b.number

abbrev pub has_number : ℕ → Branch → Bool
has_number k b = b.number == k

pub same_number : (n m : ℕ) → (n == m) ≡ true → n ≡ m
same_number n m e = grind (arith, nat_tests)

-- what each branch becomes where that of a number changes, and the others stay
pub changed_all : (P Q : Branch → Type 0) (k : ℕ) (f : Branch → Branch) (b : Branch) (bs : List Branch) → AreDistinct number_of bs → find (has_number k) bs ≡ Some b
    → ((x : Branch) → Has bs x → x.number ≢ k → P x → Q x) → Q (f b) → AllByRecursion P bs → AllByRecursion Q (on_branch k f bs)
changed_all P Q k f b bs distinct at others here all =
    has-all Q (on_branch k f bs) (λ y i. let m = has-map (λ (x : Branch). cond (x.number == k) (f x) x) bs y i in each m.0 y (m.0.number == k) refl m.1 m.2)
  where
    each : (x y : Branch) (t : Bool) → (x.number == k) ≡ t → Has bs x → cond (x.number == k) (f x) x ≡ y → Q y
    each x y true q i e =
        let first = first-has (has_number k) bs b at in
        let same : x ≡ b = distinct-has number_of bs x b distinct i first.0 (same_number x.number k q ∙ sym (same_number b.number k first.1)) in
        let now : f x ≡ y = sym (ap (λ t. cond t (f x) x) q) ∙ e in
        subst Q (ap f (sym same) ∙ now) here
    each x y false q i e =
        let now : x ≡ y = sym (ap (λ t. cond t (f x) x) q) ∙ e in
        subst Q now (others x i (λ s. not_same x.number k q (sym s)) (all-has P bs x all i))

-- a change after another is one change
pub changed_twice : (k : ℕ) (f g e : Branch → Branch) → ((b : Branch) → (f b).number ≡ b.number) → ((b : Branch) → g (f b) ≡ e b) → (bs : List Branch) → on_branch k g (on_branch k f bs) ≡ on_branch k e bs
changed_twice k f g e keeps same [] = refl
changed_twice k f g e keeps same (b ∷ bs) = go (b.number == k) refl (changed_twice k f g e keeps same bs)
  where
    go : (t : Bool) → (b.number == k) ≡ t → on_branch k g (on_branch k f bs) ≡ on_branch k e bs
        → cond ((cond t (f b) b).number == k) (g (cond t (f b) b)) (cond t (f b) b) ∷ on_branch k g (on_branch k f bs) ≡ cond t (e b) b ∷ on_branch k e bs
    go true q rest = ap (λ t. cond t (g (f b)) (f b) ∷ on_branch k g (on_branch k f bs)) (ap (λ n. n == k) (keeps b) ∙ q) ∙ ap (λ x. x ∷ on_branch k g (on_branch k f bs)) (same b) ∙ ap (λ l. e b ∷ l) rest
    go false q rest = ap (λ t. cond t (g b) b ∷ on_branch k g (on_branch k f bs)) q ∙ ap (λ l. b ∷ l) rest

-- no change
pub changed_not : (k : ℕ) (f : Branch → Branch) → ((b : Branch) → f b ≡ b) → (bs : List Branch) → on_branch k f bs ≡ bs
changed_not k f same [] = refl
changed_not k f same (b ∷ bs) = go (b.number == k) (changed_not k f same bs)
  where
    go : (t : Bool) → on_branch k f bs ≡ bs → cond t (f b) b ∷ on_branch k f bs ≡ b ∷ bs
    go true rest = ap (λ x. x ∷ on_branch k f bs) (same b) ∙ ap (λ l. b ∷ l) rest
    go false rest = ap (λ l. b ∷ l) rest

-- the branch that changes is among them after it
pub changed_there : (k : ℕ) (f : Branch → Branch) (b : Branch) (bs : List Branch) → find (has_number k) bs ≡ Some b → Has (on_branch k f bs) (f b)
changed_there k f b bs at =
    let first = first-has (has_number k) bs b at in
    subst (Has (on_branch k f bs)) (ap (λ t. cond t (f b) b) first.1) (map-has (λ (x : Branch). cond (x.number == k) (f x) x) bs b first.0)

-- ## Several commits on a line

-- the main line of a client has these commits more, and its branches are as they were
pub record HasMore (c : Client) (Ns : List Intent) (d : Client) : Type 0 where
  pub name : d.name ≡ c.name
  pub session : d.session ≡ c.session
  pub connected : d.connected ≡ c.connected
  pub received : d.received ≡ c.received
  pub ids : d.ids ≡ c.ids
  pub pending : d.pending ≡ c.pending ++ Ns
  pub transaction : d.transaction ≡ c.transaction
  pub forks : d.forks ≡ c.forks
  pub branches : d.branches ≡ c.branches

pub several_on_main : (Ns : List Intent) (c : Client) → HasMore c Ns (with_commits_on c zero Ns)
several_on_main [] c = record { name = refl; session = refl; connected = refl; received = refl; ids = refl; pending = sym (append-nil c.pending); transaction = refl; forks = refl; branches = refl }
several_on_main (N ∷ Ns) c =
    let rest = several_on_main Ns (with_commit c N) in
    record {
      name = rest.name;
      session = rest.session;
      connected = rest.connected;
      received = rest.received;
      ids = rest.ids;
      pending = rest.pending ∙ append_assoc c.pending (N ∷ []) Ns;
      transaction = rest.transaction;
      forks = rest.forks;
      branches = rest.branches;
    }

abbrev pub with_own : List Intent → Branch → Branch
with_own Ns b = record b { own = b.own ++ Ns }

abbrev pub with_branches : Client → List Branch → Client
with_branches c bs = record c { branches = bs }

pub several_on_branch : (j : ℕ) (Ns : List Intent) (c : Client) → with_commits_on c (suc j) Ns ≡ with_branches c (on_branch (suc j) (with_own Ns) c.branches)
several_on_branch j [] c = ap (with_branches c) (sym (changed_not (suc j) (with_own []) (λ b. ap (λ Ns. record b { own = Ns }) (append-nil b.own)) c.branches))
several_on_branch j (N ∷ Ns) c =
    several_on_branch j Ns (with_commit_on c (suc j) N)
    ∙ ap (with_branches c) (changed_twice (suc j) (with_own (N ∷ [])) (with_own Ns) (with_own (N ∷ Ns)) (λ b. refl) (λ b. ap (λ Ms. record b { own = Ms }) (append_assoc b.own (N ∷ []) Ns)) c.branches)

-- the commits of a line with several more
pub line_more : (log : List Entry) (l : Line) (Ns : List Intent) → commits_of log l ++ Ns ≡ commits_of log (record l { own = l.own ++ Ns })
line_more log l Ns =
    let A = commits_in (take l.received log) in
    append_assoc A (l.base ++ l.own) Ns ∙ ap (λ Ms. A ++ Ms) (append_assoc l.base l.own Ns)

-- those of a line that stands on another
pub line_on : (log : List Entry) (l m : Line) → commits_of log m ++ l.own ≡ commits_of log (record l { received = m.received; base = m.base ++ m.own })
line_on log l m = append_assoc (commits_in (take m.received log)) (m.base ++ m.own) l.own

-- ## What a branch stands on

-- each of some branches stands on its parent, wherever it comes
pub stands_among : (log : List Entry) (main : Line) (before bs : List Branch) (b : Branch) → AreStanding log main before bs → Has bs b → StandsOn log main (before ++ bs) b
stands_among log main before [] b s i = absurd i
stands_among log main before (x ∷ bs) b s (inl e) = subst (StandsOn log main (before ++ x ∷ bs)) e (wider s.0)
  where
    wider : StandsOn log main before x → StandsOn log main (before ++ x ∷ bs) x
    wider (inl q) = inl q
    wider (inr q) = inr (q.0, append_left before (x ∷ bs) q.0 q.1, q.2, q.3)
stands_among log main before (x ∷ bs) b s (inr i) = subst (λ (l : List Branch). StandsOn log main l b) (append_assoc before (x ∷ []) bs) (stands_among log main (before ++ x ∷ []) bs b s.1 i)
