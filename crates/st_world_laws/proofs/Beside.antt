-- What is open on a client's lines, and its branches, go on beside a step.
use Rattle.std.proofs.Common.{IfSome, List, None, Option, Some, [], ap, append_assoc, arith, inl, inr, length, map, refl, subst, sym, take, ℕ, ◌++◌, ◌∙◌, ◌∷◌, ◌≡◌, ◌≤◌}
use Rattle.std.specs.List.{AllByRecursion}
use Rattle.st_ids.specs.Listing.{AreDistinct, Has}
use Rattle.st_ids.specs.Root.{opening}
use Rattle.st_lemmas.proofs.Lists.{map-append}
use Rattle.st_lists.specs.Lines.{AreStanding, HaveOwnTransactions, Line, StandsOn, all_commits, base_of, branch_line, commits_of, main_line, own_of}
use Rattle.st_lists.specs.Log.{commits_in}
use Rattle.st_lists.specs.declared.lists.Branch.{Branch}
use Rattle.st_lists.specs.declared.lists.Client.{Client}
use Rattle.st_lists.specs.declared.lists.Entry.{Entry}
use Rattle.st_lists.specs.declared.lists.Transaction.{Transaction}
use Rattle.st_log_laws.proofs.Shorter.{sublist_itself, sublist_on}
use Rattle.st_log_laws.specs.Names.{revisions}
use Rattle.st_log_laws.specs.Turns.{FitInTurn, IsSublist}
use Rattle.st_marks.proofs.Members.{all-has, append_left, append_right, has-all, map-has}
use Rattle.st_marks.specs.Run.{Run}
use Rattle.st_marks.specs.declared.intents.Intent.{Intent}
use Rattle.st_script.specs.Header.{HeaderView}
use Rattle.st_world_laws.specs.Worlds.{AreBranches, IsBranch, IsTransaction}
use Rattle.st_world.specs.World.{opening_document}

-- ## Standing

-- a list is among one that is the same
pub among_same : {As Bs : List Intent} → As ≡ Bs → IsSublist As Bs
among_same {As} e = subst (IsSublist As) e (sublist_itself As)

-- a branch stands where its line and its parent's did, where these only grow
pub stands_grown : (log log' : List Entry) (main main' : Line) (f : Branch → Branch) (before : List Branch) (b : Branch) → ((p : Branch) → (f p).number ≡ p.number) → (f b).parent ≡ b.parent
    → IsSublist (base_of log' (branch_line (f b))) (base_of log (branch_line b)) → IsSublist (commits_of log main) (commits_of log' main')
    → ((p : Branch) → Has before p → IsSublist (commits_of log (branch_line p)) (commits_of log' (branch_line (f p)))) → StandsOn log main before b → StandsOn log' main' (map f before) (f b)
stands_grown log log' main main' f before b number parent base grown lines (inl s) = inl (parent ∙ s.0, sublist_on base (sublist_on s.1 grown))
stands_grown log log' main main' f before b number parent base grown lines (inr s) =
    inr (f s.0, map-has f before s.0 s.1, number s.0 ∙ s.2 ∙ sym parent, sublist_on base (sublist_on s.3 (lines s.0 s.1)))

-- and so do all, if each does over those before it
module _ (log log' : List Entry) (main main' : Line) (f : Branch → Branch) (P : Branch → Type 0)
    (on : (before : List Branch) (b : Branch) → ((p : Branch) → Has before p → P p) → P b → StandsOn log main before b → StandsOn log' main' (map f before) (f b)) where
  pub all_stand : (before bs : List Branch) → ((p : Branch) → Has (before ++ bs) p → P p) → AreStanding log main before bs → AreStanding log' main' (map f before) (map f bs)
  all_stand before [] each s = tt
  all_stand before (b ∷ bs) each s =
      let longer : (before ++ b ∷ []) ++ bs ≡ before ++ b ∷ bs = append_assoc before (b ∷ []) bs in (
        on before b (λ p i. each p (append_left before (b ∷ bs) p i)) (each b (append_right before (b ∷ bs) b (inl refl))) s.0,
        subst (λ l. AreStanding log' main' l (map f bs)) (map-append f before (b ∷ [])) (all_stand (before ++ b ∷ []) bs (λ p i. each p (subst (λ (l : List Branch). Has l p) longer i)) s.1),
      )

map_same : (bs : List Branch) → map (λ (b : Branch). b) bs ≡ bs
map_same [] = refl
map_same (b ∷ bs) = ap (λ l. b ∷ l) (map_same bs)

-- ## Beside a step of the main line

-- the log keeps the commits of its fronts
pub record KeepsFronts (log log' : List Entry) : Type 0 where
  pub longer : length log ≤ length log'
  pub fronts : (i : ℕ) → i ≤ length log → commits_in (take i log') ≡ commits_in (take i log)

pub same_fronts : (log : List Entry) → KeepsFronts log log
same_fronts log = record { longer = omega arith; fronts = λ i low. refl }

-- the client keeps its branches, and gives no fewer ids
pub record KeepsBranches (c c' : Client) : Type 0 where
  pub branches : c'.branches ≡ c.branches
  pub forks : c'.forks ≡ c.forks
  pub session : c'.session ≡ c.session
  pub ids : c.ids ≤ c'.ids
  pub received : c.received ≤ c'.received

module _ (h : HeaderView) where
  -- a transaction stays one where its line and the session stay, no id is taken back, and its revision is still new
  pub transaction_beside : (log log' : List Entry) (l l' : Line) (c c' : Client) (t : Transaction) → IsTransaction h log l c t → c'.session ≡ c.session → c.ids ≤ c'.ids → l'.own ≡ l.own → commits_of log' l' ≡ commits_of log l
      → (Has (revisions (all_commits log' c') ++ opening ∷ []) t.rev → ⊥) → IsTransaction h log' l' c' t
  transaction_beside log log' l l' c c' t k session ids own same new = record {
    session = k.session ∙ sym session;
    num = omega (arith, k.num, ids);
    new = new;
    room = omega (arith, k.room, ap length own);
    counted = k.counted;
    before = k.before;
    main = subst (λ Ns. Run (opening_document h) Ns k.before) (sym same) k.main;
    under = k.under;
    so_far = k.so_far;
    sound = k.sound;
    nodes = k.nodes;
    cells = k.cells;
  }

  pub transactions_beside : (log log' : List Entry) (l l' : Line) (c c' : Client) (o : Option Transaction) → IfSome o (IsTransaction h log l c) → c'.session ≡ c.session → c.ids ≤ c'.ids → l'.own ≡ l.own → commits_of log' l' ≡ commits_of log l
      → ((t : Transaction) → o ≡ Some t → IsTransaction h log l c t → Has (revisions (all_commits log' c') ++ opening ∷ []) t.rev → ⊥) → IfSome o (IsTransaction h log' l' c')
  transactions_beside log log' l l' c c' None k session ids own same new = tt
  transactions_beside log log' l l' c c' (Some t) k session ids own same new = transaction_beside log log' l l' c c' t k session ids own same (new t refl k)

  -- a branch stays one
  pub branch_beside : (log log' : List Entry) (c c' : Client) (b : Branch) → IsBranch h log c b → c.forks ≤ c'.forks → c.received ≤ c'.received → c'.session ≡ c.session → c.ids ≤ c'.ids → KeepsFronts log log'
      → ((t : Transaction) → b.transaction ≡ Some t → IsTransaction h log (branch_line b) c t → Has (revisions (all_commits log' c') ++ opening ∷ []) t.rev → ⊥) → IsBranch h log' c' b
  branch_beside log log' c c' b k forks received session ids fronts new =
      let same : commits_of log' (branch_line b) ≡ commits_of log (branch_line b) = ap (λ Ns. Ns ++ (b.base ++ b.own)) (fronts.fronts b.received k.within) in record {
        numbered = k.numbered;
        given = omega (arith, k.given, forks);
        within = omega (arith, k.within, fronts.longer);
        received = omega (arith, k.received, received);
        few = k.few;
        fit = subst (FitInTurn (opening_document h)) (sym same) k.fit;
        transaction = transactions_beside log log' (branch_line b) (branch_line b) c c' b.transaction k.transaction session ids refl same new;
      }

  pub branches_beside : (log log' : List Entry) (c c' : Client) → AreBranches h log c → KeepsBranches c c' → KeepsFronts log log' → IsSublist (commits_of log (main_line c)) (commits_of log' (main_line c'))
      → ((b : Branch) (t : Transaction) → Has c.branches b → b.transaction ≡ Some t → IsTransaction h log (branch_line b) c t → Has (revisions (all_commits log' c') ++ opening ∷ []) t.rev → ⊥)
      → HaveOwnTransactions c' → AreBranches h log' c'
  branches_beside log log' c c' k keeps fronts grown new own = record {
    few = subst (λ (bs : List Branch). length bs ≤ 16) (sym keeps.branches) k.few;
    numbers = subst (AreDistinct (λ (b : Branch). b.number)) (sym keeps.branches) k.numbers;
    each = subst (AllByRecursion (IsBranch h log' c')) (sym keeps.branches) (has-all (IsBranch h log' c') c.branches (λ b i. branch_beside log log' c c' b (is b i) (omega (arith, keeps.forks)) keeps.received keeps.session keeps.ids fronts (λ t e x. new b t i e x)));
    standing = subst (AreStanding log' (main_line c') []) (map_same c.branches ∙ sym keeps.branches) (all_stand log log' (main_line c) (main_line c') (λ b. b) (λ b. b.received ≤ length log) on [] c.branches (λ b i. (is b i).within) k.standing);
    own = subst (λ (bs : List Branch). AllByRecursion (λ (N : Intent). N.rev.session ≡ c'.session) (own_of bs)) (sym keeps.branches) (subst (λ s. AllByRecursion (λ (N : Intent). N.rev.session ≡ s) (own_of c.branches)) (sym keeps.session) k.own);
    transactions = own;
  }
    where
      is : (b : Branch) → Has c.branches b → IsBranch h log c b
      is b i = all-has (IsBranch h log c) c.branches b k.each i

      on : (before : List Branch) (b : Branch) → ((p : Branch) → Has before p → p.received ≤ length log) → b.received ≤ length log → StandsOn log (main_line c) before b → StandsOn log' (main_line c') (map (λ (x : Branch). x) before) b
      on before b all low s = stands_grown log log' (main_line c) (main_line c') (λ x. x) before b (λ p. refl) refl
          (among_same (ap (λ Ns. Ns ++ b.base) (fronts.fronts b.received low))) grown
          (λ p i. among_same (ap (λ Ns. Ns ++ (p.base ++ p.own)) (sym (fronts.fronts p.received (all p i))))) s

  -- where all commits stay as they were, each revision that was new still is
  pub branches_stay : (log log' : List Entry) (c c' : Client) → AreBranches h log c → KeepsBranches c c' → KeepsFronts log log' → IsSublist (commits_of log (main_line c)) (commits_of log' (main_line c')) → all_commits log c ≡ all_commits log' c'
      → HaveOwnTransactions c' → AreBranches h log' c'
  branches_stay log log' c c' k keeps fronts grown all own =
      branches_beside log log' c c' k keeps fronts grown (λ b t i e x j. x.new (subst (λ l. Has (revisions l ++ opening ∷ []) t.rev) (sym all) j)) own
