-- The commits of each branch of a client, and what is edited on it, agree with the schema, whatever the client does there.
use Rattle.std.proofs.Common.{Bool, IfSome, List, None, Option, Some, [], ap, cond, false, inl, inr, length, refl, subst, suc, sym, take, true, zero, ℕ, ◌++◌, ◌+◌, ◌∙◌, ◌∷◌, ◌≡◌, ◌≢◌, ◌≤◌}
use Rattle.std.proofs.lemmas.List.{append-nil}
use Rattle.std.specs.List.{AllByRecursion, slice_get, slice_set}
use Rattle.std.specs.Option.{option_and_then, option_map_or}
use Rattle.std.specs.Prelude.{not, option_map, ◌==◌}
use Rattle.st_lists.specs.Open.{IsWithPart, with_open, FitsSoFar}
use Rattle.st_ids.proofs.Shared.{filter-has, filtered}
use Rattle.st_ids.specs.Listing.{Has}
use Rattle.st_ids.specs.Root.{opening}
use Rattle.st_ids.specs.declared.names.Rev.{Rev}
use Rattle.st_lemmas.proofs.Lists.{AllByRecursion-append}
use Rattle.st_lemmas.proofs.Options.{one_some}
use Rattle.st_lists.proofs.Branches.{line_parts}
use Rattle.st_lists.specs.Clients.{with_edited, with_id}
use Rattle.st_lists.specs.Lines.{HasHead, Line, StandsOn, all_commits, base_of, branch_line, branch_of, commits_of, edited_on, has_children, line_of, main_line, new_branch, on_branch, with_base, with_branch, with_commit_on, with_commits_on, with_transaction_on, without_branch}
use Rattle.st_lists.specs.Log.{commits_in}
use Rattle.st_lists.specs.Names.{names_in, names_made}
use Rattle.st_lists.specs.declared.lists.Branch.{Branch}
use Rattle.st_lists.specs.declared.lists.Client.{Client}
use Rattle.st_lists.specs.declared.lists.Entry.{Entry}
use Rattle.st_lists.specs.declared.lists.Transaction.{Transaction}
use Rattle.st_log_laws.specs.Names.{revisions, HaveNewRevisions}
use Rattle.st_log_laws.specs.Turns.{FitInTurn, IsSublist}
use Rattle.st_marks.proofs.Members.{all-has, first-has, has-all, has-map, map-has}
use Rattle.st_marks.proofs.OneVerdict.{one_run}
use Rattle.st_marks.specs.Document.{Document}
use Rattle.st_marks.specs.declared.intents.Intent.{Intent}
use Rattle.st_schema_laws.proofs.Homes.{tells_own}
use Rattle.st_script.specs.Header.{HeaderView}
use Rattle.st_world_laws.proofs.Agreed.{part_told, part_under, line_next_apart, not_made, BranchKeeps, agrees_more, branch_keeps_told, branch_numbered, branch_told, committed_keeps, ended_keeps, main_edits_told, main_told, new_keeps, nothing_edited, one_keeps, parted_keeps, told_keeps}
use Rattle.st_world_laws.proofs.Among.{branch_among, branch_is, line_room, branch_new}
use Rattle.st_world_laws.proofs.Begun.{IsStart}
use Rattle.st_world_laws.proofs.Clients.{head_sound, main_among, next_new}
use Rattle.st_world_laws.proofs.Everyone.{all_get}
use Rattle.st_world_laws.proofs.Forking.{no_child}
use Rattle.st_world_laws.proofs.Lookup.{branch_there, line_there}
use Rattle.st_world_laws.proofs.Meant.{IsMeant}
use Rattle.st_world_laws.proofs.OnBranches.{same_number, changed_all, changed_there, changed_twice, has_number, line_more, line_on, several_on_branch, several_on_main, stands_among, with_branches, with_own}
use Rattle.st_world_laws.proofs.Parts.{follow}
use Rattle.st_world_laws.specs.Worlds.{BranchesKeepSchemas, CommitsKeepSchemas, EditsKeepSchemas, HaveOwnSessions, IsClient, IsTransaction, KeepSchemasAsTold, KeepToSchemas, LineFits, KeepsLine}
use Rattle.st_world.specs.World.{cells_given, next_names, opening_document}
use Rattle.st_world.specs.declared.edit_word.EditWord.{EditWord}
use Rattle.st_part_laws.proofs.Told.{told_under}
use Rattle.st_log_laws.proofs.Shorter.{new_shorter}
use Rattle.st_schema_laws.proofs.Lines.{line_after_conforms}
use Rattle.st_world_laws.proofs.Telling.{GoesAnew, IsToldAnew, made_as_told, same_known, goes_longer, homes_are_told, nothing_known, new_is_told}
use Rattle.st_world_laws.proofs.OwnHomes.{own_homes_agree}
use Rattle.st_schema_laws.specs.AgreeingInEffect.{Told, AgreesInLine, ConformsInEffect, with_home, with_commit}

module _ (h : HeaderView) (st : IsStart (opening_document h)) where
  -- a line's commits can be carried out in turn, and each has a new revision
  abbrev pub IsInOrder : List Entry → Line → Type 0
  IsInOrder log l = LineFits h log l × HaveNewRevisions (opening ∷ []) (commits_of log l)

  pub main_in_order : (log : List Entry) (c : Client) → IsClient h log c → IsInOrder log (main_line c)
  main_in_order log c k = (k.shown_fit, new_shorter (opening ∷ []) (commits_of log (main_line c)) (all_commits log c) (main_among h st log c k) k.new)

  pub branch_in_order : (log : List Entry) (c : Client) (b : Branch) → IsClient h log c → Has c.branches b → IsInOrder log (branch_line b)
  branch_in_order log c b k i = ((branch_is h st log c k b i).fit, new_shorter (opening ∷ []) (commits_of log (branch_line b)) (all_commits log c) (branch_among h st log c k b i) k.new)

module _ (h : HeaderView) (st : IsStart (opening_document h)) (K : Rev → List ℕ → Type 0) where
  abbrev Keeps : Told → List Entry → Branch → Type 0
  Keeps T log b = BranchKeeps h st K T log b

  abbrev Agree : Told → List Intent → Type 0
  Agree T Ns = KeepsLine K T (opening_document h) Ns

  -- ## Lines by their numbers

  -- the commits of each line of a client agree
  pub line_agrees : (T : Told) (log : List Entry) (c : Client) (k : ℕ) (l : Line) → line_of c k ≡ Some l → CommitsKeepSchemas h K T log (main_line c) → BranchesKeepSchemas h K T log c → CommitsKeepSchemas h K T log l
  line_agrees T log c zero l at shown branches = subst (CommitsKeepSchemas h K T log) (one_some (main_line c) l at) shown
  line_agrees T log c (suc j) l at shown branches =
      let m = line_there c j l at in
      subst (CommitsKeepSchemas h K T log) m.2 (all-has (Keeps T log) c.branches m.0 branches (branch_there c (suc j) m.0 m.1).0).0

  -- what a branch stands on is among its parent's commits
  pub stands_on : (log : List Entry) (c : Client) (b : Branch) (parent : Line) → IsClient h log c → Has c.branches b → line_of c b.parent ≡ Some parent → IsSublist (base_of log (branch_line b)) (commits_of log parent)
  stands_on log c b parent x i at = go (stands_among log (main_line c) [] c.branches b x.branches.standing i)
    where
      go : StandsOn log (main_line c) c.branches b → IsSublist (base_of log (branch_line b)) (commits_of log parent)
      go (inl q) =
          let same : main_line c ≡ parent = one_some (main_line c) parent (ap (line_of c) (sym q.0) ∙ at) in
          subst (λ l. IsSublist (base_of log (branch_line b)) (commits_of log l)) same q.1
      go (inr q) =
          let same : branch_line q.0 ≡ parent = one_some (branch_line q.0) parent (sym (branch_numbered h st log c q.0 x q.1) ∙ ap (line_of c) q.2 ∙ at) in
          subst (λ l. IsSublist (base_of log (branch_line b)) (commits_of log l)) same q.3

  -- so its own commits agree after those
  own_agrees : (T : Told) (log : List Entry) (c : Client) (b : Branch) (parent : Line) → IsClient h log c → Has c.branches b → line_of c b.parent ≡ Some parent → FitInTurn (opening_document h) (commits_of log parent ++ b.own)
      → HaveNewRevisions (opening ∷ []) (commits_of log parent ++ b.own) → CommitsKeepSchemas h K T log (main_line c) → BranchesKeepSchemas h K T log c → Agree T (commits_of log parent ++ b.own)
  own_agrees T log c b parent x i at fit new shown branches =
      goes_longer T (opening_document h) (base_of log (branch_line b)) (commits_of log parent) b.own (stands_on log c b parent x i at) (subst (Agree T) (line_parts log (branch_line b)) (all-has (Keeps T log) c.branches b branches i).0)
      (line_agrees T log c b.parent parent at shown branches) fit new

  -- ## A branch changes

  -- the branch of a number is now so, and the others are as they were
  pub branch_changed : (T : Told) (log : List Entry) (cs : List Client) (i : ℕ) (c : Client) (k : ℕ) (b : Branch) (f : Branch → Branch) (ids : ℕ) → AllByRecursion (IsClient h log) cs → slice_get cs i ≡ Some c → branch_of c k ≡ Some b
      → KeepSchemasAsTold h K log cs T → Keeps T log (f b) → KeepToSchemas h K log (slice_set cs i (record c { branches = on_branch k f c.branches; ids = ids }))
  branch_changed T log cs i c k b f ids are at is w here =
      let x = all_get (IsClient h log) cs i c are at in
      one_keeps h st K T log cs i (record c { branches = on_branch k f c.branches; ids = ids }) w
      (all_get (λ (d : Client). CommitsKeepSchemas h K T log (main_line d)) cs i c w.shown at) (all_get (λ (d : Client). EditsKeepSchemas h T log (main_line d)) cs i c w.edited at)
      (changed_all (Keeps T log) (Keeps T log) k f b c.branches x.branches.numbers is (λ y j apart p. p) here (all_get (BranchesKeepSchemas h K T log) cs i c w.branches at))

  -- one that is edited: more is told of a revision, which is that of no commit and of no transaction on another line
  module _ (log : List Entry) (cs : List Client) (i : ℕ) (c : Client) (j : ℕ) (b : Branch) (r : Rev) (sessions : HaveOwnSessions cs) (are : AllByRecursion (IsClient h log) cs) (few : names_in (commits_in log) ≤ 131072)
      (at : slice_get cs i ≡ Some c) (is : branch_of c (suc j) ≡ Some b) (session : r.session ≡ c.session) (fresh : Has (revisions (all_commits log c) ++ opening ∷ []) r → ⊥)
      (apart : (k : ℕ) (l : Line) (t : Transaction) → line_of c k ≡ Some l → k ≢ suc j → l.transaction ≡ Some t → IsTransaction h log l c t → r ≡ t.rev → ⊥)
      (T told : Told) (anew : GoesAnew (opening_document h) K K T told r) (w : KeepSchemasAsTold h K log cs T) where
    owner : IsClient h log c
    owner = all_get (IsClient h log) cs i c are at

    there : Has c.branches b × (b.number ≡ suc j)
    there = branch_there c (suc j) b is

    none : (M : Intent) → Has (all_commits log c) M → M.rev ≡ r → ⊥
    none = not_made h st K log c r owner few session fresh K T told anew

    main : CommitsKeepSchemas h K T log (main_line c)
    main = all_get (λ (d : Client). CommitsKeepSchemas h K T log (main_line d)) cs i c w.shown at

    branches : BranchesKeepSchemas h K T log c
    branches = all_get (BranchesKeepSchemas h K T log) cs i c w.branches at

    pub line : CommitsKeepSchemas h K told log (branch_line b)
    line = branch_told h st K log c r owner few session fresh K T told anew c owner none b there.0 (all-has (Keeps T log) c.branches b branches there.0).0

    pub conforms : (D : Document) → HasHead (opening_document h) log (branch_line b) D → ConformsInEffect told D
    conforms D head = line_after_conforms told (opening_document h) (commits_of log (branch_line b)) line.line D head

    pub branch_told_keeps : (f : Branch → Branch) (ids : ℕ) → Keeps told log (f b) → KeepToSchemas h K log (slice_set cs i (record c { branches = on_branch (suc j) f c.branches; ids = ids }))
    branch_told_keeps f ids here =
        told_keeps h st K log c r owner few session fresh K T told anew cs i (record c { branches = on_branch (suc j) f c.branches; ids = ids }) sessions are at w (main_told h st K log c r owner few session fresh K T told anew c owner none main)
        (main_edits_told h st K log c r owner few session fresh K T told anew c owner none (λ t o y. apart 0 (main_line c) t refl (λ e. cc) o y) main (all_get (λ (d : Client). EditsKeepSchemas h T log (main_line d)) cs i c w.edited at))
        (changed_all (Keeps T log) (Keeps told log) (suc j) f b c.branches owner.branches.numbers is
        (λ z k differ p. branch_keeps_told h st K log c r owner few session fresh K T told anew c owner none z k (λ t o y. apart z.number (branch_line z) t (branch_numbered h st log c z owner k) differ o y) p) here branches)

  -- ## Steps on a branch

  -- a commit of the next id
  pub new_on_branch_keeps : (log : List Entry) (cs : List Client) (i : ℕ) (c : Client) (j : ℕ) (b : Branch) (D : Document) (word : EditWord) (N : Intent) → HaveOwnSessions cs → AllByRecursion (IsClient h log) cs → names_in (commits_in log) ≤ 131072
      → slice_get cs i ≡ Some c → branch_of c (suc j) ≡ Some b → b.transaction ≡ None → HasHead (opening_document h) log (branch_line b) D → IsMeant D (next_names c None) word N → LineFits h log (record (branch_line b) { own = b.own ++ N ∷ [] })
      → KeepToSchemas h K log cs → KeepToSchemas h K log (slice_set cs i (with_commit_on (with_id c) (suc j) N))
  new_on_branch_keeps log cs i c j b D word N sessions are few at is closed head m fit w =
      let O = opening_document h in
      let x = all_get (IsClient h log) cs i c are at in
      let T = w.told in
      let told = with_home (with_commit T N (T.view N.under)) N in
      let anew = same_known O K T told N.rev (new_is_told O T N m.fits.itself) in
      let session : N.rev.session ≡ c.session = ap (λ (r : Rev). r.session) m.rev in
      let fresh = next_new h st log c N.rev x m.rev in
      let apart : (k : ℕ) (l : Line) (t : Transaction) → line_of c k ≡ Some l → k ≢ suc j → l.transaction ≡ Some t → IsTransaction h log l c t → N.rev ≡ t.rev → ⊥ = λ k l t o differ q y. line_next_apart h st log c l t N.rev y m.rev in
      let here = conforms log cs i c j b N.rev sessions are few at is session fresh apart T told anew w.keep D head in
      let mine = line log cs i c j b N.rev sessions are few at is session fresh apart T told anew w.keep in
      let new = branch_new h st log c x b N.rev (branch_there c (suc j) b is).0 fresh in
      let more = agrees_more h st K told log (branch_line b) D N mine head new fit m.under (m.agrees told here (tells_own T.home N) (told_under T.under N)) (nothing_known K N m.no_schema) (made_as_told told N (tells_own T.home N) m.no_schema) in
      let after : Keeps told log (record b { own = b.own ++ N ∷ [] }) =
      (more, nothing_edited h st K told log (record (branch_line b) { own = b.own ++ N ∷ [] }) (ap (option_and_then (λ (t : Transaction). t.joined)) closed)) in
      branch_told_keeps log cs i c j b N.rev sessions are few at is session fresh apart T told anew w.keep (λ y. record y { own = y.own ++ N ∷ [] }) (c.ids + 1) after

  -- a part more of what is edited
  pub part_on_branch_keeps : (log : List Entry) (cs : List Client) (i : ℕ) (c : Client) (j : ℕ) (b : Branch) (t : Transaction) (word : EditWord) (M J : Intent) → HaveOwnSessions cs → AllByRecursion (IsClient h log) cs → names_in (commits_in log) ≤ 131072
      → slice_get cs i ≡ Some c → branch_of c (suc j) ≡ Some b → b.transaction ≡ Some t → (y : IsTransaction h log (branch_line b) c t) → IsMeant (with_open y.before t.joined) (next_names c (Some t)) word M → IsWithPart t.joined M J
      → KeepToSchemas h K log cs → KeepToSchemas h K log (slice_set cs i (with_transaction_on c (suc j) (Some (with_edited t J (length M.new) (cells_given word M)))))
  part_on_branch_keeps log cs i c j b t word M J sessions are few at is opened y m part w =
      let O = opening_document h in
      let x = all_get (IsClient h log) cs i c are at in
      let T = w.told in
      let D = y.before in
      let mine : line_of c (suc j) ≡ Some (branch_line b) = ap (option_map branch_line) is in
      let apart : (k : ℕ) (l : Line) (u : Transaction) → line_of c k ≡ Some l → k ≢ suc j → l.transaction ≡ Some u → IsTransaction h log l c u → t.rev ≡ u.rev → ⊥ =
      λ k l u o differ q z e. differ (x.branches.transactions k (suc j) l (branch_line b) u t o mine q opened (sym e)) in
      let fits = (branch_is h st log c x b (branch_there c (suc j) b is).0).fit in
      let sound = head_sound h st log (branch_line b) D fits y.main in
      let keep : Keeps T log b = all-has (Keeps T log) c.branches b (all_get (BranchesKeepSchemas h K T log) cs i c w.keep.branches at) (branch_there c (suc j) b is).0 in
      let edits : IfSome t.joined (AgreesInLine T D) = subst (λ o. IfSome (option_and_then (λ (t : Transaction). t.joined) o) (AgreesInLine T D)) opened (keep.1 D y.main) in
      let room = subst (λ (o : Option Transaction). names_in (commits_of log (branch_line b)) + (option_map_or names_made (option_and_then (λ (v : Transaction). v.joined) o) 0 + 2048) ≤ 200000) opened (line_room h st log c x (suc j) (branch_line b) mine few) in
      let p = part_told h st K O D M J t.rev t.under sound y.under m.rev (part_under D t.rev t.under t.joined M y.so_far y.under m.under) T t.joined y.so_far (follow h st log (branch_line b) c t word M fits room y m) part y.sound edits m.agrees m.fits.itself in
      let told = p.told in
      let anew = same_known O K T told t.rev p.anew in
      let agree = line log cs i c j b t.rev sessions are few at is y.session y.new apart T told anew w.keep in
      let here = conforms log cs i c j b t.rev sessions are few at is y.session y.new apart T told anew w.keep D y.main in
      let u = Some (with_edited t J (length M.new) (cells_given word M)) in
      let after : Keeps told log (record b { transaction = u }) = (agree, λ E main. subst (λ F. AgreesInLine told F J) (one_run y.main main) (p.whole here)) in
      branch_told_keeps log cs i c j b t.rev sessions are few at is y.session y.new apart T told anew w.keep (λ z. record z { transaction = u }) c.ids after

  -- a transaction begins, or what was edited is dropped
  pub ended_on_branch_keeps : (log : List Entry) (cs : List Client) (i : ℕ) (c : Client) (j : ℕ) (b : Branch) (o : Option Transaction) (ids : ℕ) → AllByRecursion (IsClient h log) cs → slice_get cs i ≡ Some c → branch_of c (suc j) ≡ Some b
      → option_and_then (λ (t : Transaction). t.joined) o ≡ None → KeepToSchemas h K log cs → KeepToSchemas h K log (slice_set cs i (record (with_transaction_on c (suc j) o) { ids = ids }))
  ended_on_branch_keeps log cs i c j b o ids are at is none w =
      let branches = all_get (BranchesKeepSchemas h K w.told log) cs i c w.keep.branches at in
      let before : Keeps w.told log b = all-has (Keeps w.told log) c.branches b branches (branch_there c (suc j) b is).0 in
      branch_changed w.told log cs i c (suc j) b (λ y. record y { transaction = o }) ids are at is w.keep (before.0, nothing_edited h st K w.told log (record (branch_line b) { transaction = o }) none)

  -- what was edited is a commit
  pub committed_on_branch_keeps : (log : List Entry) (cs : List Client) (i : ℕ) (c : Client) (j : ℕ) (b : Branch) (t : Transaction) (J : Intent) → HaveOwnSessions cs → AllByRecursion (IsClient h log) cs → names_in (commits_in log) ≤ 131072
      → slice_get cs i ≡ Some c → branch_of c (suc j) ≡ Some b
      → b.transaction ≡ Some t → t.joined ≡ Some J → IsTransaction h log (branch_line b) c t → LineFits h log (record (branch_line b) { own = b.own ++ J ∷ [] }) → KeepToSchemas h K log cs
      → KeepToSchemas h K log (slice_set cs i (with_commit_on (with_transaction_on c (suc j) None) (suc j) J))
  committed_on_branch_keeps log cs i c j b t J sessions are few at is opened joined y fit w =
      let O = opening_document h in
      let x = all_get (IsClient h log) cs i c are at in
      let D = y.before in
      let T = w.told in
      let told = with_home T J in
      let branches = all_get (BranchesKeepSchemas h K T log) cs i c w.keep.branches at in
      let before : Keeps T log b = all-has (Keeps T log) c.branches b branches (branch_there c (suc j) b is).0 in
      let opened_as : edited_on (branch_line b) ≡ Some J = ap (option_and_then (λ (t : Transaction). t.joined)) opened ∙ joined in
      let mine : AgreesInLine T D J = subst (λ o. IfSome o (AgreesInLine T D)) opened_as (before.1 D y.main) in
      let so : FitsSoFar D t.rev t.under (Some J) = subst (FitsSoFar D t.rev t.under) joined y.so_far in
      let own : line_of c (suc j) ≡ Some (branch_line b) = ap (option_map branch_line) is in
      let apart : (k : ℕ) (l : Line) (u : Transaction) → line_of c k ≡ Some l → k ≢ suc j → l.transaction ≡ Some u → IsTransaction h log l c u → t.rev ≡ u.rev → ⊥ =
      λ k l u o differ q z e. differ (x.branches.transactions k (suc j) l (branch_line b) u t o own q opened (sym e)) in
      let anew = same_known O K T told t.rev (subst (IsToldAnew O T told) so.1 (homes_are_told O T J so.0.itself)) in
      let agree = line log cs i c j b t.rev sessions are few at is y.session y.new apart T told anew w.keep in
      let new = subst (λ r. Has (revisions (commits_of log (branch_line b)) ++ opening ∷ []) r → ⊥) (sym so.1) (branch_new h st log c x b t.rev (branch_there c (suc j) b is).0 y.new) in
      let more = agrees_more h st K told log (branch_line b) D J agree y.main new fit (so.2 ∙ y.under) (own_homes_agree T D J mine) (nothing_known K J so.3) (made_as_told told J (tells_own T.home J) so.3) in
      let after : Keeps told log (record b { own = b.own ++ J ∷ []; transaction = None }) = (more, nothing_edited h st K told log (record (branch_line b) { own = b.own ++ J ∷ []; transaction = None }) refl) in
      let once : on_branch (suc j) (with_own (J ∷ [])) (on_branch (suc j) (λ y. record y { transaction = None }) c.branches) ≡ on_branch (suc j) (λ y. record y { own = y.own ++ J ∷ []; transaction = None }) c.branches =
      changed_twice (suc j) (λ y. record y { transaction = None }) (with_own (J ∷ [])) (λ y. record y { own = y.own ++ J ∷ []; transaction = None }) (λ y. refl) (λ y. refl) c.branches in
      subst (λ bs. KeepToSchemas h K log (slice_set cs i (with_branches c bs))) (sym once)
      (branch_told_keeps log cs i c j b t.rev sessions are few at is y.session y.new apart T told anew w.keep (λ y. record y { own = y.own ++ J ∷ []; transaction = None }) c.ids after)

  -- ## Branches come and go

  -- one more stands on a line
  pub forked_keeps : (log : List Entry) (cs : List Client) (i : ℕ) (c : Client) (k : ℕ) (l : Line) → slice_get cs i ≡ Some c → line_of c k ≡ Some l → KeepToSchemas h K log cs → KeepToSchemas h K log (slice_set cs i (with_branch c k l))
  forked_keeps log cs i c k l at is w =
      let T = w.told in
      let shown = all_get (λ (d : Client). CommitsKeepSchemas h K T log (main_line d)) cs i c w.keep.shown at in
      let branches = all_get (BranchesKeepSchemas h K T log) cs i c w.keep.branches at in
      let b = new_branch (c.forks + 1) k l in
      let same : commits_of log l ≡ commits_of log (branch_line b) = ap (λ Ns. commits_in (take l.received log) ++ Ns) (sym (append-nil (l.base ++ l.own))) in
      let new : Keeps T log b = (subst (Agree T) same (line_agrees T log c k l is shown branches), nothing_edited h st K T log (branch_line b) refl) in
      one_keeps h st K T log cs i (with_branch c k l) w.keep shown (all_get (λ (d : Client). EditsKeepSchemas h T log (main_line d)) cs i c w.keep.edited at)
      (AllByRecursion-append (Keeps T log) c.branches (b ∷ []) branches (new, tt))

  -- the others stay when one goes
  rest_keeps : (T : Told) (log : List Entry) (c : Client) (k : ℕ) → BranchesKeepSchemas h K T log c → BranchesKeepSchemas h K T log (without_branch c k)
  rest_keeps T log c k branches =
      has-all (Keeps T log) (without_branch c k).branches (λ b j. all-has (Keeps T log) c.branches b branches (filtered (λ (x : Branch). not (x.number == k)) c.branches b j).0)

  pub dropped_branch_keeps : (log : List Entry) (cs : List Client) (i : ℕ) (c : Client) (k : ℕ) → slice_get cs i ≡ Some c → KeepToSchemas h K log cs → KeepToSchemas h K log (slice_set cs i (without_branch c k))
  dropped_branch_keeps log cs i c k at w =
      one_keeps h st K w.told log cs i (without_branch c k) w.keep (all_get (λ (d : Client). CommitsKeepSchemas h K w.told log (main_line d)) cs i c w.keep.shown at) (all_get (λ (d : Client). EditsKeepSchemas h w.told log (main_line d)) cs i c w.keep.edited at)
      (rest_keeps w.told log c k (all_get (BranchesKeepSchemas h K w.told log) cs i c w.keep.branches at))

  -- one stands on its parent's line anew
  pub rebased_keeps : (log : List Entry) (cs : List Client) (i : ℕ) (c : Client) (k : ℕ) (b : Branch) (parent : Line) → AllByRecursion (IsClient h log) cs → slice_get cs i ≡ Some c → branch_of c k ≡ Some b → line_of c b.parent ≡ Some parent → b.transaction ≡ None
      → IsInOrder h st log (record (branch_line b) { received = parent.received; base = parent.base ++ parent.own }) → KeepToSchemas h K log cs → KeepToSchemas h K log (slice_set cs i (with_base c k parent))
  rebased_keeps log cs i c k b parent are at is on none fit w =
      let T = w.told in
      let x = all_get (IsClient h log) cs i c are at in
      let shown = all_get (λ (d : Client). CommitsKeepSchemas h K T log (main_line d)) cs i c w.keep.shown at in
      let branches = all_get (BranchesKeepSchemas h K T log) cs i c w.keep.branches at in
      let l : Line = record (branch_line b) { received = parent.received; base = parent.base ++ parent.own } in
      let same = line_on log (branch_line b) parent in
      let agree = own_agrees T log c b parent x (branch_there c k b is).0 on (subst (FitInTurn (opening_document h)) (sym same) fit.0) (subst (HaveNewRevisions (opening ∷ [])) (sym same) fit.1) shown branches in
      let after : Keeps T log (record b { received = parent.received; base = parent.base ++ parent.own }) =
      (subst (Agree T) same agree, nothing_edited h st K T log l (ap (option_and_then (λ (t : Transaction). t.joined)) none)) in
      branch_changed T log cs i c k b (λ y. record y { received = parent.received; base = parent.base ++ parent.own }) c.ids are at is w.keep after

  -- its line fits, by what holds of the client after that
  pub rebased_fits : (log : List Entry) (c : Client) (k : ℕ) (b : Branch) (parent : Line) → branch_of c k ≡ Some b → IsClient h log (with_base c k parent) → IsInOrder h st log (record (branch_line b) { received = parent.received; base = parent.base ++ parent.own })
  rebased_fits log c k b parent is x =
      let now : Branch = record b { received = parent.received; base = parent.base ++ parent.own } in
      branch_in_order h st log (with_base c k parent) now x (changed_there k (λ z. record z { received = parent.received; base = parent.base ++ parent.own }) b c.branches is)

  -- one goes, and its own commits come behind its parent's
  pub merged_keeps : (log : List Entry) (cs : List Client) (i : ℕ) (c : Client) (k : ℕ) (b : Branch) (parent : Line) → AllByRecursion (IsClient h log) cs → slice_get cs i ≡ Some c → branch_of c k ≡ Some b → line_of c b.parent ≡ Some parent → parent.transaction ≡ None
      → IsInOrder h st log (record parent { own = parent.own ++ b.own }) → KeepToSchemas h K log cs → KeepToSchemas h K log (slice_set cs i (with_commits_on (without_branch c k) b.parent b.own))
  merged_keeps log cs i c k b parent are at is on none fit w = go b.parent on
    where
      T : Told
      T = w.told

      x : IsClient h log c
      x = all_get (IsClient h log) cs i c are at

      shown : CommitsKeepSchemas h K T log (main_line c)
      shown = all_get (λ (d : Client). CommitsKeepSchemas h K T log (main_line d)) cs i c w.keep.shown at

      branches : BranchesKeepSchemas h K T log c
      branches = all_get (BranchesKeepSchemas h K T log) cs i c w.keep.branches at

      same : commits_of log parent ++ b.own ≡ commits_of log (record parent { own = parent.own ++ b.own })
      same = line_more log parent b.own

      agree : CommitsKeepSchemas h K T log (record parent { own = parent.own ++ b.own })
      agree = subst (Agree T) same (own_agrees T log c b parent x (branch_there c k b is).0 on (subst (FitInTurn (opening_document h)) (sym same) fit.0) (subst (HaveNewRevisions (opening ∷ [])) (sym same) fit.1) shown branches)

      edits : EditsKeepSchemas h T log (record parent { own = parent.own ++ b.own })
      edits = nothing_edited h st K T log (record parent { own = parent.own ++ b.own }) (ap (option_and_then (λ (t : Transaction). t.joined)) none)

      grown : Line → Line
      grown l = record l { own = l.own ++ b.own }

      rest : BranchesKeepSchemas h K T log (without_branch c k)
      rest = rest_keeps T log c k branches

      on_main : main_line c ≡ parent → KeepToSchemas h K log (slice_set cs i (with_commits_on (without_branch c k) zero b.own))
      on_main e =
          let d = with_commits_on (without_branch c k) zero b.own in
          let m = several_on_main b.own (without_branch c k) in
          let now : grown parent ≡ main_line d = ap grown (sym e) ∙ ap (λ n. line_with n c.pending c.transaction) (sym m.received) ∙ ap (λ p. pending_line d.received p c.transaction) (sym m.pending) ∙ ap (λ t. pending_line d.received d.pending t) (sym m.transaction) in
          one_keeps h st K T log cs i d w.keep (subst (CommitsKeepSchemas h K T log) now agree) (subst (EditsKeepSchemas h T log) now edits) (subst (AllByRecursion (Keeps T log)) (sym m.branches) rest)
        where
          pending_line : ℕ → List Intent → Option Transaction → Line
          pending_line n p t = record { received = n; base = []; own = p; transaction = t }

          line_with : ℕ → List Intent → Option Transaction → Line
          line_with n p t = record { received = n; base = []; own = p ++ b.own; transaction = t }

      on_other : (j : ℕ) (p : Branch) → branch_of c (suc j) ≡ Some p → branch_line p ≡ parent → KeepToSchemas h K log (slice_set cs i (with_commits_on (without_branch c k) (suc j) b.own))
      on_other j p found e =
          let now : grown parent ≡ branch_line (with_own b.own p) = ap grown (sym e) in
          let after : Keeps T log (with_own b.own p) = (subst (CommitsKeepSchemas h K T log) now agree, subst (EditsKeepSchemas h T log) now edits) in
          let all = changed_all (Keeps T log) (Keeps T log) (suc j) (with_own b.own) p c.branches x.branches.numbers found (λ y q apart r. r) after branches in
          subst (λ d. KeepToSchemas h K log (slice_set cs i d)) (sym (several_on_branch j b.own (without_branch c k)))
          (one_keeps h st K T log cs i (with_branches c (on_branch (suc j) (with_own b.own) (without_branch c k).branches)) w.keep shown (all_get (λ (d : Client). EditsKeepSchemas h T log (main_line d)) cs i c w.keep.edited at)
          (has-all (Keeps T log) (on_branch (suc j) (with_own b.own) (without_branch c k).branches) (λ y q.
          let m = has-map (λ (z : Branch). cond (z.number == suc j) (with_own b.own z) z) (without_branch c k).branches y q in
          all-has (Keeps T log) (on_branch (suc j) (with_own b.own) c.branches) y all (subst (Has (on_branch (suc j) (with_own b.own) c.branches)) m.2 (map-has (λ (z : Branch). cond (z.number == suc j) (with_own b.own z) z) c.branches m.0 (filtered (λ (z : Branch). not (z.number == k)) c.branches m.0 m.1).0)))))

      go : (n : ℕ) → line_of c n ≡ Some parent → KeepToSchemas h K log (slice_set cs i (with_commits_on (without_branch c k) n b.own))
      go zero e = on_main (one_some (main_line c) parent e)
      go (suc j) e = let m = line_there c j parent e in on_other j m.0 m.1 m.2

  -- its parent's line fits, by what holds of the client after that
  pub merged_fits : (log : List Entry) (c : Client) (k : ℕ) (b : Branch) (parent : Line) → branch_of c k ≡ Some b → line_of c b.parent ≡ Some parent → has_children c k ≡ false → IsClient h log (with_commits_on (without_branch c k) b.parent b.own)
      → IsInOrder h st log (record parent { own = parent.own ++ b.own })
  merged_fits log c k b parent is on childless x = go b.parent refl on x
    where
      grown : Line → Line
      grown l = record l { own = l.own ++ b.own }

      on_main : main_line c ≡ parent → IsClient h log (with_commits_on (without_branch c k) zero b.own) → IsInOrder h st log (grown parent)
      on_main e y =
          let m = several_on_main b.own (without_branch c k) in
          let now : commits_of log (main_line (with_commits_on (without_branch c k) zero b.own)) ≡ commits_of log (grown (main_line c)) = ap (λ n. commits_in (take n log) ++ (with_commits_on (without_branch c k) zero b.own).pending) m.received ∙ ap (λ Ns. commits_in (take c.received log) ++ Ns) m.pending in
          let o = main_in_order h st log (with_commits_on (without_branch c k) zero b.own) y in
          subst (λ l. IsInOrder h st log (grown l)) e (subst (FitInTurn (opening_document h)) now o.0, subst (HaveNewRevisions (opening ∷ [])) now o.1)

      -- the parent isn't the branch itself
      other : (j : ℕ) (p : Branch) → b.parent ≡ suc j → branch_of c (suc j) ≡ Some p → Has (without_branch c k).branches p
      other j p e found = filter-has (λ (z : Branch). not (z.number == k)) c.branches p (branch_there c (suc j) p found).0 (stays (p.number == k) refl)
        where
          stays : (t : Bool) → (p.number == k) ≡ t → not (p.number == k) ≡ true
          stays false q = ap not q
          stays true q = absurd (no_child c k childless b (branch_there c k b is).0 (e ∙ sym (branch_there c (suc j) p found).1 ∙ same_number p.number k q))

      on_other : (j : ℕ) (p : Branch) → b.parent ≡ suc j → branch_of c (suc j) ≡ Some p → branch_line p ≡ parent → IsClient h log (with_commits_on (without_branch c k) (suc j) b.own) → IsInOrder h st log (grown parent)
      on_other j p above found e y =
          let d = with_branches c (on_branch (suc j) (with_own b.own) (without_branch c k).branches) in
          let z : IsClient h log d = subst (IsClient h log) (several_on_branch j b.own (without_branch c k)) y in
          let same : cond (p.number == suc j) (with_own b.own p) p ≡ with_own b.own p = ap (λ t. cond t (with_own b.own p) p) (first-has (has_number (suc j)) c.branches p found).1 in
          let i : Has d.branches (with_own b.own p) = subst (Has d.branches) same (map-has (λ (v : Branch). cond (v.number == suc j) (with_own b.own v) v) (without_branch c k).branches p (other j p above found)) in
          subst (λ l. IsInOrder h st log (grown l)) e (branch_in_order h st log d (with_own b.own p) z i)

      go : (n : ℕ) → b.parent ≡ n → line_of c n ≡ Some parent → IsClient h log (with_commits_on (without_branch c k) n b.own) → IsInOrder h st log (grown parent)
      go zero above e y = on_main (one_some (main_line c) parent e) y
      go (suc j) above e y = let m = line_there c j parent e in on_other j m.0 above m.1 m.2 y

  -- ## On any line

  -- a commit of the next id
  pub new_on_keeps : (log : List Entry) (cs : List Client) (i : ℕ) (c : Client) (k : ℕ) (l : Line) (D : Document) (word : EditWord) (N : Intent) → HaveOwnSessions cs → AllByRecursion (IsClient h log) cs → names_in (commits_in log) ≤ 131072
      → slice_get cs i ≡ Some c → line_of c k ≡ Some l → l.transaction ≡ None → HasHead (opening_document h) log l D → IsMeant D (next_names c None) word N → LineFits h log (record l { own = l.own ++ N ∷ [] }) → KeepToSchemas h K log cs
      → KeepToSchemas h K log (slice_set cs i (with_commit_on (with_id c) k N))
  new_on_keeps log cs i c zero l D word N sessions are few at is none head m fit w =
      let same : l ≡ main_line c = sym (one_some (main_line c) l is) in
      new_keeps h st K log cs i c D word N sessions are few at (ap (λ (x : Line). x.transaction) (sym same) ∙ none) (subst (λ x. HasHead (opening_document h) log x D) same head) m (subst (λ (x : Line). LineFits h log (record x { own = x.own ++ N ∷ [] })) same fit) w
  new_on_keeps log cs i c (suc j) l D word N sessions are few at is none head m fit w =
      let b = line_there c j l is in
      new_on_branch_keeps log cs i c j b.0 D word N sessions are few at b.1 (ap (λ (x : Line). x.transaction) b.2 ∙ none) (subst (λ x. HasHead (opening_document h) log x D) (sym b.2) head) m (subst (λ (x : Line). LineFits h log (record x { own = x.own ++ N ∷ [] })) (sym b.2) fit) w

  -- a part more of what is edited
  pub part_on_keeps : (log : List Entry) (cs : List Client) (i : ℕ) (c : Client) (k : ℕ) (l : Line) (t : Transaction) (word : EditWord) (M J : Intent) → HaveOwnSessions cs → AllByRecursion (IsClient h log) cs → names_in (commits_in log) ≤ 131072
      → slice_get cs i ≡ Some c → line_of c k ≡ Some l → l.transaction ≡ Some t → (y : IsTransaction h log l c t) → IsMeant (with_open y.before t.joined) (next_names c (Some t)) word M → IsWithPart t.joined M J
      → KeepToSchemas h K log cs → KeepToSchemas h K log (slice_set cs i (with_transaction_on c k (Some (with_edited t J (length M.new) (cells_given word M)))))
  part_on_keeps log cs i c zero l t word M J sessions are few at is opened y m part w =
      let same : main_line c ≡ l = one_some (main_line c) l is in
      subst (λ (x : Line). (z : IsTransaction h log x c t) → IsMeant (with_open z.before t.joined) (next_names c (Some t)) word M → KeepToSchemas h K log (slice_set cs i (with_transaction_on c zero (Some (with_edited t J (length M.new) (cells_given word M)))))) same
      (λ z n. parted_keeps h st K log cs i c t word M J sessions are few at (ap (λ (x : Line). x.transaction) same ∙ opened) z n part w) y m
  part_on_keeps log cs i c (suc j) l t word M J sessions are few at is opened y m part w =
      let b = line_there c j l is in
      subst (λ (x : Line). (z : IsTransaction h log x c t) → IsMeant (with_open z.before t.joined) (next_names c (Some t)) word M → KeepToSchemas h K log (slice_set cs i (with_transaction_on c (suc j) (Some (with_edited t J (length M.new) (cells_given word M)))))) b.2
      (λ z n. part_on_branch_keeps log cs i c j b.0 t word M J sessions are few at b.1 (ap (λ (x : Line). x.transaction) b.2 ∙ opened) z n part w) y m

  -- a transaction begins, with an id generated for it, or what was edited is dropped
  pub ended_on_keeps : (log : List Entry) (cs : List Client) (i : ℕ) (c : Client) (k : ℕ) (l : Line) (o : Option Transaction) (ids : ℕ) → AllByRecursion (IsClient h log) cs → slice_get cs i ≡ Some c → line_of c k ≡ Some l
      → option_and_then (λ (t : Transaction). t.joined) o ≡ None → KeepToSchemas h K log cs → KeepToSchemas h K log (slice_set cs i (record (with_transaction_on c k o) { ids = ids }))
  ended_on_keeps log cs i c zero l o ids are at is none w = ended_keeps h st K log cs i c (record (with_transaction_on c zero o) { ids = ids }) at refl refl refl none w
  ended_on_keeps log cs i c (suc j) l o ids are at is none w = let b = line_there c j l is in ended_on_branch_keeps log cs i c j b.0 o ids are at b.1 none w

  -- none is open any more
  pub closed_on_keeps : (log : List Entry) (cs : List Client) (i : ℕ) (c : Client) (k : ℕ) (l : Line) → AllByRecursion (IsClient h log) cs → slice_get cs i ≡ Some c → line_of c k ≡ Some l
      → KeepToSchemas h K log cs → KeepToSchemas h K log (slice_set cs i (with_transaction_on c k None))
  closed_on_keeps log cs i c zero l are at is w = ended_on_keeps log cs i c zero l None c.ids are at is refl w
  closed_on_keeps log cs i c (suc j) l are at is w = ended_on_keeps log cs i c (suc j) l None c.ids are at is refl w

  -- what was edited is a commit
  pub committed_on_keeps : (log : List Entry) (cs : List Client) (i : ℕ) (c : Client) (k : ℕ) (l : Line) (t : Transaction) (J : Intent) → HaveOwnSessions cs → AllByRecursion (IsClient h log) cs → names_in (commits_in log) ≤ 131072 → slice_get cs i ≡ Some c → line_of c k ≡ Some l
      → l.transaction ≡ Some t → t.joined ≡ Some J → IsTransaction h log l c t → LineFits h log (record l { own = l.own ++ J ∷ [] }) → KeepToSchemas h K log cs
      → KeepToSchemas h K log (slice_set cs i (with_commit_on (with_transaction_on c k None) k J))
  committed_on_keeps log cs i c zero l t J sessions are few at is opened joined y fit w =
      let same : l ≡ main_line c = sym (one_some (main_line c) l is) in
      committed_keeps h st K log cs i c t J sessions are few at (ap (λ (x : Line). x.transaction) (sym same) ∙ opened) joined (subst (λ x. IsTransaction h log x c t) same y) (subst (λ (x : Line). LineFits h log (record x { own = x.own ++ J ∷ [] })) same fit) w
  committed_on_keeps log cs i c (suc j) l t J sessions are few at is opened joined y fit w =
      let b = line_there c j l is in
      committed_on_branch_keeps log cs i c j b.0 t J sessions are few at b.1 (ap (λ (x : Line). x.transaction) b.2 ∙ opened) joined (subst (λ x. IsTransaction h log x c t) (sym b.2) y) (subst (λ (x : Line). LineFits h log (record x { own = x.own ++ J ∷ [] })) (sym b.2) fit) w
