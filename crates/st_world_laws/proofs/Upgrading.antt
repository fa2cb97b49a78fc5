-- A change of the schema is pending: what holds of the client and of all lists then.
use Rattle.std.proofs.Common.{◌≡◌, ◌≢◌, ℕ, ◌+◌, ◌<◌, ◌≤◌, ◌∙◌, Bool, true, false, length, List, [], ◌∷◌, ◌++◌, Option, Some, None, Ok, refl, sym, ap, subst, arith}
use Rattle.std.specs.List.{AllByRecursion, slice_get, slice_set}
use Rattle.std.specs.Option.{option_and_then, option_map_or}
use Rattle.serde_json.specs.Written.{compact_text}
use Rattle.st_ids.specs.Listing.{Has}
use Rattle.st_ids.specs.Root.{opening}
use Rattle.st_ids.specs.declared.names.Rev.{Rev}
use Rattle.st_schema.specs.Schema.{SchemaView, is_sound}
use Rattle.st_schema.specs.Wider.{wider_of}
use Rattle.st_schema.specs.Written.{schema_data}
use Rattle.st_marks.specs.declared.intents.Intent.{Intent}
use Rattle.std.proofs.lemmas.List.{length-map}
use Rattle.st_marks.specs.declared.schemas.SchemaEntry.{SchemaEntry}
use Rattle.st_marks.specs.Document.{Document, revs}
use Rattle.st_marks.specs.Intent.{Fits, IsIntent}
use Rattle.st_marks.proofs.Members.{has-all}
use Rattle.st_lemmas.proofs.Lists.{AllByRecursion-append}
use Rattle.st_log_laws.specs.Names.{revisions}
use Rattle.st_log_laws.specs.Turns.{FitInTurn}
use Rattle.st_log_laws.proofs.Turns.{made_in_run}
use Rattle.st_script.specs.Header.{HeaderView}
use Rattle.st_lists.specs.Clients.{joined_of, next_rev, with_commit, with_new_commit}
use Rattle.st_lists.specs.Limits.{pending_limit_passed}
use Rattle.st_lists.specs.Lines.{branch_line, commits_of, main_line}
use Rattle.st_lists.specs.Log.{commits_in}
use Rattle.st_lists.specs.Names.{names_in, names_made, names_on_all}
use Rattle.st_lists.specs.declared.lists.Branch.{Branch}
use Rattle.st_lists.specs.declared.lists.Client.{Client}
use Rattle.st_lists.specs.declared.lists.Entry.{Entry}
use Rattle.st_lists.specs.declared.lists.Transaction.{Transaction}
use Rattle.st_schema_laws.proofs.EditsInLine.{some_last}
use Rattle.st_schema_laws.specs.AgreeingInEffect.{ConformsInEffect, with_commit as told_with_commit}
use Rattle.st_edits.specs.InEffect.{schema_in_effect}
use Rattle.st_schema_laws.specs.Widening.{IsUpgrade}
use Rattle.st_schema_laws.proofs.Lines.{upgrade_goes_on}
use Rattle.st_schema_laws.proofs.Read.{read_as_told}
use Rattle.st_schema_laws.proofs.Texts.{schema_text}
use Rattle.st_world_laws.specs.Worlds.{BranchesKeepSchemas, CommitsKeepSchemas, HasMain, HaveOwnSessions, IsClient, KeepToSchemas, KeepsLine}
use Rattle.st_world_laws.specs.Worlds.{IsKnownBy, IsMadeAsTold}
use Rattle.st_world.specs.Upgrade.{change_of_schema}
use Rattle.st_edits.specs.InEffect.{last_in_effect}
use Rattle.st_world.specs.World.{opening_document}
use Rattle.st_world_laws.proofs.Agreed.{branches_told, main_told, line_next_apart, not_made, nothing_edited, told_keeps}
use Rattle.st_world_laws.proofs.Among.{line_new}
use Rattle.st_world_laws.proofs.Begun.{IsStart}
use Rattle.st_world_laws.proofs.Clients.{client_committed, next_apart, next_new, own_more}
use Rattle.st_world_laws.proofs.Effect.{head_conforms, head_in_form}
use Rattle.st_world_laws.proofs.Everyone.{all_get}
use Rattle.st_world_laws.proofs.Going.{GoesOn}
use Rattle.st_world_laws.proofs.Limits.{within_pending}
use Rattle.st_world_laws.proofs.Telling.{GoesAnew, commit_is_told, last_among}

-- ## The commit

pub change_is_intent : (rev under : Rev) (new : SchemaView) → IsIntent (change_of_schema rev under new)
change_is_intent rev under new = record {
  new_rev = tt;
  new_once = tt;
  cell_rev = tt;
  cell_once = tt;
  group_some = tt;
  start_once = tt;
  anchor_once = tt;
  anchor_old = tt;
  owners = tt;
  root_stays = refl;
  put_once = tt;
  no_cell_twice = tt;
  no_register_twice = tt;
  new_somewhere = tt;
  cleared = tt;
  register_keys = tt;
  need_old = tt;
  no_ring = λ n. (1, refl);
  schema_alone = (refl, refl, refl, refl, refl);
}

-- it fits a document in which no entry has its revision
pub change_fits : (D : Document) (rev under : Rev) (new : SchemaView) → ((e : SchemaEntry) → Has D.schemas e → e.rev ≢ rev) → Fits D (change_of_schema rev under new)
change_fits D rev under new fresh = record {
  itself = change_is_intent rev under new;
  fresh_nodes = λ n made. absurd (no_true made);
  fresh_cells = λ c made. absurd (no_true made);
  fresh_schema = has-all (λ (e : SchemaEntry). e.rev ≢ rev) D.schemas fresh;
  groups_known = tt;
  owners_known = tt;
  puts_known = tt;
  clears_known = tt;
  needs_known = tt;
}
  where
    no_true : ◌≡◌ {A = Bool} false true → ⊥
    no_true e = cc

-- ## One client upgrades

module _ (h : HeaderView) (st : IsStart (opening_document h)) (log : List Entry) (c : Client) (k : IsClient h log c) (D : Document) (main : HasMain h log c D) where
  -- the revision is new
  next_is_new : Has (revisions (commits_of log (main_line c)) ++ opening ∷ []) (next_rev c) → ⊥
  next_is_new = line_new h st log c k 0 (main_line c) (next_rev c) refl (next_new h st log c (next_rev c) k refl)

  pub upgrade_fits : (new : SchemaView) → Fits D (change_of_schema (next_rev c) (last_in_effect D) new)
  upgrade_fits new =
      change_fits D (next_rev c) (last_in_effect D) new (λ e there same. next_is_new (subst (Has (revisions (commits_of log (main_line c)) ++ opening ∷ [])) same ((made_in_run (opening ∷ []) k.shown_fit main st.made).schemas e there)))

module _ (h : HeaderView) (st : IsStart (opening_document h)) (K : Rev → List ℕ → Type 0) (log : List Entry) (cs : List Client) (sessions : HaveOwnSessions cs) (are : AllByRecursion (IsClient h log) cs) (few : names_in (commits_in log) ≤ 131072)
    (keeps : KeepToSchemas h K log cs) (i : ℕ) (c : Client) (at : slice_get cs i ≡ Some c) (none : c.transaction ≡ None) (room : pending_limit_passed c ≡ None) (D : Document) (main : HasMain h log c D) (few_schemas : length D.schemas < 64)
    (new : SchemaView) (sound : is_sound new ≡ true) (wide : wider_of (schema_in_effect D) new ≡ Ok tt) where
  k : IsClient h log c
  k = all_get (IsClient h log) cs i c are at

  abbrev O : Document
  O = opening_document h

  abbrev N : Intent
  N = change_of_schema (next_rev c) (last_in_effect D) new

  abbrev text : List ℕ
  text = compact_text (schema_data new)

  client_upgraded : IsClient h log (with_new_commit c N)
  client_upgraded =
      let waiting : (option_map_or names_made (joined_of c) 0 + names_in c.pending) + names_on_all c.branches ≤ 16384 = k.few_names in
      let nothing : names_made N ≡ 0 = refl in
      let names : (names_in c.pending + names_on_all c.branches) + names_made N ≤ 16384 = omega (arith, waiting, nothing) in
      let apart : (b : Branch) (t : Transaction) → Has c.branches b → b.transaction ≡ Some t → t.rev ≢ N.rev = λ b t i x e. next_apart h st log c k b t i x e in
      let now = client_committed h st log c (c.ids + 1) D N k main (upgrade_fits h st log c k D main new) refl (omega arith) (omega arith) (next_new h st log c N.rev k refl) apart (within_pending h st c room) names few in
      subst (λ (o : Option Transaction). IsClient h log (with_commit (record c { ids = c.ids + 1; transaction = o }) N)) (sym none) now

  -- the new schema is known, and those of other revisions are known still
  module _ (L : Rev → List ℕ → Type 0) (more : (r : Rev) (t : List ℕ) → r ≢ next_rev c → K r t → L r t) (known : L (next_rev c) text) where
    keeps_upgraded : KeepToSchemas h L log (slice_set cs i (with_new_commit c N))
    keeps_upgraded =
        let T = keeps.told in
        let told = told_with_commit T N new in
        let anew : GoesAnew O K L T told (next_rev c) = record { told = commit_is_told O T N new; known = more } in
        let all_fresh = next_new h st log c N.rev k refl in
        let own = not_made h st K log c N.rev k few refl all_fresh L T told anew in
        let branches = all_get (BranchesKeepSchemas h K T log) cs i c keeps.keep.branches at in
        let beside = branches_told h st K log c N.rev k few refl all_fresh L T told anew c k own (λ b t j is x. line_next_apart h st log c (branch_line b) t N.rev x refl) branches in
        let mine : KeepsLine K T O (commits_of log (main_line c)) = all_get (λ (d : Client). CommitsKeepSchemas h K T log (main_line d)) cs i c keeps.keep.shown at in
        let others : KeepsLine L told O (commits_of log (main_line c)) = main_told h st K log c N.rev k few refl all_fresh L T told anew c k own mine in
        let here : ConformsInEffect T D = head_conforms h st K log cs keeps are i c at 0 (main_line c) refl D main in
        let same : schema_in_effect D ≡ T.view (last_in_effect D) = read_as_told T D (head_in_form h st K log cs keeps are i c at 0 (main_line c) refl D main) here in
        let up : IsUpgrade (T.view N.under) new text = record { written = schema_text new sound; sound = sound; wide = subst (λ s. wider_of s new ≡ Ok tt) same wide } in
        let chain : revs D.schemas ≡ T.chain (last_in_effect D) = here.line.last (last_in_effect D) (some_last (revs D.schemas) (head_in_form h st K log cs keeps are i c at 0 (main_line c) refl D main).in_effect.begun) in
        let other : told.chain N.under ≡ T.chain N.under = anew.told.chains N.under (λ e. next_is_new h st log c k D main (subst (Has (revisions (commits_of log (main_line c)) ++ opening ∷ [])) e (last_among T O (commits_of log (main_line c)) D mine.line main))) in
        let in_line : length (told.chain N.under) < 64 = subst (λ rs. length rs < 64) (chain ∙ sym other) (subst (λ n. n < 64) (sym (length-map D.schemas (λ (e : SchemaEntry). e.rev))) few_schemas) in
        let longer = own_more h st log (main_line c) N in
        let fit : FitInTurn O (commits_of log (main_line c) ++ N ∷ []) = subst (FitInTurn O) (sym longer) client_upgraded.shown_fit in
        let line : KeepsLine L told O (commits_of log (main_line c) ++ N ∷ []) = record {
          line = upgrade_goes_on T O D (commits_of log (main_line c)) N new mine.line main (next_is_new h st log c k D main) fit refl refl up;
          known = AllByRecursion-append (IsKnownBy L) (commits_of log (main_line c)) (N ∷ []) others.known (known, tt);
          made = AllByRecursion-append (IsMadeAsTold told) (commits_of log (main_line c)) (N ∷ []) others.made (record { homes = λ m made. absurd (let e : false ≡ true = made in cc); room = in_line }, tt);
          first = others.first;
        } in
        told_keeps h st K log c N.rev k few refl all_fresh L T told anew cs i (with_new_commit c N) sessions are at keeps.keep (subst (KeepsLine L told O) longer line)
        (nothing_edited h st K told log (main_line (with_new_commit c N)) (ap (option_and_then (λ (t : Transaction). t.joined)) none)) beside

    pub upgrade_goes : GoesOn h st L log cs i c (with_new_commit c N)
    upgrade_goes = record { client = client_upgraded; session = refl; connected = refl; ids = omega arith; forks = omega arith; keeps = keeps_upgraded }
