-- A replay that goes on by an entry.
use Rattle.std.proofs.Common.{◌≡◌, ◌≢◌, ◌≤◌, ◌<◌, ◌+◌, ℕ, List, [], ◌∷◌, ◌++◌, length, length-append, take, Option, Some, None, Result, Ok, Err, IfOk, OnOk, refl, sym, ap, ◌∙◌, subst, arith, inl}
use Rattle.std.specs.List.{find}
use Rattle.std.proofs.lemmas.List.{append-nil, take_all}
use Rattle.st_author_docs.specs.Authors.{LeadsTo}
use Rattle.st_author_docs.proofs.Along.{run_one}
use Rattle.st_clusters.specs.declared.ids.IdRange.{IdRange}
use Rattle.st_doc.specs.Doc.{document_of}
use Rattle.st_doc.specs.declared.doc.Doc.{Doc}
use Rattle.st_edits.specs.Keeping.{commit_named}
use Rattle.st_ids.specs.Listing.{Has}
use Rattle.st_ids.specs.Order.{same_rev}
use Rattle.st_ids.specs.Root.{opening}
use Rattle.st_ids.proofs.Orders.{same_rev-true}
use Rattle.st_ledger.specs.Stands.{StandsFor}
use Rattle.st_lists.specs.Log.{commits_in, commits_of_text, log_with}
use Rattle.st_lists.specs.declared.lists.Body.{Body}
use Rattle.st_lists.specs.declared.lists.Body.TheVariants.{Commit}
use Rattle.st_lists.specs.declared.lists.Entry.{Entry}
use Rattle.st_lists.proofs.Logs.{entered_commits, last_entry}
use Rattle.st_log_laws.specs.Names.{HaveNewRevisions, revisions}
use Rattle.st_log_laws.specs.Turns.{FitInTurn}
use Rattle.st_log_laws.proofs.Shorter.{new_after}
use Rattle.st_log_laws.proofs.Turns.{rest}
use Rattle.st_makers.specs.Makers.{KnowsMakers}
use Rattle.st_makers.specs.declared.makers.Makers.{Makers}
use Rattle.st_marks.specs.CarryOut.{full}
use Rattle.st_marks.specs.Document.{Document, HasShortRows, IsSoundInForm}
use Rattle.st_marks.specs.Run.{Run}
use Rattle.st_marks.specs.Verdict.{IsVerdict, carried_document}
use Rattle.st_marks.specs.declared.intents.Intent.{Intent}
use Rattle.st_marks.specs.declared.verdicts.Verdict.{Verdict}
use Rattle.st_marks.proofs.Members.{append_left, append_right, first-has, map-has}
use Rattle.st_marks.proofs.OneVerdict.{run_then}
use Rattle.st_valid_laws.specs.Messages.{IsValidLog}
use Rattle.st_valid_laws.proofs.Standing.{all_stand}
use Rattle.st_valid_laws.proofs.ValidLogs.{few_entries, have_new_revisions}
use Rattle.st_replay.specs.Stands.{AreAuthorsOf, MayOpen}
use Rattle.st_replay.specs.inside.Taking.{GoesOnBy, IsStanding, MayFollow, opening_of}
use Rattle.st_replay.specs.declared.replay.Replay.{Replay}
use Rattle.st_replay.proofs.DocsKept.{authors_stay}

-- ## One entry more

pub longer : (log : List Entry) (s : ℕ) (body : Body) → length (log_with log s body) ≡ length log + 1
longer log s body = length-append log (last_entry log s body ∷ [])

pub few : (O : Document) (log : List Entry) (s : ℕ) (body : Body) → IsValidLog O (log_with log s body) → length log < 65535
few O log s body valid = omega (arith, longer log s body, few_entries valid)

pub no_commit : (log : List Entry) (s : ℕ) (body : Body) → commits_of_text body ≡ [] → commits_in (log_with log s body) ≡ commits_in log
no_commit log s body none = entered_commits log s body ∙ ap (λ Ns. commits_in log ++ Ns) none ∙ append-nil (commits_in log)

-- one that is no commit changes no document, and makes no node
pub goes_on : (r s : Replay) (session : ℕ) (body : Body) → commits_of_text body ≡ [] → IsStanding r → MayFollow r session body
    → s.log ≡ log_with r.log session body → StandsFor s.ledger (log_with r.log session body) → s.doc ≡ r.doc → s.makers ≡ r.makers
    → AreAuthorsOf (opening_of r) (log_with r.log session body) s.authors → GoesOnBy r session body s
goes_on r s session body none h valid entries numbers doc makers authors = record {
  opens = h.opens;
  valid = valid;
  entries = entries;
  numbers = numbers;
  document = subst (LeadsTo (opening_of r) (commits_in (log_with r.log session body))) (sym doc) (subst (λ Ns. LeadsTo (opening_of r) Ns r.doc) (sym (no_commit r.log session body none)) h.document);
  authors = authors;
  makers = subst (KnowsMakers (opening_of r) (commits_in (log_with r.log session body))) (sym makers) (subst (λ Ns. KnowsMakers (opening_of r) Ns r.makers) (sym (no_commit r.log session body none)) h.makers);
}

-- the document of all entries is that of the entries up to the last
pub leads_to_all : (O : Document) (log : List Entry) (d : Doc) (at : ℕ) → length log ≤ at → LeadsTo O (commits_in log) d → LeadsTo O (commits_in (take at log)) d
leads_to_all O log d at all h = subst (λ es. LeadsTo O (commits_in es) d) (sym (take_all at log all)) h

-- ## One commit more

module _ (O : Document) (log : List Entry) (s reference : ℕ) (ids : IdRange) (N : Intent) (opens : MayOpen O) (valid : IsValidLog O (log_with log s (Commit reference ids N))) where
  commits : commits_in (log_with log s (Commit reference ids N)) ≡ commits_in log ++ N ∷ []
  commits = entered_commits log s (Commit reference ids N)

  pub fits : (d : Doc) → LeadsTo O (commits_in log) d → FitInTurn (document_of d) (N ∷ [])
  fits d leads = rest (N ∷ []) leads.ran (subst (FitInTurn O) commits (all_stand O opens.sound opens.made opens.room valid).whole.fit)

  fresh : Has (revisions (commits_in log) ++ opening ∷ []) N.rev → ⊥
  fresh h =
      let all : HaveNewRevisions (opening ∷ []) (commits_in log ++ N ∷ []) = subst (HaveNewRevisions (opening ∷ [])) commits (have_new_revisions valid) in
      (new_after (opening ∷ []) (commits_in log) (N ∷ []) all).new N (inl refl) h

  pub named_by_none : commit_named (commits_in log) N.rev ≡ None
  named_by_none = go (find (λ (M : Intent). same_rev M.rev N.rev) (commits_in log)) refl
    where
      go : (o : Option Intent) → find (λ (M : Intent). same_rev M.rev N.rev) (commits_in log) ≡ o → o ≡ None
      go None e = refl
      go (Some M) e =
          let has = first-has (λ (M : Intent). same_rev M.rev N.rev) (commits_in log) M e in
          let same : M.rev ≡ N.rev = same_rev-true M.rev N.rev has.1 in
          absurd (fresh (subst (Has (revisions (commits_in log) ++ opening ∷ [])) same (append_left (revisions (commits_in log)) (opening ∷ []) M.rev (map-has (λ (K : Intent). K.rev) (commits_in log) M has.0))))

  pub not_opening : N.rev ≢ opening
  not_opening e = fresh (append_right (revisions (commits_in log)) (opening ∷ []) N.rev (inl (sym e)))

  pub leads_on : (d e : Doc) (v : Verdict) → LeadsTo O (commits_in log) d → IsVerdict (document_of d) N v → document_of e ≡ carried_document v (document_of d) N
      → (HasShortRows (full (document_of d) N) → IsSoundInForm (document_of e)) → LeadsTo O (commits_in (log_with log s (Commit reference ids N))) e
  leads_on d e v leads is after sound = record {
    ran = subst (λ Ns. Run O Ns (document_of e)) (sym commits) (run_then leads.ran (run_one (document_of d) (document_of e) N v is after));
    sound = sound (fits d leads).1;
  }

  pub carried_on : {E : Type 0} (r : Result Verdict E) (d e : Doc) → LeadsTo O (commits_in log) d → IfOk r (λ v. IsVerdict (document_of d) N v) → IfOk r (λ v. document_of e ≡ carried_document v (document_of d) N)
      → OnOk r (HasShortRows (full (document_of d) N) → IsSoundInForm (document_of e)) → OnOk r (LeadsTo O (commits_in (log_with log s (Commit reference ids N))) e)
  carried_on (Ok v) d e leads is after sound = leads_on d e v leads is after sound
  carried_on (Err x) d e leads is after sound = tt

  pub knows_on : (x : Makers) → KnowsMakers O (commits_in log ++ N ∷ []) x → KnowsMakers O (commits_in (log_with log s (Commit reference ids N))) x
  knows_on x h = subst (λ Ns. KnowsMakers O Ns x) (sym commits) h

-- a commit enters the log, when it was carried out
pub commits_on : (r s : Replay) (session reference : ℕ) (ids : IdRange) (N : Intent) → IsStanding r → MayFollow r session (Commit reference ids N)
    → s.log ≡ log_with r.log session (Commit reference ids N) → StandsFor s.ledger (log_with r.log session (Commit reference ids N))
    → LeadsTo (opening_of r) (commits_in (log_with r.log session (Commit reference ids N))) s.doc
    → KnowsMakers (opening_of r) (commits_in (log_with r.log session (Commit reference ids N))) s.makers → s.authors ≡ r.authors
    → GoesOnBy r session (Commit reference ids N) s
commits_on r s session reference ids N h valid entries numbers document makers authors = record {
  opens = h.opens;
  valid = valid;
  entries = entries;
  numbers = numbers;
  document = document;
  authors = subst (AreAuthorsOf (opening_of r) (log_with r.log session (Commit reference ids N))) (sym authors) (authors_stay (opening_of r) r.log (last_entry r.log session (Commit reference ids N) ∷ []) r.authors h.authors);
  makers = makers;
}
