use Rattle.std.proofs.Common.{◌≡◌, ◌∷◌, [], length, refl, sym, ap, ◌∙◌, subst, arith}
use Rattle.st_author_docs.specs.Authors.{LeadsTo}
use Rattle.st_ledger.specs.Stands.{StandsFor}
use Rattle.st_lists.specs.Log.{commits_in, log_with}
use Rattle.st_lists.specs.declared.lists.Body.TheVariants.{Join}
use Rattle.st_lists.proofs.Logs.{last_entry}
use Rattle.st_replay.specs.inside.Taking.{opening_of}
use Rattle.st_replay.proofs.DocsKept.{authors_stay}
use Rattle.st_replay.proofs.LogsLonger.{few, goes_on, leads_to_all, longer, no_commit}
use Rattle.st_replay.proofs.MessagesEntered.{on_ok}
use Rattle.st_replay.proofs.replay.Replay.join.Goals as goal

pub number_join-requires-clause-few : goal.number_join-requires-clause-few
number_join-requires-clause-few c = let r = c.args.self.now in omega (arith, ap length c.as_slice.ensures, few (opening_of r) r.log c.args.session (Join c.args.uuid) c.requires.follows)

pub push_entry-requires : goal.push_entry-requires
push_entry-requires c = let r = c.args.self.now in omega (arith, few (opening_of r) r.log c.args.session (Join c.args.uuid) c.requires.follows)

pub overflow_cast-at : goal.overflow_cast-at
overflow_cast-at c =
    let r = c.args.self.now in
    omega (arith, c.len-at.ensures, ap length c.in_ok-push_entry.ensures, longer r.log c.args.session (Join c.args.uuid), few (opening_of r) r.log c.args.session (Join c.args.uuid) c.requires.follows)

pub returns : goal.returns
returns c =
    let r = c.args.self.now in
    let O = opening_of r in
    let s = c.args.session in
    let body = Join c.args.uuid in
    let numbers : StandsFor c.number_join.new.ledger (log_with r.log s body) = subst (λ es. StandsFor c.number_join.new.ledger (log_with es s body)) c.as_slice.ensures c.in_ok-number_join.ensures in
    let leads : LeadsTo O (commits_in (log_with r.log s body)) r.doc = subst (λ Ns. LeadsTo O Ns r.doc) (sym (no_commit r.log s body refl)) c.requires.stands.document in
    let at : c.len-at.result ≡ length (log_with r.log s body) = c.len-at.ensures ∙ ap length c.in_ok-push_entry.ensures in
    on_ok c.join.result
    (λ are. goes_on r _ s body refl c.requires.stands c.requires.follows c.in_ok-push_entry.ensures numbers refl refl
    (are O (log_with r.log s body) (authors_stay O r.log (last_entry r.log s body ∷ []) r.authors c.requires.stands.authors) (omega (arith, at)) (leads_to_all O (log_with r.log s body) r.doc c.len-at.result (omega (arith, at)) leads)))
    c.join.ensures
