use Rattle.std.proofs.Common.{◌≡◌, ◌≤◌, drop, take, sym, subst}
use Rattle.st_doc.specs.Doc.{document_of}
use Rattle.st_log_laws.specs.Turns.{FitInTurn}
use Rattle.st_lists.specs.Log.{commits_by, commits_in}
use Rattle.st_marks.specs.Run.{Run}
use Rattle.st_author_docs.specs.Authors.{LeadsTo}
use Rattle.st_author_docs.proofs.Authors.{base_fits, moves_under, own_alone, same_list}
use Rattle.st_author_docs.proofs.author_doc.AuthorDoc.move_under_head.Goals as goal

pub follow-requires-clause-fit : goal.follow-requires-clause-fit
follow-requires-clause-fit c =
    let fit = c.requires.fit in
    let log = c.args.log.now in
    let s = c.args.session in
    let a = c.args.self.now in
    let q = c.args.reference in
    record {
      opening = fit.opening;
      is = fit.is;
      fit = subst (FitInTurn fit.opening) (sym (same_list log s a.at q c.requires.later c.requires.within (own_alone s (drop a.at (take q log)) c.requires.own))) fit.fit;
    }

pub carry_entries-requires-clause-sound : goal.carry_entries-requires-clause-sound
carry_entries-requires-clause-sound c =
    let fit = c.requires.fit in
    (c.in_ok-follow.ensures.is fit.opening fit.is).base.sound

pub carry_entries-requires-clause-fit : goal.carry_entries-requires-clause-fit
carry_entries-requires-clause-fit c =
    let fit = c.requires.fit in
    let b = c.follow.new.self in
    let q = c.args.reference in
    let low : b.at ≤ q = subst (λ r. r ≤ q) (sym c.in_ok-follow.ensures.at) c.requires.later in
    subst (λ es. FitInTurn (document_of b.base) (commits_in es)) (sym c.entries_between-passed.ensures) (base_fits fit.opening c.args.log.now c.args.session b q low (c.in_ok-follow.ensures.is fit.opening fit.is) fit.fit)

pub returns-clause-is : goal.returns-clause-is
returns-clause-is c =
    let b = c.follow.new.self in
    let q = c.args.reference in
    let s = c.args.session in
    let log = c.args.log.now in
    let base = c.carry_entries.new.doc in
    let low : b.at ≤ q = subst (λ r. r ≤ q) (sym c.in_ok-follow.ensures.at) c.requires.later in
    let alone : commits_in (drop b.at (take q log)) ≡ commits_by s (drop b.at (take q log)) = subst (λ r. commits_in (drop r (take q log)) ≡ commits_by s (drop r (take q log))) (sym c.in_ok-follow.ensures.at) (own_alone s (drop c.args.self.now.at (take q log)) c.requires.own) in
    let led : LeadsTo (document_of b.base) (commits_in (drop b.at (take q log))) base = record {
      ran = subst (λ es. Run (document_of b.base) (commits_in es) (document_of base)) c.entries_between-passed.ensures c.in_ok-carry_entries.ensures.run;
      sound = c.in_ok-carry_entries.ensures.sound;
    } in
    λ O x. moves_under O log s b q base low c.requires.within c.in_ok-follow.ensures.seen alone (c.in_ok-follow.ensures.is O x) led
