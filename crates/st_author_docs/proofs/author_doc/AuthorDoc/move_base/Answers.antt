use Rattle.std.proofs.Common.{drop, take, sym, subst}
use Rattle.st_doc.specs.Doc.{document_of}
use Rattle.st_log_laws.specs.Turns.{FitInTurn}
use Rattle.st_lists.specs.Log.{commits_in}
use Rattle.st_marks.specs.Run.{Run}
use Rattle.st_author_docs.specs.Authors.{LeadsTo}
use Rattle.st_author_docs.proofs.Authors.{base_fits, base_moves}
use Rattle.st_author_docs.proofs.author_doc.AuthorDoc.move_base.Goals as goal

pub carry_entries-requires-clause-fit : goal.carry_entries-requires-clause-fit
carry_entries-requires-clause-fit c =
    let fit = c.requires.fit in
    let a = c.args.self.now in
    subst (λ es. FitInTurn (document_of a.base) (commits_in es)) (sym c.entries_between-passed.ensures) (base_fits fit.opening c.args.log.now c.args.session a c.args.reference c.requires.later fit.is fit.fit)

pub returns-clause-is : goal.returns-clause-is
returns-clause-is c =
    let a = c.args.self.now in
    let base = c.carry_entries.new.doc in
    let led : LeadsTo (document_of a.base) (commits_in (drop a.at (take c.args.reference c.args.log.now))) base = record {
      ran = subst (λ es. Run (document_of a.base) (commits_in es) (document_of base)) c.entries_between-passed.ensures c.in_ok-carry_entries.ensures.run;
      sound = c.in_ok-carry_entries.ensures.sound;
    } in
    λ O x. base_moves O c.args.log.now c.args.session a c.args.reference base c.requires.later c.requires.within x led
