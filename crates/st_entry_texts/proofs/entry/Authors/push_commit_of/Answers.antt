use Rattle.std.proofs.Common.{refl, sym, subst, ◌∙◌, ap}
use Rattle.st_doc.specs.Doc.{document_of}
use Rattle.st_entry_texts.specs.Authors.{IsAuthor}
use Rattle.st_entry_texts.specs.KnownChanges.{IsKept, told_of}
use Rattle.st_entry_texts.proofs.Telling.{with_one}
use Rattle.st_entry_texts.proofs.entry.Authors.push_commit_of.Goals as goal

pub push_by-requires-clause-may : goal.push_by-requires-clause-may
push_by-requires-clause-may c = (
  document_of c.args.self.now.opening,
  record {
    is = c.in_ok-author.ensures.is c.args.log.now c.requires.authors;
    fit = c.requires.fit;
    told = λ C is. c.requires.told C (sym (ap (λ x. told_of x c.args.reference c.args.intent.now) c.in_ok-author.ensures.known) ∙ is);
  },
)

pub returns : goal.returns
returns c =
    let O = document_of c.args.self.now.opening in
    let is = c.in_ok-author.ensures.is c.args.log.now c.requires.authors in
    record {
      told = c.in_ok-push_by.ensures.told O (record { is = is; fit = c.requires.fit; told = λ C known. c.requires.told C (sym (ap (λ x. told_of x c.args.reference c.args.intent.now) c.in_ok-author.ensures.known) ∙ known) });
      opening = c.in_ok-author.ensures.opening;
      authors = with_one c.args.log.now c.take_author.new.self _ c.args.head.session c.push_by.new.author refl c.in_ok-insert.ensures.updates.0
          (subst (λ d. IsAuthor (document_of d) c.args.log.now c.args.head.session c.push_by.new.author) (sym c.in_ok-author.ensures.opening) (c.in_ok-push_by.ensures.is O is)) (c.in_ok-author.ensures.rest c.args.log.now c.requires.authors);
      known = λ r k kept. subst (λ x. IsKept x r k) c.in_ok-author.ensures.known (c.in_ok-push_by.ensures.known r k kept);
    }
