use Rattle.std.proofs.Common.{sym, ◌∙◌}
use Rattle.st_author_docs.proofs.Authors.{nothing_own}
use Rattle.st_lists.specs.Log.{commits_by}
use Rattle.st_author_docs.proofs.author_doc.AuthorDoc.go_through.Goals as goal

pub returns-then-count_own-eq0 : goal.returns-then-count_own-eq0
returns-then-count_own-eq0 c =
    nothing_own c.args.self.now (commits_by c.args.session c.args.entries.now) c.requires.sound (sym c.count_own.ensures ∙ c.if-count_own-eq0.true)
