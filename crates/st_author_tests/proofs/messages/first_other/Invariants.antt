use Rattle.std.proofs.Common.{◌≤◌}
use Rattle.st_doc.specs.Doc.{document_of}
use Rattle.st_author_docs.specs.Authors.{IsAuthorOf}
use Rattle.st_author_tests.proofs.messages.first_other.Given as goal

-- what is kept is the session's, by entries before the message
abbrev pub invariant-loop-place : goal.invariant-loop-place
invariant-loop-place l = record { is : IsAuthorOf (document_of l.opening) l.log l.session l.author; seen : l.author.seen ≤ l.place }
