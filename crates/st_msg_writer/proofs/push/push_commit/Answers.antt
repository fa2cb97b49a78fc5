use Rattle.std.proofs.Common.{◌∙◌, ◌++◌, ap, List, ℕ}
use Rattle.std.proofs.lemmas.Result.{on_ok_weaker}
use Rattle.st_msg_writer.proofs.Pieces.{commit_is}
use Rattle.st_msg_writer.proofs.push.push_commit.Goals as goal

pub returns : goal.returns
returns c = λ d kind same. on_ok_weaker c.push_commit_text.result (λ h. h
    ∙ ap (λ (x : List ℕ). c.args.out.now ++ x) (commit_is c.args.head.n c.args.head.min c.args.head.session c.args.reference c.args.ids d c.args.upgrade c.args.change.now kind same)) c.push_commit_text.ensures
