use Rattle.std.proofs.Common.{[], sym, subst, ne_eqb}
use Rattle.st_lists.proofs.Logs.{by_other}
use Rattle.st_author_tests.specs.Replays.{HasReplayed}
use Rattle.st_author_tests.proofs.Replays.{nothing}
use Rattle.st_author_tests.proofs.replaying.carry_own_entry.Goals as goal

pub returns-else-entry-session : goal.returns-else-entry-session
returns-else-entry-session c =
    let d = c.args.doc.now in
    let e = c.args.entry.now in
    let s = c.args.session in
    subst (λ Ns. HasReplayed d Ns d) (sym (by_other s e [] (ne_eqb e.session s c.if-entry-session.false))) (nothing d c.requires)
