use Rattle.st_laws.proofs.steps.commit_first.Goals as goal

pub returns-clause-later : goal.returns-clause-later
returns-clause-later c = λ D E N v u x f g short later emb s is there.
    c.commit_over.ensures.later D E N v u x f g short later emb s is there (c.in_ok-done.ensures D N v x.before f short emb is)

pub returns-clause-apart : goal.returns-clause-apart
returns-clause-apart c = λ room w v. c.commit_over.ensures.apart room w v (λ D N a x f short emb is. c.in_ok-done.ensures D N a x f short emb is)
