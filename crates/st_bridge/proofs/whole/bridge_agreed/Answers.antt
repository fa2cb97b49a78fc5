use Rattle.st_bridge.proofs.whole.bridge_agreed.Goals as goal

pub returns : goal.returns
returns c = λ D E N v u x f g short later emb step is there. c.over_commit.ensures D E N v u x f g short later emb (c.in_ok-rebased.ensures D E N x f g emb step) step is there
