use Rattle.std.proofs.Common.{subst}
use Rattle.std.specs.Prelude.{ℤ}
use Rattle.st_clusters.specs.Ids.{IsOpAt}
use Rattle.st_idcodec.proofs.Back.{rev_only, atom_only}
use Rattle.st_idcodec.proofs.laws.ops_are_read_back.Goals as goal

pub returns-clause-revs : goal.returns-clause-revs
returns-clause-revs c = λ r s z w h e k.
    let at = c.args.at.now in
    c.names_are_distinct.ensures.op at.later.now at.own at.have s r z (subst (λ (x : ℤ). IsOpAt at s x) (rev_only z w e) k) h

pub returns-clause-atoms : goal.returns-clause-atoms
returns-clause-atoms c = λ r s z w n m h e k.
    let at = c.args.at.now in
    let read = atom_only z w n m e in
    (c.names_are_distinct.ensures.op at.later.now at.own at.have s r z (subst (λ (x : ℤ). IsOpAt at s x) read.0 k) h, read.1)
