use Rattle.std.proofs.Common.{ap, arith}
use Rattle.st_plain_branches.proofs.Branched.{few_among}
use Rattle.st_heads.specs.declared.replica.Replica.{Replica}
use Rattle.st_plain_branches.proofs.branches.drop_branch.Goals as goal

pub names_on-requires : goal.names_on-requires
names_on-requires c =
    let few = few_among c.args.client.now c.in-Some.place c.take_branch-branch.result c.take_branch-branch.ensures.branch in
    omega (arith, few, c.requires.few_names)

pub overflow_sub-kept : goal.overflow_sub-kept
overflow_sub-kept c =
    let few = few_among c.args.client.now c.in-Some.place c.take_branch-branch.result c.take_branch-branch.ensures.branch in
    let names = ap (λ (k : Replica). k.names) c.take_branch-branch.ensures.kept in
    omega (arith, few, names, c.requires.names, c.names_on.ensures)
