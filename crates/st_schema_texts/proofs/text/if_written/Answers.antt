use Rattle.std.proofs.Common.{◌≡◌, false, nat_eq, rules}
use Rattle.std.specs.Cmp.Lexicographic.{pointwise}
use Rattle.st_schema_texts.proofs.Once.{not_same, not_written}
use Rattle.st_schema_texts.proofs.text.if_written.Goals as goal

pub returns-else-eq : goal.returns-else-eq
returns-else-eq c =
    let differ : pointwise nat_eq c.in_ok-written.written c.args.text.now ≡ false = search rules in
    not_written c.args.text.now c.args.schema c.requires (not_same c.args.text.now c.in_ok-written.written c.args.schema c.in_ok-written.ensures.text differ)
