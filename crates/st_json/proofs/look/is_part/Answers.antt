-- the parts that the iterator gives are those of the list
use Rattle.std.proofs.Common.{nat_eq, lit<, rules, tests}
use Rattle.std.specs.Cmp.Lexicographic.{pointwise}
use Rattle.std.proofs.lemmas.Iterator.Search.{any_from_yields_List}
use Rattle.std.proofs.lemmas.Iterator.Splits.{YieldsList-from_str_split}
use Rattle.st_json.proofs.look.is_part.Goals as goal

pub returns : goal.returns
returns c = any_from_yields_List (λ part. pointwise nat_eq part c.args.text.now) _ _ _ c.any.ensures.ran
    (YieldsList-from_str_split 32 c.args.parts.now (lit< tt) c.split.ensures.text c.split.ensures.has_more c.split.ensures.pattern)
    (λ x r q k. search (rules, tests))
