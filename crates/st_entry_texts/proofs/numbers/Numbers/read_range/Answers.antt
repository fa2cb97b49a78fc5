use Rattle.std.proofs.Common.{refl, arith}
use Rattle.st_clusters.specs.Ids.{ids_of}
use Rattle.st_entry_texts.proofs.RangesRead.{is_next_of, known, read_more, within}
use Rattle.st_entry_texts.proofs.numbers.Numbers.read_range.Goals as goal

pub add_sessions-requires-clause-few : goal.add_sessions-requires-clause-few
add_sessions-requires-clause-few c = known c.args.log.now c.args.self.now.read c.args.range c.requires.next c.requires.few

pub finalize-requires : goal.finalize-requires
finalize-requires c =
    is_next_of c.args.log.now c.args.self.now.read c.args.range c.requires.next c.requires.few (ids_of c.add_sessions.new.ids)
    (c.in_ok-add_sessions.ensures.table _ c.requires.numbered.table) c.in_ok-add_sessions.ensures.there

pub overflow_add-self : goal.overflow_add-self
overflow_add-self c = omega (arith, within c.args.log.now c.args.self.now.read c.args.range c.requires.next c.requires.few, c.requires.short)

pub returns : goal.returns
returns c =
    read_more c.args.log.now c.args.self.now.read c.args.range c.requires.next c.requires.few _ (ids_of c.add_sessions.new.ids)
    (c.in_ok-add_sessions.ensures.table _ c.requires.numbered.table) c.in_ok-add_sessions.ensures.stand_ins c.in_ok-add_sessions.ensures.there refl c.in_ok-finalize.ensures
