use Rattle.st_marks.specs.Embedding.{is_among}
use Rattle.st_effect.proofs.ListLoops.{among_more}
use Rattle.st_effect.proofs.names.new_names.Goals as goal

pub nodes-preserved : goal.nodes-preserved
nodes-preserved c =
    let added = c.in_ok-add.ensures c.nodes.invariant.rising in
    record {
      rising = added.0;
      each = λ n. among_more c.args.new.now c.nodes.one-index c.one-item.result (is_among c.nodes.names n) (is_among c.add.new.nodes n) n c.nodes-test.true c.one-item.is (c.nodes.invariant.each n) (added.1 n);
    }
