use Rattle.std.proofs.Common.{ap}
use Rattle.st_script.specs.Header.{header_view}
use Rattle.st_plain.proofs.world.World.new.Goals as goal

pub returns : goal.returns
returns c = record {
  stands = record {
    header = ap header_view c.begin.ensures.header;
    lists = c.begin.ensures.lists;
    counted = c.begin.ensures.fresh.1;
    fresh = c.begin.ensures.fresh.0;
    sound = c.begin.ensures.sound;
  };
}
