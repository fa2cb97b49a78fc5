use Rattle.st_script.specs.Header.{header_view}
use Rattle.st_plain.proofs.Knowing.{first_known}
use Rattle.st_plain.proofs.world.first_schemas.Goals as goal

pub returns : goal.returns
returns c =
    first_known (header_view c.args.header.now).schema c.in_ok-schema.schema c.in_ok-known.known c.keep.new.schemas c.new-schemas.result c.requires.schema c.in_ok-schema.ensures c.in_ok-known.ensures.schema c.in_ok-known.ensures.arrays c.in_ok-keep.ensures
