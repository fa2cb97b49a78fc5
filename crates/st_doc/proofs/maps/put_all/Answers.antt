use Rattle.st_doc.proofs.Look.{all_put}
use Rattle.st_doc.proofs.maps.put_all.Goals as goal

pub returns : goal.returns
returns g c = all_put g.met.K.Ord.total c.args.map.now c.append.new.self c.args.values c.append.ensures.other_was_ordered c.in_ok-append.ensures.inserts_all
