use Rattle.st_clusters.proofs.compressor.Compressor.id_of.Goals as goal

pub returns : goal.returns
returns c = rw c.as_slice.ensures.value at c.id_in.ensures
