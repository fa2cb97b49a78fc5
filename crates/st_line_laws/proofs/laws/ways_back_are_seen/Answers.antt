use Rattle.st_line_laws.proofs.BackSeen.{same_tree, sound_after}
use Rattle.st_line_laws.proofs.laws.ways_back_are_seen.Goals as goal

pub returns : goal.returns
returns c = record {
  verdict = λ D E rev under B x b h. sound_after D E x rev under B b h;
  tree = λ is_array D E rev under B d x b. same_tree D E x rev under B b is_array d;
}
