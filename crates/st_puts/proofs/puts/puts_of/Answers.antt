use Rattle.std.proofs.Common.{◌≡◌, ◌∙◌}
use Rattle.std.specs.BTreeMap.{BTreeMap, get}
use Rattle.std.specs.Option.{option_or}
use Rattle.st_ids.specs.Order.{node_cmp}
use Rattle.st_ids.specs.declared.names.NodeId.{NodeId}
use Rattle.st_lemmas.proofs.Options.{IfOk-along}
use Rattle.st_marks.specs.declared.intents.To.{To}
use Rattle.st_marks.specs.Intent.{put_of}
use Rattle.st_puts.specs.inside.First.{first_at}
use Rattle.st_puts.specs.inside.Puts.{comes_told, goes_told}
use Rattle.st_puts.proofs.ThinMarks.{same_puts}
use Rattle.st_puts.proofs.PutsExact.{puts_exact}
use Rattle.st_puts.proofs.puts.puts_of.Goals as goal

pub returns : goal.returns
returns c = λ D N x f shows.
    let C = c.args.change.now in
    IfOk-along c.told_puts.result (λ (m : BTreeMap NodeId To). (n : NodeId) → get node_cmp m n ≡ option_or (first_at (comes_told C) n) (first_at (goes_told C) n))
    (λ (m : BTreeMap NodeId To). (n : NodeId) → get node_cmp m n ≡ put_of N n)
    (λ m h n. h n ∙ same_puts C shows.0 shows.2 n ∙ puts_exact D N shows.0 x f shows.1 n) c.told_puts.ensures
