use Rattle.st_pair_laws.proofs.OneAnswer.{one_bridge, one_rebase}
use Rattle.st_pair_laws.proofs.laws.one_answer_beside.Goals as goal

pub returns : goal.returns
returns c = record {
  rebased = λ C K M S w v g both. one_rebase C S w v g K M both;
  bridged = λ C S T U w v g room both. one_bridge C S w v g room T U both;
}
