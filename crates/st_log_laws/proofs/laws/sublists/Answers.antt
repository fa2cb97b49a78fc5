use Rattle.st_log_laws.proofs.Shorter.{sublist_itself, sublist_none, sublist_on, sublist_joined, sublist_filtered, room_shorter, new_shorter, new_after}
use Rattle.st_log_laws.proofs.laws.sublists.Goals as goal

pub returns : goal.returns
returns c = record {
  itself = sublist_itself;
  none = sublist_none;
  on = λ As Bs Cs g h. sublist_on g h;
  joined = λ As Bs Cs Ds g h. sublist_joined g h;
  filtered = sublist_filtered;
  room = room_shorter;
  new = new_shorter;
  new_rest = new_after;
}
