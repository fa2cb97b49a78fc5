use Rattle.st_valid.proofs.AuthorsLists.{author_among, author_grows, author_later}
use Rattle.st_valid.proofs.laws.authors_lists_grow.Goals as goal

pub returns : goal.returns
returns c = record {
  among = author_among;
  later = author_later;
  more = author_grows;
}
