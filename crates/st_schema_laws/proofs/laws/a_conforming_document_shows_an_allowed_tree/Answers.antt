use Rattle.st_schema_laws.proofs.ShownTree.{shown_conforms}
use Rattle.st_schema_laws.proofs.laws.a_conforming_document_shows_an_allowed_tree.Goals as goal

pub returns : goal.returns
returns c = λ s home D is_array d schema sound here tells shows. shown_conforms s schema home D sound here is_array tells d shows
