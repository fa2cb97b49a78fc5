use Rattle.std.proofs.Common.{◌∙◌}
use Rattle.clap.specs.Words.{found_of}
use Rattle.st_words.proofs.Found.{first_found}
use Rattle.st_words.proofs.request.value_of.Goals as goal

pub returns : goal.returns
returns c = c.get_str.ensures ∙ first_found (found_of c.args.matches.now) c.args.name.now
