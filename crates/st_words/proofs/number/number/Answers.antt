use Rattle.std.proofs.Common.{◌≡◌, true, ◌∙◌}
use Rattle.st_words.specs.Table.{is_number}
use Rattle.st_words.proofs.Numerals.{number_read}
use Rattle.st_words.proofs.number.number.Goals as goal

pub returns-then-is_number : goal.returns-then-is_number
returns-then-is_number c =
    let plain : is_number c.args.text.now ≡ true = cc in
    c.ok.ensures.value ∙ number_read c.args.text.now c.parse.result plain c.parse.ensures.value.0
