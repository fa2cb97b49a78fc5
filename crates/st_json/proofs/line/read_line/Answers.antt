use Rattle.std.proofs.Common.{◌≡◌, true, ◌==◌, length, eq-eqb}
use Rattle.std.specs.Str.Lossy.{utf8_valid_len}
use Rattle.std.proofs.lemmas.Str.{utf8_valid_len-IsUtf8}
use Rattle.st_json.proofs.line.read_line.Goals as goal

pub returns-in-Ok-from_str-clause-ok : goal.returns-in-Ok-from_str-clause-ok
returns-in-Ok-from_str-clause-ok c =
    let is_text = c.in-Ok.ensures.cases in
    let whole : utf8_valid_len c.args.bytes.now == length c.args.bytes.now ≡ true = eq-eqb _ _ (utf8_valid_len-IsUtf8 c.args.bytes.now is_text.1) in
    rw (whole, ← is_text.0) c.in-Ok-from_str.ensures.ok
