use Rattle.std.proofs.Common.{◌≡◌, true, false, map, string_bytes, ◌∙◌, ap, sym}
use Rattle.st_words.specs.inside.Forms.{is_form, request_read}
use Rattle.st_words.proofs.Forms.{form_read, no_form}
use Rattle.st_words.proofs.request.request_of.Goals as goal

pub returns-then-not-is_form : goal.returns-then-not-is_form
returns-then-not-is_form c =
    let ws = map string_bytes c.args.words.now in
    let none : is_form ws ≡ false = cc in
    sym (no_form ws none)

pub parse-requires : goal.parse-requires
parse-requires c =
    let ws = map string_bytes c.args.words.now in
    let form : is_form ws ≡ true = cc in
    (form_read ws form).0

pub returns : goal.returns
returns c =
    let ws = map string_bytes c.args.words.now in
    let form : is_form ws ≡ true = cc in
    c.request_read.ensures ∙ ap request_read c.in_ok-matches.ensures ∙ (form_read ws form).1
