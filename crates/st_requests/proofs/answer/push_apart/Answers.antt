use Rattle.std.proofs.Common.{◌≡◌, ◌∙◌, ◌++◌, ap, codes, ℕ, List}
use Rattle.std.proofs.lemmas.Result.{on_ok_weaker}
use Rattle.serde_json.specs.Data.{string}
use Rattle.serde_json.specs.Written.{compact_text}
use Rattle.st_mark_reader.specs.Naming.{plain_naming}
use Rattle.st_requests.proofs.Lines.{apart_is}
use Rattle.st_requests.proofs.answer.push_apart.Goals as goal

pub returns : goal.returns
returns c =
    let key = compact_text (string c.args.field.now.key.0) in
    let quoted : c.push_quoted.new.out ≡ c.push_str-2.new.self ++ key = c.in_ok-push_quoted.ensures ∙ ap (λ (k : List ℕ). c.push_str-2.new.self ++ compact_text (string k)) c.as_str.ensures in
    let comma : c.push_str-2.new.self ≡ c.push_atom.new.out ++ codes "," = c.in_ok-push_str-2.ensures.ok in
    let node : c.push_atom.new.out ≡ c.push_str.new.self ++ compact_text (plain_naming.atom c.args.field.now.node.0) = c.in_ok-push_atom.ensures in
    let front : c.push_str.new.self ≡ c.args.out.now ++ codes "{\"field\":[" = c.in_ok-push_str.ensures.ok in
    on_ok_weaker c.push_str-3.result (λ h. h
    ∙ (λ i. quoted i ++ codes "],\"no\":\"Apart\"}\n")
    ∙ (λ i. (comma i ++ key) ++ codes "],\"no\":\"Apart\"}\n")
    ∙ (λ i. ((node i ++ codes ",") ++ key) ++ codes "],\"no\":\"Apart\"}\n")
    ∙ (λ i. (((front i ++ compact_text (plain_naming.atom c.args.field.now.node.0)) ++ codes ",") ++ key) ++ codes "],\"no\":\"Apart\"}\n")
    ∙ apart_is c.args.out.now c.args.field.now) c.push_str-3.ensures.ok
