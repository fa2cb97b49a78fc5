use Rattle.std.proofs.Common.{ℕ, List, ◌++◌, codes, ap, ◌∙◌}
use Rattle.std.proofs.lemmas.Result.{on_ok_weaker}
use Rattle.serde_json.specs.Data.{string}
use Rattle.serde_json.specs.Written.{compact_text}
use Rattle.st_idcodec.specs.TableText.{uuid_text}
use Rattle.st_msg_writer.proofs.Pieces.{join_is}
use Rattle.st_msg_writer.proofs.push.push_join.Goals as goal

pub returns : goal.returns
returns c =
    let front = c.in_ok-push_str.ensures.ok ∙ ap (λ (x : List ℕ). x ++ codes ",\"uuid\":") c.in_ok-push_plain.ensures in
    let told = c.in_ok-push_uuid.ensures ∙ ap (λ (x : List ℕ). x ++ compact_text (string (uuid_text c.args.uuid))) front in
    on_ok_weaker c.push_str-2.result
    (λ last. last ∙ ap (λ (x : List ℕ). x ++ codes "}") told ∙ join_is c.args.out.now c.args.head.n c.args.head.min c.args.head.session c.args.uuid) c.push_str-2.ensures.ok
