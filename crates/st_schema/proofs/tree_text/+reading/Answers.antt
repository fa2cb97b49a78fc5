use Rattle.std.proofs.Common.{◌≡◌, true, length, nat_le, string_bytes, arith}
use Rattle.std.proofs.lemmas.Bool.Decides.{nat_tests}
use Rattle.serde_json.specs.View.{members_view}
use Rattle.st_schema.specs.TreeText.{fields_in}
use Rattle.st_schema.proofs.Keyed.{keyed_next}
use Rattle.st_schema.proofs.tree_text.+reading.Goals as goal

pub read_fields-loop-key-preserved : goal.read_fields-loop-key-preserved
read_fields-loop-key-preserved t c =
    let short : nat_le (length (string_bytes c.in-Some.key.now)) 64 ≡ true = grind (arith, nat_tests, c.len.ensures, c.if-len-gt-MOST_KEY_BYTES.false) in record {
      can = tt;
      finite = tt;
      read = keyed_next c.loop-key.fields c.push.new.self c.loop-key.key-iterator c.next.new.self c.in-Some.key.now c.as_str.result.now c.in-Some.value.now c.in_ok-item.item c.in_ok-single.field-0 c.args.levels
          (fields_in (members_view c.args.members.now.entries) c.args.levels)
          c.in-Some.ensures.steps short c.in_ok-item.ensures.ok c.as_str.ensures.value c.in_ok-single.ensures c.in_ok-push.ensures.ok c.loop-key.invariant.read;
    }
