-- The texts of messages, of pieces one after another.
use Rattle.std.proofs.Common.{◌≡◌, refl, ◌∙◌, ℕ, Bool, true, false, List, ◌++◌, append_assoc, codes, decimal}
use Rattle.std.specs.Prelude.{if◌then◌else◌}
use Rattle.json.specs.Print.{escape_byte}
use Rattle.serde_json.specs.Data.{Data, string, object, member, no_members}
use Rattle.serde_json.specs.Written.{compact_text}
use Rattle.st_clusters.specs.declared.ids.IdRange.{IdRange}
use Rattle.st_idcodec.specs.TableText.{uuid_text}
use Rattle.st_msg.specs.Messages.{Join, Leave, Ack, Commit, is_upgrade, number_data, said_data}
use Rattle.st_msg_writer.specs.Texts.{change_text, commit_text, kind_text, plain_text, tail_text}

joined : (o a x k y l q m r u z : List ℕ) → (((o ++ (a ++ (((x ++ k) ++ (y ++ l)) ++ (q ++ m)))) ++ r) ++ u) ++ z ≡ o ++ (a ++ (x ++ (k ++ (y ++ (l ++ (q ++ (m ++ (r ++ (u ++ z)))))))))
joined o a x k y l q m r u z = simp append_assoc

join_with : (out t : List ℕ) (n min s : ℕ) → (((out ++ plain_text (codes "{\"kind\":\"join\"") n min s) ++ codes ",\"uuid\":") ++ compact_text (string t)) ++ codes "}"
    ≡ out ++ compact_text (object (member (codes "kind") (string (codes "join")) (member (codes "min") (number_data min) (member (codes "n") (number_data n) (member (codes "s") (number_data s) (member (codes "uuid") (string t) no_members))))))
unfolding escape_byte
join_with out t n min s = joined out (codes "{\"kind\":\"join\"") (codes ",\"min\":") (decimal min) (codes ",\"n\":") (decimal n) (codes ",\"s\":") (decimal s) (codes ",\"uuid\":") (compact_text (string t)) (codes "}")

pub join_is : (out : List ℕ) (n min s u : ℕ) → (((out ++ plain_text (codes "{\"kind\":\"join\"") n min s) ++ codes ",\"uuid\":") ++ compact_text (string (uuid_text u))) ++ codes "}"
    ≡ out ++ compact_text (said_data n min s (Join u))
join_is out n min s u = join_with out (uuid_text u) n min s

left : (o a x k y l q m z : List ℕ) → (o ++ (a ++ (((x ++ k) ++ (y ++ l)) ++ (q ++ m)))) ++ z ≡ o ++ (a ++ (x ++ (k ++ (y ++ (l ++ (q ++ (m ++ z)))))))
left o a x k y l q m z = simp append_assoc

pub leave_is : (out : List ℕ) (n min s : ℕ) → (out ++ plain_text (codes "{\"kind\":\"leave\"") n min s) ++ codes "}" ≡ out ++ compact_text (said_data n min s Leave)
unfolding escape_byte
leave_is out n min s = left out (codes "{\"kind\":\"leave\"") (codes ",\"min\":") (decimal min) (codes ",\"n\":") (decimal n) (codes ",\"s\":") (decimal s) (codes "}")

acked : (o a x k y l r c q m z : List ℕ) → (o ++ a) ++ (((x ++ k) ++ (y ++ l)) ++ ((r ++ c) ++ ((q ++ m) ++ z))) ≡ o ++ (a ++ (x ++ (k ++ (y ++ (l ++ (r ++ (c ++ (q ++ (m ++ z)))))))))
acked o a x k y l r c q m z = simp append_assoc

pub ack_is : (out : List ℕ) (n min s r : ℕ) → (out ++ codes "{\"kind\":\"ack\"") ++ tail_text n min r s ≡ out ++ compact_text (said_data n min s (Ack r))
unfolding escape_byte
ack_is out n min s r = acked out (codes "{\"kind\":\"ack\"") (codes ",\"min\":") (decimal min) (codes ",\"n\":") (decimal n) (codes ",\"ref\":") (decimal r) (codes ",\"s\":") (decimal s) (codes "}")

committed : (a d i f j g b p x k y l r c q m z : List ℕ) → (a ++ (d ++ ((i ++ f) ++ ((j ++ g) ++ b)))) ++ (p ++ (((x ++ k) ++ (y ++ l)) ++ ((r ++ c) ++ ((q ++ m) ++ z)))) ≡ a ++ (d ++ (i ++ ((f ++ (j ++ (g ++ b))) ++ (p ++ (x ++ (k ++ (y ++ (l ++ (r ++ (c ++ (q ++ (m ++ z))))))))))))
committed a d i f j g b p x k y l r c q m z = simp append_assoc

-- the kind in an object, behind a comma
abbrev kind_member : Bool → List ℕ
kind_member upgrade = codes ",\"kind\":" ++ compact_text (string (if upgrade then codes "schema" else codes "op"))

kind_is : (upgrade : Bool) → kind_text upgrade ≡ kind_member upgrade
unfolding escape_byte
kind_is true = refl
kind_is false = refl

commit_pieces : (n min s r : ℕ) (ids : IdRange) (d : Data)
    → change_text (compact_text d) ids ++ (kind_member (is_upgrade d) ++ tail_text n min r s) ≡ compact_text (said_data n min s (Commit r ids d))
unfolding escape_byte
commit_pieces n min s r ids d =
    committed (codes "{\"change\":") (compact_text d) (codes ",\"ids\":[") (decimal ids.first) (codes ",") (decimal ids.count) (codes "]") (kind_member (is_upgrade d)) (codes ",\"min\":") (decimal min) (codes ",\"n\":") (decimal n) (codes ",\"ref\":") (decimal r) (codes ",\"s\":") (decimal s) (codes "}")

pub commit_is : (n min s r : ℕ) (ids : IdRange) (d : Data) (upgrade : Bool) (text : List ℕ) → upgrade ≡ is_upgrade d → text ≡ compact_text d → commit_text n min s r ids upgrade text ≡ compact_text (said_data n min s (Commit r ids d))
commit_is n min s r ids d upgrade text kind same =
    (λ i. change_text (same i) ids ++ (kind_text (kind i) ++ tail_text n min r s))
    ∙ (λ i. change_text (compact_text d) ids ++ (kind_is (is_upgrade d) i ++ tail_text n min r s))
    ∙ commit_pieces n min s r ids d
